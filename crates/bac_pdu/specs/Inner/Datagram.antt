-- The headers that a writer puts before an APDU (ANSI/ASHRAE 135, clause 6, and Annex J.2).
use Rattle.std.specs.Prelude.{◌++◌, ◌+◌, ◌∷◌, Bool, length, List, Option, ℕ}
use Rattle.{byteorder.specs.Endian.big_bytes, bac_pdu.specs.{Header.plain_header, Peer.NetworkAddress}}

-- The octets before an APDU of this many octets: the link header and the network header.
unfoldable pub front_octets : Option NetworkAddress → Bool → ℕ → List ℕ
front_octets to expect size =
    129 ∷ 10 ∷ (big_bytes 2 (4 + (length (plain_header to expect) + size)) ++ plain_header to expect)
