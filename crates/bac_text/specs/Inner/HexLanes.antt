-- Octets from hexadecimal digits, as they are computed in lanes.
use Rattle.std.specs.Prelude.{ℕ, ◌+◌, ◌*◌, ◌%◌, nat_lt, List, [], ◌∷◌, if◌then◌else◌}

-- The number of a hexadecimal digit of either case: letters come after 64, and A and a have 1 in their low bits.
abbrev pub number_by_lane : ℕ → ℕ
number_by_lane digit = digit % 16 + (if nat_lt 63 digit then 9 else 0)

-- The octets of digits, two by two.
unfoldable pub octets_by_lanes : List ℕ → List ℕ
octets_by_lanes [] = []
octets_by_lanes (digit ∷ []) = []
octets_by_lanes (high ∷ low ∷ others) = ((number_by_lane high * 16 + number_by_lane low) % 256) ∷ octets_by_lanes others
