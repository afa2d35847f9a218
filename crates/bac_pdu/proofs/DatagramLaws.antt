-- Peers, headers, datagrams and APDUs: reading one finds its contents, and written ones are read back.
use Rattle.std.proofs.Common.{[], ap, append_assoc, arith, Bool, cond, drop, drop_at, eqb, false, IfSome, inl, inr}
use Rattle.std.proofs.Common.{is_some, length, length-append, length-drop, length-take-le, List, None, OnOk, Option}
use Rattle.std.proofs.Common.{option_map, refl, replicate, Result, slice_index_or, Some, sym, take, take-append-drop}
use Rattle.std.proofs.Common.{take_at, true, ℕ, ◌%◌, ◌&&◌, ◌++◌, ◌+◌, ◌-◌, ◌/◌, ◌<◌, ◌||◌, ◌↔◌, ◌∙◌, ◌∷◌, ◌≡◌, ◌≤◌}
use Rattle.std.proofs.lemmas.{Bool.{and_parts, eq-eqb, eqb-true, ltb-false}, Grind.common_steps, List.nil_from_length}
use Rattle.std.proofs.lemmas.Option.{cond_some, none-some, same_Some, some_pair_parts}
use Rattle.std.specs.{Cmp.Lexicographic.bytes_decides, Option.option_eq}
use Rattle.byteorder.specs.{Endian.big_number, Numbers.big_number-reads_back}
use Rattle.bac_wire.proofs.TagLaws.{bind_some, chosen, found_at, only_if, Took, took, took_as, unless}
use Rattle.{bac_wire.specs.{◌>>=◌, Front.IsReader}, bac_pdu.specs.{abort, address_at, address_octets, announced_at}}
use Rattle.bac_pdu.specs.{announced_size, apdu_of, behind_control, behind_hops, bit, broadcast, carried, Carries}
use Rattle.bac_pdu.specs.{complex_ack, complex_ack_of, confirmed, confirmed_of, counted_at, Delivery, error, everyone}
use Rattle.bac_pdu.specs.{Flags}
use Rattle.bac_pdu.specs.{forwarded, forwarded_at, front_count, header_at, is_answerable, is_for_all, is_routable}
use Rattle.bac_pdu.specs.{IsLaidOut, IsRoutable, IsWritable, laid_out, link_at, Message, network_address}
use Rattle.bac_pdu.specs.{NetworkAddress, NetworkHeader, numbered_of, origin_at, part_at, part_flags, part_octets}
use Rattle.bac_pdu.specs.{parts_at, plain_header, reject, segment_ack, service_at, simple_ack, SpellsAddress}
use Rattle.bac_pdu.specs.{SpellsAnnounced, SpellsHeader, SpellsOrigin, Station, station, Takes, unconfirmed, unicast}
use Rattle.bac_pdu.specs.{wrapped, contracts.peer.PeerPartialEq.TheImpl.eq-value as peer_eq}
use Rattle.bac_pdu.specs.contracts.route.RoutePartialEq.TheImpl.{eq-value as route_eq}
use Rattle.bac_pdu.specs.{declared.{apdu.Part.Part, peer.Peer.Peer, route.Route.Route}, Inner.front_octets}

-- a route keeps its address in eight octets
room : (r : Route) → length r.octets ≡ 8
room = grind (arith, common_steps, length-drop)

-- the octets of a route are the address, and zeros
same_octets : (a b : Route) → network_address a ≡ network_address b → (a.count ≡ b.count) × (a.octets ≡ b.octets)
same_octets a b e =
    let address : take a.count a.octets ≡ take b.count b.octets = ap (λ (n : NetworkAddress). n.address) e in
    let count : a.count ≡ b.count = grind (arith, ap length address, room, length-take-le) in
    let behind : drop a.count a.octets ≡ drop b.count b.octets = a.unused ∙ ap (λ (n : ℕ). replicate (8 - n) 0) count
    ∙ sym b.unused in
    (count, cc (address, behind, take-append-drop a.count a.octets, take-append-drop b.count b.octets))

-- routes are equal exactly if they lead to the same station
pub route_decides : (a b : Route) → (route_eq.it a b ≡ true) ↔ (network_address a ≡ network_address b)
route_decides a b = (
  (λ e.
      let (network, others) = and_parts _ _ e in
      let (count, octets) = and_parts _ _ others in
      let same = (bytes_decides a.octets b.octets).0 octets in
      rw (eqb-true a.network b.network network, eqb-true a.count b.count count, same) refl),
  (λ e.
      let (count, octets) = same_octets a b e in
      rw (eq-eqb _ b.network (ap (λ (n : NetworkAddress). n.network) e), eq-eqb a.count b.count count)
      ((bytes_decides a.octets b.octets).1 octets)),
)

routes_decide : (a b : Option Route)
    → (option_eq route_eq.it a b ≡ true) ↔ (option_map network_address a ≡ option_map network_address b)
routes_decide = grind (arith, none-some, route_decides, same_Some)

-- peers are equal exactly if they are the same station
pub peer_decides : (p q : Peer) → (peer_eq.it p q ≡ true) ↔ (station p ≡ station q)
peer_decides = grind (arith, routes_decide, eqb-true, eq-eqb)

-- ---- the address of a station

count_takes : (count : ℕ) (octets address rest : List ℕ) → counted_at (count ∷ octets) ≡ found_at address rest
    → (octets ≡ address ++ rest) × (count ≡ length address)
count_takes = grind (arith, unless, ltb-false, take-append-drop, length-take-le)

count_again : (address rest : List ℕ) → counted_at (length address ∷ (address ++ rest)) ≡ found_at address rest
count_again = grind (arith, length-append, take_at, drop_at)

address_takes : (octets : List ℕ) (station : NetworkAddress) (rest : List ℕ) → address_at octets ≡ found_at station rest
    → Took SpellsAddress octets station rest
unfolding address_at
address_takes (high ∷ low ∷ count ∷ octets) station rest e =
    let ((address, after), counted, made) = bind_some _ _ (station, rest) e in
    let (behind, length_is) = count_takes count octets _ _ counted in
    let front : List ℕ = high ∷ low ∷ length address ∷ address in
    let line : high ∷ low ∷ count ∷ octets ≡ front ++ after = grind arith in
    rw line (took SpellsAddress _ _ _ _ _ made (record { high = high; low = low; whole = refl; number = refl }))
address_takes _ station rest e = absurd (none-some (station, rest) e)

address_again : (front : List ℕ) (station : NetworkAddress) (rest : List ℕ) → SpellsAddress front station
    → address_at (front ++ rest) ≡ found_at station rest
unfolding address_at
address_again = grind (arith, count_again)

-- ---- the network header

announced_takes : (b : Bool) (octets : List ℕ) (station : Option NetworkAddress) (rest : List ℕ)
    → announced_at b octets ≡ found_at station rest → Took (SpellsAnnounced b) octets station rest
announced_takes false _ _ _ e = grind (arith, took, false)
announced_takes true _ _ _ e =
    let (_, read, made) = bind_some _ _ _ e in
    took_as SpellsAddress (SpellsAnnounced true) _ _ _ _ _ _ (address_takes _ _ _ read) made (λ front s. s)

announced_again : (b : Bool) (front : List ℕ) (station : Option NetworkAddress) (rest : List ℕ)
    → SpellsAnnounced b front station → announced_at b (front ++ rest) ≡ found_at station rest
announced_again = grind (arith, address_again)

-- one octet if there is a hop count, and none otherwise
abbrev SpellsHops : Bool → List ℕ → Type 0
SpellsHops b octets = length octets ≡ cond b 1 0

hops_take : (b : Bool) (octets rest : List ℕ) → behind_hops b octets ≡ Some rest → (front : List ℕ) × SpellsHops b front
    × (octets ≡ front ++ rest)
hops_take false _ _ e = ([], refl, cc)
hops_take true [] _ e = absurd (none-some _ e)
hops_take true (count ∷ octets) rest e = (count ∷ [], refl, grind arith)

hops_again : (b : Bool) (front rest : List ℕ) → SpellsHops b front → behind_hops b (front ++ rest) ≡ Some rest
hops_again false _ _ s = rw (nil_from_length _ s) refl
hops_again true [] _ s = absurd (omega arith)
hops_again true (count ∷ []) _ s = refl
hops_again true (a ∷ b ∷ front) _ s = absurd (omega arith)

-- three parts and a rest, grouped in two ways
behind_all : (a b c rest : List ℕ) → (a ++ (b ++ c)) ++ rest ≡ a ++ (b ++ (c ++ rest))
behind_all a b c _ = simp append_assoc

control_takes : (control : ℕ) (octets : List ℕ) (header : NetworkHeader) (rest : List ℕ) → bit 7 control ≡ false
    → behind_control control octets ≡ found_at header rest → Took SpellsHeader (1 ∷ control ∷ octets) header rest
control_takes control octets header rest carries e =
    let ((to, _), to_read, behind_to) = bind_some _ _ _ e in
    let ((from, _), from_read, behind_from) = bind_some _ _ _ behind_to in
    let (apdu, hops_read, made) = bind_some _ _ _ behind_from in
    let (destination, destined, _) = announced_takes _ _ _ _ to_read in
    let (source, sent, _) = announced_takes _ _ _ _ from_read in
    let (hops, hopped, _) = hops_take _ _ _ hops_read in
    let front : List ℕ = 1 ∷ control ∷ (destination ++ (source ++ hops)) in
    let line : 1 ∷ control ∷ octets ≡ front ++ apdu = grind (arith, behind_all) in
    rw line (took SpellsHeader front (record { destination = to; source = from }) header apdu rest made (record {
      control = control;
      destination = destination;
      source = source;
      hops = hops;
      whole = refl;
      carries = carries;
      destined = destined;
      sent = sent;
      hopped = hopped;
    }))

header_takes : (octets : List ℕ) (header : NetworkHeader) (rest : List ℕ) → header_at octets ≡ found_at header rest
    → Took SpellsHeader octets header rest
unfolding header_at
header_takes = grind (arith, only_if, unless, control_takes, eqb-true)

pub header_reader : IsReader SpellsHeader header_at
unfolding header_at
header_reader = grind (arith, header_takes, behind_all, announced_again, hops_again)

-- ---- the header that is written

address_spells : (station : NetworkAddress) → station.network < 65536 → SpellsAddress (address_octets station) station
address_spells = grind arith

-- the written octets are a header that says whether a reply is expected
pub record IsWrittenHeader (to : Option NetworkAddress) (expect : Bool) : Type 0 where
  pub spelled : SpellsHeader (plain_header to expect) (record { destination = to; source = None })
  pub expected : bit 2 spelled.control ≡ expect

-- a header with no source
abbrev without_source : (to : Option NetworkAddress) (control : ℕ) (destination hops : List ℕ) → bit 7 control ≡ false
    → bit 3 control ≡ false → SpellsAnnounced (bit 5 control) destination to → SpellsHops (bit 5 control) hops
    → SpellsHeader (1 ∷ control ∷ (destination ++ hops)) (record { destination = to; source = None })
without_source to control destination hops seven three destined hopped =
    record {
      control = control;
      destination = destination;
      source = [];
      hops = hops;
      whole = refl;
      carries = seven;
      destined = destined;
      sent = rw three refl;
      hopped = hopped;
    }

-- the written octets are a header with this destination and no source
pub header_written : (to : Option NetworkAddress) (expect : Bool) → IfSome to IsRoutable → IsWrittenHeader to expect
header_written None true _ = record { spelled = without_source _ 4 [] [] refl refl refl refl; expected = refl }
header_written None false _ = record { spelled = without_source _ 0 [] [] refl refl refl refl; expected = refl }
header_written (Some station) true routable =
    record {
      spelled = without_source _ 36 _ _ refl refl (address_spells _ (omega arith)) refl;
      expected = refl;
    }
header_written (Some station) false routable =
    record {
      spelled = without_source _ 32 _ _ refl refl (address_spells _ (omega arith)) refl;
      expected = refl;
    }

-- the header for all stations of a network is one too
pub everyone_written : (network : ℕ) → network < 65536 → IsWrittenHeader (Some (everyone network)) false
everyone_written network small =
    record {
      spelled = without_source _ 32 _ _ refl refl (address_spells _ small) refl;
      expected = refl;
    }

-- this header is read back, with the octets after it
pub everyone_back : (network : ℕ) (apdu : List ℕ) → network < 65536
    → header_at (plain_header (Some (everyone network)) false ++ apdu)
    ≡ found_at (record { destination = Some (everyone network); source = None }) apdu
everyone_back network apdu small = header_reader.again _ _ apdu (everyone_written network small).spelled

-- ---- which headers are ignored

routable : (to : NetworkAddress) → (is_routable to ≡ true) ↔ IsRoutable to
routable = grind arith

destined : (to : Option NetworkAddress) → (is_for_all to ≡ true) ↔ IfSome to (λ t. t.network ≡ 65535)
destined = grind arith

answerable : (source : Option NetworkAddress) → (is_answerable source ≡ true) ↔ IfSome source IsRoutable
answerable = grind arith

-- ---- the link header

abbrev Origin : Type 0
Origin = Station × Bool

abbrev Sent : Station → ℕ → List ℕ → Origin → Type 0
Sent from function front (sender, to_all) = SpellsOrigin from function front sender to_all

forwarded_takes : (from : Station) (octets : List ℕ) (x : Origin) (rest : List ℕ)
    → forwarded_at octets ≡ found_at x rest → Took (Sent from 4) octets x rest
forwarded_takes _ (a ∷ b ∷ c ∷ d ∷ f ∷ g ∷ octets) x _ e =
    let origin : Station =
    record { ip = big_number 4 (a ∷ b ∷ c ∷ d ∷ []); port = big_number 2 (f ∷ g ∷ []); route = None } in
    took (Sent _ 4) _ (origin, true) x _ _ e (forwarded a b c d f g)
forwarded_takes _ _ x rest e = absurd (none-some (x, rest) e)

origin_takes : (function : ℕ) (from : Station) (octets : List ℕ) (x : Origin) (rest : List ℕ)
    → origin_at function from octets ≡ found_at x rest → Took (Sent from function) octets x rest
origin_takes function from octets x rest e =
    elim (chosen (eqb function 10) _ _ _ e) [
      | inl (is, one) ↦ rw (eqb-true _ 10 is) (took (Sent from 10) [] (from, false) x octets rest one unicast)
      | inr (_, more) ↦ elim (chosen (eqb function 11) _ _ _ more) [
        | inl (is, all) ↦ rw (eqb-true function 11 is) (took (Sent from 11) [] (from, true) x octets rest all broadcast)
        | inr (_, most) ↦ let (is, four) = only_if _ most in
            rw (eqb-true function 4 is) (forwarded_takes from octets x rest four)
      ]
    ]

origin_again : (from : Station) (function : ℕ) (front : List ℕ) (sender : Station) (to_all : Bool) (rest : List ℕ)
    → SpellsOrigin from function front sender to_all
    → origin_at function from (front ++ rest) ≡ found_at (sender, to_all) rest
origin_again = grind arith

-- ---- the datagram

abbrev delivered_as : Station → Bool → NetworkHeader → List ℕ → Delivery
delivered_as sender to_all header apdu =
    record {
      peer = record sender { route = header.source };
      broadcast = to_all || is_some header.destination;
      apdu = apdu;
    }

-- the contents, if the header is accepted
abbrev heeded_as : Station → Bool → NetworkHeader → List ℕ → Option Delivery
heeded_as sender to_all header apdu =
    cond (is_for_all header.destination && is_answerable header.source) (Some (delivered_as sender to_all header apdu))
    None

-- a header that is not ignored
record IsHeeded (header : NetworkHeader) : Type 0 where
  pub destined : IfSome header.destination (λ to. to.network ≡ 65535)
  pub answerable : IfSome header.source IsRoutable

heeded_takes : (sender : Station) (to_all : Bool) (header : NetworkHeader) (apdu : List ℕ) (d : Delivery)
    → heeded_as sender to_all header apdu ≡ Some d → IsHeeded header × (delivered_as sender to_all header apdu ≡ d)
heeded_takes = grind (arith, cond_some, and_parts, destined)

carried_takes : (from : Station) (datagram : List ℕ) (d : Delivery) → carried from datagram ≡ Some d
    → Carries from datagram d
unfolding carried link_at
carried_takes _ (kind ∷ function ∷ high ∷ low ∷ octets) d e =
    let (((sender, to_all), _), link_read, more) = bind_some _ _ _ e in
    let ((network, apdu), header_read, heeded) = bind_some _ _ _ more in
    let (bacnet_ip, counted_read) = only_if _ link_read in
    let (counted, origin_read) = only_if _ counted_read in
    let (origin, sent, behind) = origin_takes function _ _ _ _ origin_read in
    let header = header_reader.takes _ _ _ header_read in
    let (heard, same) = heeded_takes sender _ network _ d heeded in
    let line : octets ≡ origin ++ (header.front ++ apdu) = behind ∙ ap (λ (w : List ℕ). origin ++ w) header.whole in
    rw (← same) (record {
      function = function;
      high = high;
      low = low;
      origin = origin;
      header = header.front;
      sender = sender;
      to_all = to_all;
      network = network;
      whole = ap (λ (k : ℕ). k ∷ function ∷ high ∷ low ∷ octets) (eqb-true _ 129 bacnet_ip)
          ∙ ap (λ (w : List ℕ). 129 ∷ function ∷ high ∷ low ∷ w) line;
      counted = eqb-true _ _ counted ∙ omega arith;
      sent = sent;
      headed = header.spelled;
      destined = heard.destined;
      answerable = heard.answerable;
      peer = refl;
      broadcast = refl;
    })
carried_takes _ _ d e = absurd (none-some d e)

carried_again_at : (from : Station) (function high low : ℕ) (origin header apdu : List ℕ) (sender : Station)
    (to_all : Bool) (network : NetworkHeader)
    → big_number 2 (high ∷ low ∷ []) ≡ 4 + length (origin ++ (header ++ apdu))
    → SpellsOrigin from function origin sender to_all
    → SpellsHeader header network → IsHeeded network
    → carried from (129 ∷ function ∷ high ∷ low ∷ (origin ++ (header ++ apdu)))
    ≡ Some (delivered_as sender to_all network apdu)
unfolding carried link_at
carried_again_at _ _ _ _ _ _ _ _ _ _ counted sent headed heeded =
    rw (
      eq-eqb _ _ counted,
      origin_again _ _ _ _ _ _ sent,
      header_reader.again _ _ _ headed,
    ) (grind (arith, destined, answerable))

carried_again : (from : Station) (datagram : List ℕ) (d : Delivery) → Carries from datagram d
    → carried from datagram ≡ Some d
carried_again = grind (arith, destined, carried_again_at)

pub carried_is : (from : Station) (datagram : List ℕ) (d : Delivery)
    → (carried from datagram ≡ Some d) ↔ Carries from datagram d
carried_is _ _ d = (carried_takes _ _ d, carried_again _ _ d)

pub carried_no_longer : (from peer : Station) (to_all : Bool) (datagram apdu : List ℕ)
    → Some (record { peer = peer; broadcast = to_all; apdu = apdu }) ≡ carried from datagram
    → length apdu ≤ length datagram
carried_no_longer from peer to_all datagram apdu e =
    let carries = carried_takes from datagram (record { peer = peer; broadcast = to_all; apdu = apdu }) (sym e) in
    grind (arith, length-append)

-- ---- what is written

-- the exact count of the octets before an APDU
pub length_front : (to : Option NetworkAddress) (expect : Bool) (size : ℕ)
    → length (front_octets to expect size) ≡ front_count to
unfolding front_octets
length_front = grind (arith, length-append)

module _ (to : Option NetworkAddress) (expect : Bool) (apdu : List ℕ) where
  -- the headers and the APDU are the datagram
  pub front_before : front_octets to expect (length apdu) ++ apdu ≡ wrapped to expect apdu
  unfolding front_octets wrapped
  front_before = grind (arith, length-append)

  pub length_wrapped : length (wrapped to expect apdu) ≡ length (front_octets to expect (length apdu)) + length apdu
  length_wrapped = sym (ap length front_before) ∙ length-append _ _

  -- the exact count of the octets of the datagram
  pub count_wrapped : length (wrapped to expect apdu) ≡ front_count to + length apdu
  count_wrapped = grind (arith, length_wrapped, length_front)

  -- the written datagram carries the APDU to the station
  pub wrapped_takes : IfSome to IsRoutable → length (wrapped to expect apdu) < 65536
      → Takes to expect apdu (wrapped to expect apdu)
  unfolding wrapped
  wrapped_takes routable fits =
      let n : ℕ = 4 + length (plain_header to expect ++ apdu) in
      let counted = big_number-reads_back 2 n [] (omega arith) in
      let header = header_written _ _ routable in
      record {
        high = n / 256 % 256;
        low = n % 256;
        header = plain_header _ _;
        whole = refl;
        counted = counted ∙ omega arith;
        headed = header.spelled;
        expected = header.expected;
      }

  -- the most octets that are written around the APDU
  pub wrapped_short : IfSome to IsRoutable → length (wrapped to expect apdu) ≤ 17 + length apdu
  unfolding wrapped
  wrapped_short = grind (arith, length-append)

-- the six octets before an APDU for a station of this network
pub local_front : (expect : Bool) (size : ℕ) (header : List ℕ) → size ≤ 1497 → header ≡ plain_header None expect
    → 129 ∷ 10 ∷ (6 + size) / 256 ∷ (6 + size) % 256 ∷ slice_index_or header 0 0 ∷ slice_index_or header 1 0 ∷ []
    ≡ front_octets None expect size
unfolding front_octets
local_front = grind arith

-- the ten octets before an APDU for all stations of a network
pub across_front : (network size : ℕ) (header : List ℕ) → network < 65536 → size ≤ 1487
    → header ≡ plain_header (Some (everyone network)) false
    → 129 ∷ 10 ∷ (10 + size) / 256 ∷ (10 + size) % 256 ∷ slice_index_or header 0 0 ∷ slice_index_or header 1 0
    ∷ slice_index_or header 2 0 ∷ slice_index_or header 3 0 ∷ slice_index_or header 4 0 ∷ slice_index_or header 5 0 ∷ []
    ≡ front_octets (Some (everyone network)) false size
unfolding front_octets
across_front = grind arith

-- the datagram for all stations of a network goes to them
pub everyone_takes : (network : ℕ) (apdu : List ℕ) → network < 65536
    → length (wrapped (Some (everyone network)) false apdu) < 65536
    → Takes (Some (everyone network)) false apdu (wrapped (Some (everyone network)) false apdu)
unfolding wrapped
everyone_takes network apdu small fits =
    let n : ℕ = 4 + length (plain_header (Some (everyone network)) false ++ apdu) in
    let counted = big_number-reads_back 2 n [] (omega arith) in
    let header = everyone_written network small in
    record {
      high = n / 256 % 256;
      low = n % 256;
      header = plain_header (Some (everyone network)) false;
      whole = refl;
      counted = counted ∙ omega arith;
      headed = header.spelled;
      expected = header.expected;
    }

-- an APDU after these headers is the datagram for all stations of the network
pub across_made : {T E : Type 0} (result : Result T E) (network size : ℕ) (apdu front frame : List ℕ)
    → size ≡ length apdu → front ≡ front_octets (Some (everyone network)) false size
    → OnOk result (frame ≡ front ++ apdu) → OnOk result (frame ≡ wrapped (Some (everyone network)) false apdu)
across_made = grind (arith, front_before)

-- an APDU after these headers goes to all stations of the network
pub across_takes : {T E : Type 0} (result : Result T E) (network size : ℕ) (apdu front frame : List ℕ)
    → network < 65536 → size ≡ length apdu → size ≤ 1487 → front ≡ front_octets (Some (everyone network)) false size
    → OnOk result (frame ≡ front ++ apdu) → OnOk result (Takes (Some (everyone network)) false apdu frame)
across_takes = grind (arith, front_before, count_wrapped, everyone_takes)

-- a datagram for all networks is accepted by each station; one for a single network is not
pub all_carry : (from : Station) (apdu datagram : List ℕ) → Takes (Some (everyone 65535)) false apdu datagram
    → carried from datagram
    ≡ Some (record
    { peer = record { ip = from.ip; port = from.port; route = None }; broadcast = true; apdu = apdu })
all_carry _ apdu _ t =
    let counted : big_number 2 (t.high ∷ t.low ∷ []) ≡ 4 + length (t.header ++ apdu) = t.counted ∙ ap length t.whole
    ∙ omega arith in
    ap (carried _) t.whole ∙ carried_again_at _ 10 _ _ [] _ _ _ _ _ counted unicast t.headed
    (record { destined = refl; answerable = _ })

-- a header with a destination other than all networks is ignored
unheeded : (from : Station) (function high low : ℕ) (header apdu : List ℕ) (network : NetworkHeader)
    → big_number 2 (high ∷ low ∷ []) ≡ 4 + length (header ++ apdu) → SpellsHeader header network
    → is_for_all network.destination ≡ false
    → carried from (129 ∷ 10 ∷ high ∷ low ∷ (header ++ apdu)) ≡ None
unfolding carried link_at
unheeded _ _ _ _ _ apdu _ counted headed other =
    rw (eq-eqb _ _ counted, header_reader.again _ _ apdu headed) (grind (arith, other))

pub none_carry : (from : Station) (network : ℕ) (apdu datagram : List ℕ) → network < 65535
    → Takes (Some (everyone network)) false apdu datagram → carried from datagram ≡ None
none_carry _ network apdu _ small t =
    let counted : big_number 2 (t.high ∷ t.low ∷ []) ≡ 4 + length (t.header ++ apdu) = t.counted ∙ ap length t.whole
    ∙ omega arith in
    let other : is_for_all (Some (everyone network)) ≡ false = grind arith in
    ap (carried _) t.whole ∙ unheeded _ 10 _ _ _ _ _ counted t.headed other

-- an APDU after its headers is carried to the station
pub put_front_takes : {T E : Type 0} (result : Result T E) (to : Option NetworkAddress) (expect : Bool) (apdu : List ℕ)
    (size : ℕ) (front frame : List ℕ)
    → IfSome to IsRoutable → size ≡ length apdu → front ≡ front_octets to expect size
    → OnOk result (frame ≡ front ++ apdu)
    → OnOk result (length front + length apdu ≤ 1497) → OnOk result (Takes to expect apdu frame)
put_front_takes = grind (arith, front_before, count_wrapped, wrapped_takes, routable)

-- a datagram that carries an APDU to a station of this network is accepted there
pub taken_carries : (from : Station) (expect : Bool) (apdu datagram : List ℕ) → Takes None expect apdu datagram
    → carried from datagram
    ≡ Some (record
    { peer = record { ip = from.ip; port = from.port; route = None }; broadcast = false; apdu = apdu })
taken_carries _ _ apdu _ t =
    let counted : big_number 2 (t.high ∷ t.low ∷ []) ≡ 4 + length (t.header ++ apdu) = t.counted ∙ ap length t.whole
    ∙ omega arith in
    ap (carried _) t.whole ∙ carried_again_at _ 10 _ _ [] _ _ _ _ _ counted unicast t.headed _

-- a datagram carries only one APDU to a station
pub one_taken : (to : Option NetworkAddress) (expect : Bool) (datagram a b : List ℕ) → Takes to expect a datagram
    → Takes to expect b datagram → a ≡ b
one_taken to _ _ a b s t =
    let network : NetworkHeader = record { destination = to; source = None } in
    let same : s.header ++ a ≡ t.header ++ b = ap (λ (w : List ℕ). drop 4 w) (sym s.whole ∙ t.whole) in
    let (_, apdus) = some_pair_parts _ _ a b (sym (header_reader.again _ _ a s.headed) ∙ ap header_at same
    ∙ header_reader.again _ _ b t.headed) in
    apdus

-- ---- the part

-- the octets of a part, with the flags that announce it
abbrev SpellsPart : ℕ → List ℕ → Option Part → Type 0
SpellsPart first octets part = Flags first part × (octets ≡ part_octets part)

part_takes : (first : ℕ) (octets : List ℕ) (b : Bool) (part : Option Part) (rest : List ℕ) → bit 3 first ≡ b
    → part_at first octets b ≡ found_at part rest → Took (SpellsPart first) octets part rest
part_takes = grind arith

part_again : (first : ℕ) (front : List ℕ) (part : Option Part) (rest : List ℕ) → SpellsPart first front part
    → part_at first (front ++ rest) (bit 3 first) ≡ found_at part rest
part_again = grind arith

parts_takes : (first : ℕ) (octets : List ℕ) (x : Option Part × ℕ × List ℕ) → parts_at first octets ≡ Some x
    → (let (part, service, body) = x in
    (front : List ℕ) × SpellsPart first front part × (octets ≡ front ++ service ∷ body))
unfolding parts_at
parts_takes = grind (arith, bind_some, part_takes)

parts_again : (first : ℕ) (front : List ℕ) (part : Option Part) (service : ℕ) (body : List ℕ)
    → SpellsPart first front part → parts_at first (front ++ service ∷ body) ≡ Some (part, service, body)
unfolding parts_at
parts_again _ _ _ _ _ s = rw (part_again _ _ _ _ s) refl

-- ---- each kind

confirmed_takes : (first : ℕ) (octets : List ℕ) (m : Message) → first / 16 ≡ 0 → confirmed_of first octets ≡ Some m
    → IsLaidOut (first ∷ octets) m
confirmed_takes = grind (arith, parts_takes, same_Some, none-some)

complex_takes : (first : ℕ) (octets : List ℕ) (m : Message) → first / 16 ≡ 3 → complex_ack_of first octets ≡ Some m
    → IsLaidOut (first ∷ octets) m
complex_takes = grind (arith, bind_some, parts_takes, same_Some)

unconfirmed_takes : (first : ℕ) (octets : List ℕ) (m : Message) → first / 16 ≡ 1
    → (service_at octets >>= (λ (service, body). Some (unconfirmed service body))) ≡ Some m
    → IsLaidOut (first ∷ octets) m
unconfirmed_takes = grind arith

-- an invoke id and one octet more
numbered_laid : (first : ℕ) (made : ℕ → ℕ → List ℕ → Message) (octets : List ℕ) (m : Message)
    → numbered_of made octets ≡ Some m
    → ((id octet : ℕ) (rest : List ℕ) → IsLaidOut (first ∷ id ∷ octet ∷ rest) (made id octet rest))
    → IsLaidOut (first ∷ octets) m
numbered_laid = grind arith

-- the APDU of this kind, or of a later one
this_kind : {T : Type 0} (first k : ℕ) {x y : Option Message} {m : Message} → (first / 16 ≡ k → x ≡ Some m → T)
    → (y ≡ Some m → T) → cond (eqb (first / 16) k) x y ≡ Some m → T
this_kind = grind (arith, chosen)

apdu_takes : (octets : List ℕ) (m : Message) → apdu_of octets ≡ Some m → IsLaidOut octets m
unfolding apdu_of
apdu_takes [] m e = absurd (none-some m e)
apdu_takes (first ∷ octets) m e =
    this_kind _ 0 (confirmed_takes _ _ m) (
    this_kind first 1 (unconfirmed_takes first _ m) (
    this_kind first 2 (grind (arith, numbered_laid)) (
    this_kind first 3 (complex_takes first _ m) (
    this_kind first 4 (grind (arith, same_Some)) (
    this_kind first 5 (grind (arith, numbered_laid)) (
    this_kind first 6 (grind (arith, numbered_laid)) (
    this_kind first 7 (grind (arith, numbered_laid)) (λ none. absurd (none-some m none))))))))) e

apdu_again : (octets : List ℕ) (m : Message) → IsLaidOut octets m → apdu_of octets ≡ Some m
unfolding apdu_of
apdu_again = grind (arith, parts_again)

pub apdu_is : (octets : List ℕ) (m : Message) → (apdu_of octets ≡ Some m) ↔ IsLaidOut octets m
apdu_is _ m = (apdu_takes _ m, apdu_again _ m)

pub confirmed_no_longer : (octets : List ℕ) (part : Option Part) (code id service : ℕ) (body : List ℕ)
    → Some (confirmed part code id service body) ≡ apdu_of octets → length body ≤ length octets
confirmed_no_longer octets part code id service body e =
    let laid = apdu_takes octets (confirmed part code id service body) (sym e) in
    grind (arith, length-append)

-- ---- what is written

-- the flags of a request fit its type
request_part : (part : Option Part) → (part_flags part / 16 ≡ 0) × SpellsPart (part_flags part) (part_octets part) part
request_part = grind arith

-- the flags of an answer fit its type
answer_part : (part : Option Part) → ((48 + part_flags part) / 16 ≡ 3)
    × SpellsPart (48 + part_flags part) (part_octets part) part
answer_part = grind arith

laid_out_is : (m : Message) → IsWritable m → IsLaidOut (laid_out m) m
laid_out_is (confirmed part code id service body) h = grind (arith, request_part)
laid_out_is (unconfirmed service body) h = (16, refl, refl)
laid_out_is (simple_ack id service) h = (32, [], refl, refl)
laid_out_is (complex_ack part id service body) h = grind (arith, answer_part)
laid_out_is segment_ack h = absurd h
laid_out_is (error id service body) h = (80, refl, refl)
laid_out_is (reject id reason) h = (96, [], refl, refl)
laid_out_is (abort true id reason) h = (113, [], refl, refl, refl)
laid_out_is (abort false id reason) h = (112, [], refl, refl, refl)

pub apdu_back : (m : Message) → IsWritable m → apdu_of (laid_out m) ≡ Some m
apdu_back m h = apdu_again _ _ (laid_out_is m h)

-- ---- the length that a code announces

-- the octets that each code announces: 50 for codes not listed
pub announced_other : (k : ℕ) → (k ≡ 1 → ⊥) → (k ≡ 2 → ⊥) → (k ≡ 3 → ⊥) → (k ≡ 4 → ⊥) → (k ≡ 5 → ⊥)
    → ◌≡◌ {A = ℕ} 50 (slice_index_or (50 ∷ 128 ∷ 206 ∷ 480 ∷ 1024 ∷ 1476 ∷ []) k 50)
announced_other = grind arith

most_announced : (k : ℕ) → slice_index_or (50 ∷ 128 ∷ 206 ∷ 480 ∷ 1024 ∷ 1476 ∷ []) k 50 ≤ 1476
most_announced = grind arith

pub announced_most : (code : ℕ) → announced_size code ≤ 1476
announced_most _ = most_announced _
