-- The places of a point after writes, and a device with these places; and the lengths of its replies.
use Rattle.std.proofs.Common.{[], ap, append-nil, arith, Bool, false, filter, find, IfSome, if◌then◌else◌, leb-true}
use Rattle.std.proofs.Common.{length, List, map, None, Option, option_and_then, option_map, option_to_list, refl}
use Rattle.std.proofs.Common.{slice_set, Some, subst, suc, sym, true, zero, ℕ, ◌++◌, ◌-◌, ◌<◌, ◌==◌, ◌∙◌, ◌∷◌, ◌≡◌, ◌≤◌}
use Rattle.std.proofs.{Common.◌⊎◌, lemmas.Bool.{cases_Bool, cond_both}}
use Rattle.std.proofs.lemmas.{Grind.common_steps, Option.{none-some, some_pair_parts}, Simd.map-map}
use Rattle.std.specs.{List.last_or, Option.ForSome, Result.result_ok}
use Rattle.bac_wire.specs.{plain, plain_tag, ◌>>=◌, Identifier.Identifier}
use Rattle.bac_pdu.proofs.DatagramLaws.{announced_most, apdu_is, carried_is, wrapped_short, wrapped_takes}
use Rattle.bac_pdu.specs.{apdu_of, carried, Carries, confirmed, Delivery, IsLaidOut, laid_out, Message, Order, Station}
use Rattle.bac_pdu.specs.{station, unconfirmed, wrapped, Apdu.announced_size, Datagram.Takes}
use Rattle.bac_pdu.specs.{declared.{discovery.WhoIs.WhoIs, peer.Peer.Peer}, Discovery.asks, Peer.IsRoutable}
use Rattle.bac_device.specs.{accepted_write, AreDefined, Arrival, Description, description_of, device_after}
use Rattle.bac_device.specs.{DeviceState, FitsRequest, fitting, Given, Holds, i_am, is_to, NoneTo, order_in, Part}
use Rattle.bac_device.specs.{place, place_after, place_at, point_at, points_of, present, present_after, priorities, put}
use Rattle.bac_device.specs.{Replies, replies_to, RepliesFit, RepliesInTurn, reply_message, reply_of, reply_to}
use Rattle.bac_device.specs.{ReplyFits, Standing, standing_after, standing_at, who_is_reply, with_point, with_write}
use Rattle.bac_device.specs.{Write, write_in_datagram, writes_after, Info.Info}
use Rattle.bac_device.specs.Inner.{IsUrgent, write_in_body, write_in_request}

pub map_same : {A B : Type 0} (f g : A → B) → ((x : A) → f x ≡ g x) → (xs : List A) → map f xs ≡ map g xs
map_same f g _ [] = refl
map_same f g same (x ∷ xs) = cc (same x, map_same f g same xs)

-- ---- the sixteen places

-- a property holds of each number below a count
abbrev Each : (ℕ → Type 0) → ℕ → Type 0
Each P zero = Unit {0}
Each P (suc count) = P 0 × Each (λ n. P (suc n)) count

at_each : (P : ℕ → Type 0) (count n : ℕ) → Each P count → n < count → P n
at_each P zero n all below = absurd (omega arith)
at_each P (suc count) zero (first, _) _ = first
at_each P (suc count) (suc n) (_, others) below = at_each (λ n. P (suc n)) count n others (omega arith)

-- ---- the places after one more write

last_more : {A : Type 0} (o : Option A) (xs : List A) (x : A) → last_or o (xs ++ x ∷ []) ≡ Some x
last_more o [] x = refl
last_more o (y ∷ ys) x = last_more (Some y) ys x

-- a place has the value of the last write to it, and otherwise its old value
pub place_more : (writes : List Write) (write : Write) (object : Identifier) (priority : ℕ)
    → place (writes ++ write ∷ []) object priority
    ≡ (if is_to object priority write then write.value else place writes object priority)
unfolding place
place_more _ _ _ _ = grind (arith, common_steps, last_more)

set_place : (f : ℕ → Option ℕ) (priority : ℕ) (value : Option ℕ) → 1 ≤ priority → priority ≤ 16
    → slice_set (map f priorities) (priority - 1) value ≡ map (λ q. if q == priority then value else f q) priorities
set_place f zero _ most least = absurd (omega arith)
set_place f (suc i) value most least =
    at_each (λ n. slice_set (map f priorities) (suc n - 1) value
    ≡ map (λ q. if q == suc n then value else f q) priorities) 16 i (
      refl,
      (
        refl,
        (
          refl,
          (refl, (refl, (refl, (refl, (refl, (refl, (refl, (refl, (refl, (refl, (refl, (refl, (refl, tt))))))))))))),
        ),
      ),
    ) (omega arith)

-- a write to an object puts its value in the place of its priority, and leaves other points as they are
pub put_after : (writes : List Write) (write : Write) (point : Description) → 1 ≤ write.priority → write.priority ≤ 16
    → put write (standing_after writes point) ≡ standing_after (writes ++ write ∷ []) point
unfolding standing_after
put_after _ _ _ most least = grind (arith, set_place, map_same, place_more)

-- ---- writes to other objects

none_chosen : (writes : List Write) (object : Identifier) (priority : ℕ) → NoneTo object writes
    → filter (is_to object priority) writes ≡ []
none_chosen [] _ _ _ = refl
none_chosen (_ ∷ writes) object priority (other, none) = grind (arith, none_chosen writes object priority none)

-- if no write is to the object, its places are NULL
pub place_none : (writes : List Write) (object : Identifier) (priority : ℕ) → NoneTo object writes
    → place writes object priority ≡ place [] object priority
unfolding place
place_none _ _ _ none = grind (arith, none_chosen)

-- ---- a device with the places after some writes

find_map : {A B : Type 0} (f : A → B) (test : B → Bool) (xs : List A)
    → find test (map f xs) ≡ option_map f (find (λ x. test (f x)) xs)
find_map f _ [] = refl
find_map f test (x ∷ xs) = grind (arith, find_map f test xs)

-- the point that is an object has the places after the writes
pub at_after : (device : DeviceState) (writes : List Write) (object : Identifier) → Holds device writes
    → standing_at device object ≡ option_map (standing_after writes) (point_at (points_of device) object)
unfolding standing_after
at_after _ _ _ holds = grind (arith, find_map)

pub present_held : (device : DeviceState) (writes : List Write) (object : Identifier) → Holds device writes
    → option_map present (standing_at device object) ≡ present_after (points_of device) writes object
present_held device writes object holds = ap (option_map present) (at_after device writes object holds) ∙ grind arith

pub place_held : (device : DeviceState) (writes : List Write) (object : Identifier) (priority : ℕ) → Holds device writes
    → option_and_then (λ standing. place_at standing priority) (standing_at device object)
    ≡ place_after (points_of device) writes object priority
place_held device writes object priority holds =
    ap (option_and_then (λ (standing : Standing). place_at standing priority)) (at_after device writes object holds)
    ∙ grind arith

-- the points of a device are those with which it was made
pub points_after : (info : Info) (points : List Description) (writes : List Write)
    → points_of (device_after info points writes) ≡ points
unfolding standing_after
points_after _ [] _ = refl
points_after info (_ ∷ points) writes = grind (arith, points_after info points writes)

-- a device after a write, if there is one
pub write_held : (device : DeviceState) (writes : List Write) (write : Option Write) → Holds device writes
    → IfSome write IsUrgent
    → with_write device write ≡ device_after device.info (points_of device) (writes ++ option_to_list write)
write_held _ _ None holds _ = grind (arith, append-nil)
write_held device writes (Some write) holds (least, most) =
    let before : device.standings ≡ map (standing_after writes) (points_of device) =
    ap (λ (d : DeviceState). d.standings) holds in
    ap (λ (s : List Standing). record { info = device.info; standings = s })
    (ap (map (put write)) before ∙ map-map (put write) (standing_after writes) (points_of device)
    ∙ map_same _ _ (λ point. put_after writes write point least most) (points_of device))

-- the write that a request orders, as the code finds it
pub request_write : (device : DeviceState) (part : Option Part) (code id service : ℕ) (body : List ℕ)
    → (order_in (confirmed part code id service body) >>= (λ o. result_ok (accepted_write device o)))
    ≡ write_in_request device part service body
unfolding write_in_request write_in_body
request_write _ None _ _ _ _ = grind (arith, cases_Bool)
request_write _ (Some part) _ _ _ _ = refl

chained : {A B : Type 0} (P : B → Type 0) (o : Option A) (f : A → Option B)
    → ((a : A) → o ≡ Some a → IfSome (f a) P) → IfSome (o >>= f) P
chained P None f each = tt
chained P (Some a) f each = each a refl

-- a property of the write of each order is a property of the write in a datagram
pub each_ordered : (P : Write → Type 0) (device : DeviceState) (from : Station) (datagram : List ℕ)
    → ((message : Message) (o : Order) → order_in message ≡ Some o → IfSome (result_ok (accepted_write device o)) P)
    → IfSome (write_in_datagram device from datagram) P
unfolding write_in_datagram
each_ordered P device from datagram each =
    chained P (carried from datagram) _ (λ d _.
    chained P (apdu_of d.apdu) _ (λ message _.
    chained P (if d.broadcast then None else order_in message) _ (λ o is. each message o (ordered d.broadcast _ is))))
  where
    ordered : {o : Order} (b : Bool) (found : Option Order) → (if b then None else found) ≡ Some o → found ≡ Some o
    ordered true found is = absurd (none-some _ is)
    ordered false found is = is

-- ---- one more point

-- a point to which no write goes stays as it was added
untouched : (writes : List Write) (point : Description) → NoneTo point.object writes
    → standing_after writes point ≡ standing_after [] point
unfolding standing_after
untouched _ _ none = grind (arith, map_same, place_none)

-- a device with one more point holds the writes that it held, if none of them goes to the point
more_held : (device : DeviceState) (point : Description) (writes : List Write) → Holds device writes
    → NoneTo point.object writes → Holds (with_point device point) writes
unfolding standing_after
more_held device point writes holds none =
    let same = untouched writes point none in
    grind (arith, common_steps)

described_object : (point : Given) (d : Description) → description_of point ≡ Some d → d.object ≡ point.object
unfolding description_of
described_object = grind arith

-- a device to which a point was added holds the writes that it held, if none of them goes to the point
pub added_held : (device : DeviceState) (standing : Standing) (point : Given) (writes : List Write)
    → Some standing ≡ option_map (standing_after []) (description_of point) → Holds device writes
    → NoneTo point.object writes
    → Holds (record { info = device.info; standings = device.standings ++ standing ∷ [] }) writes
added_held = grind (arith, more_held, described_object)

-- a device after some writes holds them
pub after_holds : (info : Info) (points : List Description) (writes : List Write)
    → Holds (device_after info points writes) writes
after_holds info points writes =
    ap (λ (p : List Description). device_after info p writes) (sym (points_after info points writes))

-- ---- one call after another

-- the present value of a device after some writes
pub present_now : (info : Info) (points : List Description) (writes : List Write) {device : DeviceState}
    {asked object : Identifier} {found : Option ℕ} → device ≡ device_after info points writes
    → ((held : List Write) → Holds device held → found ≡ present_after (points_of device) held asked)
    → asked ≡ object → found ≡ present_after points writes object
present_now info points writes {object} made answered is =
    let now = rw (made, is) at answered in
    now writes (after_holds info points writes)
    ∙ ap (λ (p : List Description). present_after p writes object) (points_after info points writes)

-- the reply and the state after a call are those of the definition
pub answers : (device : DeviceState) (arrival : Arrival) (reply : Option (Station × List ℕ)) (after : DeviceState)
    → ((writes : List Write) → Holds device writes
    → reply ≡ reply_to device.info (points_of device) writes arrival.from arrival.datagram)
    → ((writes : List Write) → Holds device writes → after ≡ device_after device.info (points_of device)
    (writes_after device.info (points_of device) writes arrival.from arrival.datagram))
    → Replies device arrival reply after
answers = grind arith

-- a device that replies to datagrams in turn
pub in_turn : (device : DeviceState) (arrivals : List Arrival) (replies : List (Option (Station × List ℕ)))
    (after : DeviceState) (writes : List Write) → RepliesInTurn device arrivals replies after → Holds device writes
    → AreDefined device writes arrivals replies after
in_turn _ [] [] _ _ turns holds = record { replied = refl; written = turns ∙ holds }
in_turn _ [] (_ ∷ _) _ _ turns _ = absurd turns
in_turn _ (_ ∷ _) [] _ _ turns _ = absurd turns
in_turn device (arrival ∷ arrivals) (_ ∷ replies) after writes (next, call, others) holds =
    let points = points_of device in
    let more = writes_after device.info points writes arrival.from arrival.datagram in
    let one = call writes holds in
    let same : next ≡ device_after device.info points more = one.written in
    let later = in_turn next arrivals replies after more others
    (subst (λ (d : DeviceState). Holds d more) (sym same) (after_holds device.info points more)) in
    let rest : AreDefined (device_after device.info points more) more arrivals replies after =
    subst (λ (d : DeviceState). AreDefined d more arrivals replies after) same later in
    let r = rw (points_after device.info points more) at rest.replied in
    record {
      replied = ap (λ (first : List (Option (Station × List ℕ))). first ++ replies) one.replied
          ∙ ap (λ rest. reply_to device.info points writes arrival.from arrival.datagram ∷ rest) r;
      written = rw (points_after device.info points more) at rest.written;
    }

-- ---- the lengths of replies

-- the route of a datagram's sender can be used for the reply
pub carried_routable : (from : Station) (datagram : List ℕ) (delivery : Delivery) → Carries from datagram delivery
    → IfSome delivery.peer.route IsRoutable
carried_routable = grind arith

-- the datagram that is sent to the peer of a delivery with this reply
abbrev sent : Delivery → Option Message → Option (Station × List ℕ)
sent d reply = reply >>= (λ m. Some (d.peer, wrapped d.peer.route false (laid_out m)))

-- A datagram to the sender of another one carries the APDU of the reply, if each reply is short.
reply_takes : (device : DeviceState) (from to : Station) (datagram reply : List ℕ) (d : Delivery) (m : Message)
    (P : Message → Type 0) → Carries from datagram d → IsLaidOut d.apdu m
    → ((x : Message) → P x → length (laid_out x) ≤ 1476) → IfSome (reply_message device d.broadcast m) P
    → reply_of device from datagram ≡ Some (to, reply) → (x : Message) × P x × Takes to.route false (laid_out x) reply
unfolding reply_of
reply_takes device from to datagram reply d m P carries laid short all e =
    go (reply_message device d.broadcast m) all
    (rw ((carried_is from datagram d).1 carries, (apdu_is d.apdu m).1 laid) at e)
  where
    go : (answer : Option Message) → IfSome answer P → sent d answer ≡ Some (to, reply) → (x : Message) × P x
        × Takes to.route false (laid_out x) reply
    go None all e = absurd (none-some (to, reply) e)
    go (Some x) all e =
        let routable = carried_routable from datagram d carries in
        let (to_is, octets_are) = some_pair_parts d.peer to (wrapped d.peer.route false (laid_out x)) reply e in
        let takes = wrapped_takes d.peer.route false (laid_out x) routable
        (omega (arith, short x all, wrapped_short d.peer.route false (laid_out x) routable)) in (
          x,
          all,
          subst (λ (s : Station). Takes s.route false (laid_out x) reply) to_is
              (subst (Takes d.peer.route false (laid_out x)) octets_are takes),
        )

-- ---- a confirmed request

-- the reply has at most the announced octets, or is the Abort
abbrev Short : ℕ → ℕ → Message → Type 0
Short code id m = (length (laid_out m) ≤ announced_size code) ⊎ (laid_out m ≡ 0x71 ∷ id ∷ 0x04 ∷ [])

no_longer : (code id : ℕ) (m : Message) → Short code id m → length (laid_out m) ≤ 1476
no_longer = grind (arith, announced_most)

unless_broadcast : (b : Bool) (code id : ℕ) (full : Message)
    → IfSome (if b then None else Some (fitting code id full)) (Short code id)
unless_broadcast true _ id _ = tt
unless_broadcast false _ id _ = grind (arith, cond_both, leb-true)

-- ---- Who-Is

pub length_i_am : (info : Info) → length (laid_out (i_am info)) ≡ 15
unfolding plain plain_tag
length_i_am _ = refl

where_asked : (b : Bool) (who : Option WhoIs) (info : Info)
    → IfSome (if b then option_and_then (λ who. if asks who info.instance then Some (i_am info) else None) who else
    None) (λ m. length (laid_out m) ≡ 15)
where_asked false _ _ = tt
where_asked true None _ = tt
where_asked true (Some who) _ = grind (arith, length_i_am)

-- ---- any request

abbrev Fits : Message → Message → Type 0
Fits request m = FitsRequest request (laid_out m)

short : (request m : Message) → Fits request m → length (laid_out m) ≤ 1476
short = grind (arith, no_longer)

message_fits : (device : DeviceState) (broadcast : Bool) (request : Message)
    → IfSome (reply_message device broadcast request) (Fits request)
unfolding who_is_reply
message_fits _ _ (confirmed part code id service body) = grind (arith, unless_broadcast)
message_fits _ _ (unconfirmed service body) = grind (arith, where_asked)
message_fits _ _ _ = tt

pub reply_fits : (device : DeviceState) (from : Station) (datagram : List ℕ)
    → ForSome (reply_of device from datagram) (ReplyFits from datagram)
reply_fits device from datagram = λ reply e delivery request carries laid.
    let all = message_fits device delivery.broadcast request in
    let (m, fits, takes) = reply_takes _ _ _ _ _ _ _ (Fits request) carries laid (short request) all e in
    (laid_out m, takes, fits)

-- ---- the code's reply

-- a property of each reply of the definition is a property of the code's reply
pub of_reply : (P : Station × List ℕ → Type 0) (result : Option Peer) (frame : List ℕ)
    (defined : Option (Station × List ℕ))
    → option_map (λ peer. (station peer, frame)) result ≡ defined → ForSome defined P
    → IfSome result (λ peer. P (station peer, frame))
of_reply P None _ _ e f = tt
of_reply P (Some peer) frame _ e f = f (station peer, frame) (sym e)

-- The replies to any datagrams fit, one after the other.
pub replies_fit : (info : Info) (points : List Description) (writes : List Write) (xs : List Arrival)
    → RepliesFit xs (replies_to info points writes xs)
replies_fit _ _ _ [] = refl
replies_fit info points writes (x ∷ xs) = (
  reply_fits (device_after info points writes) x.from x.datagram,
  replies_fit info points (writes_after info points writes x.from x.datagram) xs,
)
