-- The reply of a device to a datagram, and its state after it, from the writes that it holds.
use Rattle.std.proofs.Common.{ap, arith, Bool, Err, IfSome, if◌then◌else◌, List, Ok, ok_or, Option, refl, Result, subst}
use Rattle.std.{proofs.{Common.{ℕ, ◌≡◌}, lemmas.Bool.cases_Bool}, specs.Result.result_ok}
use Rattle.bac_pdu.{proofs.BodyLaws.write_is, specs.{IsPriority, Message, Order, Station, write_of, ◌>>=◌}}
use Rattle.bac_device.proofs.StateLaws.{after_holds, each_ordered, points_after, write_held}
use Rattle.bac_device.specs.{accepted_write, Description, device_after, DeviceState, Holds, order_in, ordered_write}
use Rattle.bac_device.specs.{points_of, reply_of, reply_to, Standing, urgency, with_write, Write, write_in_datagram}
use Rattle.bac_device.specs.{writes_after, Info.Info, Inner.IsUrgent}

-- ---- an accepted write has a priority of 1 to 16

-- If two steps have a result, each of them has one.
stepped : {A B E : Type 0} (x : Result A E) (f : A → Result B E) (y : B) → (x >>= f) ≡ Ok y
    → (a : A) × (x ≡ Ok a) × (f a ≡ Ok y)
stepped = grind arith

-- If a step after a test and an option has a result, the test passed and the option has a value.
passed : {A B E : Type 0} (b : Bool) (bad : E) (o : Option A) (none : E) (f : A → Result B E) (y : B)
    → (if b then Err bad else (ok_or o none >>= f)) ≡ Ok y → (a : A) × (f a ≡ Ok y)
passed = grind arith

if_ok : {A E : Type 0} (P : A → Type 0) (r : Result A E) → ((a : A) → r ≡ Ok a → P a) → IfSome (result_ok r) P
if_ok P (Ok a) h = h a refl
if_ok P (Err failure) h = tt

urgency_is : (priority : Option ℕ) (n : ℕ) → IfSome priority IsPriority → urgency priority ≡ Ok n → IsPriority n
urgency_is = grind arith

ordered_urgent : (standing : Standing) (o : Order) (write : Write) → IfSome o.priority IsPriority
    → ordered_write standing o ≡ Ok write → IsUrgent write
unfolding ordered_write
ordered_urgent = grind (arith, stepped, urgency_is)

accepted_urgent : (device : DeviceState) (o : Order) (write : Write) → IfSome o.priority IsPriority
    → accepted_write device o ≡ Ok write → IsUrgent write
unfolding accepted_write
accepted_urgent = grind (arith, stepped, passed, ordered_urgent)

made_urgent : (device : DeviceState) (o : Order) → IfSome o.priority IsPriority
    → IfSome (result_ok (accepted_write device o)) IsUrgent
made_urgent device o urgent = grind (arith, accepted_urgent)

body_urgent : (body : List ℕ) → IfSome (result_ok (write_of body)) (λ o. IfSome o.priority IsPriority)
body_urgent body = if_ok _ (write_of body) (λ o is. ((write_is body (Ok o)).0 is).whole.urgent)

order_urgent : (message : Message) → IfSome (order_in message) (λ o. IfSome o.priority IsPriority)
order_urgent = grind (arith, cases_Bool, body_urgent)

pub datagram_urgent : (device : DeviceState) (from : Station) (datagram : List ℕ)
    → IfSome (write_in_datagram device from datagram) IsUrgent
datagram_urgent device from datagram =
    let urgent = λ (found : Option Order). IfSome found (λ o. IfSome o.priority IsPriority) in
    each_ordered IsUrgent device from datagram (λ message o is.
    made_urgent device o (subst urgent is (order_urgent message)))

-- ---- the reply and the write of a device, from the writes that it holds

pub reply_held : (device : DeviceState) (writes : List Write) (from : Station) (datagram : List ℕ) → Holds device writes
    → reply_of device from datagram ≡ reply_to device.info (points_of device) writes from datagram
reply_held device writes from datagram holds = ap (λ (d : DeviceState). reply_of d from datagram) holds

pub after_held : (device : DeviceState) (writes : List Write) (from : Station) (datagram : List ℕ) → Holds device writes
    → with_write device (write_in_datagram device from datagram)
    ≡ device_after device.info (points_of device) (writes_after device.info (points_of device) writes from datagram)
after_held device writes from datagram holds = grind (arith, write_held, datagram_urgent)

-- a device with these points, after these writes
pub next_after : (info : Info) (points : List Description) (writes : List Write) (from : Station) (datagram : List ℕ)
    → with_write (device_after info points writes) (write_in_datagram (device_after info points writes) from datagram)
    ≡ device_after info points (writes_after info points writes from datagram)
next_after info points writes from datagram =
    rw (points_after info points writes) at (after_held _ writes from datagram (after_holds info points writes))
