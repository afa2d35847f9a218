-- A reply that fits carries only its one APDU to the desk; an APDU that is too long for the desk does not fit.
use Rattle.std.proofs.Common.{arith, false, inl, inr, List, None, refl, Some, subst, sym, ℕ, ◌≡◌}
use Rattle.{std.proofs.lemmas.Option.same_Some, bac_pdu.specs.{confirmed, Delivery, Message, Datagram.Takes}}
use Rattle.bac_pdu.proofs.DatagramLaws.{apdu_is, carried_is, one_taken, wrapped_takes}
use Rattle.bac_device.{proofs.Computed.computed, specs.{FitsRequest, ReplyFits}}
use Rattle.bac_device.specs.Inner.{aborted, asked, datagram, desk, fifty, fifty_one, long_named, of, read_for_50}
use Rattle.bac_device.proofs.examples.examples_of_fitting.Goals as goal

-- the desk's request: its code is 0
abbrev request : Message
request = confirmed None 0 1 12 (of 77 long_named)

abbrev arrived : Delivery
arrived = record { peer = desk; broadcast = false; apdu = read_for_50 (of 77 long_named) }

-- a reply that fits carries an APDU that fits the request, because the request arrived
sized : (reply : List ℕ) → ReplyFits desk asked.datagram (desk, reply)
    → (apdu : List ℕ) × Takes None false apdu reply × FitsRequest request apdu
unfolding computed
sized reply h = h arrived request ((carried_is _ _ _).0 refl) ((apdu_is _ request).0 refl)

-- no other request arrived
fits_as : (apdu : List ℕ) → Takes None false apdu (datagram 0x00 apdu) → FitsRequest request apdu
    → ReplyFits desk asked.datagram (desk, datagram 0x00 apdu)
unfolding computed
fits_as apdu takes fits delivery other carries laid =
    let there : Some arrived ≡ Some delivery = (carried_is _ _ _).1 carries in
    let read = (apdu_is delivery.apdu other).1 laid in
    let same : other ≡ request = grind arith in
    (apdu, takes, subst (λ m. FitsRequest m apdu) (sym same) fits)

fifty_fit : ReplyFits desk asked.datagram (desk, datagram 0x00 fifty)
unfolding computed
fifty_fit = fits_as fifty (wrapped_takes None false fifty tt (grind arith)) (inl (grind arith))

fifty_one_fit : ReplyFits desk asked.datagram (desk, datagram 0x00 fifty_one) → ⊥
unfolding computed
fifty_one_fit h =
    let (taken, t, fits) = sized _ h in
    let same = one_taken _ _ _ taken fifty_one t (wrapped_takes None false fifty_one tt (grind arith)) in
    let long = subst (FitsRequest request) same fits in grind arith

pub returns-clause-fits : goal.returns-clause-fits
returns-clause-fits c = fifty_fit

pub returns-clause-aborted : goal.returns-clause-aborted
unfolding computed
returns-clause-aborted c = fits_as aborted (wrapped_takes None false aborted tt (grind arith)) (inr refl)

pub returns-clause-too_long : goal.returns-clause-too_long
returns-clause-too_long c = fifty_one_fit

pub returns-clause-no_datagram : goal.returns-clause-no_datagram
unfolding computed
returns-clause-no_datagram c = λ h. let (taken, t, fits) = sized _ h in grind arith

pub returns-clause-each : goal.returns-clause-each
returns-clause-each c = (λ reply e. subst (ReplyFits desk asked.datagram) (same_Some _ _ e) fifty_fit, refl)

pub returns-clause-each_too_long : goal.returns-clause-each_too_long
returns-clause-each_too_long c = λ h. fifty_one_fit (h.0 _ refl)
