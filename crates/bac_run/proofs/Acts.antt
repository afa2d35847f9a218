-- Lemmas about acts one after another.
use Rattle.std.proofs.Common.{[], append_assoc, arith, Err, length, List, Option, refl, Result}
use Rattle.std.proofs.{Common.{ℕ, ◌++◌, ◌<◌, ◌∷◌, ◌≡◌}, lemmas.Bool.Decides.nat_tests}
use Rattle.{std.{proofs.lemmas.List.Concat.flat_map-append, specs.List.AllByRecursion}, bac_pdu.specs.longest_body}
use Rattle.{bac_pdu.specs.Station, bac_tsm.specs.{Ask, Outcome, refusal_of, Refused, Client.Client}}
use Rattle.{bac_tsm.specs.{declared.client.SubmitFault.TheVariants.TooLong, Machine.datagram_notes}, bac_run.specs.Act}
use Rattle.bac_run.specs.{at_event, calls_of, client_after, feeds_in, IsWithin, journal, RunFault, sends_in}
use Rattle.bac_run.specs.{turn_at}

pub client_after-append : (client : Client) (xs ys : List Act)
    → client_after client (xs ++ ys) ≡ client_after (client_after client xs) ys
client_after-append client [] ys = refl
client_after-append client (x ∷ xs) ys = client_after-append (turn_at client x).after xs ys

pub journal-append : (client : Client) (xs ys : List Act)
    → journal client (xs ++ ys) ≡ journal client xs ++ journal (client_after client xs) ys
journal-append client [] ys = refl
journal-append client (x ∷ xs) ys = grind (arith, append_assoc, journal-append (turn_at client x).after xs ys)

pub feeds-append : (xs ys : List Act) → feeds_in (xs ++ ys) ≡ feeds_in xs ++ feeds_in ys
feeds-append = grind (arith, flat_map-append)

-- A result that is a fault.
abbrev pub failed : (A : Type 0) → RunFault → Result A RunFault
failed A fault = Err fault

pub calls-append : (xs ys : List Act) → calls_of (xs ++ ys) ≡ calls_of xs ++ calls_of ys
calls-append = grind (arith, flat_map-append)

-- A datagram that is received makes no send.
pub sends-answer : (answer : Option (ℕ × Outcome)) → sends_in (datagram_notes answer) ≡ []
sends-answer = grind arith

-- A request whose body is too long is refused, and has no other effect.
pub refused_long : (client : Client) (peer : Station) (body : List ℕ) → longest_body < length body
    → at_event client (Ask peer 15 body) ≡ record { notes = Refused TooLong ∷ []; after = client }
unfolding refusal_of
refused_long = grind (arith, nat_tests)

-- ---- how many requests are open

pub within_append : (window : ℕ) (client : Client) (xs ys : List Act) → IsWithin window client xs
    → IsWithin window (client_after client xs) ys → IsWithin window client (xs ++ ys)
within_append window client [] ys here later = later
within_append window client (x ∷ xs) ys (few, here) later =
    (few, within_append window (turn_at client x).after xs ys here later)

-- A fact of the items of two lists holds for the items of both, one after the other.
pub all_both : {A : Type 0} (P : A → Type 0) (xs ys : List A) → AllByRecursion P xs → AllByRecursion P ys
    → AllByRecursion P (xs ++ ys)
all_both P [] ys here later = later
all_both P (x ∷ xs) ys (first, here) later = (first, all_both P xs ys here later)
