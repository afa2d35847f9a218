-- A request to write that is too long is seen from its words alone, since its body is never made.
use Rattle.std.proofs.Common.{[], ap, arith, Err, IsTrue, length, List, nat_lt, Ok, refl, Result, rules, subst, sym}
use Rattle.std.proofs.{Common.{true, ℕ, ◌∙◌, ◌∷◌, ◌≡◌}, lemmas.Bool.Decides.nat_tests}
use Rattle.{bac_wire.specs.identifier, bac_pdu.specs.longest_body}
use Rattle.bac_tsm.specs.{refusal_of, Refused, declared.client.SubmitFault.TheVariants.TooLong}
use Rattle.{bac_text.specs.whole_body_of, bac_print.proofs.Printed.printed_as, bac_script.specs.is_long}
use Rattle.bac_script.specs.{line_seen, notes_text, octets_or_none, declared.line.Line.{Line, TheVariants.LongWrite}}
use Rattle.bac_script.specs.{declared.long_write.LongWrite.LongWrite as Write}
use Rattle.bac_script.specs.Inner.{ran, ScriptStage, ScriptTurn, Stands}
use Rattle.bac_script.proofs.running.run_line.Goals as goal

past : (whole : Result (List ℕ) ℕ) → IsTrue (is_long whole) → nat_lt longest_body (length (octets_or_none whole)) ≡ true
past (Err n) h = absurd (search rules)
past (Ok body) h = grind (arith, nat_tests, h)

-- The client refuses a request that is too long to be sent, and stays as it was.
long_refused : (stage : ScriptStage) (line : Line) (write : Write) → line ≡ LongWrite write
    → ran stage (line_seen line) ≡ record { text = notes_text (Refused TooLong ∷ []); after = stage }
unfolding refusal_of
long_refused stage _ write is =
    ap (λ (l : Line). ran stage (line_seen l)) is
    ∙ rw (past (whole_body_of (identifier write.object) write.property write.index write.priority write.words)
    write.long) refl

pub returns-in-LongWrite-clause-stage : goal.returns-in-LongWrite-clause-stage
returns-in-LongWrite-clause-stage g c stage stands =
    subst (λ (r : ScriptTurn). Stands r.after c.args.client.now c.args.device.now)
    (sym (long_refused stage c.args.line c.in-LongWrite.field-0 c.in-LongWrite.is)) stands

pub returns-in-LongWrite-clause-text : goal.returns-in-LongWrite-clause-text
returns-in-LongWrite-clause-text g c stage _ =
    printed_as c.print_note.ensures
    (ap (λ (r : ScriptTurn). r.text) (sym (long_refused stage c.args.line c.in-LongWrite.field-0 c.in-LongWrite.is)))
