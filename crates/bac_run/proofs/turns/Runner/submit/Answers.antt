-- The request is made, and its datagram is offered.
use Rattle.std.proofs.Common.{[], ap, append-nil, append_assoc, arith, Err, List, Ok, Result, sym, ℕ, ◌∙◌, ◌∷◌, ◌≡◌}
use Rattle.{bac_pdu.specs.{Station, station}, bac_tsm.specs.{Ask, keeping, rules_of, Client.Client}}
use Rattle.bac_tsm.specs.{declared.client.SubmitFault.SubmitFault, Machine.{submit, submit_notes}}
use Rattle.{bac_print.proofs.Printed.printed_as, bac_run.proofs.{went_asked, went_at, went_more}}
use Rattle.bac_run.specs.{Aim, at_event, remarks, room_for, sends_in}
use Rattle.bac_run.proofs.turns.Runner.submit.Goals as goal

-- The notes on a request.
notes_on : (client after : Client) (peer : Station) (service : ℕ) (body : List ℕ) (result : Result ℕ SubmitFault)
    → result ≡ (submit (rules_of client) client.state peer service body).answer
    → after ≡ keeping client (submit (rules_of client) client.state peer service body).after
    → (at_event client (Ask peer service body)).notes ≡ submit_notes after.state result
notes_on = grind (arith, append_assoc, append-nil)

pub returns-in-Ok-clause-went : goal.returns-in-Ok-clause-went
returns-in-Ok-clause-went g c =
    let event = Ask (station c.args.peer) c.args.service c.args.body.now in
    let notes = notes_on c.args.self.now.client c.submit-answer.new.self (station c.args.peer) c.args.service
    c.args.body.now (Ok c.in-Ok.ticket) c.in-Ok.ensures.answer c.in-Ok.ensures.left ∙ sym c.sent-note.ensures in
    went_more
    (went_asked _ _ c.args.line.now event c.submit-answer.ensures.left c.since_asked-self.ensures
    (ap sends_in notes ∙ sym (append-nil _)) c.print_request.ensures
    (printed_as c.remark_any.ensures (ap remarks (sym notes))) (λ (is, short). c.requires.out is) c.requires.room)
    (went_at (λ (later : List Aim). ([], room_for c.args.self.now.setup.window ∷ later)) c.send_any.ensures.went)

pub returns-in-Err-clause-went : goal.returns-in-Err-clause-went
returns-in-Err-clause-went g c =
    let event = Ask (station c.args.peer) c.args.service c.args.body.now in
    let notes = notes_on c.args.self.now.client c.submit-answer.new.self (station c.args.peer) c.args.service
    c.args.body.now (Err c.in-Err.fault) c.in-Err.ensures.answer c.in-Err.ensures.left in
    went_asked _ _ c.args.line.now event c.submit-answer.ensures.left c.since_asked-self.ensures (ap sends_in notes)
    c.print_request.ensures (printed_as c.remark.ensures (sym (ap remarks notes ∙ append-nil _)))
    (λ (is, short). c.requires.out is) c.requires.room
