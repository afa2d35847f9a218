-- One datagram after another.
use Rattle.std.proofs.{Common.{[], ap, arith, drop, flat_map, List, refl, sym, ◌++◌, ◌+◌, ◌∙◌, ◌≡◌}}
use Rattle.std.proofs.lemmas.List.{at_drop_more, drop_all, Concat.flat_map-append}
use Rattle.std.specs.Option.{option_map, option_to_list}
use Rattle.{bac_tsm.specs.{due_notes, Note, declared.due.DueEntry.DueEntry, Seen.note_seen}, bac_run.proofs.went_at}
use Rattle.bac_run.{proofs.{went_more, went_nothing, went_to}, specs.{Aim, sends_in, sent_in}}
use Rattle.bac_run.proofs.turns.Runner.send_due.Goals as goal

pub loop-entry-init : goal.loop-entry-init
loop-entry-init g c = record { sound = c.requires; went = went_nothing _ _ _ _ }

pub loop-entry-preserved : goal.loop-entry-preserved
loop-entry-preserved g c =
    let notes = due_notes c.args.self.now.client.state in
    let behind = flat_map notes (drop (c.loop-entry.entry-index + 1) c.args.due.now) in
    let sends : sends_in (flat_map notes (drop c.loop-entry.entry-index c.args.due.now))
    ≡ sends_in (option_to_list (option_map note_seen c.due.result)) ++ sends_in behind =
    at_drop_more (λ (due : List DueEntry). sends_in (flat_map notes due)) c.args.due.now c.loop-entry.entry-index _
    (omega (arith, c.loop-entry-test.true, c.loop-entry.auto.entry-index-end))
    ∙ ap (λ (xs : List Note). sends_in (xs ++ behind)) (sym c.due.ensures)
    ∙ flat_map-append sent_in (option_to_list (option_map note_seen c.due.result)) behind in
    record {
      sound = c.send_any.ensures.sound;
      went = went_more (went_to (λ (later : List Aim). rw sends refl) c.loop-entry.invariant.went)
          (went_at (λ (later : List Aim). (sends_in behind, later)) c.send_any.ensures.went);
    }

pub returns-clause-went : goal.returns-clause-went
returns-clause-went g c =
    let none : drop c.loop-entry.entry-index c.args.due.now ≡ [] = drop_all c.loop-entry.entry-index c.args.due.now
    (omega (arith, c.loop-entry-test.false, c.loop-entry.auto.entry-index-end)) in
    went_to (λ (later : List Aim). rw none refl) c.loop-entry.invariant.went
