-- A run that ended well was printed whole.
use Rattle.std.proofs.Common.{[], ap, arith, Err, false, IfOk, inl, inr, length, List, map, Ok, Option, refl, Result}
use Rattle.std.proofs.{Common.{rules, subst, sym, ℕ, ◌++◌, ◌∙◌, ◌≡◌}, lemmas.{Bool.cases_Bool, List.append-nil}}
use Rattle.std.specs.List.{concat, flat_map}
use Rattle.bac_tsm.specs.{client_rules, Event, outputs}
use Rattle.bac_print.specs.{Gave, has_failed, Took, Writes, declared.checked.Checked.Checked}
use Rattle.{bac_script.specs.declared.tracing.TraceEnd.TraceEnd, bac_links.specs.{Account, Entry, GainsAll}}
use Rattle.bac_run.specs.{declared.fault.RunFault.RunFault, Input.{AllDone, lines_in}}
use Rattle.bac_run.specs.{new_client, Journal.{Act, calls_of, events_of, notes_of}}
use Rattle.bac_run.specs.{Replay.{AreOffered, offered_in, sends_of}, Run.journal_of}
use Rattle.bac_run.proofs.Cut.{given_lines}
use Rattle.bac_uses.proofs.run.requested.Goals as goal

-- A fact without fault.
if_ok : {A E : Type 0} (P : Type 0) (result : Result A E) → ((x : A) → result ≡ Ok x → P) → IfOk result (λ x. P)
if_ok P (Ok x) is = is x refl
if_ok P (Err fault) is = tt

-- A writer that has not failed took the whole text.
took_whole : {W : Type 0} (contents : W → Option (List ℕ)) (before after : Checked W) (text : List ℕ)
    → has_failed after ≡ false → Writes contents before after [] [] text → Took contents before after text
took_whole contents before after text sound writes =
    subst (λ (octets : List ℕ). Took contents before after octets)
    (sym (writes.whole ∙ ap (λ (rest : List ℕ). writes.taken ++ rest) (writes.sound sound).1 ∙ append-nil writes.taken))
    writes.took

-- The calls of a link come after its earlier calls.
asked_on : {Origin : Type 0} (before after : Account Origin) (gained : List Entry) → GainsAll gained before after
    → after.history ≡ before.history ++ gained
asked_on before after gained is = ap (λ (account : Account _). account.history) is

-- The notes with these settings.
ahead : (timeout retries : ℕ) (events : List Event) → timeout ≡ 3000 → retries ≡ 3
    → map (λ (i, note). note) (outputs (client_rules timeout retries) 0 events 0 (length events))
    ≡ map (λ (i, note). note) (outputs (client_rules 3000 3) 0 events 0 (length events))
ahead timeout retries events timed again = rw (timed, again) refl

-- The datagrams that a client with these settings sends.
sends_so : (timeout retries : ℕ) (acts : List Act) → timeout ≡ 3000 → retries ≡ 3
    → sends_of (new_client timeout retries 0) acts ≡ sends_of (new_client 3000 3 0) acts
sends_so timeout retries acts timed again = rw (timed, again) refl

pub returns-clause-all : goal.returns-clause-all
returns-clause-all g c = if_ok _ c.run_requests.result (λ end is.
    let runs = c.run_requests.ensures.runs in
    let setup = c.unwrap-setup.result in
    let (asked, good, empty, count) = subst (λ (result : Result TraceEnd RunFault).
    AllDone result (lines_in runs.acts) runs.takes.kept runs.acts)
    is runs.takes.all_done in
    let sound : has_failed c.run_requests.new.writer ≡ false =
    elim (cases_Bool (has_failed c.run_requests.new.writer)) [
      | inl failed ↦ absurd (let told = c.run_requests.ensures.write_fault.0 failed in grind (arith, is, told))
      | inr sound ↦ sound
    ] in
    let notes = notes_of (new_client setup.config.timeout setup.config.retries 0) runs.acts in
    let timed : setup.config.timeout ≡ 3000 = search rules in
    let again : setup.config.retries ≡ 3 = search rules in
    record {
      lines = lines_in runs.acts;
      gave = subst (λ (octets : List ℕ). Gave g.R.Read.remaining c.args.reader.now c.run_requests.new.reader octets)
          (given_lines runs.acts runs.takes
          ∙ ap (λ (kept : List ℕ). concat (lines_in runs.acts) ++ kept) empty ∙ append-nil (concat (lines_in
          runs.acts)))
          runs.takes.gave;
      good = good;
      acts = runs.acts;
      asked = asked;
      notes = notes;
      ahead = c.a_run_tells_what_the_look_ahead_gives.ensures.notes setup.config.timeout setup.config.retries
          runs.acts ∙ ahead setup.config.timeout setup.config.retries (events_of runs.acts) timed again;
      journal = journal_of setup runs.acts;
      took = took_whole g.W.Write.contents c.args.writer.now c.run_requests.new.writer (journal_of setup runs.acts)
          sound runs.printed;
      replayed = c.a_journal_is_a_script.ensures.text setup _ _ _ _ _ _ _ runs;
      gains = runs.asks;
      sent = subst (λ (result : Result TraceEnd RunFault).
          AreOffered result (sends_of (new_client setup.config.timeout setup.config.retries 0) runs.acts)
          (flat_map offered_in (calls_of runs.acts)))
          is (c.a_run_sends_what_it_remarks.ensures.sends setup _ _ _ _ _ _ _ _ runs (asked_on
          (g.L.Link.seen c.args.link.now) (g.L.Link.seen c.run_requests.new.link) (calls_of runs.acts) runs.asks))
          ∙ sends_so setup.config.timeout setup.config.retries runs.acts timed again;
      unsent = c.a_run_sends_what_it_remarks.ensures.unsent setup _ _ _ _ _ _ _ _ runs (asked_on
          (g.L.Link.seen c.args.link.now) (g.L.Link.seen c.run_requests.new.link) (calls_of runs.acts) runs.asks);
    })
