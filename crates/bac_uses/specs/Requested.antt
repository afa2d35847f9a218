-- Many requests over a link, all of which were made, with a timeout of three seconds and three retries.
use Rattle.std.specs.{List.{AllByRecursion, concat, flat_map}, Prelude.{length, List, map, Option, ℕ, ◌≡◌}}
use Rattle.{bac_tsm.specs.{client_rules, Note, outputs}, bac_print.specs.{Gave, Took, declared.checked.Checked.Checked}}
use Rattle.bac_script.specs.{declared.input.Reading.TheVariants.AtEnd, Script.text, Text.notes_text}
use Rattle.{bac_links.specs.{Account, GainsAll}, bac_run.specs.Input.{acts_or_none, inputs_in, IsGood}}
use Rattle.bac_run.specs.{new_client, Journal.{Act, calls_of, events_of}}
use Rattle.bac_run.specs.Replay.{offered_in, refused_in, sends_of, unsent_in}

-- The reader gave only good lines, and all they ask for was done, in their order. The client's notes are those of the
-- look-ahead for its events. The text that the writer took is a script from which `bactrace` prints these notes, and
-- the datagrams that were offered to the link are those of the notes. The link refused those of the remarks `unsent`.
-- It had no other calls than those of the acts.
pub record AllRequested {Origin R W : Type 0} (remaining : R → Option (List ℕ)) (contents : W → Option (List ℕ))
    (reader reader' : Checked R) (before after : Checked W) (seen left : Account Origin) : Type 0 where
  pub lines : List (List ℕ)
  pub gave : Gave remaining reader reader' (concat lines)
  pub good : AllByRecursion IsGood lines
  pub acts : List Act
  pub asked : inputs_in acts ≡ flat_map acts_or_none lines
  pub notes : List Note
  pub ahead : notes ≡ map (λ (i, note). note)
      (outputs (client_rules 3000 3) 0 (events_of acts) 0 (length (events_of acts)))
  pub journal : List ℕ
  pub took : Took contents before after journal
  pub replayed : text journal AtEnd ≡ notes_text notes
  pub gains : GainsAll (calls_of acts) seen left
  pub sent : flat_map offered_in (calls_of acts) ≡ sends_of (new_client 3000 3 0) acts
  pub unsent : flat_map refused_in (calls_of acts) ≡ flat_map unsent_in acts
