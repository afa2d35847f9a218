-- The sends over a link, from its history.
use Rattle.std.specs.Prelude.{[], Err, length, List, map, Result, true, ℕ, ◌++◌, ◌-◌, ◌∷◌, ◌≡◌}
use Rattle.{bac_pdu.specs.Station, bac_tsm.specs.Lookahead.sends, bac_text.specs.declared.jobs.Call.Call}
use Rattle.bac_links.specs.{Call.{asked, events_of, rules_for}, declared.call.Purpose.Purpose}
use Rattle.bac_links.specs.{declared.fault.ToolFault.{ToolFault, TheVariants.SendFailed}}
use Rattle.bac_links.specs.{History.{Entry, Offered, Posted}}

-- The sends after these entries, in order, each with its note. An offered datagram was sent if it was taken.
abbrev pub sent_behind : {D : Type 0} → (List Entry → Station → List ℕ → D) → (before later : List Entry) → List D
sent_behind told before [] = []
sent_behind told before (Posted to octets ∷ later) =
    told before to octets ∷ sent_behind told (before ++ Posted to octets ∷ []) later
sent_behind told before (Offered to octets true ∷ later) =
    told before to octets ∷ sent_behind told (before ++ Offered to octets true ∷ []) later
sent_behind told before (entry ∷ later) = sent_behind told (before ++ entry ∷ []) later

-- The datagrams that were sent, in order, with their receivers.
abbrev pub sent_in : List Entry → List (Station × List ℕ)
sent_in = sent_behind (λ before to octets. (to, octets)) []

-- With this result all due sends were made, or, if a send failed, all but the last.
abbrev pub AllSent : {D A : Type 0} → (due sent : List D) → Result A ToolFault → Type 0
AllSent {D} due sent (Err SendFailed) = (lost : D) × (due ≡ sent ++ lost ∷ [])
AllSent due sent _ = sent ≡ due

module _ (purpose : Purpose) (call : Call) where
  -- The sends of a call, each with the position of the last event before it.
  abbrev pub sent_at : List Entry → List (ℕ × Station × List ℕ)
  sent_at = sent_behind (λ before to octets. (length (events_of purpose call before) - 1, to, octets)) []

  -- The sends of the call's request by the look-ahead, among the events of these entries, each with its position.
  abbrev pub sends_of_call : List Entry → List (ℕ × Station × List ℕ)
  sends_of_call gained =
      map (λ position. (position, (asked purpose call).request.peer, (asked purpose call).request.octets))
      (sends (rules_for call) (events_of purpose call gained) (asked purpose call))
