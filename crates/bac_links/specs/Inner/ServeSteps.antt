-- One wait of a server, and the reply to its datagram.
use Rattle.std.specs.{List.flat_map, Option.option_to_list}
use Rattle.std.specs.Prelude.{[], Err, length, List, map, Ok, Option, Result, Some, ℕ, ◌∷◌, ◌≡◌, ◌≢◌}
use Rattle.{bac_pdu.specs.Station, bac_device.specs.{Arrival, DeviceState}}
use Rattle.bac_links.specs.declared.fault.ToolFault.{ToolFault}
use Rattle.bac_links.specs.declared.fault.ToolFault.TheVariants.{ReceiveFailed, SendFailed, TurnsSpent, WriteFailed}
use Rattle.bac_links.specs.History.{Account, Entry, Failure, Gains, GainsAll, Heard, Posted, Unposted, Waited}
use Rattle.bac_links.specs.{Limits.serve_wait, Serve.{came_by, device_behind, replies_of}}

-- The datagram of a wait with this result, if it has one.
abbrev pub brought_by : Heard → List Arrival
brought_by heard = came_by (Waited serve_wait heard)

-- The device after a wait with this result.
abbrev pub LeavesDevice : DeviceState → Heard → DeviceState → Type 0
LeavesDevice before heard after = after ≡ device_behind before (brought_by heard)

-- The sends of these replies.
abbrev pub sends_of : List (Option (Station × List ℕ)) → List Entry
sends_of replies = map (λ ((to, octets) : Station × List ℕ). Posted to octets) (flat_map option_to_list replies)

module _ {Origin : Type 0} (before after : DeviceState) (seen left : Account Origin) where
  -- A wait had this result, and the reply to it was sent, if there is one.
  pub record TakesTurn (brought replied : ℕ) : Type 0 where
    pub heard : Heard
    pub leaves : LeavesDevice before heard after
    pub received : heard ≢ Failure
    pub came : brought ≡ length (brought_by heard)
    pub sent : replied ≡ length (sends_of (replies_of before (brought_by heard)))
    pub gains : GainsAll (Waited serve_wait heard ∷ sends_of (replies_of before (brought_by heard))) seen left

  -- A wait had this result, and the reply to it could not be sent.
  pub record LosesReply : Type 0 where
    pub heard : Heard
    pub to : Station
    pub octets : List ℕ
    pub leaves : LeavesDevice before heard after
    pub received : heard ≢ Failure
    pub replies : replies_of before (brought_by heard) ≡ Some (to, octets) ∷ []
    pub gains : GainsAll (Waited serve_wait heard ∷ Unposted to octets ∷ []) seen left

  -- A wait failed.
  pub record WaitFails : Type 0 where
    pub same : after ≡ before
    pub gains : Gains (Waited serve_wait Failure) seen left

  -- One wait, and the reply to its datagram.
  abbrev pub ServesTurn : Result (ℕ × ℕ) ToolFault → Type 0
  ServesTurn (Ok (brought, replied)) = TakesTurn brought replied
  ServesTurn (Err SendFailed) = LosesReply
  ServesTurn (Err ReceiveFailed) = WaitFails
  ServesTurn (Err TurnsSpent) = ⊥
  ServesTurn (Err WriteFailed) = ⊥
