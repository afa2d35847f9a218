-- A search for devices: its moves, the devices that it finds, its text, and its end.
use Rattle.std.specs.{List.flat_map, Option.option_to_list}
use Rattle.std.specs.Prelude.{[], decimal, Err, false, if◌then◌else◌, length, List, max, nat_le, nat_lt, None, Ok}
use Rattle.std.specs.Prelude.{Option, Result, Some, suc, zero, ℕ, ◌++◌, ◌-◌, ◌∷◌, ◌≡◌}
use Rattle.bac_pdu.specs.{laid_out, station, unconfirmed, wrapped, declared.discovery.WhoIs.WhoIs}
use Rattle.bac_pdu.specs.{Discovery.who_is_octets, Found.{Found, found_of}}
use Rattle.bac_text.specs.declared.jobs.Search.{Search}
use Rattle.bac_print.specs.{peer_text, Took, declared.checked.Checked.Checked}
use Rattle.bac_links.specs.Asking.{Asks, Follows, ForTime, Move, Over, Plays, times_in, ToSend, turn_after, waits_in}
use Rattle.bac_links.specs.declared.exit.Exit.{Exit, TheVariants.{Bad, Good}}
use Rattle.bac_links.specs.declared.fault.ToolFault.{ToolFault, TheVariants.{ReceiveFailed, SendFailed, WriteFailed}}
use Rattle.bac_links.specs.History.{Account, Arrived, Entry, Failure, GainsAll, Heard, Offered, Posted, Timed, Unposted}
use Rattle.bac_links.specs.History.{Waited}
use Rattle.bac_links.specs.Limits.{turn_wait}

-- The device that an entry finds, if there is one.
abbrev pub found_by : WhoIs → Entry → List Found
found_by who (Waited wait (Arrived from octets)) = option_to_list (found_of who from octets)
found_by who _ = []

-- The line that is printed for a device.
abbrev pub found_line : Found → List ℕ
found_line found =
    decimal found.device.device.instance
    ++ 32 ∷ (peer_text found.peer
    ++ 32 ∷ (decimal found.device.max_apdu
    ++ 32 ∷ (decimal found.device.segmentation
    ++ 32 ∷ (decimal found.device.vendor ++ 10 ∷ []))))

-- The greatest of these times.
abbrev pub greatest_of : ℕ → List ℕ → ℕ
greatest_of greatest [] = greatest
greatest_of greatest (time ∷ later) = greatest_of (max greatest time) later

-- The time that has passed: the greatest of these times minus the first.
abbrev pub passed_in : List ℕ → ℕ
passed_in [] = 0
passed_in (first ∷ later) = greatest_of first later - first

module _ (search : Search) where
  -- The Who-Is (8), which is sent once (clause 16.10).
  abbrev pub who_is_to : List ℕ
  who_is_to = wrapped (station search.to).route false (laid_out (unconfirmed 8 (who_is_octets search.who)))

  -- The devices that the waits among these entries find, in their order.
  abbrev pub found_in : List Entry → List Found
  found_in = flat_map (found_by search.who)

  -- The move after a time and this many waits. Without a wait the Who-Is is due; otherwise the search is over once the
  -- timeout has passed, and its exit is good if a device was found.
  abbrev pub behind_time : List Entry → (waits : ℕ) → Move (Result Exit ToolFault)
  behind_time gained zero = Asks (ToSend (station search.to) who_is_to)
  behind_time gained (suc n) =
      if nat_le search.timeout (passed_in (times_in gained))
      then Over (Ok (if nat_lt 0 (length (found_in gained)) then Good else Bad))
      else turn_after (turn_wait search.timeout) (suc n)

  -- The next move of a search, from the last entry: the time comes first, and after each wait.
  abbrev pub search_move : List Entry → Option Entry → Move (Result Exit ToolFault)
  search_move gained None = Asks ForTime
  search_move gained (Some (Timed time)) = behind_time gained (waits_in gained)
  search_move gained (Some (Posted to octets)) = turn_after (turn_wait search.timeout) (waits_in gained)
  search_move gained (Some (Offered to octets taken)) = turn_after (turn_wait search.timeout) (waits_in gained)
  search_move gained (Some (Unposted to octets)) = Over (Err SendFailed)
  search_move gained (Some (Waited wait Failure)) = Over (Err ReceiveFailed)
  search_move gained (Some (Waited wait heard)) = Asks ForTime

  module _ {Origin W : Type 0} (contents : W → Option (List ℕ)) (before after : Checked W)
      (seen left : Account Origin) where
    -- A search that ended, or met a fault of its link: it printed the lines of the found devices.
    pub record IsWhole (result : Result Exit ToolFault) : Type 0 where
      pub plays : Plays search_move seen left result
      pub printed : Took contents before after (flat_map found_line (found_in plays.gained))

    -- A search that was cut off: the line of the device of the last wait could not be written whole.
    pub record IsCutOff : Type 0 where
      pub earlier : List Entry
      pub wait : ℕ
      pub heard : Heard
      pub gains : GainsAll (earlier ++ Waited wait heard ∷ []) seen left
      pub follows : Follows search_move [] (earlier ++ Waited wait heard ∷ [])
      pub last : Found
      pub finds : found_by search.who (Waited wait heard) ≡ last ∷ []
      pub taken : List ℕ
      pub rest : List ℕ
      pub line : found_line last ≡ taken ++ rest
      pub printed : Took contents before after (flat_map found_line (found_in earlier) ++ taken)

    -- The text, the answer and the moves of a search: it printed the lines of the found devices, each whole before the
    -- next wait; if the writer failed, only the beginning of the last line.
    abbrev pub Searched : Result Exit ToolFault → Type 0
    Searched (Err WriteFailed) = IsCutOff
    Searched result = IsWhole result
