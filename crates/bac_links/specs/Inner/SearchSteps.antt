-- One turn of a search.
use Rattle.std.specs.List.{flat_map}
use Rattle.std.specs.Prelude.{[], Bool, Err, length, List, nat_lt, Ok, Option, Result, ℕ, ◌++◌, ◌∷◌, ◌≡◌, ◌≢◌}
use Rattle.{bac_pdu.specs.{declared.discovery.WhoIs.WhoIs, Found.Found}, bac_text.specs.declared.jobs.Search.Search}
use Rattle.bac_print.specs.{Took, declared.checked.Checked.Checked}
use Rattle.bac_links.specs.declared.fault.ToolFault.{ToolFault, TheVariants.{ReceiveFailed, SendFailed, TurnsSpent}}
use Rattle.bac_links.specs.{declared.fault.ToolFault.TheVariants.WriteFailed, History.{Account, Failure, Gains, Heard}}
use Rattle.bac_links.specs.{History.Waited, Limits.turn_wait, Search.{found_by, found_line}}

-- How long a turn waits.
abbrev pub search_wait : Search → ℕ
search_wait search = turn_wait search.timeout

abbrev pub found_lines : List Found → List ℕ
found_lines = flat_map found_line

abbrev pub has_found : List Found → Bool
has_found found = nat_lt 0 (length found)

module _ {Origin W : Type 0} (who : WhoIs) (wait : ℕ) (contents : W → Option (List ℕ)) (before after : Checked W)
    (seen left : Account Origin) where
  -- A wait has this result, and the lines of the devices found in it are printed.
  pub record Finds (any : Bool) : Type 0 where
    pub heard : Heard
    pub gains : Gains (Waited wait heard) seen left
    pub received : heard ≢ Failure
    pub any_is : any ≡ has_found (found_by who (Waited wait heard))
    pub printed : Took contents before after (found_lines (found_by who (Waited wait heard)))

  -- A wait fails.
  pub record ListenFails : Type 0 where
    pub gains : Gains (Waited wait Failure) seen left
    pub unprinted : Took contents before after []

  -- A wait has this result, and the beginning of the line of the device found in it is printed.
  pub record FindsHalf : Type 0 where
    pub heard : Heard
    pub gains : Gains (Waited wait heard) seen left
    pub last : Found
    pub finds : found_by who (Waited wait heard) ≡ last ∷ []
    pub taken : List ℕ
    pub rest : List ℕ
    pub line : found_line last ≡ taken ++ rest
    pub printed : Took contents before after taken

  -- The result of a wait, and what is printed for it.
  abbrev pub Listens : Result Bool ToolFault → Type 0
  Listens (Ok any) = Finds any
  Listens (Err SendFailed) = ⊥
  Listens (Err ReceiveFailed) = ListenFails
  Listens (Err TurnsSpent) = ⊥
  Listens (Err WriteFailed) = FindsHalf
