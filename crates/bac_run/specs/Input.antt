-- The lines of the input, and the acts of each.
use Rattle.std.specs.{List.{AllByRecursion, flat_map}, Prelude.{[], Err, false, if◌then◌else◌, length, List, None, Ok}}
use Rattle.std.specs.Prelude.{Option, option_map, Result, Some, unwrap_or, ℕ, ◌&&◌, ◌++◌, ◌<◌, ◌==◌, ◌∷◌, ◌≡◌, ◌≢◌, ◌≤◌}
use Rattle.std.specs.Prelude.{◌⊎◌}
use Rattle.{bac_tsm.specs.Ask, bac_text.specs.longest_line, bac_print.specs.Gave}
use Rattle.{bac_print.specs.declared.checked.Checked.Checked, bac_script.specs.{Blank, Happens, ReaderStands, Remark}}
use Rattle.bac_script.specs.{Said, said, declared.input.Reading.{Reading, TheVariants.{AtEnd, Failed, Open}}}
use Rattle.bac_script.specs.declared.{line.LineFault.{LineFault, TheVariants.{Bad, TooLong}}, tracing.TraceEnd.TraceEnd}
use Rattle.bac_script.specs.{declared.tracing.TraceFault.{TraceFault, TheVariants.BadLine}, Limits.line_room}
use Rattle.{bac_script.specs.Script.fault_at, bac_run.specs.{declared.fault.RunFault.RunFault, Journal.{Act, Asked}}}
use Rattle.bac_run.specs.{Journal.{ends_with_return, NoLine, Paused, Rested, Sought, Took}, Own.{act_of, own_of}}

-- The acts of a line with this meaning: at a line without words the run waits, at a remark it does nothing, and a
-- request is made. Any other line is bad.
abbrev pub acts_of_said : List ℕ → Said → Option (List Act)
acts_of_said line Blank = Some (Paused ∷ [])
acts_of_said line Remark = Some []
acts_of_said line (Happens (Ask peer service body)) = Some (Asked line (Ask peer service body) ∷ [])
acts_of_said line _ = None

-- A request to 0.0.0.0, which is the address of no device, is a bad line.
abbrev pub addressed : Result Said LineFault → Result Said LineFault
addressed (Ok (Happens (Ask peer service body))) =
    if peer.ip == 0 then Err Bad else Ok (Happens (Ask peer service body))
addressed result = result

-- The meaning of a line, which never has settings. A line of 4,096 octets without a line feed that ends with a carriage
-- return is too long: its line in the journal would have one more.
abbrev pub said_of : List ℕ → Result Said LineFault
said_of line =
    if length line == longest_line && ends_with_return line then Err TooLong else addressed (said false line)

-- The acts of a line with this result of a script's reader. A line that a script does not have may be `who` or `wait`.
abbrev pub acts_of_result : List ℕ → Result Said LineFault → Option (List Act)
acts_of_result line (Ok what) = acts_of_said line what
acts_of_result line (Err Bad) = option_map (λ own. act_of own ∷ []) (own_of line)
acts_of_result line (Err TooLong) = None

-- The acts of a line, if it is not bad.
abbrev pub acts_of_line : List ℕ → Option (List Act)
acts_of_line line = acts_of_result line (said_of line)

-- The fault of a line that is bad or too long, with its number.
abbrev pub fault_of_said : ℕ → Result Said LineFault → TraceFault
fault_of_said n (Ok one) = BadLine n
fault_of_said n (Err fault) = fault_at n fault

abbrev pub fault_of_line : ℕ → List ℕ → TraceFault
fault_of_line n line = fault_of_said n (said_of line)

abbrev pub acts_or_none : List ℕ → List Act
acts_or_none line = unwrap_or (acts_of_line line) []

-- The acts that come from lines of the input.
abbrev pub input_in : Act → List Act
input_in (Asked line event) = Asked line event ∷ []
input_in Paused = Paused ∷ []
input_in (Sought to octets) = Sought to octets ∷ []
input_in (Rested time) = Rested time ∷ []
input_in _ = []

abbrev pub inputs_in : List Act → List Act
inputs_in = flat_map input_in

-- None of these is a line feed (10).
abbrev pub HasNoFeed : List ℕ → Type 0
HasNoFeed = AllByRecursion (λ octet. octet ≢ 10)

-- The line ends with its only line feed.
abbrev pub EndsWithFeed : List ℕ → Type 0
EndsWithFeed line = (text : List ℕ) × HasNoFeed text × (line ≡ text ++ 10 ∷ [])

-- The line is not bad.
abbrev pub IsGood : List ℕ → Type 0
IsGood line = acts_of_line line ≢ None

-- A line is whole: it ends with its only line feed, or has as many octets as a line that is too long.
abbrev pub IsWholeLine : List ℕ → Type 0
IsWholeLine line = (EndsWithFeed line × (length line ≤ line_room)) ⊎ (HasNoFeed line × (length line ≡ line_room))

-- No whole line is among these octets.
abbrev pub HasNoWhole : List ℕ → Type 0
HasNoWhole octets = HasNoFeed octets × (length octets < line_room)

-- The last line may lack its line feed: once reading has ended, the line is all that is left.
abbrev pub IsLast : Reading → (line rest : List ℕ) → Type 0
IsLast reading line rest = (reading ≡ AtEnd) × (rest ≡ []) × HasNoWhole line × (line ≢ [])

-- No line is left: reading has ended, and all octets were taken; or it failed, and no whole line is left.
abbrev pub IsUsedUp : Reading → List ℕ → Type 0
IsUsedUp Open octets = ⊥
IsUsedUp AtEnd octets = octets ≡ []
IsUsedUp Failed octets = HasNoWhole octets

-- The acts by which a run takes its input.
abbrev pub feed_in : Act → List Act
feed_in (Took line) = Took line ∷ []
feed_in (NoLine reading) = NoLine reading ∷ []
feed_in _ = []

abbrev pub feeds_in : List Act → List Act
feeds_in = flat_map feed_in

-- These acts take these octets, one whole line after another, and leave the kept ones; `reading` is the state at the
-- end.
abbrev pub Feeds : Reading → (given kept : List ℕ) → List Act → Type 0
Feeds reading given kept [] = given ≡ kept
Feeds reading given kept (Took line ∷ later) = (rest : List ℕ) × (given ≡ line ++ rest)
    × (IsWholeLine line ⊎ IsLast reading line rest) × Feeds reading rest kept later
Feeds reading given kept (NoLine over ∷ later) = (over ≡ reading) × IsUsedUp over given
    × Feeds reading given kept later
Feeds reading given kept (act ∷ later) = ⊥

-- The lines that acts take.
abbrev pub line_in : Act → List (List ℕ)
line_in (Took line) = line ∷ []
line_in _ = []

abbrev pub lines_in : List Act → List (List ℕ)
lines_in = flat_map line_in

-- With this result all acts of these lines were done, in their order, and no line is left; or only the first of these
-- acts were done.
abbrev pub AllDone : Result TraceEnd RunFault → (taken : List (List ℕ)) → (kept : List ℕ) → (acts : List Act) → Type 0
AllDone (Ok end) taken kept acts = (inputs_in acts ≡ flat_map acts_or_none taken) × AllByRecursion IsGood taken
    × (kept ≡ []) × (end.lines ≡ length taken)
AllDone (Err fault) taken kept acts = (rest : List Act) × (flat_map acts_or_none taken ≡ inputs_in acts ++ rest)

-- The octets of the reader are the lines that the acts take, one after another, and the kept octets; reading has this
-- state at the end; and the acts of the lines were done.
pub record TakesLines {R : Type 0} (remaining : R → Option (List ℕ)) (reader reader' : Checked R) (acts : List Act)
    (result : Result TraceEnd RunFault) : Type 0 where
  pub given : List ℕ
  pub kept : List ℕ
  pub reading : Reading
  pub gave : Gave remaining reader reader' given
  pub stands : ReaderStands remaining reading reader reader' []
  pub feeds : Feeds reading given kept (feeds_in acts)
  pub all_done : AllDone result (lines_in acts) kept acts
