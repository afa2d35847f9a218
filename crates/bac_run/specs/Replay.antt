-- The journal as a script: the meaning of its lines, and the text that `bactrace` prints from it.
use Rattle.std.specs.List.{AllByRecursion}
use Rattle.std.specs.Prelude.{[], Bool, Err, false, List, Ok, Result, true, ℕ, ⊤, ◌++◌, ◌∷◌, ◌≡◌, ◌≢◌}
use Rattle.{bac_pdu.specs.Station, bac_tsm.specs.{Data, Tick, Client.Client}, bac_script.specs.Happens}
use Rattle.bac_script.specs.{Blank, Said, said, Settings, declared.tracing.TraceFault.TheVariants.WriteFailed}
use Rattle.bac_links.specs.{Entry, Offered, Posted, Unposted, Asking.question_of}
use Rattle.bac_run.specs.declared.{fault.RunFault.{RunFault, TheVariants.Script}, setup.Setup.Setup}
use Rattle.bac_run.specs.Journal.{Act, Asked, Came, Handed, line_of, Paused, sends_at, settings_line, Told, turn_at}

-- The text is one line, with its only line feed (10) at its end, and has this meaning. The flag says whether it may
-- have settings.
pub record IsLineOf (is_first : Bool) (line : List ℕ) (what : Said) : Type 0 where
  pub text : List ℕ
  pub no_feed : AllByRecursion (λ octet. octet ≢ 10) text
  pub ended : line ≡ text ++ 10 ∷ []
  pub says : said is_first line ≡ Ok what

-- `bactrace` reads the line of an act as the event that the client got.
abbrev pub IsReplayed : Act → Type 0
IsReplayed (Asked line event) = IsLineOf false (line_of (Asked line event)) (Happens event)
IsReplayed Paused = IsLineOf false (line_of Paused) Blank
IsReplayed (Came wait from octets) = IsLineOf false (line_of (Came wait from octets)) (Happens (Data from octets))
IsReplayed (Told time) = IsLineOf false (line_of (Told time)) (Happens (Tick time))
IsReplayed _ = Unit {0}

-- The settings of a setup are read as settings.
abbrev pub AreSettings : Setup → Type 0
AreSettings setup = IsLineOf true (settings_line setup.config.timeout setup.config.retries)
    (Settings setup.config.timeout setup.config.retries 0)

-- The datagram that was sent or offered in a call of the link, with its receiver; and that which the link refused.
abbrev pub offered_in : Entry → List (Station × List ℕ)
offered_in (Offered to octets taken) = (to, octets) ∷ []
offered_in (Posted to octets) = (to, octets) ∷ []
offered_in (Unposted to octets) = (to, octets) ∷ []
offered_in _ = []

abbrev pub refused_in : Entry → List (Station × List ℕ)
refused_in (Offered to octets false) = (to, octets) ∷ []
refused_in (Unposted to octets) = (to, octets) ∷ []
refused_in _ = []

-- The datagrams of these acts with this client: those of the remarks `who` and `send`.
abbrev pub sends_of : Client → List Act → List (Station × List ℕ)
sends_of client [] = []
sends_of client (act ∷ later) = sends_at client act ++ sends_of (turn_at client act).after later

-- The datagram of a remark `unsent`.
abbrev pub unsent_in : Act → List (Station × List ℕ)
unsent_in (Handed to octets false) = (to, octets) ∷ []
unsent_in _ = []

-- With this result all due datagrams were offered, in order. If the writer failed, later ones may be left.
abbrev pub AreOffered : {A D : Type 0} → Result A RunFault → (due offered : List D) → Type 0
AreOffered {D = D} (Err (Script WriteFailed)) due offered = (later : List D) × (due ≡ offered ++ later)
AreOffered _ due offered = offered ≡ due

-- The next entries of two runs have the same call, if both go on.
abbrev pub AskNext : (rest other_rest : List Entry) → Type 0
AskNext (entry ∷ later) (other ∷ others) = question_of entry ≡ question_of other
AskNext rest other_rest = ⊤
