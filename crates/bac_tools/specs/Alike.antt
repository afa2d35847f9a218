-- When two runs of the program with the same words are alike.
use Rattle.std.specs.{declared.io.ErrorKind.ErrorKind, Prelude.{[], Bool, false, is_some, IsErrAnd, IsTrue, List, Ok}}
use Rattle.std.specs.{Prelude.{Option, option_and_then, Result, Some, ℕ, ⊤, ◌++◌, ◌<◌, ◌≡◌, ◌⊎◌}, Result.result_ok}
use Rattle.clap.specs.Words.{Text}
use Rattle.bac_print.specs.{fresh, has_failed, octets_of, reads_of, declared.checked.Checked.Checked}
use Rattle.bac_script.specs.{GaveSame, IsFrontOf, Alike.GaveFront, Input.most_reads}
use Rattle.bac_links.specs.{Account, answers_of, Entry, Answered.GoOnAlike}
use Rattle.{bac_run.specs.declared.fault.RunFault.TheVariants.Script, bac_words.specs.IsRefusal}
use Rattle.bac_words.specs.declared.{faults.UsageFault.{UsageFault, TheVariants.Memory}, job.Job.{Job, TheVariants.Run}}
use Rattle.bac_tools.specs.declared.{program.{Binding.Binding, Ran.Ran}, report.{Fault.Fault, Report.Report}}
use Rattle.bac_tools.specs.{Outside.Outside, Program.{IsRun, Program}}
use Rattle.bac_script.specs.declared.tracing.TraceFault.TheVariants as stops
use Rattle.bac_links.specs.declared.fault.ToolFault.TheVariants as tools
use Rattle.bac_tools.specs.declared.report.Fault.TheVariants as faults

-- The network gave a socket.
abbrev pub is_socket : {L F : Type 0} → Option (Result L F) → Bool
is_socket opened = is_some (option_and_then result_ok opened)

-- The entries that were added to the history of the socket.
abbrev pub Gained : {Origin L F : Type 0} → (L → Account Origin) → Option (Result L F) → Option (Result L F)
    → List Entry → Type 0
Gained seen (Some (Ok link)) (Some (Ok link')) gained = (seen link').history ≡ (seen link).history ++ gained
Gained seen opened opened' gained = gained ≡ []

-- A run was cut off if it reports one of these faults: there was no memory for its words, or its writer failed.
abbrev pub CutsOff : Option Fault → Type 0
CutsOff (Some (faults.Usage Memory)) = ⊤
CutsOff (Some (faults.Tool tools.WriteFailed)) = ⊤
CutsOff (Some (faults.Trace stops.WriteFailed)) = ⊤
CutsOff (Some (faults.Run (Script stops.WriteFailed))) = ⊤
CutsOff _ = ⊥

-- The run with this report was cut off.
abbrev pub IsCutOff : Report → Type 0
IsCutOff report = CutsOff report.fault

-- A run with this report printed these octets of a text: all of it, or the beginning of it if the run was cut off.
abbrev pub IsPrinted : (printed text : List ℕ) → Report → Type 0
IsPrinted printed text report = (printed ≡ text) ⊎ (IsCutOff report × IsFrontOf printed text)

-- A whole run with these words, and the calls and answers of its socket.
pub record ProgramRun {N Origin L F R W : Type 0} (gives : N → Binding → Result L F → Type 0)
    (out : Outside Origin L R W) (words : List Text) : Type 0 where
  pub network : N
  pub reader : R
  pub reader' : Checked R
  pub writer : W
  pub writer' : Checked W
  pub ran : Ran N L F
  pub program : Program gives out network (fresh reader) reader' (fresh writer) writer' ran words
  pub gained : List Entry
  pub gains : Gained out.seen program.opened ran.socket gained

-- The words ask for many requests (`bacrun`).
abbrev pub IsBatch : Result Job UsageFault → Type 0
IsBatch (Ok (Run batch)) = ⊤
IsBatch _ = ⊥

-- The reader can be read on: it has not failed, and its reads are not spent.
abbrev pub IsReadable : {R : Type 0} → Checked R → Type 0
IsReadable reader = (has_failed reader ≡ false) × (reads_of reader < most_reads)

-- A run was cut off. Its reader gave only the first octets of the other reader, and has not ended. For many requests,
-- which wait if a reader fails, the reader could also be read on.
pub record IsCutShort {R S : Type 0} (report : Report) (answer : Result Job UsageFault) (reader : Checked R)
    (other : Checked S) : Type 0 where
  pub cut : IsCutOff report
  pub gave : GaveFront reader other
  pub reads : IsBatch answer → IsReadable reader

-- A whole call of the program, with the message at its end.
pub record CalledRun {N Origin L F R W E : Type 0} (gives : N → Binding → Result L F → Type 0)
    (out : Outside Origin L R W) (contents : E → Option (List ℕ)) (typed : Result (List Text) ErrorKind)
    : Type 0 where
  pub network : N
  pub reader : Checked R
  pub reader' : Checked R
  pub writer : Checked W
  pub writer' : Checked W
  pub errors : Checked E
  pub errors' : Checked E
  pub ran : Ran N L F
  pub run : IsRun gives out contents network reader reader' writer writer' errors errors' ran typed

module _ {N Origin L F R W M Other K G S V : Type 0} {gives : N → Binding → Result L F → Type 0}
    {out : Outside Origin L R W} {gives' : M → Binding → Result K G → Type 0} {out' : Outside Other K S V}
    {words : List Text}
    (one : ProgramRun gives out words) (other : ProgramRun gives' out' words) where
  -- If neither run was cut off, they have the same report. If `clap` does not accept the words, each reports help or
  -- refused words instead, with an error that `clap` may give for these words.
  abbrev pub EndAlike : Report → Report → Type 0
  EndAlike report other_report = (IsCutOff report → ⊥) → (IsCutOff other_report → ⊥) →
      (report ≡ other_report) ⊎ (IsErrAnd one.program.answer (IsRefusal words)
      × IsErrAnd other.program.answer (IsRefusal words))

  -- Both printed one text, or the beginning of it if they were cut off.
  abbrev pub PrintAlike : Report → Report → Type 0
  PrintAlike report other_report = (text : List ℕ) × IsPrinted (octets_of one.writer') text report
      × IsPrinted (octets_of other.writer') text other_report

  module _ (first rest other_first other_rest : List Entry) where
    -- Three facts about two runs. If both asked for a socket, both had one or neither had. The sockets were answered
    -- alike so far. The readers gave the same octets and met their end as often, or the reader of a run that was cut
    -- off gave the first of these octets.
    pub record AreGivenAlike : Type 0 where
      pub socket : IsTrue (is_some one.program.opened) → IsTrue (is_some other.program.opened)
          → is_socket one.program.opened ≡ is_socket other.program.opened
      pub gained : one.gained ≡ first ++ rest
      pub other_gained : other.gained ≡ other_first ++ other_rest
      pub answers : answers_of first ≡ answers_of other_first
      pub read : GaveSame one.reader' other.reader'
          ⊎ IsCutShort one.ran.report one.program.answer one.reader' other.reader'
          ⊎ IsCutShort other.ran.report other.program.answer other.reader' one.reader'

    -- The runs made the same calls and sends so far, and go on alike.
    pub record AreAlike : Type 0 where
      pub asked : first ≡ other_first
      pub goes_on : GoOnAlike IsCutOff EndAlike PrintAlike one.ran.report other.ran.report rest other_rest
