-- The scripts of examples, whose peers are all at 127.0.0.1; and readers.
use Rattle.std.specs.Prelude.{[], Bool, codes, false, length, List, None, Ok, Result, true, ℕ, ◌++◌, ◌∷◌}
use Rattle.bac_pdu.specs.{Station}
use Rattle.bac_print.specs.{declared.checked.Checked.Checked, StreamCall.{ReadCall, StreamCall, WriteCall}}
use Rattle.bac_script.specs.declared.input.Reading.TheVariants.{AtEnd}
use Rattle.bac_script.specs.{declared.tracing.{TraceEnd.TraceEnd, TraceFault.TraceFault}, Script.ScriptRuns}
use Prim.Native.String.{String}

-- Each line with its line feed.
abbrev pub lined : List String → List ℕ
lined [] = []
lined (line ∷ later) = codes line ++ 10 ∷ lined later

-- A script of these lines, read to its end, prints the second lines and has this result.
abbrev pub IsTraced : List String → List String → Result TraceEnd TraceFault → Type 0
IsTraced script printed answer = ScriptRuns (lined script) AtEnd (lined printed) answer

-- The script ends after this number of lines.
abbrev pub ended : ℕ → Result TraceEnd TraceFault
ended count = Ok (record { lines = count })

-- The present value (85) of analog-input 5 is read.
abbrev pub read : String
read = "read 127.0.0.1 0 5 85"

-- The request is sent.
abbrev pub sent : String
sent = "send 0 127.0.0.1:47808 810a001101040005010c0c000000051955"

-- The answer with the value 72.3, a Real.
abbrev pub answer : String
answer = "data 127.0.0.1 810a0017010030010c0c0000000519553e444290999a3f"

-- The address of all peers, at port 47808.
abbrev pub desk : Station
desk = record { ip = 0x7f000001; port = 47808; route = None }

-- A reader with these calls, that failed or not, and with this number of reads.
abbrev pub asked_for : List StreamCall → Bool → ℕ → Checked ℕ
asked_for calls failed reads = record {
  inner = record { stream = 0; transcript = record { of = record {}; items = calls } };
  failed = failed;
  reads = reads;
}

-- A reader that gave these octets in one read; one with this number of reads; and one that failed.
abbrev pub gave : List ℕ → Checked ℕ
gave octets = asked_for (ReadCall 32768 (Ok octets) ∷ []) false 1

-- A reader that gave these octets, and the octet 35 in another read.
abbrev pub gave_more : List ℕ → Checked ℕ
gave_more octets = asked_for (ReadCall 32768 (Ok octets) ∷ ReadCall 32768 (Ok (35 ∷ [])) ∷ []) false 2

-- A writer that took these octets, and refused the next one.
abbrev pub full_after : List ℕ → Checked ℕ
full_after octets =
    asked_for (WriteCall octets (Ok (length octets)) ∷ WriteCall (1 ∷ []) (Ok 0) ∷ []) true 0

abbrev pub has_read : ℕ → Checked ℕ
has_read = asked_for [] false

abbrev pub broken : Checked ℕ
broken = asked_for [] true 1
