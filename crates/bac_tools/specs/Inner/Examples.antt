-- Runs of the program, for examples of its definitions: words, networks, streams and reports.
use Rattle.std.specs.declared.net.socket_addr.SocketAddr.{SocketAddr, TheVariants.V4}
use Rattle.std.specs.Prelude.{[], codes, Err, false, length, List, None, Ok, Option, refl, Result, Some, ℕ, ◌∷◌, ◌≡◌}
use Rattle.{clap.specs.Words.Text, bac_text.specs.words_of, bac_links.specs.Silence}
use Rattle.bac_print.specs.{fresh, declared.checked.Checked.Checked, StreamCall.{ReadCall, WriteCall}}
use Rattle.{bac_script.specs.declared.tracing.TraceEnd.TraceEnd, bac_links.specs.{Account, Bind, Entry, Failure, Timed}}
use Rattle.bac_links.specs.{Waited, declared.fault.ToolFault.TheVariants.ReceiveFailed}
use Rattle.{bac_links.specs.SystemCall.{Limit, SystemCall}, bac_run.specs.declared.fault.RunFault.RunFault}
use Rattle.bac_words.specs.declared.faults.UsageFault.TheVariants.{Memory}
use Rattle.bac_words.specs.declared.job.{Batch.Batch, Tool.{Tool, TheVariants.Device}}
use Rattle.bac_tools.specs.{Alike.ProgramRun, declared.{program.{Binding.Binding, Ran.Ran}, report.Report.Report}}
use Rattle.bac_tools.specs.{Outside.Outside, Report.{report_of, tool_report, trace_report}}
use mathlib.Core.Logic.{inl}
use Rattle.bac_tools.specs.declared.report.Fault.TheVariants as faults

-- A network that gives no socket.
abbrev pub gives_none : ℕ → Binding → Result ℕ ℕ → Type 0
gives_none network binding opened = ⊥

-- A network that may give any socket, or none.
abbrev pub gives_any : ℕ → Binding → Result ℕ ℕ → Type 0
gives_any network binding opened = Unit {0}

-- Links without any call, and readers and writers whose octets are not known.
abbrev pub unknown : Outside ℕ ℕ ℕ ℕ
unknown = record {
  seen = λ link. record { made = 0; history = [] };
  failed = λ link. false;
  remaining = λ reader. None;
  contents = λ writer. None;
}

-- The run that had no memory for its words.
abbrev pub forgotten : ProgramRun gives_none unknown []
forgotten = record {
  network = 0;
  reader = 0;
  reader' = fresh 0;
  writer = 0;
  writer' = fresh 0;
  ran = record { report = report_of (faults.Usage Memory); socket = None; unasked = Some 0 };
  program = record {
    answer = Err Memory;
    answered = inl tt;
    opened = None;
    given = refl;
    ends = (refl, refl, refl);
    unasked = refl;
  };
  gained = [];
  gains = refl;
}

-- One entry for a reading of the clock.
abbrev pub one_time : List Entry
one_time = Timed 0 ∷ []

-- One entry for a wait in silence.
abbrev pub one_wait : List Entry
one_wait = Waited 50 Silence ∷ []

-- ---- words, reports and streams

-- The reports that the words could not be read, that there is no socket, and that a receive failed.
abbrev pub no_text : Report
no_text = report_of faults.NoText

abbrev pub no_socket : Report
no_socket = report_of (faults.Link record {})

abbrev pub not_received : Report
not_received = tool_report (Err ReceiveFailed)

-- The result of words that asked for no socket, over a network with this number.
abbrev pub ran_without : Report → Option ℕ → Ran ℕ ℕ ℕ
ran_without report unasked = record { report = report; socket = None; unasked = unasked }

-- A reader or writer with no call yet, and one that took these octets.
abbrev pub unasked : Checked ℕ
unasked = fresh 0

abbrev pub having : List ℕ → Checked ℕ
having octets = record {
  inner = record {
    stream = 0;
    transcript = record { of = record {}; items = WriteCall octets (Ok (length octets)) ∷ [] };
  };
  failed = false;
  reads = 0;
}

-- Any stream, with unknown octets.
abbrev pub no_contents : ℕ → Option (List ℕ)
no_contents stream = None

-- The messages of these reports.
abbrev pub told_no_text : Checked ℕ
told_no_text = having (codes "bactool: words that are not UTF-8\n")

abbrev pub told_no_socket : Checked ℕ
told_no_socket = having (codes "bactool: bind failed\n")

abbrev pub told_failed : Checked ℕ
told_failed = having (codes "bactool: receiving failed\n")

-- The report of a script that ended well.
abbrev pub well : Report
well = trace_report (Ok (record { lines = 0 }))

-- Words of a read after the name of the tool. The address of their peer is invalid.
abbrev pub bad_words : List Text
bad_words = words_of (codes "1234 0 5 85 --mac 192.0.2")

-- The command line with these words, and that of a script.
abbrev pub bad_read_words : List Text
bad_read_words = words_of (codes "bactool bacrp 1234 0 5 85 --mac 192.0.2")

abbrev pub script_words : List Text
script_words = words_of (codes "bactool bactrace")

-- ---- a device whose first wait fails

-- The command line of a device, and its job.
abbrev pub device_words : List Text
device_words = words_of (codes "bactool bacdev 1234")

abbrev pub device : Tool
device = Device (record {
  info = record { instance = 1234; name = codes "Small device" };
  port = 47808;
  count = 65535;
})

-- The calls and answers of the device's link, and the seen state of a link with them.
abbrev pub deaf : List Entry
deaf = Waited 1000 Failure ∷ []

abbrev pub asked_so : List Entry → Account ℕ
asked_so history = record { made = 0; history = history }

-- 0.0.0.0 at this port, and 127.0.0.1; and the calls of the system for a link whose time limit could not be set.
abbrev pub any_at : ℕ → SocketAddr
any_at port = V4 (record { ip = record { octets = 0 ∷ 0 ∷ 0 ∷ 0 ∷ [] }; port = port })

abbrev pub loopback : SocketAddr
loopback = V4 (record { ip = record { octets = 127 ∷ 0 ∷ 0 ∷ 1 ∷ [] }; port = 47808 })

abbrev pub deaf_calls : List SystemCall
deaf_calls = Bind (any_at 47808) ∷ Limit 1000000000 false ∷ []

-- ---- networks

-- A network whose sockets all have the number 0, at this port of each address; their seen state; and their calls.
pub record GivesThat (network : ℕ) (binding : Binding) (opened : Result ℕ ℕ) : Type 0 where
  pub at : binding.at ≡ record { ip = 0; port = 47808; route = None }
  pub link : opened ≡ Ok 0

abbrev pub nothing_asked : ℕ → Account ℕ
nothing_asked link = asked_so []

abbrev pub one_bind : ℕ → List SystemCall
one_bind link = Bind (any_at 47808) ∷ []

abbrev pub no_bind : ℕ → List SystemCall
no_bind link = []

-- The reason why there is no socket: the network that is kept, and the calls of the system.
pub record InVain : Type 0 where
  pub kept : ℕ
  pub log : List SystemCall

-- A network that gives no socket, is kept, and makes these calls of the system.
abbrev pub FailsAfter : List SystemCall → ℕ → Binding → Result ℕ InVain → Type 0
FailsAfter calls network binding (Ok link) = ⊥
FailsAfter calls network binding (Err none) = none ≡ record { kept = network; log = calls }

-- The result if the network gave no socket and made no call; this network was handed back.
abbrev pub ran_in_vain : ℕ → Ran ℕ ℕ InVain
ran_in_vain kept =
    record { report = no_socket; socket = Some (Err (record { kept = kept; log = [] })); unasked = None }

-- ---- many requests

-- The settings of many requests with this timeout, at most one of which is open.
abbrev pub batch_of : (timeout : ℕ) → Batch
batch_of timeout = record { timeout = timeout; retries = 3; port = 0; window = 1 }

-- A reader that met its end at the first read, and the answer after this number of lines.
abbrev pub drained : Checked ℕ
drained = record {
  inner = record { stream = 0; transcript = record { of = record {}; items = ReadCall 4097 (Ok []) ∷ [] } };
  failed = false;
  reads = 1;
}

abbrev pub read_to_end : ℕ → Result TraceEnd RunFault
read_to_end lines = Ok (record { lines = lines })

-- A writer that took the journal of no request.
abbrev pub empty_journal : Checked ℕ
empty_journal = having (codes "client 3000 3 0\n# end of the run\n")
