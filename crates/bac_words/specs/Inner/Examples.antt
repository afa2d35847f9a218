-- Command lines for the examples.
use Rattle.std.specs.Prelude.{List, None, Result, ℕ}
use Rattle.{bac_pdu.specs.declared.peer.Peer.Peer, bac_text.specs.{words_of, declared.jobs.Call.Call}}
use Rattle.bac_words.specs.{declared.{faults.UsageFault.UsageFault, job.Job.Job}, Line.Answers}

-- `clap` accepts the words of this line, and they give this job or this fault.
abbrev pub IsOrdered : List ℕ → Result Job UsageFault → Type 0
IsOrdered line answer = Answers (words_of line) answer

-- 192.0.2.7, at this port.
abbrev pub at_port : ℕ → Peer
at_port port = record { ip = 0xc0000207; port = port; route = None }

-- A request to 192.0.2.7 with this service body: its timeout is three seconds, it is sent up to three times again, from
-- any port.
abbrev pub usual : List ℕ → Call
usual body =
    record { to = at_port 47808; timeout = 3000; retries = 3; port = 0; body = record { items = body } }
