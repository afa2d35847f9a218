-- Clients, stages, results and whole runs for the examples.
use Rattle.std.specs.Prelude.{[], codes, false, length, List, None, Ok, Option, replicate, Result, ℕ, ◌++◌, ◌<◌}
use Rattle.std.specs.Prelude.{true, ◌^◌, ◌∷◌}
use Rattle.{bac_pdu.specs.Station, bac_tsm.specs.{Ask, Event, new_client, Note, Sent, Client.Client}}
use Rattle.bac_print.specs.{fresh, declared.checked.Checked.Checked, StreamCall.{ReadCall, WriteCall}}
use Rattle.bac_script.specs.{declared.tracing.TraceEnd.TraceEnd}
use Rattle.bac_links.specs.{Account, Entry}
use Rattle.bac_run.specs.Course.{Aim, Broken, Outside, Stage, Turns}
use Rattle.bac_run.specs.declared.{fault.RunFault.RunFault, setup.Setup.Setup}
use Rattle.bac_run.specs.{declared.turns.Until.TheVariants.FewOpen, Run.Runs}
use Rattle.bac_run.specs.Journal.{Act, Asked, Handed, Told, turn_at}

-- 127.0.0.1, port 47808.
abbrev pub desk : Station
desk = record { ip = 0x7f000001; port = 47808; route = None }

-- A read of the present value (85) of analog-input 5: the line, the event, the act, and the sent octets.
abbrev pub read_line : List ℕ
read_line = codes "read 127.0.0.1 0 5 85\n"

abbrev pub read : Event
read = Ask desk 12 (0x0c ∷ 0x00 ∷ 0x00 ∷ 0x00 ∷ 0x05 ∷ 0x19 ∷ 0x55 ∷ [])

abbrev pub asked : Act
asked = Asked read_line read

abbrev pub octets : List ℕ
octets = 0x81 ∷ 0x0a ∷ 0x00 ∷ 0x11 ∷ 0x01 ∷ 0x04 ∷ 0x00 ∷ 0x05 ∷ 0x01 ∷ 0x0c ∷ 0x0c ∷ 0x00 ∷ 0x00 ∷ 0x00 ∷ 0x05 ∷ 0x19
    ∷ 0x55 ∷ []

abbrev pub sent : Note
sent = Sent 0 desk octets

-- The link takes that datagram.
abbrev pub handed : Act
handed = Handed desk octets true

-- The answer with the value 72.3, a Real.
abbrev pub answer : List ℕ
answer = 0x81 ∷ 0x0a ∷ 0x00 ∷ 0x17 ∷ 0x01 ∷ 0x00 ∷ 0x30 ∷ 0x01 ∷ 0x0c ∷ 0x0c ∷ 0x00 ∷ 0x00 ∷ 0x00 ∷ 0x05 ∷ 0x19 ∷ 0x55
    ∷ 0x3e ∷ 0x44 ∷ 0x42 ∷ 0x90 ∷ 0x99 ∷ 0x9a ∷ 0x3f ∷ []

-- Another answer: 4,104 bits, none of which is set.
abbrev pub long_answer : List ℕ
long_answer = (0x81 ∷ 0x0a ∷ 0x02 ∷ 0x18 ∷ 0x01 ∷ 0x00 ∷ 0x30 ∷ 0x01 ∷ 0x0c ∷ 0x0c ∷ 0x00 ∷ 0x00 ∷ 0x00 ∷ 0x05 ∷ 0x19
    ∷ 0x55 ∷ 0x3e ∷ 0x85 ∷ 0xfe ∷ 0x02 ∷ 0x02 ∷ 0x00 ∷ []) ++ (replicate 513 0 ++ 0x3f ∷ [])

-- A client with a timeout of three seconds and three retries; and the same client with that request open.
abbrev pub idle : Client
idle = new_client 3000 3 0

abbrev pub busy : Client
busy = (turn_at idle asked).after

-- The client with a second such request open.
abbrev pub busier : Client
busier = (turn_at busy asked).after

-- Outside a turn, with this many waits over since the client last got the time.
abbrev pub about : Client → (since_told : ℕ) → List Aim → Stage
about client since_told aims = record { client = client; since_told = since_told; phase = Outside; aims = aims }

-- This many turns are left until no request is open.
abbrev pub waiting : (since_told left : ℕ) → Stage
waiting since_told left = about busy since_told (Turns (FewOpen 0) left ∷ [])

-- In a wait for open requests the link could not receive.
abbrev pub deaf : Stage
deaf = record (waiting 0 9) { phase = Broken }

-- The stage once the client has got this time.
abbrev pub told_at : ℕ → Stage → Stage
told_at time stage = record stage { client = (turn_at stage.client (Told time)).after }

-- The end of the input after this many lines.
abbrev pub ended : ℕ → Result TraceEnd RunFault
ended lines = Ok (record { lines = lines })

-- ---- a whole run

-- A setup with the same settings, in which one request is open at most.
abbrev pub one_by_one : 0 < 3000 → 0 < 1 → Setup
one_by_one timed some =
    record { config = record { timeout = 3000; retries = 3; positive = timed }; window = 1; some = some }

-- Settings with a timeout of 33 bits.
abbrev pub slow : 0 < 2 ^ 32 → 0 < 1 → Setup
slow timed some =
    record { config = record { timeout = 2 ^ 32; retries = 3; positive = timed }; window = 1; some = some }

-- Any stream, with unknown octets.
abbrev pub unknown : ℕ → Option (List ℕ)
unknown stream = None

-- A reader that gave these octets, and then met its end.
abbrev pub drained : List ℕ → Checked ℕ
drained given = record {
  inner = record {
    stream = 0;
    transcript = record { of = record {}; items = ReadCall 4097 (Ok given) ∷ ReadCall 4097 (Ok []) ∷ [] };
  };
  failed = false;
  reads = 2;
}

-- A reader that gave these octets in one read, and has not ended.
abbrev pub given_once : List ℕ → Checked ℕ
given_once given = record {
  inner = record { stream = 0; transcript = record { of = record {}; items = ReadCall 4097 (Ok given) ∷ [] } };
  failed = false;
  reads = 1;
}

-- A writer that took these octets.
abbrev pub filled : List ℕ → Checked ℕ
filled text = record {
  inner = record {
    stream = 0;
    transcript = record { of = record {}; items = WriteCall text (Ok (length text)) ∷ [] };
  };
  failed = false;
  reads = 0;
}

-- A writer that took these octets, and then refused one.
abbrev pub full_after : List ℕ → Checked ℕ
full_after text = record {
  inner = record {
    stream = 0;
    transcript = record {
      of = record {};
      items = WriteCall text (Ok (length text)) ∷ WriteCall (1 ∷ []) (Ok 0) ∷ [];
    };
  };
  failed = true;
  reads = 0;
}

-- A link with these calls and answers.
abbrev pub link_with : List Entry → Account ℕ
link_with history = record { made = 0; history = history }

-- A run with this setup read the input and printed the text; its link had these calls and answers; and it ended after
-- one line.
abbrev pub IsRunOf : (input printed : List ℕ) (asked : List Entry) → Type 0
IsRunOf input printed asked = (timed : 0 < 3000) × (some : 0 < 1) × Runs unknown unknown (one_by_one timed some)
    (fresh 0) (drained input) (fresh 0) (filled printed) (link_with []) (link_with asked) (ended 1)
