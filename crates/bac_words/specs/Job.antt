-- The job that the words of a tool ask for, and the first fault in them.
use Rattle.std.specs.Prelude.{[], codes, if◌then◌else◌, List, map, None, Ok, ok_or, Option, option_and_then, option_map}
use Rattle.std.specs.{Prelude.{Result, Some, unwrap_or, ℕ, ⊤, ◌<◌}, Result.result_map_both, Str.bytes_eq}
use Rattle.{arrayvec.specs.ArrayVec.ArrayVec, bac_pdu.specs.{read_octets, Reference, ◌>>=◌}}
use Rattle.bac_pdu.specs.declared.{discovery.WhoIs.{WhoIs, TheVariants.{All, Range}}, peer.Peer.Peer}
use Rattle.bac_text.specs.{plain_peer_of, declared.{jobs.Call.Call, pairs.PairFault.PairFault}, Pairs.body_of}
use Rattle.{bac_text.specs.Parameters.{priority_from, write_index_of}, bac_wire.specs.Identifier.Identifier}
use Rattle.{clap.specs.Words.{all_of, first_of, Row, Text}, clap_laws.specs.Numbers.number_of}
use Rattle.bac_words.specs.declared.faults.UsageFault.{UsageFault, TheVariants.{BadIndex, BadMac}}
use Rattle.bac_words.specs.{declared.job.{Batch.Batch, Job.Job, Tool.Tool}, Fault.usage_of, Marks.unmarked}
use Rattle.bac_words.specs.declared.job.Job.TheVariants as job
use Rattle.bac_words.specs.declared.job.Tool.TheVariants as tool

-- The number in a word that is required.
abbrev pub needed_number : Text → List Row → ℕ
needed_number id rows = unwrap_or (number_of id rows) 0

-- The word of an argument as it was typed.
abbrev pub typed_word : Text → List Row → Option Text
typed_word id rows = option_map unmarked (first_of id rows)

-- ---- the values in the words

-- The peer in a word, which has no route.
abbrev pub peer_in : Text → Option Peer
peer_in word = option_map (λ to. record { ip = to.ip; port = to.port; route = None }) (plain_peer_of word)

-- The peer of `--mac`.
abbrev pub peer_given : List Row → Option Peer
peer_given rows = option_and_then peer_in (first_of (codes "mac") rows)

abbrev pub timeout_given : List Row → ℕ
timeout_given rows = unwrap_or (number_of (codes "apdu-timeout") rows) 3000

abbrev pub retries_given : List Row → ℕ
retries_given rows = unwrap_or (number_of (codes "apdu-retries") rows) 3

abbrev pub port_given : List Row → ℕ
port_given rows = unwrap_or (number_of (codes "port") rows) 0

abbrev pub object_given : List Row → Identifier
object_given rows =
    record { kind = needed_number (codes "object-type") rows; instance = needed_number (codes "object-instance") rows }

-- The index of `bacwp`, as it was typed.
abbrev pub index_given : List Row → Option (Option ℕ)
index_given rows = option_and_then write_index_of (typed_word (codes "index") rows)

-- The tags and values of `bacwp`, as they were typed.
abbrev pub pairs_given : List Row → List Text
pairs_given rows = map unmarked (unwrap_or (all_of (codes "tag value") rows) [])

abbrev pub call_given : Peer → List Row → ArrayVec ℕ → Call
call_given to rows body =
    record { to = to; timeout = timeout_given rows; retries = retries_given rows; port = port_given rows; body = body }

-- ---- the tools

abbrev pub property_given : List Row → ℕ
property_given rows = needed_number (codes "property") rows

abbrev pub reference_given : List Row → Reference
reference_given rows =
    record { object = object_given rows; property = property_given rows; index = number_of (codes "index") rows }

abbrev pub read_order : List Row → Result Job UsageFault
read_order rows = do
  to ← ok_or (peer_given rows) BadMac
  Ok (job.Use (tool.Read (call_given to rows (record { items = read_octets (reference_given rows) }))))

-- The body of the request. Its pairs are read as in a script.
abbrev pub body_given : List Row → Option ℕ → Result (List ℕ) PairFault
body_given rows index = body_of (object_given rows) (property_given rows) index
    (priority_from (needed_number (codes "priority") rows)) (pairs_given rows)

abbrev pub write_order : List Row → Result Job UsageFault
write_order rows = do
  to ← ok_or (peer_given rows) BadMac
  index ← ok_or (index_given rows) BadIndex
  result_map_both (λ body. job.Use (tool.Write (call_given to rows (record { items = body })))) usage_of
      (body_given rows index)

-- The limits of a search: one number sets both; without a number there is no limit.
abbrev pub limits : Option ℕ → Option ℕ → WhoIs
limits None most = All
limits (Some least) most = Range least (unwrap_or most least)

abbrev pub search_order : List Row → Result Job UsageFault
search_order rows = do
  to ← ok_or (peer_given rows) BadMac
  let who = limits (number_of (codes "min") rows) (number_of (codes "max") rows) in
      Ok (job.Use (tool.WhoIs
      (record { to = to; timeout = timeout_given rows; port = port_given rows; who = who })))

abbrev pub serve_order : List Row → Result Job UsageFault
serve_order rows =
    Ok (job.Use (tool.Device (record {
      info = record { instance = needed_number (codes "device-instance") rows; name = codes "Small device" };
      port = unwrap_or (number_of (codes "port") rows) 47808;
      count = unwrap_or (number_of (codes "count") rows) 65535;
    })))

-- Many requests, with the options of one tool; at most one is open if no number is given.
abbrev pub batch_given : List Row → Batch
batch_given rows =
    record {
      timeout = timeout_given rows;
      retries = retries_given rows;
      port = port_given rows;
      window = unwrap_or (number_of (codes "window") rows) 1;
    }

abbrev pub run_order : List Row → Result Job UsageFault
run_order rows = Ok (job.Run (batch_given rows))

-- ---- the whole line

-- The job that the matches of a tool ask for.
abbrev pub order_of : Text × List Row → Result Job UsageFault
order_of (tool, rows) =
    if bytes_eq tool (codes "bacrp") then read_order rows
    else if bytes_eq tool (codes "bacwp") then write_order rows
    else if bytes_eq tool (codes "bacwi") then search_order rows
    else if bytes_eq tool (codes "bacdev") then serve_order rows
    else if bytes_eq tool (codes "bacrun") then run_order rows
    else Ok job.Trace

-- A tool can be run: a request or a search has a timeout above 0, and a device accepts at least one datagram.
abbrev pub IsReady : Tool → Type 0
IsReady (tool.Read call) = 0 < call.timeout
IsReady (tool.Write call) = 0 < call.timeout
IsReady (tool.WhoIs search) = 0 < search.timeout
IsReady (tool.Device serve) = 0 < serve.count

-- Many requests can be made: the timeout is above 0, and at least one may be open.
abbrev pub CanOpen : Batch → Type 0
CanOpen batch = (0 < batch.timeout) × (0 < batch.window)

-- A job can be run; a script always can.
abbrev pub CanRun : Job → Type 0
CanRun job.Trace = ⊤
CanRun (job.Run batch) = CanOpen batch
CanRun (job.Use tool) = IsReady tool
