-- The socket that a job needs.
use Rattle.std.specs.Prelude.{None, Option, Some, ℕ}
use Rattle.bac_links.specs.declared.udp.OnRefusal.TheVariants.{Fails, IsLost}
use Rattle.bac_words.specs.declared.job.{Job.{Job, TheVariants.{Run, Trace, Use}}, Tool.{Tool, TheVariants.Device}}
use Rattle.bac_words.specs.declared.job.Tool.TheVariants.{Read, WhoIs, Write}
use Rattle.bac_tools.specs.declared.program.Binding.{Binding}

-- The socket of a client of one request: at every address of the machine. It fails if the system refuses a datagram.
abbrev pub client_at : ℕ → Binding
client_at port = record { at = record { ip = 0; port = port; route = None }; refused = Fails }

-- A socket like that of a client, except that a datagram that the system refuses counts as lost.
abbrev pub tolerant_at : ℕ → Binding
tolerant_at port = record (client_at port) { refused = IsLost }

-- The socket of a tool. The socket of a server is tolerant.
abbrev pub binding_of : Tool → Binding
binding_of (Read call) = client_at call.port
binding_of (Write call) = client_at call.port
binding_of (WhoIs search) = client_at search.port
binding_of (Device serve) = tolerant_at serve.port

-- The socket that a job asks for. A script asks for none. Many requests ask for a tolerant one.
abbrev pub asked_by : Job → Option Binding
asked_by Trace = None
asked_by (Run batch) = Some (tolerant_at batch.port)
asked_by (Use tool) = Some (binding_of tool)
