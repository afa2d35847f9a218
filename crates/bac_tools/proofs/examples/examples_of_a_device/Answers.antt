-- The runs of the device are computed; a negative row follows from its writer or from the address of its socket.
use Rattle.std.proofs.Common.{[], ap, arith, codes, Err, false, inl, inr, None, Ok, refl, Result, Some, subst, ◌∙◌}
use Rattle.std.{proofs.{Common.{◌∷◌, ◌≡◌, ℕ}, Math.Logic.∥∥₁_elim}, specs.Net.Addr.IsIpv4OfBits}
use Rattle.std.specs.{Option.option_and_then, Result.result_ok, declared.net.socket_addr.SocketAddr.SocketAddr}
use Rattle.clap.specs.{Faults.{defaults_fault, walk_fault}, Walk.walked}
use Rattle.bac_pdu.specs.{station, declared.peer.Peer.Peer}
use Rattle.bac_tools.{proofs.Worked.{given, untaken}, specs.{asked_by, Device, IsLost, Job, ReceiveFailed, UsageFault}}
use Rattle.bac_tools.specs.{JobCalled, ToolRuns, Use, declared.program.Binding.Binding}
use Rattle.bac_tools.specs.Inner.{any_at, asked_so, deaf, device, device_words, having, loopback, no_contents}
use Rattle.bac_tools.specs.Inner.{not_received, unasked}
use Rattle.bac_links.specs.{Account, Socket.IsAddressOf, SystemCall.Limit}
use Rattle.bac_words.{proofs.Tools.one_answer, specs.Answers}
use Rattle.bac_tools.proofs.examples.examples_of_a_device.Goals as goal

runs : ToolRuns no_contents unasked unasked (asked_so []) (asked_so deaf) (Err ReceiveFailed) device
runs = (
  record {
    device = _;
    served = Err ReceiveFailed;
    serves = record {
      plays = record { gained = deaf; gains = refl; follows = (refl, tt); over = refl };
      device = refl;
    };
    answered = refl;
  },
  refl,
)

answered : Answers device_words (Ok (Use device))
unfolding walk_fault walked defaults_fault
answered = record { taken = refl; answer_is = refl }

abbrev here : Peer
here = record { ip = 0; port = 47808; route = None }

at_any : IsAddressOf (station here) (any_at 47808)
unfolding IsIpv4OfBits
at_any = (refl, refl)

-- A device prints nothing.
printed_none : (seen left : Account ℕ) (job : Job) → Use device ≡ job
    → JobCalled no_contents no_contents unasked unasked unasked (having (codes "x")) seen left not_received job → ⊥
printed_none _ _ (Use (Device serve)) is ran = untaken _ ran.runs.1
printed_none _ _ _ is ran = cc

-- If a socket of such words is at this address, the device asked for this address.
there : (job : Job) (binding : Binding) (address other : SocketAddr) → Answers device_words (Ok job)
    → asked_by job ≡ Some binding → IsAddressOf (station binding.at) address → address ≡ other
    → IsAddressOf (station here) other
there job binding address other answers wanted at is =
    let asked = ap (λ (r : Result Job UsageFault). option_and_then asked_by (result_ok r))
    (one_answer device_words _ _ answered answers) ∙ wanted in
    let bound : binding ≡ record { at = here; refused = IsLost } = grind arith in
    subst (IsAddressOf (station here)) is (subst (λ b. IsAddressOf (station b.at) address) bound at)

not_next : IsAddressOf (station here) (any_at 47809) → ⊥
not_next at = let port = at.1 in grind arith

not_loopback : IsAddressOf (station here) loopback → ⊥
unfolding IsIpv4OfBits
not_loopback at = let bits = at.0 in grind arith

pub returns-clause-runs : goal.returns-clause-runs
returns-clause-runs c = runs

pub returns-clause-prints : goal.returns-clause-prints
returns-clause-prints c = λ h. untaken _ h.1

pub returns-clause-calls : goal.returns-clause-calls
returns-clause-calls c = record {
  job = Use device;
  answered = answered;
  made = 0;
  history = deaf;
  runs = record { answer = Err ReceiveFailed; runs = runs; unread = refl; reported = refl };
  told = (codes "bactool: receiving failed\n", refl, given _ (λ none. grind arith) refl refl refl);
  binding = record { at = here; refused = IsLost };
  wanted = refl;
  address = any_at 47808;
  at = at_any;
  asked = ∣ record {
    calls = Limit 1000000000 false ∷ [];
    logged = refl;
    are = (_, [], refl, inr (record { failed = refl; sets = inr (λ e. grind arith, refl) }), refl);
  } ∣₁;
}

pub returns-clause-unbound : goal.returns-clause-unbound
returns-clause-unbound c = λ h. ∥∥₁_elim h.asked (λ x y. absurd x) (λ logs. let logged = logs.logged in grind arith)

pub returns-clause-at_other_address : goal.returns-clause-at_other_address
returns-clause-at_other_address c = λ h. ∥∥₁_elim h.asked (λ x y. absurd x) (λ logs. not_loopback
    (there h.job h.binding h.address loopback h.answered h.wanted h.at (grind (arith, logs.logged))))

pub returns-clause-at_other_port : goal.returns-clause-at_other_port
returns-clause-at_other_port c = λ h. ∥∥₁_elim h.asked (λ x y. absurd x) (λ logs. not_next
    (there h.job h.binding h.address (any_at 47809) h.answered h.wanted h.at (grind (arith, logs.logged))))

pub returns-clause-prints_more : goal.returns-clause-prints_more
returns-clause-prints_more c = λ h.
    let is = one_answer device_words _ _ answered h.answered in printed_none _ _ h.job (cc) h.runs

pub returns-clause-without : goal.returns-clause-without
returns-clause-without c = record {
  job = Use device;
  answered = answered;
  unread = refl;
  unprinted = refl;
  reported = refl;
  told = (codes "bactool: bind failed\n", refl, given _ (λ none. grind arith) refl refl refl);
  binding = record { at = here; refused = IsLost };
  wanted = refl;
  asked = inr (record { address = any_at 47808; of_peer = at_any; asked = refl });
  unused = refl;
}

pub returns-clause-printed : goal.returns-clause-printed
returns-clause-printed c = λ h. untaken _ h.unprinted

pub returns-clause-without_other_port : goal.returns-clause-without_other_port
returns-clause-without_other_port c = λ h. elim (h.asked) as (λ _. ⊥) [
  | inl none ↦ grind arith
  | inr one ↦ not_next (there h.job h.binding one.address (any_at 47809) h.answered h.wanted one.of_peer
      (grind (arith, one.asked)))
]
