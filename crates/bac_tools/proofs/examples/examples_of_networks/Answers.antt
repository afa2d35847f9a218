-- Each row is computed; a negative row follows from a socket.
use Rattle.std.{proofs.Common.{[], ap, arith, inl, inr, None, refl, subst, sym, ◌∷◌}, specs.Net.Addr.IsIpv4OfBits}
use Rattle.bac_tools.specs.{IsLost, declared.program.Binding.Binding, Inner.{any_at, one_bind}}
use Rattle.bac_links.specs.{Bind, Binds, BindsAtMost}
use Rattle.bac_tools.proofs.examples.examples_of_networks.Goals as goal

abbrev there : Binding
there = record { at = record { ip = 0; port = 47808; route = None }; refused = IsLost }

bound : Binds there.at (one_bind 0)
unfolding IsIpv4OfBits
bound = record { address = any_at 47808; of_peer = (refl, refl); asked = refl }

twice : BindsAtMost there.at (Bind (any_at 47808) ∷ Bind (any_at 47808) ∷ []) → ⊥
twice (inl none) = grind arith
twice (inr one) = let asked = one.asked in grind arith

pub returns : goal.returns
returns c = record {
  gives = λ network binding link given. (
    subst (λ at. Binds at (one_bind 0)) (sym given.at) bound,
    refl,
    λ later same. ∣ record { calls = []; logged = refl; are = refl } ∣₁,
  );
  gives_unasked = λ h.
      let (binds, none, later) = h 0 there 0 (record { at = refl; link = refl }) in
      let asked = binds.asked in grind arith;
  asks_first = λ h. let (binds, none, later) = h 0 there 0 (record { at = refl; link = refl }) in grind arith;
  once = λ network binding none is. (ap (λ n. n.kept) is, inl (ap (λ n. n.log) is));
  twice = λ h. twice (h 0 there (record { kept = 0; log = _ }) refl).1;
  not_kept = λ h. let (kept, _) = h 0 there (record { kept = 0; log = [] }) refl in grind arith;
}
