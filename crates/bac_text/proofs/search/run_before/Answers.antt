-- A piece ends in one of three ways; in each a run ends exactly where an octet ends the piece.
use Rattle.std.proofs.Common.{ap, subst, sym, ◌∙◌}
use Rattle.std.proofs.lemmas.Simd.{length-chunk, zip2_of_maps, zip2_splat, zip2_splat_left}
use Rattle.bac_text.proofs.{lane_is, lanes_are, run_in, search.run_before.Goals.{in-At, in-Blank, in-PastAscii}}
use Rattle.bac_text.specs.{ends_at, declared.search.Delimiter.Delimiter, Inner.{first_set, IsRunIn}}
use lib.Lanes.{chunk}
use Rattle.bac_text.proofs.search.run_before.Goals as goal

pub returns : goal.returns
returns g c =
    let octets = c.args.octets.now in
    let n = g.row.N in
    let v = chunk c.args.at n octets in
    let long = length-chunk c.args.at n octets c.requires.within in
    elim c.match-end.branch [
      | in-Blank w ↦
          subst (λ (e : Delimiter). IsRunIn (ends_at e) octets c.args.at n c.first_set.result) (sym w.in-Blank.is)
          (run_in _ octets c.args.at n _ _ c.requires.within c.requires.most
          (c.first_set.ensures ∙ ap (λ m. first_set m n) w.ends-is) _
          (zip2_of_maps _ _ _ v (zip2_splat _ v n 32 long) (zip2_splat _ v n 9 long)) (λ k. lanes_are _ _))
      | in-At w ↦
          subst (λ (e : Delimiter). IsRunIn (ends_at e) octets c.args.at n c.first_set.result) (sym w.in-At.is)
          (run_in _ octets c.args.at n _ _ c.requires.within c.requires.most
          (c.first_set.ensures ∙ ap (λ m. first_set m n) w.ends-is) _ (zip2_splat _ v n _ long) (λ k. lane_is _))
      | in-PastAscii w ↦
          subst (λ (e : Delimiter). IsRunIn (ends_at e) octets c.args.at n c.first_set.result) (sym w.in-PastAscii.is)
          (run_in _ octets c.args.at n _ _ c.requires.within c.requires.most
          (c.first_set.ensures ∙ ap (λ m. first_set m n) w.ends-is) _ (zip2_splat_left _ 127 n v long) (λ k. lane_is _))
    ]
