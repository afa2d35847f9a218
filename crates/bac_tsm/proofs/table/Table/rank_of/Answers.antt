-- `rank_of` looks at one rank first; if another ticket is there, it searches the rising tickets.
use Rattle.std.proofs.Common.{arith, get_or, IfSome, is_some, length, List, ltb-true, nat_lt, None, Option}
use Rattle.std.proofs.Common.{option_copied, slice_get, Some, sym, ℕ, ◌∙◌, ◌≡◌}
use Rattle.std.{proofs.lemmas.Option.{none-some, slice_get-get_or}, specs.Borrow.Bor}
use Rattle.bac_tsm.proofs.{likely_rank, searched_rank}
use Rattle.bac_tsm.proofs.table.Table.rank_of.Goals as goal

got : (r : Option (Bor ℕ)) (xs : List ℕ) (i ticket : ℕ) → is_some r ≡ nat_lt i (length xs)
    → IfSome r (λ x. x.now ≡ get_or xs i x.now) → option_copied r ≡ Some ticket → slice_get xs i ≡ Some ticket
got None xs i _ _ _ is = absurd (none-some _ is)
got (Some x) xs i _ within there is = cc (slice_get-get_or xs i x.now (ltb-true i _ (sym within)))

pub returns-then-eq : goal.returns-then-eq
returns-then-eq c =
    let is : c.copied.result ≡ Some c.args.ticket = grind arith in
    likely_rank c.self.invariant.table _ c.self.view_is c.args.ticket _ c.deref-2.ensures.0 _
    (got c.get.result c.deref-2.result.now _ c.args.ticket c.get.ensures.lookup.0 c.get.ensures.lookup.1
    (sym c.copied.ensures ∙ is))

pub returns : goal.returns
returns c = rw c.ok.ensures.value
    (searched_rank c.self.invariant.table _ c.self.view_is c.args.ticket _ c.as_slice.ensures.value _
    c.binary_search.ensures.position)
