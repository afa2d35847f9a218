-- A text that ends with its line or before it, and fits in it, stays as it is.
use Rattle.std.proofs.Common.{arith, sym, ◌∙◌}
use Rattle.bac_print.proofs.{one_line, plain_text}
use Rattle.bac_print.proofs.page.Page.fold.Goals as goal

pub returns-in-None : goal.returns-in-None
returns-in-None g c =
    let (same, left) = plain_text c.args.text.now c.args.room c.feed_position.result c.feed_position.ensures
    (grind arith) (grind arith) in
    record { text = rw same c.hold.ensures; left = sym left }

pub returns-in-Some : goal.returns-in-Some
returns-in-Some g c =
    let (same, left) = one_line c.args.text.now c.in-Some.end c.args.room (sym c.feed_position.ensures ∙ c.in-Some.is)
    (grind arith) (grind arith) in
    record { text = rw same c.hold-in-Some.ensures; left = sym left }
