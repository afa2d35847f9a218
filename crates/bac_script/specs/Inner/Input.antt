-- The state of a reader while lines are cut from its octets.
use Rattle.std.specs.Prelude.{◌≡◌}
use Rattle.bac_print.specs.{ends_of, declared.checked.Checked.Checked}

-- No read since then gave nothing: the count of empty reads is the same.
abbrev pub HasNotEnded : {R : Type 0} → Checked R → Checked R → Type 0
HasNotEnded before after = ends_of after ≡ ends_of before
