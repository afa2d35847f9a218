-- The digits are written from the last to the first, so part of the number is written before the digits that are left.
use Rattle.std.proofs.Common.{ap, append_assoc, arith, decimal, length, length-append, length-set, sym, ℕ, ◌+◌, ◌/◌}
use Rattle.std.proofs.Common.{◌<◌, ◌^◌, ◌∙◌, ◌≡◌, ◌≤◌}
use Rattle.std.proofs.lemmas.{Fmt.{decimal_digit, decimal_nonempty, decimal_step}, List.drop-set}
use Rattle.bac_print.proofs.page.write_digits.Goals as goal

-- The number divided by ten has all its digits but the last.
shorter : (n : ℕ) → 10 ≤ n → n < 2 ^ 64 → length (decimal (n / 10)) + 1 ≡ length (decimal n)
shorter n large fits =
    sym (ap length (decimal_step n large fits) ∙ length-append _ _)

pub loop-rest-preserved : goal.loop-rest-preserved
loop-rest-preserved c = grind (arith, decimal_nonempty, decimal_step, append_assoc, drop-set, shorter, length-set)

pub returns-clause-digits : goal.returns-clause-digits
returns-clause-digits c = grind (arith, drop-set, decimal_digit)

pub returns-clause-start : goal.returns-clause-start
returns-clause-start c = grind (arith, decimal_digit)
