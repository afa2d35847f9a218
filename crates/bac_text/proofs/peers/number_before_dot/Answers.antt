-- One, two or three digits before a dot, compared with the definition, which reads any number of them.
use Rattle.std.proofs.Common.{arith}
use Rattle.bac_text.proofs.{one_digit, three_digits, three_digits_too_big, two_digits}
use Rattle.bac_text.proofs.peers.number_before_dot.Goals as goal

-- One digit before the dot.
pub returns-in_ok-digit-in-46-clause-value : goal.returns-in_ok-digit-in-46-clause-value
returns-in_ok-digit-in-46-clause-value c =
    one_digit _ _ c.in_ok-digit-in-46.ensures.value (grind arith) (grind arith) c.in_ok-digit-in-46.ensures.limit

-- Two digits before the dot.
pub returns-in_ok-digit-in-46-2-2-clause-value : goal.returns-in_ok-digit-in-46-2-2-clause-value
returns-in_ok-digit-in-46-2-2-clause-value c =
    let tens = c.in_ok-digit-in-46-2.ensures in
    let ones = c.in_ok-digit-in-46-2-2.ensures in
    two_digits _ _ tens.value _ ones.value (grind arith) (grind arith) tens.limit ones.limit

-- Three digits before the dot, for a number up to 255.
pub returns-else-number-gt255-clause-value : goal.returns-else-number-gt255-clause-value
returns-else-number-gt255-clause-value c =
    three_digits _ _ c.in_ok-digit-in-46-3.ensures.value _ c.in_ok-digit-in-46-3-2.ensures.value _
    c.in_ok-number-in-46-3.ensures.value (omega arith) (omega arith) c.if-number-gt255.false

-- Three digits before the dot, for a greater number.
pub returns-then-number-gt255-clause-value : goal.returns-then-number-gt255-clause-value
returns-then-number-gt255-clause-value c =
    three_digits_too_big c.args.text.now _ c.in_ok-digit-in-46-3.ensures.value _ c.in_ok-digit-in-46-3-2.ensures.value _
    c.in_ok-number-in-46-3.ensures.value (omega arith) (omega arith) c.if-number-gt255.true
