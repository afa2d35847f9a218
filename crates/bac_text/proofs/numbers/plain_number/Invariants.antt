use Rattle.std.{proofs.Common.{take, true, ◌<◌, ◌^◌, ◌≡◌}, specs.Str.{all_ascii_digits, Parse.digits_value}}
use Rattle.bac_text.proofs.numbers.plain_number.Given as goal

abbrev pub invariant-loop-digit : goal.invariant-loop-digit
invariant-loop-digit l = record {
  digits : all_ascii_digits (take l.digit-index l.word) ≡ true;
  fits : l.number < 2 ^ 64;
  value : l.number ≡ digits_value 10 (take l.digit-index l.word);
}
