use Rattle.std.{proofs.Common.{length, take, true, ◌-◌, ◌≡◌, ◌≤◌}, specs.Str.{all_ascii_digits, Parse.digits_value}}
use Rattle.bac_text.proofs.{most_with}
use Rattle.bac_text.proofs.numbers.leading_number.Given as goal

abbrev pub invariant-loop-count : goal.invariant-loop-count
invariant-loop-count l = record {
  within : l.count ≤ length l.text;
  few : l.count ≤ l.most;
  digits : all_ascii_digits (take l.count l.text) ≡ true;
  value : l.number ≡ digits_value 10 (take l.count l.text);
  fits : l.number ≤ most_with l.count;
}

abbrev pub decreases-loop-count : goal.decreases-loop-count
decreases-loop-count l = length l.text - l.count
