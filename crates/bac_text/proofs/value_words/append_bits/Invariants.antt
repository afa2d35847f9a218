use Rattle.std.proofs.Common.{drop, get_or, length, ℕ, ◌*◌, ◌<◌, ◌≡◌}
use Rattle.bac_text.specs.{bits_octet}
use Rattle.bac_text.proofs.value_words.append_bits.Given as goal

abbrev pub invariant-loop-i : goal.invariant-loop-i
invariant-loop-i l = record {
  room : length l.room ≡ 1497;
  written : (k : ℕ) → k < l.i → get_or l.room k 0 ≡ bits_octet (drop (8 * k) l.digits);
}
