-- Each row is computed; a negative row follows from one field.
use Rattle.std.proofs.Common.{[], ap, arith, length, length-append, inl, inr, List, refl, ℕ, ◌++◌, ◌∷◌, ◌≡◌}
use Rattle.bac_tsm.specs.{next_invoke_id, refusal_of}
use Rattle.bac_script.proofs.examples.examples_of_lines.Goals as goal

ends_so : (text : List ℕ) → 7 ∷ [] ≡ text ++ 10 ∷ [] → ⊥
ends_so [] e = grind arith
ends_so (octet ∷ octets) e = grind (arith, length-append, ap length e)

pub returns : goal.returns
unfolding next_invoke_id refusal_of
returns c = record {
  read_on = inr (record {
    last = record {
      before = [];
      order = refl;
      asked = grind arith;
      no_feed = (λ e. grind arith, tt);
      short = grind arith;
    };
    turned_in = record { sound = refl; later = []; out = refl };
  });
  unread = inl (record { same = refl; kept = refl });
  before_print = λ h. grind arith;
  in_vain = λ h. grind arith;
  next = record {
    within = grind arith;
    cut = inl (record { text = 7 ∷ []; no_feed = (λ e. grind arith, tt); ended = refl });
    stands = record { sound = refl; unended = refl };
  };
  no_feed = λ h. grind (arith, ends_so);
  not_held = λ h. let within = h.within in grind arith;
  after_a_fault = λ h. let sound = h.stands.sound in grind arith;
  rest = record {
    within = grind arith;
    cut = record { no_feed = (λ e. grind arith, tt); short = grind arith };
    stands = record { empty = refl; sound = refl; ended = refl; once = refl; left = tt };
  };
  feed_left = λ h. let feed = h.cut.no_feed.0 in feed refl;
  requests = refl;
}
