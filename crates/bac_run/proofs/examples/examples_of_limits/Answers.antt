-- Each row is computed.
use Rattle.{std.proofs.Common.{arith, refl}, bac_script.proofs.Computed.computed}
use Rattle.bac_run.proofs.examples.examples_of_limits.Goals as goal

pub returns : goal.returns
unfolding computed
returns c = record {
  one = refl;
  longest = refl;
  too_long = refl;
  empty = refl;
  heard_unsaid = refl;
  silent = refl;
  silent_long = refl;
  unsaid = refl;
  to_be_said = λ h. grind arith;
  room = refl;
  few = refl;
  none_few = refl;
  unheard = refl;
  none_open = refl;
  full = refl;
  full_before = refl;
  not_full = refl;
  only_one = refl;
  no_request = refl;
  looks = refl;
}
