-- If all octets are ASCII, they are UTF-8.
use Rattle.std.proofs.Common.{arith, Err, is_ok, IsUtf8, List, MatchResult, nat_lt, None, Ok, position, Result, sym, ℕ}
use Rattle.std.proofs.{Common.{◌∙◌, ◌≡◌}, lemmas.{Bool.false_from_ne_true, List.get_or_past, Str.is_utf8-from_IsUtf8}}
use Rattle.std.{proofs.lemmas.Str.{IsUtf8-from_ascii, IsUtf8-from_is_utf8}, specs.Str.{is_utf8, IsAscii}}
use Rattle.bac_script.proofs.{none_passes}
use Rattle.bac_script.proofs.line.is_text.Goals as goal

all_ascii : (octets : List ℕ) → position (λ octet. nat_lt 127 octet) octets ≡ None → IsAscii octets
all_ascii octets none i = grind (arith, none_passes, get_or_past)

pub returns-in-None : goal.returns-in-None
returns-in-None c =
    sym (is_utf8-from_IsUtf8 c.args.octets.now
    (IsUtf8-from_ascii c.args.octets.now (all_ascii c.args.octets.now (sym c.position_of_end.ensures ∙ c.in-None.is))))

told : {T E : Type 0} (octets : List ℕ) (N : T → Type 0) (Q : E → Type 0) (r : Result T E) →
    MatchResult r (λ s. N s × IsUtf8 octets) (λ e. ¬ (IsUtf8 octets) × Q e) → is_ok r ≡ is_utf8 octets
told octets N Q (Ok s) (_, is) = sym (is_utf8-from_IsUtf8 octets is)
told octets N Q (Err e) (invalid, _) =
    sym (false_from_ne_true (is_utf8 octets) (λ is. invalid (IsUtf8-from_is_utf8 octets is)))

pub returns-in-Some : goal.returns-in-Some
returns-in-Some c = c.is_ok.ensures.value ∙ told c.args.octets.now _ _ c.from_utf8.result c.from_utf8.ensures.cases
