-- A folded text that a script prints is read line by line, and its remarks are skipped.
use Rattle.std.proofs.Common.{[], ap, append_assoc, arith, Bool, codes, false, flat_map, if◌then◌else◌, inl, inr}
use Rattle.std.proofs.Common.{length, length-append, List, nat_lt, ne_eqb, None, refl, subst, sym, true, ℕ, ◌&&◌, ◌++◌}
use Rattle.std.proofs.{Common.{◌+◌, ◌-◌, ◌==◌, ◌∙◌, ◌∷◌, ◌≡◌, ◌≤◌}, lemmas.Bool.{cases_Bool, Decides.nat_tests}}
use Rattle.{std.{proofs.lemmas.Grind.common_steps, specs.List.list_all}, bac_tsm.specs.{Dropped, new_client, Note}}
use Rattle.bac_tsm.specs.{Refused, declared.client.SubmitFault.TheVariants.{TableFull, TicketsSpent, TooLong}}
use Rattle.{bac_text.specs.longest_line, bac_print.proofs.Texts.{decimal_plain, Each, each_on, hex_plain, is_plain}}
use Rattle.bac_print.{proofs.Texts.{outcome_plain, peer_plain}, specs.{folded_line, Page.folded}}
use Rattle.bac_script.proofs.Courses.{settled, text_from, text_is, Chunks.{ends_with_feed-push, lines-ended}}
use Rattle.bac_script.{proofs.{Courses.Chunks.said-long, ReadBack.{IsRead, remark_read}}, specs.{all_said, AtEnd}}
use Rattle.bac_script.specs.{fault_from, first_fault, HasNoFeed, lines, note_text, Remark, Said, said_from}
use Rattle.bac_script.specs.{Settings, text, Inner.{ran, ScriptStage}}

-- A text, folded from the beginning of a line on.
abbrev pub lay : List ℕ → List ℕ
lay = folded folded_line

-- Whether the text is plain, with a line feed at its end.
abbrev pub is_plain_line : List ℕ → Bool
is_plain_line [] = false
is_plain_line (octet ∷ octets) =
    if is_plain octet then is_plain_line octets else octet == 10 && nat_lt (length octets) 1

pub plain_line-append : (xs : List ℕ) (y : ℕ) (ys : List ℕ)
    → is_plain_line (xs ++ y ∷ ys) ≡ (list_all is_plain xs && is_plain_line (y ∷ ys))
plain_line-append [] = grind arith
plain_line-append (x ∷ xs) = grind (arith, nat_tests, plain_line-append xs, length-append)

last_feed : (x : ℕ) (xs : List ℕ) → is_plain x ≡ false → is_plain_line (x ∷ xs) ≡ true → x ∷ xs ≡ 10 ∷ []
last_feed x [] = grind (arith, nat_tests)
last_feed x (y ∷ ys) = grind (arith, nat_tests)

note_plain : (note : Note) → is_plain_line (note_text note) ≡ true
note_plain (Refused TooLong) = refl
note_plain (Refused TableFull) = refl
note_plain (Refused TicketsSpent) = refl
note_plain Dropped = refl
note_plain _ = grind (arith, plain_line-append, decimal_plain, peer_plain, hex_plain, outcome_plain)

-- ---- what a script prints from a state on

-- The octets are lines of a script that prints this text from this state on, and none of them has a fault.
pub record Replays (stage : ScriptStage) (octets printed : List ℕ) : Type 0 where
  pub text : text_from stage (said_from false (lines octets AtEnd)) ≡ printed
  pub well : (n : ℕ) → fault_from false n (lines octets AtEnd) ≡ None

line_then : {is_first : Bool} {line : List ℕ} {what : Said} (rest : List ℕ) → IsRead is_first line what
    → lines (line ++ rest) AtEnd ≡ line ∷ lines rest AtEnd
line_then rest is = rw is.ended (lines-ended is.text rest AtEnd is.no_feed)

replays_then : (stage : ScriptStage) {line : List ℕ} (what : Said) {rest later : List ℕ} → IsRead false line what
    → Replays (ran stage what).after rest later → Replays stage (line ++ rest) ((ran stage what).text ++ later)
replays_then stage what {rest} is more = record {
  text = rw (line_then rest is, is.says) (ap (λ (xs : List ℕ). (ran stage what).text ++ xs) more.text);
  well = λ n. rw (line_then rest is, is.says) (more.well (n + 1));
}

-- ---- a line that is read fits a folded line

text_short : {is_first : Bool} {line : List ℕ} {what : Said} (is : IsRead is_first line what)
    → length is.text ≤ longest_line
text_short = grind (arith, common_steps, nat_tests, ends_with_feed-push, said-long, length-append)

text_laid : (text : List ℕ) (left : ℕ) (rest : List ℕ) → HasNoFeed text → length text ≤ left
    → folded left (text ++ 10 ∷ rest) ≡ text ++ 10 ∷ lay rest
text_laid [] left rest none short = refl
text_laid (x ∷ xs) left rest (other, later) short =
    let on = text_laid xs (left - 1) rest later (omega (arith, short)) in
    grind (arith, nat_tests, ne_eqb x 10 other, short, on)

-- A line that is read is not folded.
line_laid : {is_first : Bool} {line : List ℕ} {what : Said} (rest : List ℕ) → IsRead is_first line what
    → lay (line ++ rest) ≡ line ++ lay rest
line_laid rest is =
    rw (is.ended, append_assoc is.text (10 ∷ []) rest, append_assoc is.text (10 ∷ []) (lay rest))
    (text_laid is.text folded_line rest is.no_feed (text_short is))

-- ---- a remark is skipped, however many lines it has

module _ (stage : ScriptStage) (rest printed : List ℕ) (replays : Replays stage (lay rest) printed) where
  -- The line continues one that was begun.
  line_skipped : (line front : List ℕ) (left : ℕ) → is_plain_line line ≡ true → Each is_plain front
      → length (35 ∷ front) + left ≡ folded_line → Replays stage ((35 ∷ front) ++ folded left (line ++ rest)) printed
  line_skipped [] front left is plain room = absurd (cc)
  line_skipped (x ∷ xs) front left is plain room =
      let short : length (35 ∷ front) ≤ longest_line = omega (arith, room) in
      let ended : (later : List ℕ) → Replays stage later printed
      → Replays stage ((35 ∷ front) ++ 10 ∷ later) printed =
      λ later more. subst (λ (os : List ℕ). Replays stage os printed) (append_assoc (35 ∷ front) (10 ∷ []) later)
      (replays_then stage Remark (remark_read front plain short) more) in
      elim (cases_Bool (is_plain x)) [
        | inl one ↦
            let no : (x == 10) ≡ false = grind (arith, nat_tests, one) in
            let later : is_plain_line xs ≡ true = rw one at is in
            elim (cases_Bool (nat_lt 0 left)) [
              | inl some ↦
                  rw (no, some)
                  (subst (λ (os : List ℕ). Replays stage os printed)
                  (append_assoc (35 ∷ front) (x ∷ []) (folded (left - 1) (xs ++ rest)))
                  (line_skipped xs (front ++ x ∷ []) (left - 1) later
                  (each_on is_plain front (x ∷ []) plain (rw one refl))
                  (grind (arith, nat_tests, some, room, length-append))))
              | inr none ↦
                  rw (no, none)
                  (ended (35 ∷ 43 ∷ x ∷ folded 4093 (xs ++ rest))
                  (line_skipped xs (43 ∷ x ∷ []) 4093 later (rw one refl) refl))
            ]
        | inr feed ↦
            subst (λ (line : List ℕ). Replays stage ((35 ∷ front) ++ folded left (line ++ rest)) printed)
            (sym (last_feed x xs feed is))
            (ended (lay rest) replays)
      ]

  pub remark_skipped : (told : List ℕ) → is_plain_line told ≡ true
      → Replays stage (lay ((codes "# " ++ told) ++ rest)) printed
  remark_skipped told is = line_skipped told (32 ∷ []) 4094 is refl refl

-- Notes as remarks.
abbrev remarks : List Note → List ℕ
remarks = flat_map (λ note. codes "# " ++ note_text note)

remarks_skipped : (stage : ScriptStage) (notes : List Note) (rest printed : List ℕ)
    → Replays stage (lay rest) printed → Replays stage (lay (remarks notes ++ rest)) printed
remarks_skipped stage [] rest printed replays = replays
remarks_skipped stage (note ∷ notes) rest printed replays =
    rw (append_assoc (note_text note) (remarks notes) rest)
    (remark_skipped stage (remarks notes ++ rest) printed (remarks_skipped stage notes rest printed replays)
    (note_text note) (note_plain note))

-- A line that is read, and remarks.
pub noted_then : (stage : ScriptStage) {line : List ℕ} (what : Said) (notes : List Note) (rest : List ℕ)
    {later : List ℕ} → IsRead false line what → Replays (ran stage what).after (lay rest) later
    → Replays stage (lay ((line ++ remarks notes) ++ rest)) ((ran stage what).text ++ later)
noted_then stage {line} what notes rest {later} is more =
    rw (append_assoc line (remarks notes) rest, line_laid (remarks notes ++ rest) is)
    (replays_then stage what is (remarks_skipped (ran stage what).after notes rest later more))

-- ---- a script whose first line has settings

pub script_prints : {line : List ℕ} {timeout retries ticket : ℕ} (rest : List ℕ) {printed : List ℕ}
    → IsRead true line (Settings timeout retries ticket)
    → Replays (record { client = new_client timeout retries ticket; writes = [] }) (lay rest) printed
    → (text (lay (line ++ rest)) AtEnd ≡ printed) × (first_fault (lines (lay (line ++ rest)) AtEnd) ≡ None)
script_prints {line} rest is more =
    let all = lines (lay (line ++ rest)) AtEnd in (
      text_is (all_said all) (settled all true)
          ∙ rw (line_laid rest is, line_then (lay rest) is, is.says) more.text,
      rw (line_laid rest is, line_then (lay rest) is, is.says) (more.well 2),
    )
