-- The entries that a simple command makes from accepted words, and the values that the getters read from them.
use Rattle.std.{
  proofs.Common.{[], ap, ap₂, arith, Bool, codes, cond, drop, encode_utf8, false, find, fold, IfSome, if◌then◌else◌},
  proofs.Common.{is_some, length, length-append, List, map, nat_lt, None, not, Option, option_and_then, option_map},
  proofs.Common.{pos, refl, Result, slice_get, Some, subst, suc, sym, true, zero, ℕ, ◌&&◌, ◌++◌, ◌<◌, ◌||◌, ◌∙◌, ◌∷◌},
  proofs.{Common.◌≡◌, lemmas.{Bool.{not-false, or_parts}, List.Folds.list_all-append, Slice.Eq.bytes_eq-Decides}},
  specs.{Borrow.Bor, declared.num.ParseIntError.ParseIntError, List.{AllByRecursion, list_all, list_any}},
  specs.{Option.option_map_or, Str.{bytes_eq, Parse.{ExplainsUnsignedError, HasUnsignedDigitsIfOk, ParsesUnsigned}}},
}
use Rattle.{
  clap.proofs.{CallerReads.signed_reads, SimpleLemmas.is_false, ValueTestLemmas.accepts-Accepts, WalkLemmas.both},
  clap.{proofs.WalkLemmas.one_text-rows, specs.declared.builder.{action.ArgAction.ArgAction, arg.Arg.Arg}},
  clap.specs.declared.builder.command.Command.{Command, TheOpen.Command-F, TheViews.out-Command},
  clap.specs.declared.{builder.value_parser.ValueParser.ValueParser, parser.matches.Found.Found},
  clap.specs.{declared.parser.matches.ValueSource.TheVariants.CommandLine, Facts.{explicit_source, parser_of_value}},
  clap.specs.Faults.{action_fault, bundle_fault, bundle_step_fault, check_fault, defaults_fault, entered_fault},
  clap.specs.Faults.{fault_of, flag_word_fault, flags_fault, level_fault, long_fault, option_fault, other_fault},
  clap.specs.Faults.{positional_fault, react_fault, settle_fault, short_fault, step_fault, stray_fault, use_fault},
  clap.specs.{Faults.{values_fault, walk_fault, word_fault}, Kinds.{check_kinds, Kinds, or_else, range_kinds}},
  clap.specs.{Matches.{one_text, ReadsOne}, Simple.{App, app_of_fields, argument_words, built, entered, names_of}},
  clap.specs.{Simple.Shape, Takes.{is_given, value_passes, values_pass}, Values.{Accepts, is_request, read_as}},
  clap.specs.{Values.reading_of, ValueTests.accepts, Walk.{after_flag, after_step, arg_by_id, at_row, bundle_met}},
  clap.specs.Walk.{bundle_step, default_rows, done, finished, has_short, Held, is_empty, long_met, long_or_other},
  clap.specs.Walk.{more_values, Names, nothing_held, one_of, option_met, Outcome, plain, plain_word, reacted},
  clap.specs.Walk.{reading_by, Row, row_text, rows_after, rows_of, Rule, settled, short_met, short_or_plain, Step},
  clap.specs.Walk.{stop_after, subcommand_or_other, takes_values, Text, to_positional, used, used_as},
  clap.specs.Walk.{values_or_missing, Waiting, Walk, walk, walked, walked_from, with_default, with_values, word_met},
  clap.specs.Words.{AddsArg, AddsInTurn, AddsSubcommand, App, rule_of, with_rule, with_subcommand},
  clap_laws.specs.{Enters, has_distinct_ids, is_plain_rule, IsCommand, IsPlainLevel, IsTaken, keeps_values, number_of},
  clap_laws.specs.{RowPasses, wanting, Inner.{bounds_by, bounds_in, decimal, FitsWord, is_needed, IsWithin}},
}
use Rattle.clap.specs.Walk as w
use Rattle.clap.specs.declared.builder.action.ArgAction.TheVariants as action
use Rattle.clap.specs.declared.builder.value_parser.ValueParser.TheVariants as vp

-- A property of the element that a search finds, by induction over the list.
pub when_found : {X : Type 0} (p : X → Bool) (P : List X → Type 0) (a : X) → ((xs : List X) → p a ≡ true → P (a ∷ xs))
    → ((x : X) (xs : List X) → p x ≡ false → find p xs ≡ Some a → P xs → P (x ∷ xs)) → (xs : List X)
    → find p xs ≡ Some a → P xs
when_found p P a here later [] is = cc
when_found {X} p P a here later (x ∷ xs) is = go _ refl (when_found p P a here later _) is
  where
    go : (b : Bool) → p x ≡ b → (find p xs ≡ Some a → P xs) → cond b (Some x) (find p xs) ≡ Some a → P (x ∷ xs)
    go true passes rest is =
        let same : x ≡ a = cc in
        subst (λ (y : X). P (y ∷ xs)) (sym same) (here xs (subst (λ (y : X). p y ≡ true) same passes))
    go false fails rest is = later x xs fails is (rest is)

-- ---- a list of kinds that is empty

pub none_fails : (a b : Kinds) → or_else a b ≡ [] → (a ≡ []) × (b ≡ [])
none_fails a b e = grind (arith, e)

-- ---- the rules of a level

pub any_not : (q p : Rule → Bool) (c : List Rule) (a : Rule) → list_any q c ≡ false → find p c ≡ Some a → q a ≡ false
any_not q p c a none is =
    when_found p (λ c. list_any q c ≡ false → q a ≡ false) a
    (λ xs passes none. let (here, _) = or_parts _ _ none in here)
    (λ x xs fails is rest none. let (_, others) = or_parts _ _ none in rest others) c is none

-- a plain rule, which is the only one with its id
record IsOwn (c : List Rule) (a : Rule) : Type 0 where
  own : arg_by_id c a.id ≡ Some a
  plain : is_plain_rule a ≡ true

-- a search finds a plain rule
owned : (p : Rule → Bool) (c : List Rule) (a : Rule) → find p c ≡ Some a → list_all is_plain_rule c ≡ true
    → has_distinct_ids c ≡ true → IsOwn c a
owned p c a is =
    when_found p (λ c. list_all is_plain_rule c ≡ true → has_distinct_ids c ≡ true → IsOwn c a) a
    (λ xs passes plain distinct.
    let (plain_here, _) = both _ _ plain in
    record { own = rw ((bytes_eq-Decides _ a.id).1 refl) refl; plain = plain_here })
    (λ x xs fails is rest plain distinct.
    let (apart, distinct_later) = both _ _ distinct in
    let (_, plain_later) = both _ _ plain in
    let other = any_not _ p _ a (is_false _ apart) is in
    let later = rest plain_later distinct_later in
    record { own = rw other later.own; plain = later.plain }) c is

-- ---- rows

abbrev pub RowsPass : List Rule → List Row → Type 0
RowsPass rules rows = AllByRecursion (RowPasses rules) rows

append_pass : (c : List Rule) (xs ys : List Row) → RowsPass c xs → RowsPass c ys → RowsPass c (xs ++ ys)
append_pass c [] ys h k = k
append_pass c (x ∷ xs) ys (passes, others) k = (passes, append_pass c xs _ others k)

-- the row with an id is changed, or a row is added
at_row_pass : (c : List Rule) (id : Text) (change : Row → List Row) (missing : List Row)
    → ((r : Row) → bytes_eq r.id id ≡ true → RowPasses c r → RowsPass c (change r)) → RowsPass c missing
    → (rows : List Row) → RowsPass c rows → RowsPass c (at_row id change missing rows)
at_row_pass c id _ _ _ added [] h = added
at_row_pass c id change _ changed added (r ∷ rs) (passes, others) =
    grind (arith, at_row_pass c _ _ _ changed added rs others, changed r, append_pass c (change r) rs, passes)

with_values_pass : (c : List Rule) (a : Rule) (vs : List Text) (rows : List Row) → arg_by_id c a.id ≡ Some a
    → values_pass a vs ≡ true → 0 < length vs
    → RowsPass c rows → RowsPass c (with_values a.id (reading_by a) CommandLine vs rows)
with_values_pass c a vs _ is passed filled h =
    at_row_pass c _ (more_values _ _) _ more
    (record { rule = a; own = is; reading = refl; filled = filled; passed = passed }, tt) _ h
  where
    more : (r : Row) → bytes_eq r.id a.id ≡ true → RowPasses c r → RowsPass c (more_values CommandLine vs r)
    more r same h =
        let there : Some h.rule ≡ Some a = sym h.own ∙ ap (arg_by_id c) ((bytes_eq-Decides _ _).0 same) ∙ is in
        let rule : h.rule ≡ a = cc in
        let added : values_pass h.rule vs ≡ true = rw rule passed in (
          record {
            rule = h.rule;
            own = h.own;
            reading = h.reading;
            filled = omega (arith, length-append r.values vs);
            passed = list_all-append _ r.values _ ∙ rw (h.passed, added) refl;
          },
          tt,
        )

-- ---- one use of an argument

values_taken : (a : Rule) (vs : List Text) → values_fault a vs ≡ [] → values_pass a vs ≡ true
values_taken a [] e = refl
values_taken a (v ∷ vs) e = grind (arith, values_taken a vs)

-- the values of a use obey the rule, if the argument keeps them and has some, or asks for help
used_as_pass : (c : List Rule) (a : Rule) (again : Bool) (x : ArgAction) (wants : Bool) (vs : List Text)
    (rows : List Row) → arg_by_id c a.id ≡ Some a
    → (is_request x || (keeps_values x && wants)) ≡ true → (wants ≡ true → 0 < length vs)
    → action_fault x again a vs rows ≡ [] → RowsPass c rows
    → RowsPass c (used_as x a.id (reading_by a) vs rows)
used_as_pass c a _ action.Set _ vs _ is kept filled none h =
    let (_, untaken) = none_fails _ _ none in
    with_values_pass c a _ _ is (values_taken a _ untaken) (filled kept)
    (at_row_pass c _ (λ _. []) [] _ tt _ h)
used_as_pass c a _ action.Append _ vs _ is kept filled none h =
    with_values_pass c a _ _ is (values_taken a _ none) (filled kept) h
used_as_pass c a _ _ _ vs _ is kept filled none h = grind (arith, h)

filled_by : (a : Rule) (least most : ℕ) (values : List Text) → range_kinds least most (length values) ≡ []
    → nat_lt 0 least ≡ true
    → 0 < length (values_or_missing a values)
filled_by a _ _ _ none wants = grind (arith, none, wants)

-- ---- one level of arguments: its rules, and whether a second use replaces the first

module _ (c : List Rule) (level : IsPlainLevel c) (again : Bool) where
  -- If there is no fault, entries that obey their rules still do.
  abbrev Keeps : Kinds → Held → Held → Type 0
  Keeps fault h after = fault ≡ [] → RowsPass c h.rows → RowsPass c after.rows

  abbrev KeepsMet : Kinds → Held → Held × Outcome → Type 0
  KeepsMet fault h (met, _) = Keeps fault h met

  used_pass : (a : Rule) (values : List Text) (rows : List Row) → IsOwn c a → use_fault again a values rows ≡ []
      → RowsPass c rows
      → RowsPass c (used a values rows)
  used_pass a _ _ is none h =
      let (in_range, no_fault) = none_fails _ _ none in
      let (_, kept) = both _ _ is.plain in
      used_as_pass c a _ _ _ _ _ is.own kept (filled_by a _ _ _ in_range)
      no_fault h

  settled_pass : (h : Held) → Keeps (settle_fault c again h) h (settled c h)
  settled_pass = grind (arith, owned, used_pass)

  reacted_pass : (a : Rule) (values : List Text) (h : Held) → IsOwn c a
      → Keeps (react_fault c again a values h) h (reacted c a values h)
  reacted_pass = grind (arith, none_fails, used_pass, settled_pass)

  -- a use as an option with this value, or another meaning of the word
  option_or : (a : Rule) (v : Option Text) (h : Held) (fault : Kinds) (other : Held × Outcome) → IsOwn c a
      → KeepsMet fault h other
      → KeepsMet (cond (takes_values a) (option_fault c again a v h) fault) h
      (cond (takes_values a) (option_met c a v h) other)
  option_or a v h _ _ is keeps none rows =
      grind (arith, settled_pass h, λ (word : Text). reacted_pass a (word ∷ []) h is)

  long_pass : (o : Option Rule) (v : Option Text) (h : Held) → IfSome o (IsOwn c)
      → KeepsMet (long_fault c again o v h) h (long_met c o v h)
  long_pass = grind (arith, option_or, reacted_pass)

  short_pass : (o : Option Rule) (rest : Text) (h : Held) (next : Held → Held × Outcome) (fault : Held → Kinds)
      → ((k : Held) → KeepsMet (fault k) k (next k)) → IfSome o (IsOwn c)
      → KeepsMet (short_fault c again o rest h fault) h (short_met c o rest h next)
  short_pass = grind (arith, option_or, none_fails, reacted_pass)

  found_own : (p : Rule → Bool) → IfSome (find p c) (IsOwn c)
  found_own p = grind (arith, owned p c, level.plain, level.distinct)

  bundle_pass : (k : ℕ) (flags : Text) (skip : ℕ) (so_far : Outcome) (h : Held)
      → KeepsMet (flags_fault c again k flags skip h) h (bundle_met c k flags skip so_far h)
  unfolding bundle_met flags_fault
  bundle_pass zero _ _ _ h none rows = rows
  bundle_pass (suc k) flags skip so_far h none rows = go _ _ none (bundle_pass k)
    where
      go : (o : Option ℕ) (skip : ℕ) → bundle_step_fault c again o flags skip h (flags_fault c again k) ≡ []
          → ((flags : Text) (skip : ℕ) (so_far : Outcome) (h : Held)
          → KeepsMet (flags_fault c again k flags skip h) h (bundle_met c k flags skip so_far h))
          → (let (met, _) = bundle_step c o flags skip so_far h (bundle_met c k) in RowsPass c met.rows)
      go None skip none later = rows
      go (Some x) zero none later =
          let rest = drop (length (encode_utf8 x)) flags in
          short_pass _ _ h (bundle_met c k rest 0 done) (flags_fault c again k rest 0)
          (later rest 0 done)
          (found_own (λ a. not (is_some a.index) && has_short a x)) none rows
      go (Some x) (suc skip) none later = later (drop (length (encode_utf8 x)) flags) skip so_far h none rows

-- ---- a word

-- a flag or a plain word does not name a subcommand, and leaves the entries unchanged
abbrev pub IsElsewhere : (Text → Type 0) → Step → Type 0
IsElsewhere P (w.subcommand name) = P name
IsElsewhere P _ = Unit {0}

plain_keeps : (c : List Rule) (waiting : Waiting) (word : Text) (h : Held) (P : Text → Type 0)
    → (let (met, step) = plain_word c waiting word h in (met.rows ≡ h.rows) × IsElsewhere P step)
plain_keeps = grind arith

flag_keeps : (c : List Rule) (waiting : Waiting) (word : Text) (h : Held) (o : Outcome) (P : Text → Type 0)
    → (let (met, step) = after_flag c waiting word h o in (met.rows ≡ h.rows) × IsElsewhere P step)
flag_keeps = grind arith

-- the name asks for help
abbrev pub asks : Shape → Text → Bool
asks s name = bytes_eq name (codes "help") && not s.disable_help_subcommand

module _ (s : Shape) where
  -- If there is no fault, entries that obey their rules still do, and the word does not ask for help.
  abbrev Goes : Kinds → Held → Held × Step → Type 0
  Goes fault h (met, step) =
      fault ≡ [] → (IsPlainLevel s.rules → RowsPass s.rules h.rows → RowsPass s.rules met.rows)
      × IsElsewhere (λ name. asks s name ≡ false) step

  either : (b : Bool) (fault : Kinds) (h : Held) (met other : Held × Step) → Goes [] h met → Goes fault h other
      → Goes (if b then [] else fault) h (if b then met else other)
  either = grind arith

  flag_goes : (fault : Kinds) (waiting : Waiting) (word : Text) (h met : Held) (outcome : Outcome)
      → (IsPlainLevel s.rules → fault ≡ [] → RowsPass s.rules h.rows → RowsPass s.rules met.rows)
      → Goes fault h (after_flag s.rules waiting word met outcome)
  flag_goes = grind (arith, flag_keeps)

  short_goes : (waiting : Waiting) (word : Text) (o : Option Text) (h : Held)
      → Goes (option_map_or (λ flags. bundle_fault s.rules s.args_override_self flags h) o []) h
      (short_or_plain s.rules waiting word o h)
  short_goes = grind (arith, plain_keeps, flag_goes, bundle_pass)

  long_goes : (waiting : Waiting) (word : Text) (o : Option (Text × Option Text)) (h : Held)
      → Goes (flag_word_fault s.rules s.args_override_self o word h) h (long_or_other s.rules waiting word o h)
  long_goes = grind (arith, short_goes, flag_goes, long_pass, found_own)

  other_goes : (o : Option Text) (waiting : Waiting) (position : ℕ) (word : Text) (h : Held)
      → Goes (other_fault s o word h) h (subcommand_or_other s.rules o waiting position word h)
  other_goes = grind (arith, either, long_goes)

  word_goes : (names : Names) (is_trailing : Bool) (waiting : Waiting) (position : ℕ) (word : Text) (h : Held)
      → Goes (word_fault s names is_trailing waiting word h) h
      (word_met s.rules names is_trailing waiting position word h)
  word_goes = grind (arith, either, other_goes)

  -- ---- the walk over the words

  -- The entries obey their rules, and the subcommand does not ask for help.
  abbrev pub Stands : Walk → Type 0
  Stands walk = (IsPlainLevel s.rules → RowsPass s.rules walk.held.rows)
      × IfSome walk.stopped (λ (name, _). asks s name ≡ false)

  step_goes : (word : Text) (walk : Walk) (h : Held) (step : Step) → (IsPlainLevel s.rules → RowsPass s.rules h.rows)
      → IsElsewhere (λ name. asks s name ≡ false) step
      → IfSome walk.stopped (λ (name, _). asks s name ≡ false) → step_fault s walk.position h step ≡ []
      → Stands (after_step s.rules word walk h step)
  step_goes _ walk h (w.next waiting) rows _ stop none = (rows, stop)
  step_goes _ walk h (w.trailing position) rows _ stop none = (rows, stop)
  step_goes _ walk h (w.subcommand name) rows kept _ none = (rows, kept)
  step_goes word walk h w.value rows kept stop none = go _ none
    where
      go : (o : Option Rule)
          → option_map_or (λ a. positional_fault s.rules s.args_override_self a h) o (stray_fault s) ≡ []
          → Stands (to_positional s.rules o word walk h)
      go None none = (rows, stop)
      go (Some a) none =
          (λ level. let passed = rows level in grind (arith, settled_pass s.rules level s.args_override_self h), tt)

  -- A property that holds before the first word holds after the last.
  pub walk_goes : (names : Names) (walk : Walk) (words : List Text) → walk_fault s names walk words ≡ [] → Stands walk
      → Stands (fold (walked s.rules names) walk words)
  unfolding walk_fault walked
  walk_goes _ walk [] none h = h
  walk_goes names walk (word ∷ rest) none (rows, stop) =
      let (no_fault, later) = none_fails _ _ none in
      walk_goes _ (walked _ _ walk word) rest later (go _ refl no_fault)
    where
      go : (o : Option (Text × List Text)) → walk.stopped ≡ o
          → (let (held, step) = word_met s.rules names walk.is_trailing walk.waiting walk.position word walk.held in
          cond (is_some o) []
          (or_else (word_fault s names walk.is_trailing walk.waiting word walk.held)
          (step_fault s walk.position held step))) ≡ []
          → Stands (walked_from s.rules names o walk word)
      go (Some p) is none = (rows, rw is at stop)
      go None is none =
          let (no_fault, no_step_fault) = none_fails _ _ none in
          let (passed, asks_none) = word_goes names _ _ walk.position word _ no_fault in
          step_goes _ _ _ _ (λ level. passed level (rows level)) asks_none stop no_step_fault

-- ---- after the walk

defaults_pass : (rules : List Rule) (rows : List Row) → list_all is_plain_rule rules ≡ true
    → fold with_default rows rules ≡ rows
defaults_pass [] _ _ = refl
defaults_pass (a ∷ rest) rows all =
    let (first, others) = both _ _ all in
    let (empty, _) = both _ _ first in
    ap (λ r. fold with_default r rest) (go _ _ empty) ∙ defaults_pass rest _ others
  where
    go : (ds : List Text) (b : Bool) → is_empty ds ≡ true
        → cond b rows (default_rows a.id (reading_by a) ds rows) ≡ rows
    go ds b empty = grind (arith, empty)

last_check : (wants_help wants_subcommand wants_argument : Bool)
    → check_kinds wants_help wants_subcommand wants_argument ≡ [] → wants_argument ≡ false
last_check = grind arith

-- one level of a command without a subcommand, if there is no fault
pub level_taken : (s : Shape) (words : List Text) → IsPlainLevel s.rules → s.subcommand_negates_reqs ≡ false
    → level_fault s [] nothing_held words false [] ≡ [] → IsTaken s.rules (rows_after s.rules [] words)
level_taken = grind (arith, last_check, walk_goes, defaults_pass, settled_pass)

-- ---- if a program requires a tool, the words name one other than `help`, and it accepts the words after it

enters_by : (a : App) (words : List Text) (stop : Option (Text × List Text))
    → stop_after (built a).top.rules (names_of (built a)) (argument_words a words) ≡ stop
    → is_some (entered (built a) stop) ≡ true → entered_fault (built a) stop ≡ []
    → IfSome stop (λ (name, _). asks (built a).top name ≡ false) → Enters a words
enters_by = grind arith

pub enters : (a : App) (words : List Text) → (built a).top.subcommand_required ≡ true → fault_of a words ≡ []
    → Enters a words
enters a words wanted none =
    let stop = stop_after (built a).top.rules (names_of (built a)) (argument_words a words) in
    let (unfaulted, after) = none_fails _ _ none in
    let (below, end_none) = none_fails _ _ after in
    let (settle, defaults_none) = none_fails _ _ end_none in
    let end = (walk (built a).top.rules (names_of (built a)) nothing_held (argument_words a words)).held in
    let there = is_some (entered (built a) stop) in
    let rows = finished (built a).top.rules end in
    let defaults = none_fails (defaults_fault (settled (built a).top.rules end).rows (built a).top.rules)
    (check_fault (built a).top rows there) defaults_none in
    let (_, other) = walk_goes (built a).top (names_of (built a)) _ _
    unfaulted ((λ level. tt), tt) in
    enters_by a _ _ refl (grind arith) below other

-- ---- from the rules of the words to the values that the getters read

-- the entry with an id obeys its rule
entry : (c : List Rule) (id : Text) (rows : List Row) (r : Row) → RowsPass c rows
    → find (λ r. bytes_eq r.id id) rows ≡ Some r
    → (r.id ≡ id) × RowPasses c r
entry c id rows r h is =
    when_found _ (λ rows. RowsPass c rows → (r.id ≡ id) × RowPasses c r) r
    (λ xs passes (entry, _). ((bytes_eq-Decides _ _).0 passes, entry))
    (λ x xs fails is rest (_, others). rest others) _ is h

-- the text of an argument is the text of a value that obeys the rule
record IsText (a : Rule) (text : Text) : Type 0 where
  given : Text
  read : text ≡ read_as (reading_by a) given
  passed : value_passes a given ≡ true

head_text : (a : Rule) (r : Row) (vs : List Text) → r.reading ≡ reading_by a → list_all (value_passes a) vs ≡ true
    → 0 < length vs
    → (t : Text) × (option_map (read_as r.reading) (slice_get vs 0) ≡ Some t) × IsText a t
head_text a r [] how all filled = absurd (omega arith)
head_text a r (v ∷ vs) how all _ = (
  read_as _ v,
  refl,
  record { given = v; read = ap (λ how. read_as how v) how; passed = let (first, _) = both _ _ all in first },
)

-- an argument that is given has a text, and each text of an argument is of this kind
text_of : (c : List Rule) (a : Rule) (id : Text) (rows : List Row) → RowsPass c rows → arg_by_id c id ≡ Some a
    → IfSome (one_of id rows) (IsText a) × (is_given id rows ≡ true → is_some (one_of id rows) ≡ true)
text_of c a id rows h is = go _ refl
  where
    go : (o : Option Row) → find (λ r. bytes_eq r.id id) rows ≡ o → IfSome (option_and_then row_text o) (IsText a)
        × (option_map_or (λ r. explicit_source r.source) o false ≡ true → is_some (option_and_then row_text o) ≡ true)
    go None found = (tt, λ given. given)
    go (Some r) found =
        let (same, passes) = entry _ _ _ _ h found in
        let there : Some passes.rule ≡ Some a = sym passes.own ∙ ap (arg_by_id c) same ∙ is in
        let rule : passes.rule ≡ a = cc in
        let (_, read, text) =
        head_text a r _ (passes.reading ∙ ap reading_by rule) (rw (← rule) passes.passed) passes.filled in
        rw read (text, λ given. refl {a = true})

-- how the getter of a `u32` reads a text
abbrev pub Parses : Text → Result ℕ ParseIntError → Type 0
Parses bs r = ParsesUnsigned 32 10 bs r × ExplainsUnsignedError 10 bs r × HasUnsignedDigitsIfOk bs r

number_text : (a : Rule) (t : Text) (r : Option ℕ) (p : ValueParser) → parser_of_value a.parser ≡ p
    → FitsWord (bounds_by p) → IsText a t → ReadsOne Parses t r
    → (r ≡ Some (decimal t)) × IfSome r (IsWithin (bounds_by p))
number_text a t r (vp.Signed (pos low) (pos high)) parser fits text reads =
    let accepted : Accepts a.ignore_case (vp.Signed (pos low) (pos high)) text.given =
    accepts-Accepts a.ignore_case (vp.Signed _ _) text.given
    (subst (λ (p : ValueParser). accepts a.ignore_case p text.given ≡ true) parser text.passed) in
    let how : t ≡ read_as (reading_of (vp.Signed (pos low) (pos high))) text.given = text.read
    ∙ ap (λ (p : ValueParser). read_as (reading_of p) text.given) parser in
    let (n, is, least, most) = signed_reads _ Parses 32 _ _ text.given r
    (subst (λ (u : Text). ReadsOne Parses u r) how reads) (λ u x (parsed, _, _). parsed) fits accepted in
    let ((_, value), _, _) : ReadsOne Parses t (Some n) = subst (λ (o : Option ℕ). ReadsOne Parses t o) is reads in
    (is ∙ ap Some value, subst (λ o. IfSome o (IsWithin (Some (low, high)))) (sym is) (least, most))
number_text a t r _ parser fits _ _ = absurd fits

-- the number of an argument is the one in the words, and within its bounds
pub getter : (c : List Rule) (id : Text) (f : Found) (r : Option ℕ) → IsTaken c (rows_of f) → FitsWord (bounds_in c id)
    → (one_text f id ≡ None → r ≡ None) → ((t : Text) → one_text f id ≡ Some t → ReadsOne Parses t r)
    → (r ≡ number_of id (rows_of f)) × IfSome r (IsWithin (bounds_in c id))
getter c id f r taken fits none value = at_rule _ refl fits
  where
    at_text : (a : Rule) (o : Option Text) → one_of id (rows_of f) ≡ o → IfSome o (IsText a)
        → FitsWord (bounds_by (parser_of_value a.parser))
        → (r ≡ option_map decimal o) × IfSome r (IsWithin (bounds_by (parser_of_value a.parser)))
    at_text a None e text fits = rw (none (one_text-rows f id ∙ e)) (refl, tt)
    at_text a (Some t) e text fits =
        number_text _ _ _ _ refl fits text (value t (one_text-rows f id ∙ e))

    at_rule : (o : Option Rule) → arg_by_id c id ≡ o
        → FitsWord (option_and_then (λ a. bounds_by (parser_of_value a.parser)) o)
        → (r ≡ number_of id (rows_of f))
        × IfSome r (IsWithin (option_and_then (λ a. bounds_by (parser_of_value a.parser)) o))
    at_rule None is fits = absurd fits
    at_rule (Some a) is fits = let (text, _) = text_of _ _ _ _ taken.entries is in at_text a _ refl text fits

-- a required argument has a number
pub needed : (c : List Rule) (id : Text) (rows : List Row) → IsTaken c rows → is_needed c id ≡ true
    → is_some (number_of id rows) ≡ true
needed c id rows taken is = at_rule _ refl is
  where
    some_number : (o : Option Text) → is_some o ≡ true → is_some (option_map decimal o) ≡ true
    some_number o e = grind (arith, e)

    at_rule : (o : Option Rule) → arg_by_id c id ≡ o
        → option_map_or (λ a. a.required && bytes_eq a.id id) o false ≡ true → is_some (number_of id rows) ≡ true
    at_rule None found is = cc
    at_rule (Some a) found is =
        let (required, same) = both a.required (bytes_eq a.id id) is in
        let missing = any_not (λ a. a.required && not (is_given a.id rows)) (λ a. bytes_eq a.id id) _ _ taken.complete
        found in
        let given : is_given a.id rows ≡ true = not-false _ (rw required at missing) in
        let (_, some) = text_of c a _ _ taken.entries found in
        some_number (one_of id rows)
        (some (subst (λ (t : Text). is_given t rows ≡ true) ((bytes_eq-Decides a.id id).0 same) given))

-- ---- a command with one more argument or tool still has the shape of its rules

pub with_tool : {app tool : App} (old new sub : Command) → IsCommand old app → IsCommand sub tool
    → AddsSubcommand old sub new
    → IsCommand new (with_subcommand app tool.top)
with_tool _ _ _ is tool_is added = record {
  shape = added.shape tool_is.local ∙ ap₂ with_subcommand is.shape (ap (λ (a : App). a.top) tool_is.shape);
  local = added.globals ∙ ap₂ (λ x y. x || y) is.local tool_is.local;
}

-- several arguments, one after another
pub in_turn : (args : List Arg) (app : App) (old new : Command) → IsCommand old app
    → list_any (λ a. a.global) args ≡ false → AddsInTurn AddsArg old args new
    → IsCommand new (fold with_rule app (map rule_of args))
in_turn [] app _ _ is _ same = subst (λ c. IsCommand c app) same is
in_turn (a ∷ rest) app _ _ is local (mid, added, chain) =
    let (here, later) = or_parts _ _ local in
    let next : IsCommand mid (with_rule app (rule_of a)) = record {
      shape = added.shape here ∙ ap (λ (app : App). with_rule app (rule_of a)) is.shape;
      local = added.globals ∙ rw (is.local, here) refl;
    } in
    in_turn rest _ _ _ next later chain

-- help does not change the rules
pub helped : {app : App} {about after : Option (Bor Text)} (first second third : Command) → IsCommand first app
    → out-Command second ≡ record (out-Command first) { about = about }
    → out-Command third ≡ record (out-Command second) { after_help = after } → IsCommand third app
helped _ _ _ is about after = record {
  shape = ap app_of_fields after ∙ ap app_of_fields about ∙ is.shape;
  local = ap (λ (f : Command-F Command). f.has_globals) after ∙ ap (λ (f : Command-F Command). f.has_globals) about
      ∙ is.local;
}

-- the program before its tools are added: one is required
pub wanting_is : {app : App} (old new : Command) → IsCommand old app
    → out-Command new ≡ record (out-Command old) { subcommand_required = true }
    → IsCommand new (wanting app)
wanting_is _ _ is same = record {
  shape = ap app_of_fields same ∙ ap wanting is.shape;
  local = ap (λ (f : Command-F Command). f.has_globals) same ∙ is.local;
}
