-- From words that `clap` accepts to the tool that they name, its numbers and its peer.
use Rattle.std.proofs.Common.{[], add-one, ap, arith, Bool, codes, drop, drop-cons, Err, false, find, get_or, IfSome}
use Rattle.std.proofs.Common.{inl, inr, IsErrAnd, IsSomeAnd, length, length-drop, List, map, None, Ok, Option}
use Rattle.std.proofs.Common.{option_map, refl, Result, Some, subst, sym, true, unwrap_or, ℕ, ◌+◌, ◌<◌, ◌∙◌, ◌∷◌, ◌≡◌}
use Rattle.std.proofs.{Common.{◌≤◌, ◌⊎◌}, lemmas.{Bool.false≢true, List.{drop_all, length-map}, Option.same_Some}}
use Rattle.std.{proofs.{lemmas.Slice.Eq.bytes_eq-Decides, Math.Bool.or-false}, specs.Borrow.Bor}
use Rattle.clap.{proofs.WalkLemmas.first_value-rows, specs.declared.error.{Error.Error, kind.ErrorKind.ErrorKind}}
use Rattle.clap.specs.{Faults.{fault_of, is_simple_and_free, level_fault}, Kinds.{HasKind, IsAmong}}
use Rattle.clap.specs.{Simple.{built, is_simple, label_of, rows_at, Shape, subcommand_of}, Values.kind_of}
use Rattle.{clap.specs.{Walk.{answers_to, nothing_held, Row, Rule, Text, texts}, Words.Text}, bac_wire.specs.◌>>=◌}
use Rattle.bac_words.specs.{Answers, bacrp, bacrun, bactool, bacwi, bacwp, IsRefusal, marked_words, Peer, peer_in}
use Rattle.bac_words.specs.{unmarked, declared.{faults.UsageFault.UsageFault, job.Job.Job}, Inner.bounds}
use Rattle.bac_words.specs.Inner.{fault_by, fault_from, IsClient, IsGiven, IsNumberWord, IsRequest, IsSender, IsTool}
use Rattle.bac_pdu.specs.{network_address, Station, station, declared.route.Route.Route}
use Rattle.bac_text.specs.{plain_peer_of, Address.{address_of, cut_at, short_number, station_at}}
use Rattle.clap_laws.{proofs.Parsed.{enters, level_taken, needed, when_found}, specs.Entering.asks_for_help}
use Rattle.clap_laws.specs.{Inner.{Commands.rules_of, Numbers.{bounds_in, FitsWord, is_needed}}, Passes.IsTaken}
use Rattle.clap.specs.declared.error.kind.ErrorKind.TheVariants as kind

abbrev AllOf : (Shape → Type 0) → List Shape → Type 0
AllOf P [] = Unit {0}
AllOf P (s ∷ rest) = P s × AllOf P rest

one_found : (P : Shape → Type 0) (p : Shape → Bool) (xs : List Shape) (t : Shape) → AllOf P xs → find p xs ≡ Some t
    → P t × (p t ≡ true)
one_found P p xs t all is =
    when_found p (λ xs. AllOf P xs → P t × (p t ≡ true)) t
    (λ xs passes (here, _). (here, passes)) (λ x xs fails is rest (_, later). rest later) xs is all

-- A tool with this name accepts the words, if the name does not ask for help.
abbrev Passed : Shape → Type 0
Passed s = (name : Text) (words : List Text) → answers_to name (label_of s) ≡ true
    → asks_for_help (built bactool) name ≡ false →
    level_fault s [] nothing_held words false [] ≡ [] → IsTool (rows_at s words)

-- The name of `clap`'s own subcommand `help` asks for help.
asks : (name : Text) → answers_to name (codes "help", []) ≡ true → asks_for_help (built bactool) name ≡ true
asks name answers =
    let is : codes "help" ≡ name = (bytes_eq-Decides (codes "help") name).0 (sym (or-false _) ∙ answers) in
    subst (λ (n : Text). asks_for_help (built bactool) n ≡ true) is refl

each_tool : AllOf Passed (built bactool).subs
each_tool = (
  (λ name words answers other none.
      inl (refl, level_taken _ words (record { plain = refl; distinct = refl }) refl none)),
  (
    (λ name words answers other none.
        inr (inl (refl, level_taken _ words (record { plain = refl; distinct = refl }) refl none))),
    (
      (λ name words answers other none.
          inr (inr (inl (refl, level_taken _ words (record { plain = refl; distinct = refl }) refl none)))),
      (
        (λ name words answers other none.
            inr (inr (inr (inl (refl, level_taken _ words (record { plain = refl; distinct = refl }) refl none))))),
        (
          (λ name words answers other none.
              inr (inr (inr (inr
              (inl (refl, level_taken _ words (record { plain = refl; distinct = refl }) refl none)))))),
          (
            (λ name words answers other none. inr (inr (inr (inr (inr refl))))),
            ((λ name words answers other none. absurd (false≢true (sym other ∙ asks name answers))), tt),
          ),
        ),
      ),
    ),
  ),
)

pub tool_met : (words : List Text) → fault_of bactool words ≡ [] → IsSomeAnd (subcommand_of bactool words) IsTool
tool_met words none =
    let in_tool = enters bactool words refl none in
    let (passed, answers) =
    one_found Passed (λ s. answers_to in_tool.name (label_of s)) (built bactool).subs in_tool.tool each_tool
    in_tool.found in
    subst (λ o. IsSomeAnd o IsTool) (sym in_tool.rows)
    (passed in_tool.name in_tool.rest answers in_tool.other in_tool.passes)

pub bactool_is_free : is_simple_and_free bactool ≡ true
bactool_is_free = refl

pub bactool_is_simple : is_simple bactool ≡ true
bactool_is_simple = refl

refusal : (words : List Text) (e : Error) (k : ErrorKind) → kind_of e ≡ k → (k ≡ kind.OutOfMemory)
    ⊎ IsAmong k (fault_of bactool (marked_words words)) → IsRefusal words (fault_by k e)
refusal words e kind.OutOfMemory is h = tt
refusal words e kind.DisplayHelp is h = elim h [
  | inl m ↦ cc
  | inr among ↦ (is, subst (λ k. IsAmong k (fault_of bactool (marked_words words))) (sym is) among)
]
refusal words e _ is h = elim h [
  | inl m ↦ cc
  | inr among ↦ (
    (λ help. let bad = sym is ∙ help in cc bad),
    subst (λ k. IsAmong k (fault_of bactool (marked_words words))) (sym is) among,
  )
]

-- an error of `clap` is reported as a refusal
pub refused : (words marked : List Text) (e : Error) (r : Result Job UsageFault) → marked ≡ marked_words words
    → HasKind (fault_of bactool marked) e → IsErrAnd r (λ f. f ≡ fault_from e) → IsErrAnd r (IsRefusal words)
refused _ _ e (Ok x) _ h is = absurd is
refused words _ e (Err f) same h is =
    subst (IsRefusal words) (sym is)
    (refusal words e (kind_of e) refl (subst (λ w. HasKind (fault_of bactool w) e) same h))

-- ---- the numbers of an argument that several tools have, and the peer that a word names

-- The words that an argument has first.
pub ruleset first_words = (first_value-rows)

module _ (id : Text) (rows : List Row) where
  pub of_tool : (rules : List Rule) → IsTaken rules rows → bounds_in rules id ≡ bounds id → FitsWord (bounds id)
      → IsNumberWord id rows
  of_tool rules taken bounded fits = record { rules = rules; taken = taken; bounded = bounded; fits = fits }

  pub of_request : IsRequest rows → bounds_in (rules_of bacrp) id ≡ bounds id
      → bounds_in (rules_of bacwp) id ≡ bounds id → FitsWord (bounds id) → IsNumberWord id rows
  of_request taken reads writes fits =
      elim taken [ inl read ↦ of_tool _ read reads fits | inr write ↦ of_tool _ write writes fits ]

  pub of_sender : IsSender rows → bounds_in (rules_of bacrp) id ≡ bounds id → bounds_in (rules_of bacwp) id ≡ bounds id
      → bounds_in (rules_of bacrun) id ≡ bounds id → FitsWord (bounds id) → IsNumberWord id rows
  of_sender taken reads writes runs fits =
      elim taken [ inl request ↦ of_request request reads writes fits | inr run ↦ of_tool _ run runs fits ]

  pub of_client : IsClient rows → bounds_in (rules_of bacrp) id ≡ bounds id → bounds_in (rules_of bacwp) id ≡ bounds id
      → bounds_in (rules_of bacrun) id ≡ bounds id → bounds_in (rules_of bacwi) id ≡ bounds id → FitsWord (bounds id)
      → IsNumberWord id rows
  of_client taken reads writes runs seeks fits =
      elim taken [ inl sender ↦ of_sender sender reads writes runs fits | inr search ↦ of_tool _ search seeks fits ]

  -- A required argument is given.
  pub given_to_tool : (rules : List Rule) → IsTaken rules rows → is_needed rules id ≡ true → IsGiven id rows
  given_to_tool rules taken is = record { given = needed rules id rows taken is }

  pub given_to_request : IsRequest rows → is_needed (rules_of bacrp) id ≡ true → is_needed (rules_of bacwp) id ≡ true
      → IsGiven id rows
  given_to_request taken reads writes =
      elim taken [ inl read ↦ given_to_tool _ read reads | inr write ↦ given_to_tool _ write writes ]

-- The words of the pairs, or none.
pub pairs_typed : (o : Option (Bor (List (Bor Text)))) (none : Bor (List (Bor Text))) → none.now ≡ [] →
    map unmarked (texts (unwrap_or o none).now) ≡ map unmarked (unwrap_or (option_map (λ p. texts p.now) o) [])
pairs_typed None _ empty = rw empty refl
pairs_typed (Some p) _ _ = refl

-- ---- the peer in a word has no route, so the code's peer and the definition's agree

abbrev IsPlain : Station → Type 0
IsPlain to = to.route ≡ None

plain_at : (parts : List ℕ × List ℕ) → IfSome (station_at parts) IsPlain
plain_at (address, number) = at_port (short_number 5 65535 number) (address_of address)
  where
    at_port : (port ip : Option ℕ)
        → IfSome (port >>= λ n. ip >>= λ m. Some (record { ip = m; port = n; route = None })) IsPlain
    at_port None ip = tt
    at_port (Some n) None = tt
    at_port (Some n) (Some m) = refl

no_route : (route : Option Route) → option_map network_address route ≡ None → route ≡ None
no_route None e = refl
no_route (Some r) e = cc

same_peer : (p : Peer) (s : Station) → station p ≡ s → IsPlain s → p ≡ record { ip = s.ip; port = s.port; route = None }
same_peer p s e plain =
    let routes = no_route p.route (ap (λ (s : Station). s.route) e ∙ plain) in
    λ i. record { ip = (e i).ip; port = (e i).port; route = routes i }

pub peer_named : (word : Text) (p : Option Peer) → option_map station p ≡ plain_peer_of word → p ≡ peer_in word
peer_named word p = go p (plain_peer_of word) (plain_at (unwrap_or (cut_at 58 word) (word, codes "47808")))
  where
    go : (p : Option Peer) (o : Option Station) → IfSome o IsPlain → option_map station p ≡ o
        → p ≡ option_map (λ to. record { ip = to.ip; port = to.port; route = None }) o
    go None None plain e = refl
    go (Some p) (Some s) plain e = ap Some (same_peer p s (same_Some (station p) s e) plain)
    go None (Some s) plain e = cc
    go (Some p) None plain e = cc

-- ---- the words that are left to read

pub typed_next : (words : List (Bor Text)) (n : ℕ) (d : Bor Text) → n < length words →
    map unmarked (texts (drop n words)) ≡ unmarked (get_or words n d).now ∷ map unmarked (texts (drop (n + 1) words))
typed_next words n d h =
    ap (λ (ws : List (Bor Text)). map unmarked (texts ws)) (drop-cons words n d h)
    ∙ ap (λ (k : ℕ). unmarked (get_or words n d).now ∷ map unmarked (texts (drop k words))) (sym (add-one n))

pub typed_end : (words : List (Bor Text)) (n : ℕ) → length words ≤ n → map unmarked (texts (drop n words)) ≡ []
typed_end words n h = ap (λ (ws : List (Bor Text)). map unmarked (texts ws)) (drop_all n words h)

pub typed_fewer : (words : List (Bor Text)) (n : ℕ) → length (map unmarked (texts (drop n words))) ≤ length words
typed_fewer words n =
    let typed = length-map (texts (drop n words)) unmarked in
    let seen = length-map (drop n words) (λ (b : Bor Text). b.now) in
    let left = length-drop n words in omega arith

-- ---- a command line has one result: one job, or one first fault

pub one_answer : (words : List Text) (a b : Result Job UsageFault) → Answers words a → Answers words b → a ≡ b
one_answer _ a b first second = same_Some a b (sym first.answer_is ∙ second.answer_is)
