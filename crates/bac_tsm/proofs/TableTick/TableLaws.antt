-- The table of open requests: how it is read, and how each change leaves it.
use Rattle.std.proofs.Common.{[], All, AllPairs, ap, append_assoc, arith, below_more, Bool, drop, eq-eqb, eqb-true, Err}
use Rattle.std.proofs.Common.{false, filter, find, get_or, get_or-set_other, get_or-set_same, get_or-take}
use Rattle.std.proofs.Common.{if◌then◌else◌, is_some, length, length-append, length-set, length-take, List, lt-ltb}
use Rattle.std.proofs.Common.{ltb-false, map, MatchResult, nat_eq, nat_lt, ne_eqb, None, not, Ok, Option, refl, remove}
use Rattle.std.proofs.Common.{replicate, Result, set, slice_get, Some, subst, suc, sym, take, take-append-drop, take_at}
use Rattle.std.proofs.Common.{true, unwrap_or, zero, ℕ, ◌%◌, ◌++◌, ◌+◌, ◌<◌, ◌∙◌, ◌∷◌, ◌≡◌, ◌≤◌}
use Rattle.std.proofs.lemmas.{Bool.Decides.nat_tests, Grind.{common_steps, take_at_read}}
use Rattle.std.proofs.lemmas.List.{drop-map, get_or-map, get_or-replicate, get_or_default, length-map, map-append}
use Rattle.std.proofs.lemmas.List.{take-map, Edits.{length-remove, remove-append_left}, Elements.filter-append}
use Rattle.std.proofs.lemmas.List.{Quantifiers.{all_pairs_push, all_pairs_remove}, Sorted.searched, Sums.length-filter}
use Rattle.std.proofs.lemmas.{List.Sums.sum_by-remove, Option.{get_or_from_slice_get, slice_get_within}, Simd.map-map}
use Rattle.std.specs.{List.{list_any, position_or_len, Sorted.IsBinarySearchResult}, Ordering.nat_cmp, Result.result_ok}
use Rattle.bac_tsm.proofs.Calls.{by_ticket, pairs_tail, TicketsRise}
use Rattle.bac_tsm.{proofs.WholeRun.RequestLife.{a_step, first_at, first_from, is_free, NotBefore}, specs.Answer}
use Rattle.bac_tsm.specs.{AreBySend, AreNamed, first_within, held_at, is_answer_to, IsTable, Names, next_invoke_id}
use Rattle.bac_tsm.specs.{nothing, open_slots, table_size, times, times_of_slot, declared.request.Asked.Asked}
use Rattle.bac_tsm.specs.Inner.{begun, invoke_id_at, invoke_id_in, IsRankOf, IsTakenOut, Leaves, ticket_in, waiting_in}
use Rattle.bac_tsm.specs.Machine.{Waiting}

-- ---- how many elements of a list have a key

module _ {A : Type 0} (key : A → ℕ) where
  pub times-append : (n : ℕ) (xs ys : List A) → times key n (xs ++ ys) ≡ times key n xs + times key n ys
  times-append n xs ys = cc (filter-append _ xs ys, length-append _ _)

  pub times_one : (n : ℕ) (x : A) → key x ≡ n → times key n (x ∷ []) ≡ 1
  times_one n x e = rw (eq-eqb _ n e)

  pub times_other : (n : ℕ) (x : A) → (key x ≡ n → ⊥) → times key n (x ∷ []) ≡ 0
  times_other n x e = rw (ne_eqb _ n e)

  pub times-remove : (n : ℕ) (xs : List A) (i : ℕ) (d : A) → i < length xs →
      times key n (remove xs i) + times key n (get_or xs i d ∷ []) ≡ times key n xs
  times-remove = grind (arith, common_steps, length-filter, sum_by-remove)

  pub times_got : (xs : List A) (i : ℕ) (d : A) → i < length xs → 0 < times key (key (get_or xs i d)) xs
  times_got xs i d lt =
      let e = times-remove (key (get_or xs i d)) xs i d lt in
      let f = times_one _ (get_or xs i d) refl in omega arith

-- At most one element has key n, and only elements with key n pass the test.
module _ {A : Type 0} (key : A → ℕ) (p : A → Bool) (n : ℕ) (says : (x : A) → p x ≡ true → key x ≡ n) where
  pub none_passes : (xs : List A) → times key n xs ≡ 0 → (filter p xs ≡ []) × (filter (λ x. not (p x)) xs ≡ xs)
  none_passes [] _ = (refl, refl)
  none_passes (x ∷ xs) none = grind (arith, none_passes xs, says x)

  pub one_passes : (xs : List A) (i : ℕ) (d : A) → i < length xs → key (get_or xs i d) ≡ n → times key n xs ≤ 1 →
      (filter p xs ≡ (if p (get_or xs i d) then get_or xs i d ∷ [] else []))
      × (filter (λ x. not (p x)) xs ≡ (if p (get_or xs i d) then remove xs i else xs))
  one_passes [] i d lt is few = absurd (omega arith)
  one_passes (x ∷ xs) zero d lt is few = grind (arith, none_passes xs)
  one_passes (x ∷ xs) (suc i) d lt is few = grind (arith, times_got, nat_tests, one_passes xs i d)

abbrev pub itself : ℕ → ℕ
itself slot = slot

-- A slot that is not in the order can be filled without a change to the listed requests.
held_elsewhere : (slots : List Waiting) (slot : ℕ) (w : Waiting) (order : List ℕ) → times_of_slot slot order ≡ 0 →
    held_at (set slots slot w) order ≡ held_at slots order
held_elsewhere _ _ w [] _ = refl
held_elsewhere slots slot w (q ∷ qs) none = grind (arith, get_or-set_other, held_elsewhere slots slot w qs)

pub held-set : (slots : List Waiting) (slot : ℕ) (w : Waiting) (order : List ℕ) (i : ℕ) → slot < length slots →
    i < length order → get_or order i 0 ≡ slot → times_of_slot slot order ≤ 1 →
    held_at (set slots slot w) order ≡ set (held_at slots order) i w
held-set _ _ w [] i _ lt is _ = absurd (omega arith)
held-set _ _ w (q ∷ qs) zero there lt is once = grind (arith, get_or-set_same, held_elsewhere)
held-set _ slot w (q ∷ qs) (suc i) there lt is once =
    grind (arith, times_got itself qs i 0, get_or-set_other, held-set _ _ w qs i there (omega arith) is)

-- A slot that is not in the order is filled, and appended to it.
pub held-push : (slots : List Waiting) (slot : ℕ) (w : Waiting) (order : List ℕ) → slot < length slots
    → times_of_slot slot order ≡ 0 → held_at (set slots slot w) (order ++ slot ∷ []) ≡ held_at slots order ++ w ∷ []
held-push = grind (arith, map-append, held_elsewhere, get_or-set_same)

pub map-remove : {A B : Type 0} (f : A → B) (xs : List A) (i : ℕ) → map f (remove xs i) ≡ remove (map f xs) i
map-remove = grind (arith, map-append, take-map, drop-map)

pub held_got : (slots : List Waiting) (order : List ℕ) (i slot : ℕ) → i < length order → get_or order i 0 ≡ slot →
    get_or (held_at slots order) i nothing ≡ get_or slots slot nothing
held_got _ _ i _ lt is = cc (get_or-map _ _ i 0 _ lt, is)

pub same_turn : (order : List ℕ) (i slot : ℕ) → i < length order → slot ≡ get_or order i slot → slot ≡ get_or order i 0
same_turn _ i _ lt is = is ∙ get_or_default _ i _ 0 lt

-- Some request has an invoke id exactly if its count is positive.
pub any_invoke_id : (id : ℕ) (ws : List Waiting)
    → list_any (λ w. nat_eq id w.request.invoke_id) ws ≡ nat_lt 0 (times invoke_id_in id ws)
any_invoke_id _ [] = refl
any_invoke_id id (w ∷ ws) = grind (arith, any_invoke_id id ws)

-- The first rank of a slot: if the slot is in the order, it is there.
abbrev pub rank_of_slot : ℕ → List ℕ → ℕ
rank_of_slot slot order = position_or_len (λ other. nat_eq other slot) order

pub found_at : (slot : ℕ) (order : List ℕ) → 0 < times_of_slot slot order
    → (rank_of_slot slot order < length order) × (get_or order (rank_of_slot slot order) 0 ≡ slot)
found_at slot [] some = absurd (omega arith)
found_at slot (q ∷ qs) some = grind (arith, found_at slot qs)

-- If tickets rise, the request with a ticket is the first one found with it.
find_rank : (t : ℕ) (ws : List Waiting) (i : ℕ) → TicketsRise ws → i < length ws
    → (get_or ws i nothing).request.ticket ≡ t → find (by_ticket t) ws ≡ Some (get_or ws i nothing)
find_rank t [] i _ lt is = absurd (omega arith)
find_rank t (w ∷ ws) zero _ lt is = rw (eq-eqb _ t is)
find_rank t (w ∷ ws) (suc i) rise lt is =
    let less = rise 0 (suc i) nothing (omega arith) (omega arith) in
    rw (ne_eqb w.request.ticket t (λ q. omega arith))
    (find_rank t ws i (pairs_tail (λ v w. v.request.ticket < w.request.ticket) w ws rise) (omega arith) is)

module _ {slots : List Waiting} {invoke_ids : List (Option ℕ)} {order tickets : List ℕ}
    (t : IsTable slots invoke_ids order tickets) where
  abbrev opened : List ℕ
  opened = open_slots order tickets

  pub as_many : length opened ≡ length tickets
  as_many = grind (arith, length-map)

  -- A slot is in the order as often as before a rank and after it together.
  pub times_split : (slot n : ℕ)
      → times_of_slot slot order ≡ times_of_slot slot (take n order) + times_of_slot slot (drop n order)
  times_split slot n = cc (take-append-drop n _, times-append _ slot _ _)

  pub few : length tickets ≤ length order
  few = grind (arith, length-take, as_many)

  -- A slot that stands at a rank of the order.
  module _ (i slot : ℕ) (lt : i < length order) (is : get_or order i 0 ≡ slot) where
    pub read_within : slot < table_size
    read_within = let some = subst (λ k. 0 < times_of_slot k order) is (times_got _ _ i 0 lt) in grind arith

    pub read_listed : slot < length slots
    read_listed = omega (arith, read_within)

  -- A rank of the open requests.
  module _ (ws : List Waiting) (view : waiting_in slots order tickets ≡ ws) where
    pub count : length tickets ≡ length ws
    count = (cc (as_many, length-map _ _)) ∙ ap length view

    pub rank_within : (i : ℕ) → i < length ws → i < length order
    rank_within = omega (arith, count, few)

    pub turn_opened : (i : ℕ) → i < length ws → i < length opened
    turn_opened = omega (arith, count, as_many)

    pub here : (i slot : ℕ) → i < length ws → get_or order i 0 ≡ slot → get_or opened i 0 ≡ slot
    here i _ lt is = get_or-take _ _ i 0 (omega (arith, count)) ∙ is

    pub read_held : (i slot : ℕ) → i < length ws → get_or order i 0 ≡ slot
        → get_or slots slot nothing ≡ get_or ws i nothing
    read_held i _ lt is = cc (held_got _ _ i _ (turn_opened i lt) (here i _ lt is))

    -- The first free slot, if there is one.
    pub next_free : length ws < table_size → get_or order (length tickets) 0 < table_size
    next_free room = read_within _ _ (let e = count in omega arith) refl

    -- Each ticket in the list is that of the request at the same rank.
    pub ticket_got : (i : ℕ) → i < length ws → (d : Waiting) (e : ℕ)
        → get_or tickets i e ≡ (get_or ws i d).request.ticket
    ticket_got = grind (arith, map, get_or-map)

    pub rising : TicketsRise ws
    rising i j d early late =
        let less = t.rise i j 0 early (omega (arith, count)) in
        omega (arith, ticket_got i (omega arith) d 0, ticket_got j late d 0)

    -- A ticket has only one rank.
    pub one_turn : (i j : ℕ) → i < length ws → j < length ws
        → (get_or ws i nothing).request.ticket ≡ (get_or ws j nothing).request.ticket → i ≡ j
    one_turn = grind (arith, rising)

    -- The rank at which a ticket is found in the list.
    pub likely_rank : (ticket : ℕ) (items : List ℕ) → items ≡ tickets → (i : ℕ) → slice_get items i ≡ Some ticket
        → IsRankOf ticket ws (Some i)
    likely_rank _ _ are i there =
        let got = ap (λ ts. slice_get ts i) (sym are) ∙ there in
        let e = count in
        let within = slice_get_within _ i _ got in
        let lt : i < length ws = omega arith in
        let has = sym (ticket_got i lt _ 0) ∙ get_or_from_slice_get _ i _ 0 got in
        (lt, has, find_rank _ ws i rising lt has)

    -- The result of a search among the tickets.
    pub searched_rank : (ticket : ℕ) (items : List ℕ) → items ≡ tickets → (r : Result ℕ ℕ) →
        IsBinarySearchResult (λ y. nat_cmp y ticket) items r → IsRankOf ticket ws (result_ok r)
    searched_rank ticket _ are r found = by r (searched _ _ r (rw are at found) up)
      where
        up : (i j : ℕ) → i ≤ j → j < length tickets → get_or tickets i 0 ≤ get_or tickets j 0
        up i j le lt = grind arith

        by : (r : Result ℕ ℕ) → MatchResult r (λ i. (i < length tickets) × (get_or tickets i 0 ≡ ticket))
            (λ i. (i ≤ length tickets) × ((k : ℕ) → k < i → get_or tickets k 0 < ticket)
            × ((k : ℕ) → i ≤ k → k < length tickets → ticket < get_or tickets k 0)) → IsRankOf ticket ws (result_ok r)
        by (Ok i) h = grind (arith, count, ticket_got, find_rank, rising)
        by (Err i) (_, below, above) = λ k d lt same. grind (arith, below k, above k, count, ticket_got k lt d 0)

  -- A slot in the list of open requests, and the rank of its request.
  module _ (ws : List Waiting) (view : waiting_in slots order tickets ≡ ws) (slot : ℕ)
      (some : 0 < times_of_slot slot opened) where
    abbrev rank : ℕ
    rank = rank_of_slot slot opened

    pub turn_lt : rank < length ws
    turn_lt = grind (arith, count, as_many, found_at)

    pub stands : get_or order rank 0 ≡ slot
    stands = grind (arith, get_or-take, turn_lt, count, found_at)

    pub open_below : slot < table_size
    open_below = read_within _ _ (rank_within ws view _ turn_lt) stands

    pub open_read : get_or slots slot nothing ≡ get_or ws rank nothing
    open_read = read_held ws view _ _ turn_lt stands

  -- The entry of an invoke id.
  module _ (id : ℕ) (fits : id < 256) where
    -- The slot that the entry names is open, and the request there has the invoke id.
    named : (slot : ℕ) → get_or invoke_ids id None ≡ Some slot → Names slots opened id (Some slot)
    named = grind arith

    pub taken : (index : ℕ) → index ≡ id → (ws : List Waiting) → waiting_in slots order tickets ≡ ws →
        is_some (get_or invoke_ids index None) ≡ list_any (λ w. nat_eq id w.request.invoke_id) ws
    taken _ is ws view = rw (is, ← view) (by _ refl)
      where
        by : (entry : Option ℕ) → get_or invoke_ids id None ≡ entry
            → is_some entry ≡ list_any (λ w. nat_eq id w.request.invoke_id) (waiting_in slots order tickets)
        by None is = sym (any_invoke_id id _ ∙ ap (nat_lt 0) (rw is at (t.names.named id fits)))
        by (Some slot) is =
            let (among, its) = named slot is in
            let (within, stands) = found_at slot opened among in
            let has = ap invoke_id_in (held_got slots opened _ slot within stands) ∙ its in
            let some = times_got invoke_id_in (held_at slots opened) (rank_of_slot slot opened) nothing in
            grind (arith, any_invoke_id, lt-ltb, length-map)

  -- The request that an answer ends.
  module _ (answer : Answer) (id : ℕ) (its : id ≡ answer.invoke_id) (fits : id < 256) (ws : List Waiting)
      (view : waiting_in slots order tickets ≡ ws) where
    abbrev ends : Waiting → Bool
    ends w = is_answer_to w.request answer

    -- The requests that an answer ends have these tickets, and the others stay.
    pub record Closes (gone : List ℕ) (after : List Waiting) : Type 0 where
      pub told : gone ≡ map ticket_in (filter ends ws)
      pub others : after ≡ filter (λ w. not (ends w)) ws

    says : (w : Waiting) → ends w ≡ true → w.request.invoke_id ≡ id
    unfolding is_answer_to
    says = grind (arith, eqb-true)

    pub closed_none : get_or invoke_ids id None ≡ None → Closes [] ws
    closed_none is =
        let (none, all) =
        none_passes _ _ _ says ws (rw view at (subst (Names slots _ _) is (t.names.named _ fits))) in
        record { told = cc none; others = sym all }

    module _ (slot : ℕ) (is : get_or invoke_ids id None ≡ Some slot) where
      some : 0 < times_of_slot slot opened
      some = let (among, _) = named _ fits _ is in among

      abbrev i : ℕ
      i = rank_of_slot slot opened

      pub named_below : slot < table_size
      named_below = open_below ws view _ some

      module _ (w : Waiting) (reads : w ≡ get_or slots slot nothing) where
        read : w ≡ get_or ws i nothing
        read = reads ∙ open_read ws view slot some

        found : (filter ends ws ≡ (if ends w then w ∷ [] else []))
            × (filter (λ v. not (ends v)) ws ≡ (if ends w then remove ws i else ws))
        found =
            let (_, its) = named _ fits _ is in
            rw read (one_passes _ _ _ says ws i _ (turn_lt ws view slot some) (cc (open_read ws view slot some, its))
            (rw (← view) (t.names.apart _)))

        pub closed_not : ends w ≡ false → Closes [] ws
        closed_not = grind (arith, found)

        module _ (ticket : ℕ) (named : ticket ≡ w.request.ticket) where
          pub closed_some_turn : IsRankOf ticket ws None → ⊥
          closed_some_turn = grind (arith, turn_lt, read)

          pub closed_that : ends w ≡ true → (j : ℕ) → IsRankOf ticket ws (Some j) → (after : List Waiting)
              → after ≡ remove ws j → Closes (ticket ∷ []) after
          closed_that = grind (arith, found, one_turn, turn_lt, read)

-- ---- the search for a free invoke id, one step at a time

list_any-map : {A : Type 0} (f : A → ℕ) (p : ℕ → Bool) (xs : List A)
    → list_any p (map f xs) ≡ list_any (λ x. p (f x)) xs
list_any-map f p [] = refl
list_any-map f p (x ∷ xs) = grind (arith, list_any-map f p xs)

module _ (last : ℕ) (ws : List Waiting) where
  abbrev is_taken : ℕ → Bool
  is_taken d = list_any (λ w. nat_eq ((last + d) % 256) w.request.invoke_id) ws

  abbrev first : Option ℕ
  first = first_within (is_free last (map invoke_id_in ws)) 1 256

  -- The invoke ids after the last one are taken, up to the d-th.
  abbrev pub TakenBefore : ℕ → Type 0
  TakenBefore d = (k : ℕ) → k < d → 1 ≤ k → is_taken k ≡ true

  pub taken_on : (d : ℕ) → TakenBefore d → is_taken d ≡ true → TakenBefore (d + 1)
  taken_on d before here = below_more _ d before (λ low. here)

  not_before : (d : ℕ) → TakenBefore d → NotBefore d first
  not_before d before j e =
      let found = first_from (is_free last _) 1 256 j e in
      grind (arith, list_any-map invoke_id_in (nat_eq ((last + j) % 256)) ws, before j)

  pub free_is : (d : ℕ) → TakenBefore d → 1 ≤ d → d < 257 → is_taken d ≡ false
      → (last + d) % 256 ≡ next_invoke_id last (map invoke_id_in ws)
  unfolding next_invoke_id
  free_is d before low high free =
      rw (first_at (is_free last _) 1 256 d low high (rw (list_any-map _ _ ws, free) refl) (not_before d before))

  -- If all other invoke ids are taken, the last one is given again.
  pub last_is : last < 256 → TakenBefore 256 → last ≡ next_invoke_id last (map invoke_id_in ws)
  unfolding next_invoke_id
  last_is fits before = go _ refl
    where
      go : (o : Option ℕ) → first ≡ o → last ≡ (last + unwrap_or o 0) % 256
      go None e = omega arith
      go (Some j) e =
          let (_, _, below) = first_from (is_free last (map invoke_id_in ws)) 1 256 j e in
          omega (arith, not_before 256 before j e, below)

-- No open request has the next invoke id.
pub invoke_id_unused : (last id : ℕ) (ws : List Waiting) → id ≡ next_invoke_id last (map invoke_id_in ws)
    → length ws < 256 → times invoke_id_in id ws ≡ 0
invoke_id_unused last _ ws is few =
    let (_, step) = a_step last _ (rw length-map few) in
    let n = _ % 256 in
    let none = ltb-false 0 _ (sym (any_invoke_id n ws) ∙ sym (list_any-map _ _ ws) ∙ step.free) in
    rw (is, step.next) (omega arith)

-- ---- the slots of the open requests in the order of their last sends

abbrev IsEarlier : Waiting → Waiting → Type 0
IsEarlier early late = early.last_sent ≤ late.last_sent

-- A property that holds of the requests at some slots holds of those at any of these slots.
all_among : (P : Waiting → Type 0) (slots : List Waiting) (xs ys : List ℕ)
    → ((slot : ℕ) → 0 < times_of_slot slot xs → 0 < times_of_slot slot ys) →
    All P (held_at slots ys) → All P (held_at slots xs)
all_among P slots xs ys among all = λ k d lt. let read = λ (slot : ℕ). get_or slots slot _ in
    let within = rw length-map at lt in
    let (there, is_last) = found_at _ ys (among _ (times_got _ xs k 0 within)) in
    subst P (get_or-map _ ys _ 0 d there ∙ ap read is_last ∙ sym (get_or-map read xs k 0 d within))
    (all _ d (rw length-map there))

-- A slot with the request that was sent last is appended.
pub queue-push : (slots : List Waiting) (rest after : List ℕ) (slot : ℕ) (w : Waiting) → slot < length slots →
    length rest + 1 ≡ length after
    → ((p : ℕ) → times_of_slot p rest + times_of_slot p (slot ∷ []) ≡ times_of_slot p after)
    → times_of_slot slot after ≤ 1 →
    AllPairs IsEarlier (held_at slots rest) → All (λ v. v.last_sent ≤ w.last_sent) (held_at slots rest)
    → AreBySend (set slots slot w) after (rest ++ slot ∷ [])
queue-push _ _ _ _ w there long same once by_send late = record {
  all = grind (arith, length-append);
  same = λ p. times-append _ p _ _ ∙ same p;
  by_send =
      subst (AllPairs IsEarlier) (grind (arith, held-push, there, itself)) (all_pairs_push IsEarlier _ w by_send late);
}

module _ {slots : List Waiting} {opening sends : List ℕ} (q : AreBySend slots opening sends) where
  -- A property holds of the open requests in one order exactly if it holds of them in the other.
  pub all_sent : (P : Waiting → Type 0) → All P (held_at slots opening) → All P (held_at slots sends)
  all_sent P = all_among P _ _ _ (omega arith)

  pub all_opened : (P : Waiting → Type 0) → All P (held_at slots sends) → All P (held_at slots opening)
  all_opened P = all_among P _ _ _ (omega arith)

  module _ (slot : ℕ) (rest : List ℕ) (out : IsTakenOut slot sends rest) where
    times_out : (p : ℕ) → times_of_slot p rest + times_of_slot p (slot ∷ []) ≡ times_of_slot p sends
    times_out p = grind (arith, times-remove itself p sends out.rank 0)

    length_out : length rest + 1 ≡ length sends
    length_out = grind (arith, length-remove)

    by_send_out : AllPairs IsEarlier (held_at slots rest)
    by_send_out =
        subst (AllPairs IsEarlier) (cc (map-remove _ _ _))
        (all_pairs_remove IsEarlier _ out.rank (rw length-map out.within) q.by_send)

    -- The list of sends after a request ends.
    pub queue-remove : (after : List ℕ) → length after + 1 ≡ length opening
        → ((p : ℕ) → times_of_slot p after + times_of_slot p (slot ∷ []) ≡ times_of_slot p opening)
        → AreBySend slots after rest
    queue-remove = grind (arith, length_out, times_out, by_send_out)

    -- The list of sends after a request is sent again.
    pub queue-again : (w : Waiting) → slot < length slots → times_of_slot slot opening ≤ 1
        → All (λ v. v.last_sent ≤ w.last_sent) (held_at slots opening)
        → AreBySend (set slots slot w) opening (rest ++ slot ∷ [])
    queue-again w there once late =
        queue-push _ _ _ _ w there (length_out ∙ q.all) (λ p. times_out p ∙ q.same p) once by_send_out
        (all_among (λ v. v.last_sent ≤ w.last_sent) _ _ _ (λ p some. omega (arith, times_out p))
        (all_sent (λ v. v.last_sent ≤ w.last_sent) late))

-- A list of sends without requests is in order.
pub empty_queue : (slots : List Waiting) (order tickets sends : List ℕ) → tickets ≡ [] → sends ≡ []
    → AreBySend slots (open_slots order tickets) sends
empty_queue = grind arith

-- ---- the table

-- An entry stays correct if as many requests have the invoke id as before, and the slot of the entry still has it.
names_as : (slots : List Waiting) (order : List ℕ) (changed : List Waiting) (after : List ℕ) (id : ℕ)
    (entry : Option ℕ) → times invoke_id_in id (held_at changed after) ≡ times invoke_id_in id (held_at slots order) →
    ((slot : ℕ) → 0 < times_of_slot slot order → invoke_id_at slots slot ≡ id → (0 < times_of_slot slot after)
    × (invoke_id_at changed slot ≡ id)) → Names slots order id entry → Names changed after id entry
names_as = grind arith

-- The entries stay correct if one of them changes.
named_set : (slots : List Waiting) (invoke_ids : List (Option ℕ)) (order : List ℕ) (changed : List Waiting)
    (after : List ℕ) (index : ℕ) (entry : Option ℕ) → AreNamed slots invoke_ids order →
    Names changed after index entry → times invoke_id_in index (held_at changed after) ≤ 1 →
    ((id : ℕ) → (id ≡ index → ⊥)
    → times invoke_id_in id (held_at changed after) ≡ times invoke_id_in id (held_at slots order)) →
    ((id slot : ℕ) → (id ≡ index → ⊥) → 0 < times_of_slot slot order → invoke_id_at slots slot ≡ id →
    (0 < times_of_slot slot after) × (invoke_id_at changed slot ≡ id)) →
    AreNamed changed (set invoke_ids index entry) after
named_set = grind (arith, length-set, get_or-set_same, get_or-set_other)

-- If two lists of requests have the same invoke ids, they count each invoke id the same.
same_times : (id : ℕ) (f g : ℕ → Waiting) (order : List ℕ)
    → ((slot : ℕ) → (f slot).request.invoke_id ≡ (g slot).request.invoke_id) →
    times invoke_id_in id (map f order) ≡ times invoke_id_in id (map g order)
same_times _ f g [] _ = refl
same_times id f g (q ∷ qs) same = grind (arith, same_times id f g qs same)

-- An item is removed from the first n, and others are appended.
take_removed : (xs ys : List ℕ) (i n : ℕ) → i ≤ n → suc n ≤ length xs
    → take n (remove xs i ++ ys) ≡ remove (take (suc n) xs) i
take_removed xs ys i n le lt =
    grind (arith, take-append-drop (suc n) xs, remove-append_left, append_assoc, take_at, length-take, length-remove)

module _ {slots : List Waiting} {invoke_ids : List (Option ℕ)} {order tickets : List ℕ}
    (t : IsTable slots invoke_ids order tickets)
    (ws : List Waiting) (view : waiting_in slots order tickets ≡ ws) where
  abbrev opens : List ℕ
  opens = open_slots order tickets

  -- The clock or the count of the request at this rank changes, and the request stays.
  pub changed_by : (i : ℕ) → i < length ws → (slot : ℕ) → get_or order i 0 ≡ slot → (w : Waiting)
      → w.request ≡ (get_or slots slot nothing).request →
      (waiting_in (set slots slot w) order tickets ≡ set ws i w) × IsTable (set slots slot w) invoke_ids order tickets
  changed_by i lt slot is w same = (
    cc changed_view,
    record {
      all_slots = length-set _ _ w ∙ t.all_slots;
      all_ranks = t.all_ranks;
      within = t.within;
      once = t.once;
      names = grind (arith, still, names_as, same_invoke_id);
      ticketed = map-map _ _ _ ∙ ap (λ f. map f opens) (λ j other. (same_request other j).ticket)
          ∙ sym (map-map _ _ _) ∙ t.ticketed;
      rise = t.rise;
    },
  )
    where
      listed : slot < length slots
      listed = read_listed t i _ (rank_within t ws view i lt) is

      changed_view : held_at (set slots slot w) opens ≡ set (held_at slots opens) i w
      changed_view = held-set _ _ w _ i listed (turn_opened t ws view i lt) (here t ws view i _ lt is)
          (omega (arith, times_split t slot (length tickets)))

      same_request : (other : ℕ)
          → (get_or (set slots slot w) other nothing).request ≡ (get_or slots other nothing).request
      same_request other =
          grind (arith, get_or-set_same _ _ w nothing listed, get_or-set_other slots slot other w nothing)

      same_invoke_id : (other : ℕ) → invoke_id_at (set slots slot w) other ≡ invoke_id_at slots other
      same_invoke_id other = cc (same_request _)

      still : (id : ℕ)
          → times invoke_id_in id (held_at (set slots slot w) opens) ≡ times invoke_id_in id (held_at slots opens)
      still id = same_times _ _ _ _ same_invoke_id

  -- The first free slot is opened, with an unused invoke id and the greatest ticket.
  module _ (items : List ℕ) (are : items ≡ order) (n : ℕ) (long : n ≡ length tickets) (asked : Asked) (body : List ℕ)
      (few_open : length ws < table_size) (unused : times invoke_id_in asked.invoke_id ws ≡ 0)
      (latest : All (λ v. v.request.ticket < asked.ticket) ws) where
    abbrev slot : ℕ
    slot = get_or items n 0

    abbrev w : Waiting
    w = begun asked body

    is_last : slot ≡ get_or order (length tickets) 0
    is_last = cc

    room : length tickets < length order
    room = grind (arith, count)

    grown : open_slots order (tickets ++ w.request.ticket ∷ []) ≡ opens ++ slot ∷ []
    grown = grind (arith, length-append, take_at_read order (length tickets) 0 room)

    closed : times_of_slot slot opens ≡ 0
    closed = grind (arith, times_split t slot (n + 1), take_at_read order n 0, room, times-append, times_one, is_last)

    there : slot < length slots
    there = read_listed t _ _ room (sym is_last)

    opened_view : held_at (set slots slot w) (opens ++ slot ∷ []) ≡ held_at slots opens ++ w ∷ []
    opened_view = held-push _ _ w _ there closed

    opening : IsTable (set slots slot w) (set invoke_ids w.request.invoke_id (Some slot)) order
        (tickets ++ w.request.ticket ∷ [])
    opening = record {
      all_slots = length-set _ _ w ∙ t.all_slots;
      all_ranks = t.all_ranks;
      within = t.within;
      once = t.once;
      names =
          rw grown (named_set _ _ _ _ _ _ _ t.names (
            more _ (omega (arith, times_one itself slot slot refl)),
            ap invoke_id_in (get_or-set_same _ _ w _ there),
          ) (grind (arith, held w.request.invoke_id, times_one invoke_id_in _ w refl, view))
          (λ id other. omega (arith, held id, times_other invoke_id_in _ w (λ q. other (sym q))))
          (λ id q other some has. (
            more q (omega arith),
            ap invoke_id_in (get_or-set_other slots _ q w _ (elsewhere q some)) ∙ has,
          )));
      ticketed = grind (arith, grown, opened_view, map-append);
      rise = all_pairs_push (λ early late. early < late) _ _ t.rise
          (λ k d lt. let rank_opened : k < length ws = omega (arith, count t ws view) in
          let e = ticket_got t ws view k rank_opened nothing d in
          omega arith);
    }
      where
        held : (id : ℕ) → times invoke_id_in id (held_at (set slots slot w) (opens ++ slot ∷ []))
            ≡ times invoke_id_in id (held_at slots opens) + times invoke_id_in id (w ∷ [])
        held id = cc (opened_view, times-append _ id _ _)

        more : (q : ℕ) → 0 < times_of_slot q opens + times_of_slot q (slot ∷ [])
            → 0 < times_of_slot q (opens ++ slot ∷ [])
        more q some = omega (arith, times-append itself q opens (slot ∷ []))

        elsewhere : (q : ℕ) → 0 < times_of_slot q opens → q ≡ slot → ⊥
        elsewhere q some e = grind (arith, closed)

    queued : (sends : List ℕ) → AreBySend slots opens sends → All (λ v. v.last_sent ≤ w.last_sent) ws →
        AreBySend (set slots slot w) (open_slots order (tickets ++ w.request.ticket ∷ [])) (sends ++ slot ∷ [])
    queued _ q late =
        rw grown (queue-push _ _ _ _ w there (omega (arith, length-append opens (slot ∷ [])))
        (grind (arith, times-append)) (grind (arith, times-append, itself, closed))
        q.by_send (all_sent q (λ v. v.last_sent ≤ w.last_sent) (rw view late)))

    -- The table after the code opens a request.
    pub opened_by : {sends : List ℕ} → AreBySend slots opens sends → All (λ v. v.last_sent ≤ asked.clock) ws →
        {index : ℕ} {changed : List Waiting} {after sent : List ℕ} → index ≡ asked.invoke_id
        → changed ≡ set slots slot w → after ≡ tickets ++ asked.ticket ∷ [] → sent ≡ sends ++ slot ∷ [] → Leaves
        (waiting_in changed order after ≡ ws ++ w ∷ []) changed (set invoke_ids index (Some slot)) order after sent
    opened_by q past has made to too =
        rw (has, made, to, too) (record {
          told = ap (held_at _) grown ∙ opened_view ∙ ap (λ vs. vs ++ w ∷ []) view;
          whole = record { table = opening; queue = queued _ q past };
        })

  -- The request at a rank ends, and its slot goes after all others.
  module _ (i slot : ℕ) (lt : i < length ws) (got : slot ≡ get_or order i slot) where
    is : slot ≡ get_or order i 0
    is = same_turn _ i _ (rank_within t ws view i lt) got

    within_tickets : i < length tickets
    within_tickets = omega (arith, count t ws view)

    shrunk : open_slots (remove order i ++ slot ∷ []) (remove tickets i) ≡ remove opens i
    shrunk =
        let e = length-remove _ i within_tickets in
        let n : length tickets ≡ suc (length (remove tickets i)) = omega arith in
        take_removed _ _ i _ (omega (arith, within_tickets)) (omega (arith, few t))
        ∙ ap (λ k. remove (take k order) i) (sym n)

    rank_opened : i < length opens
    rank_opened = turn_opened t ws view i lt

    at_rank : get_or opens i 0 ≡ slot
    at_rank = here t ws view i _ lt (sym is)

    within_order : i < length order
    within_order = omega (arith, within_tickets, few t)

    moved : (q : ℕ) → times_of_slot q (remove order i ++ slot ∷ []) ≡ times_of_slot q order
    moved q =
        grind (arith, times-append itself q (remove order i) (slot ∷ []), times-remove itself q _ i 0 within_order, is)

    gone : (q : ℕ) → times_of_slot q (remove opens i) + times_of_slot q (slot ∷ []) ≡ times_of_slot q opens
    gone q = grind (arith, times-remove itself q opens i 0, rank_opened, at_rank)

    left : (n : ℕ) → times invoke_id_in n (held_at slots (remove opens i))
        + times invoke_id_in n (get_or slots slot nothing ∷ []) ≡ times invoke_id_in n (held_at slots opens)
    left n =
        let parts = times-remove invoke_id_in n (held_at slots opens) i nothing in
        grind (arith, length-map, rank_opened, at_rank, map-remove, held_got)

    ended : (id : ℕ) → id ≡ invoke_id_at slots slot
        → IsTable slots (set invoke_ids id None) (remove order i ++ slot ∷ []) (remove tickets i)
    ended id has = record {
      all_slots = t.all_slots;
      all_ranks = grind (arith, length-append, length-remove, within_order);
      within = λ q le. moved q ∙ t.within q le;
      once = grind (arith, moved);
      names =
          rw shrunk (named_set _ _ _ _ _ _ _ t.names (grind (arith, left, get_or))
          (let e = left id in omega arith) (grind (arith, left, get_or))
          (λ n q other some its. (grind (arith, gone), its)));
      ticketed = grind (arith, shrunk, map-remove);
      rise = all_pairs_remove (λ early late. early < late) _ i within_tickets t.rise;
    }

    ended_view : waiting_in slots (remove order i ++ slot ∷ []) (remove tickets i) ≡ remove ws i
    ended_view = grind (arith, shrunk, map-remove)

    unqueued : (sends left : List ℕ) → AreBySend slots opens sends → IsTakenOut slot sends left →
        AreBySend slots (open_slots (remove order i ++ slot ∷ []) (remove tickets i)) left
    unqueued _ _ q out = rw shrunk (queue-remove q _ _ out _ (omega (arith, length-remove _ i rank_opened)) gone)

    pub sent_slot : (sends : List ℕ) → AreBySend slots opens sends → 0 < times_of_slot slot sends
    sent_slot = grind (arith, at_rank, rank_opened, times_got itself opens i 0)

    -- The table after the code ends a request.
    pub ended_by : {index id : ℕ} {removed after rest sends left : List ℕ} {w : Waiting} →
        w ≡ get_or slots slot nothing → id ≡ w.request.invoke_id → index ≡ id →
        removed ≡ remove order i → after ≡ removed ++ slot ∷ [] → rest ≡ remove tickets i →
        AreBySend slots opens sends → IsTakenOut slot sends left →
        Leaves (waiting_in slots after rest ≡ remove ws i) slots (set invoke_ids index None) after rest left
    ended_by reads has same gone to from q out =
        rw (from, to, gone) (record {
          told = ended_view;
          whole = record { table = ended _ (cc); queue = unqueued _ _ q out };
        })

-- A list of the slots below n, each once.
pub record IsUpTo (n : ℕ) (slots : List ℕ) : Type 0 where
  pub count : length slots ≡ n
  pub within : (slot : ℕ) → n ≤ slot → times_of_slot slot slots ≡ 0
  pub once : (slot : ℕ) → times_of_slot slot slots ≤ 1

-- In a new table no slot is open.
pub empty_table : (slots : List Waiting) (invoke_ids : List (Option ℕ)) (order tickets : List ℕ) → tickets ≡ []
    → length slots ≡ table_size → invoke_ids ≡ replicate 256 None → length order ≡ table_size
    → ((slot : ℕ) → table_size ≤ slot → times_of_slot slot order ≡ 0) → ((slot : ℕ) → times_of_slot slot order ≤ 1) →
    IsTable slots invoke_ids order tickets
empty_table _ _ _ _ none all_slots blank whole within once = rw none (record {
  all_slots = all_slots;
  all_ranks = whole;
  within = within;
  once = once;
  names = record {
    all_invoke_ids = cc;
    apart = λ id. omega arith;
    named = λ id lt. rw (ap (λ xs. get_or xs id None) blank ∙ get_or-replicate {A = Option ℕ} 256 _ _ _ lt);
  };
  ticketed = refl;
  rise = omega arith;
})
