-- The loop over the open requests that are due at a tick.
pub mod TableLaws
use Rattle.std.proofs.Common.{[], add-one, All, AllPairs, ap, append-nil, append_assoc, arith, Bool, count_by, drop}
use Rattle.std.proofs.Common.{false, filter, flat_map, get_or, if◌then◌else◌, inl, inr, length, length-append, List}
use Rattle.std.proofs.Common.{map, min, nat_le, nat_lt, None, Option, refl, remove, set, slice_get, Some, subst, suc}
use Rattle.std.proofs.Common.{sym, take, take-append-drop, take_all, true, zero, ℕ, ◌++◌, ◌+◌, ◌-◌, ◌<◌, ◌∙◌, ◌∷◌, ◌≡◌}
use Rattle.std.proofs.{Common.{◌≤◌, ◌⊎◌}, lemmas.{Bool.false≢true, Grind.{common_steps, flat_map-append}}}
use Rattle.std.proofs.lemmas.List.{drop_all, drop_more, get_or_default, length-map, same_lists, set_split}
use Rattle.std.proofs.lemmas.List.Elements.{All-append, All-drop, All-get_or, All-take, Contains-get_or}
use Rattle.std.proofs.lemmas.List.{Folds.{list_any_at, list_any_none}, Kept.AllPairs-filter}
use Rattle.std.proofs.lemmas.List.Sorted.{Contains-permutation, IsPermutation-append_right, IsPermutation-middle}
use Rattle.std.proofs.lemmas.List.Sorted.{IsPermutation-trans, length_permutation, sum_by-IsPermutation}
use Rattle.std.proofs.lemmas.{List.Sums.{count_by-le-length, length-filter, sum_by-cons}, Option.get_or_from_slice_get}
use Rattle.std.{proofs.lemmas.Option.slice_get_within, specs.List.{fold, list_any, reduce, refill}}
use Rattle.{std.specs.List.Sorted.{IsNonDecreasingBy, IsPermutation}, bac_tsm.proofs.Calls.{kept_of_one, pairs_map}}
use Rattle.bac_tsm.{proofs.Calls.TicketsRise, specs.{AreBySend, due_answer, due_entry, DueEntry, held_at, is_due}}
use Rattle.bac_tsm.specs.{IsInOrder, IsTable, kept, nothing, open_slots, Resend, Rules, table_size, times_of_slot}
use Rattle.bac_tsm.specs.{declared.due.DueEntry.TheVariants.TimedOut as Expired, Inner.{IsPassed, IsRankOf, Leaves}}
use Rattle.bac_tsm.specs.{Inner.{sent_at, ticket_of, waiting_in}, Machine.Waiting}
use TableLaws.*

-- ---- a list whose keys rise is the result of any sort of its elements by the key

-- The number of elements that pass a test, if the first n pass, and if only those may pass.
module _ {A : Type 0} (p : A → Bool) (d : A) where
  at_least : (xs : List A) (n : ℕ) → n ≤ length xs → ((i : ℕ) → i < n → p (get_or xs i d) ≡ true) → n ≤ count_by p xs
  at_least (x ∷ xs) (suc n) le all =
      let more = at_least xs n (omega arith) (λ i lt. all (suc i) (omega arith)) in
      grind (arith, sum_by-cons (λ y. if p y then 1 else 0) x xs, all 0 (omega arith))
  at_least _ _ le all = grind arith

  at_most : (xs : List A) (n : ℕ) → ((i : ℕ) → n ≤ i → i < length xs → p (get_or xs i d) ≡ false) → count_by p xs ≤ n
  at_most [] n _ = omega arith
  at_most (x ∷ xs) zero none =
      let fewer = at_most xs zero (λ i le lt. none (suc i) (omega arith) (omega arith)) in
      grind (arith, none 0 (omega arith) (omega arith))
  at_most (x ∷ xs) (suc n) none =
      let fewer = at_most xs n (λ i le lt. none (suc i) (omega arith) (omega arith)) in
      grind (arith, sum_by-cons (λ y. if p y then 1 else 0) x xs)

module _ {A : Type 0} (key : A → ℕ) where
  abbrev Rise : List A → Type 0
  Rise = AllPairs (λ a b. key a < key b)

  -- If keys rise in xs, any sorted permutation of xs equals xs.
  pub sorted_rising : (xs ys : List A) → IsPermutation xs ys → Rise xs → IsNonDecreasingBy key ys → ys ≡ xs
  sorted_rising xs ys moved rise up = sym (same_lists xs ys (sym (length_permutation xs ys moved)) here)
    where
      here : (k : ℕ) (d : A) → k < length xs → get_or xs k d ≡ get_or ys k d
      here k d lt =
          let x : A = get_or xs k d in
          let (j, within, there) = Contains-permutation xs ys x moved (Contains-get_or xs k d lt) in
          let is = get_or_default ys j d x within ∙ there in
          let lower = λ (y : A). nat_lt (key y) (key x) in
          let up_to = λ (y : A). nat_le (key y) (key x) in
          let e = at_least lower d xs k (omega arith) (λ i less. grind arith) in
          let f = at_most lower d ys j (λ i le most. grind arith) in
          let g = at_least up_to d ys (j + 1) (omega arith) (λ i less. grind arith) in
          let h = at_most up_to d xs (k + 1) (λ i le most. grind arith) in
          let counts = sum_by-IsPermutation (λ y. if lower y then 1 else 0) xs ys moved in
          let more = sum_by-IsPermutation (λ y. if up_to y then 1 else 0) xs ys moved in
          let same : j ≡ k = omega arith in sym (rw same at is)

-- A list that is filled anew with as many entries equals these entries.
pub refilled : (xs ys : List DueEntry) → length ys ≡ length xs → refill (length xs) xs ys ≡ ys
refilled = grind (arith, drop_all, append-nil, take_all)

module _ (rules : Rules) (clock : ℕ) where
  abbrev pub due_of : List Waiting → List DueEntry
  due_of = flat_map (due_answer rules clock)

  abbrev pub kept_of : List Waiting → List Waiting
  kept_of = flat_map (kept rules clock)

  -- If some of the due requests are brought to the clock, their entries and the open requests agree with the whole
  -- tick.
  pub record HasTicked (all : List DueEntry) (kept_in_all : List Waiting) (entries : List DueEntry) (ws : List Waiting)
      : Type 0 where
    pub told : IsPermutation all (entries ++ due_of ws)
    pub stay : kept_of ws ≡ kept_in_all
    pub past : All (λ w. w.last_sent ≤ clock) ws

  pub nothing_due : (ws : List Waiting) → list_any (is_due rules clock) ws ≡ false → (due_of ws ≡ [])
      × (kept_of ws ≡ ws)
  nothing_due [] _ = (refl, refl)
  nothing_due (w ∷ ws) young = grind (arith, nothing_due ws)

  -- A request that was just sent is not due.
  again : 0 < rules.timeout → (w : Waiting) → is_due rules clock w ≡ true →
      (due_of (kept rules clock w) ≡ []) × (kept_of (kept rules clock w) ≡ kept rules clock w)
  again = grind (arith, nothing_due, kept_of_one)

  due_is : (ws : List Waiting) → due_of ws ≡ map (due_entry rules) (filter (is_due rules clock) ws)
  due_is [] = refl
  due_is (w ∷ ws) = grind (arith, due_is ws)

  pub few_due : (ws : List Waiting) → length (due_of ws) ≤ length ws
  few_due ws = rw (due_is ws, length-map, length-filter) (count_by-le-length _ ws)

  pub rise_due : (ws : List Waiting) → TicketsRise ws → Rise ticket_of (due_of ws)
  rise_due ws rise =
      rw (due_is ws) (pairs_map (λ a b. ticket_of a < ticket_of b) _ _ (λ i j d less lt.
      let g = AllPairs-filter (λ v w. v.request.ticket < w.request.ticket) _ ws rise i j d less lt in grind arith))

  module _ (some : 0 < rules.timeout) {all : List DueEntry} {kept_in_all : List Waiting} {entries : List DueEntry}
      {ws : List Waiting} (h : HasTicked all kept_in_all entries ws) where
    -- One more request is brought to the clock.
    one_more : (entry : DueEntry) (after : List Waiting) (rank : ℕ) (w : Waiting) → rank < length ws
        → get_or ws rank nothing ≡ w → is_due rules clock w ≡ true → entry ≡ due_entry rules w →
        after ≡ take rank ws ++ (kept rules clock w ++ drop (suc rank) ws)
        → HasTicked all kept_in_all (entries ++ entry ∷ []) after
    one_more _ after rank w lt here due is to = let (_, stays) = again some w due in record {
      told =
          IsPermutation-trans _ _ _ (rw told_before at h.told) (rw (told_after, append_assoc)
          (IsPermutation-append_right entries _ _ (rw is (IsPermutation-middle _ _ _))));
      stay = simp (to, flat_map-append, stays)
          (simp flat_map-append at (ap kept_of (sym split) ∙ h.stay));
      past =
          rw to (All-append (λ v. v.last_sent ≤ clock) _ _ (All-take (λ v. v.last_sent ≤ clock) _ ws h.past)
          (All-append (λ v. v.last_sent ≤ clock) _ _
          (kept_of_one rules (λ v. v.last_sent ≤ clock) _ w (λ young. absurd (false≢true (sym young ∙ due)))
          (omega arith))
          (All-drop (λ v. v.last_sent ≤ clock) (suc _) ws h.past)));
    }
      where
        split : ws ≡ take rank ws ++ (w ∷ drop (suc rank) ws)
        split = sym (take-append-drop _ ws)
            ∙ ap (λ xs. take rank ws ++ xs) (rw (add-one, here) at (drop_more ws _ nothing lt))

        told_before : due_of ws ≡ due_of (take rank ws) ++ (due_entry rules w ∷ due_of (drop (suc rank) ws))
        told_before = ap due_of split ∙ flat_map-append _ (take rank ws) _ ∙ rw due refl

        told_after : due_of after ≡ due_of (take rank ws) ++ due_of (drop (suc rank) ws)
        told_after = let (none, _) = again some w due in simp (to, flat_map-append, none)

    pub is_passed : (entry : DueEntry) (after : List Waiting) → IsPassed rules clock ws entry after
        → HasTicked all kept_in_all (entries ++ entry ∷ []) after
    is_passed _ _ (rank, lt, due, is, to) = one_more _ _ _ _ lt refl due is to

    -- There is room for one more entry, and fewer requests are due after it.
    pub record LeavesFewer (after : List Waiting) : Type 0 where
      pub room : length entries < length all
      pub fewer : length (due_of after) < length (due_of ws)

    pub fewer : (entry : DueEntry) (after : List Waiting) → IsPassed rules clock ws entry after → LeavesFewer after
    fewer entry after is =
        let now = sym (length-append entries _) ∙ length_permutation _ _ h.told in
        let next = sym (length-append _ (due_of after)) ∙ length_permutation _ _ (is_passed _ _ is).told in
        let one = length-append entries (entry ∷ []) in
        record { room = omega arith; fewer = omega arith }

    -- All due requests have entries, and the kept requests are those of the whole tick.
    pub record IsDone : Type 0 where
      pub told : IsPermutation all entries
      pub kept : ws ≡ kept_in_all

    pub all_passed : list_any (is_due rules clock) ws ≡ false → IsDone
    all_passed = grind (arith, nothing_due, append-nil)

-- ---- a request that is due is brought to the clock; if the first one sent is not due, none is

younger : (timeout clock early late : ℕ) → nat_le timeout (clock - early) ≡ false → early ≤ late
    → nat_le timeout (clock - late) ≡ false
younger = grind arith

-- A time that is one of these, and none is earlier, is the least.
least_so : (a m : ℕ) (ws : List Waiting) → m ≤ a
    → ((k : ℕ) → k < length ws → m ≤ (get_or ws k nothing).last_sent)
    → (a ≡ m) ⊎ ((i : ℕ) × (i < length ws) × (m ≡ (get_or ws i nothing).last_sent))
    → fold min a (map (λ v. v.last_sent) ws) ≡ m
least_so a m [] few all (inl is) = is
least_so a m [] few all (inr (i, lt, is)) = absurd (omega (arith, lt))
least_so a m (x ∷ ws) few all found =
    least_so (min a x.last_sent) m ws (omega (arith, few, all 0 (omega arith)))
    (λ k lt. all (suc k) (omega (arith, lt)))
    (go found)
  where
    go : (a ≡ m) ⊎ ((i : ℕ) × (i < length (x ∷ ws)) × (m ≡ (get_or (x ∷ ws) i nothing).last_sent))
        → (min a x.last_sent ≡ m) ⊎ ((i : ℕ) × (i < length ws) × (m ≡ (get_or ws i nothing).last_sent))
    go (inl is) = inl (omega (arith, is, all 0 (omega arith)))
    go (inr (zero, lt, is)) = inl (omega (arith, few, is))
    go (inr (suc i, lt, is)) = inr (i, omega (arith, lt), is)

least_of : (ws : List Waiting) (i : ℕ) (w : Waiting) → i < length ws → w ≡ get_or ws i nothing
    → ((k : ℕ) → k < length ws → w.last_sent ≤ (get_or ws k nothing).last_sent)
    → reduce min (map (λ v. v.last_sent) ws) ≡ Some w.last_sent
least_of [] i w lt is all = absurd (omega (arith, lt))
least_of (x ∷ ws) zero w lt is all =
    ap Some (least_so x.last_sent w.last_sent ws (all 0 lt) (λ k lt. all (suc k) (omega (arith, lt)))
    (inl (ap (λ (v : Waiting). v.last_sent) (sym is))))
least_of (x ∷ ws) (suc i) w lt is all =
    ap Some (least_so x.last_sent w.last_sent ws (all 0 (omega arith)) (λ k lt. all (suc k) (omega (arith, lt)))
    (inr (i, omega (arith, lt), ap (λ (v : Waiting). v.last_sent) is)))

-- If some request is due, the list of sends is not empty.
pub some_sent : {slots : List Waiting} {invoke_ids : List (Option ℕ)} {order tickets sends : List ℕ}
    → IsInOrder slots invoke_ids order tickets sends → (ws : List Waiting) → waiting_in slots order tickets ≡ ws
    → (rules : Rules) (clock : ℕ) → list_any (is_due rules clock) ws ≡ true → 0 < length sends
some_sent = grind arith

module _ (rules : Rules) (clock : ℕ) (w : Waiting) where
  is_again : (ticket : ℕ) → due_entry rules w ≡ Resend ticket → nat_lt w.resends rules.retries ≡ true
  is_again = grind arith

  is_over : (ticket : ℕ) → due_entry rules w ≡ Expired ticket → (nat_lt w.resends rules.retries ≡ false)
      × (w.request.ticket ≡ ticket)
  is_over = grind arith

module _ {slots : List Waiting} {invoke_ids : List (Option ℕ)} {order tickets sends : List ℕ}
    (whole : IsInOrder slots invoke_ids order tickets sends) (ws : List Waiting)
    (view : waiting_in slots order tickets ≡ ws) (slot : ℕ) (front : Some slot ≡ slice_get sends 0) where
  abbrev t : IsTable slots invoke_ids order tickets
  t = whole.table

  abbrev q : AreBySend slots (open_slots order tickets) sends
  q = whole.queue

  sent : 0 < length sends
  sent = grind (arith, slice_get_within)

  first : get_or sends 0 0 ≡ slot
  first = grind (arith, get_or_from_slice_get)

  some : 0 < times_of_slot slot (open_slots order tickets)
  some = omega (arith, rw first at (times_got itself sends 0 0 sent), q.same slot)

  pub front_below : slot < table_size
  front_below = open_below t ws view _ some

  abbrev i : ℕ
  i = rank_of_slot slot (open_slots order tickets)

  lt : i < length ws
  lt = turn_lt t ws view slot some

  -- No open request was last sent before this one.
  later : (k : ℕ) (e : Waiting) → k < length (held_at slots sends)
      → (get_or (held_at slots sends) 0 e).last_sent ≤ (get_or (held_at slots sends) k e).last_sent
  later k e lt = grind (arith, q.by_send 0 k e)

  module _ (w : Waiting) (reads : w ≡ get_or slots slot nothing) where
    here : (e : Waiting) → get_or (held_at slots sends) 0 e ≡ w
    here e = get_or_default (held_at _ sends) 0 e _ (rw length-map sent) ∙ held_got _ _ 0 _ sent first ∙ sym reads

    read : w ≡ get_or ws i nothing
    read = reads ∙ open_read t ws view slot some

    all_later : All (λ v. w.last_sent ≤ v.last_sent) ws
    all_later =
        rw view at (all_opened q (λ v. w.last_sent ≤ v.last_sent)
        (λ k e lt. subst (λ (v : Waiting). v.last_sent ≤ (get_or (held_at slots sends) k e).last_sent) (here e)
        (later k e lt)))

    pub oldest : reduce min (map (λ v. v.last_sent) ws) ≡ Some w.last_sent
    oldest = least_of ws i w lt read (λ k lt.
        All-get_or (λ v. w.last_sent ≤ v.last_sent) ws k nothing lt all_later)

  module _ (rules : Rules) (clock : ℕ) (w : Waiting) (reads : w ≡ get_or slots slot nothing) where
    none_due : is_due rules clock w ≡ false → All (λ v. is_due rules clock v ≡ false) ws
    none_due young =
        rw view at (all_opened q (λ v. is_due rules clock v ≡ false)
        (λ k e lt. younger _ _ (get_or (held_at _ sends) 0 e).last_sent (get_or _ k e).last_sent
        (rw (here w reads e) young) (later k e lt)))

    pub some_due : is_due rules clock w ≡ list_any (is_due rules clock) ws
    some_due = grind (arith, list_any_at, lt, read w reads, list_any_none, none_due)

    pub not_found : (ticket : ℕ) → due_entry rules w ≡ Expired ticket → IsRankOf ticket ws None → ⊥
    not_found = grind (arith, lt, read w reads)

    module _ (due : list_any (is_due rules clock) ws ≡ true) where
      due_there : is_due rules clock (get_or ws i nothing) ≡ true
      due_there = cc (read w reads, some_due)

      pub sent_again : All (λ v. v.last_sent ≤ clock) ws → (ticket : ℕ) → due_entry rules w ≡ Resend ticket
          → (changed : List Waiting) (rest after : List ℕ) →
          changed ≡ set slots slot (sent_at clock (get_or slots slot nothing)) → rest ≡ remove sends 0
          → after ≡ rest ++ slot ∷ []
          → Leaves (IsPassed rules clock ws (due_entry rules w) (waiting_in changed order tickets))
          changed invoke_ids order tickets after
      sent_again past _ again _ rest _ is out back =
          let v = sent_at clock (get_or slots slot _) in
          let (changed, table) = changed_by t ws view i lt slot (stands t ws view slot some) v refl in
          let kept_now : v ∷ [] ≡ kept rules clock (get_or ws i nothing) =
          grind (arith, due_there, nat_lt, read w reads, is_again, some) in
          rw (is, back) (record {
            told =
                (i, lt, due_there, grind (arith, read w reads), grind (arith, changed, set_split ws i v lt, kept_now));
            whole = record {
              table = table;
              queue = queue-again q slot rest (record { rank = 0; within = sent; stood = first; left = out }) v
                  (omega (arith, front_below)) (omega (arith, times_split t slot (length tickets))) (rw view past);
            };
          })

      pub ended : (ticket j : ℕ) → due_entry rules w ≡ Expired ticket → IsRankOf ticket ws (Some j)
          → (after : List Waiting) → after ≡ remove ws j → IsPassed rules clock ws (Expired ticket) after
      ended = grind (arith, common_steps, is_over, one_turn, lt, read w reads, due_there)
