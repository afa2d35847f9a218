-- The calls of a link, over a socket and in memory.
use Rattle.std.proofs.Common.{[], ap, append-nil, append_assoc, arith, Bool, drop, Err, false, is_err, is_ok, length}
use Rattle.std.proofs.Common.{List, min, None, Ok, OnErr, OnOk, Option, option_to_list, refl, Result, slice_get}
use Rattle.std.proofs.Common.{Some, subst, suc, sym, unwrap_or, zero, ℕ, ◌++◌, ◌+◌, ◌-◌, ◌<◌, ◌^◌, ◌∙◌, ◌∷◌, ◌≡◌, ◌≤◌}
use Rattle.std.proofs.{lemmas.Option.{none-some, slice_get_cases, slice_get_within}, Math.Logic.∥∥₁_elim}
use Rattle.std.proofs.Math.ListN.{drop_of_length-le}
use Rattle.std.specs.Coded.{Coded, Coded-set, codes, coded_ℕ, Unit-prop, ×_prop}
use Rattle.bac_pdu.specs.{Station}
use Rattle.bac_links.specs.{AreCallsFor, ArePlayed, at_first, behind, behind_all, behind_wait, CallsFor, endless, Ends}
use Rattle.bac_links.specs.{Entry, Fails, Heard, heard_next, IsPlayed, Logs, Looks, Offered, patience_after}
use Rattle.bac_links.specs.{patience_for, posted, Scene, Sending, sending_in, sendings, Sends, Silence, time_behind}
use Rattle.bac_links.specs.{Timed, Times, ToPlay, Waited, Waits}
use Rattle.bac_links.specs.{Keeps.{patience_after_all, time_behind_all}, Inner.{HasLooked, ReceivesOnce}}
use Rattle.bac_links.specs.{declared.udp.{OnRefusal.OnRefusal, Patience.Patience}}
use Rattle.bac_links.specs.{HasPlayed.HasPlayed, Keeps.Keeps, SystemCall.SystemCall}

patience_more : (patience : Patience) (xs : List Entry) (x : Entry)
    → patience_after_all patience (xs ++ x ∷ []) ≡ patience_after (patience_after_all patience xs) x
patience_more _ [] x = refl
patience_more patience (y ∷ xs) x = patience_more (patience_after patience y) xs x

time_more : (time : ℕ) (xs : List Entry) (x : Entry)
    → time_behind_all time (xs ++ x ∷ []) ≡ time_behind (time_behind_all time xs) x
time_more _ [] x = refl
time_more time (y ∷ xs) x = time_more (time_behind time y) xs x

module _ (refused : OnRefusal) where
  calls_more : (patience : Patience) (time : ℕ) (xs : List Entry) (x : Entry) (calls more : List SystemCall)
      → AreCallsFor refused patience time xs calls
      → CallsFor refused (patience_after_all patience xs) (time_behind_all time xs) x more
      → AreCallsFor refused patience time (xs ++ x ∷ []) (calls ++ more)
  calls_more _ _ [] x _ more none last =
      (more, [], ap (λ (before : List SystemCall). before ++ more) none ∙ sym (append-nil more), last, refl)
  calls_more patience time (y ∷ xs) x _ more (first, rest, split, is, others) last = (
    first,
    rest ++ more,
    ap (λ (before : List SystemCall). before ++ more) split ∙ append_assoc first rest more,
    is,
    calls_more (patience_after patience y) (time_behind time y) xs x rest more others last,
  )

  module _ (before log : List SystemCall) (xs : List Entry) (patience : Patience) (time : ℕ) (failed : Bool)
      (keeps : Keeps refused before log xs patience time failed) where
    abbrev patience_now : Patience
    patience_now = patience_after_all endless xs

    abbrev time_now : ℕ
    time_now = time_behind_all 0 xs

    keeps_more : (x : Entry) (log' : List SystemCall) (patience' : Patience) (time' : ℕ) (failed' : Bool)
        → Logs (CallsFor refused patience_now time_now x) log log'
        → (failed' ≡ false → patience' ≡ patience_after patience_now x) → time' ≡ time_behind time_now x
        → Keeps refused before log' (xs ++ x ∷ []) patience' time' failed'
    keeps_more = grind (arith, append_assoc, calls_more, patience_more, time_more)

    pub keeps_timed : (log' : List SystemCall) (now : ℕ) → Logs (Times time now) log log'
        → Keeps refused before log' (xs ++ Timed now ∷ []) patience now failed
    keeps_timed log' now asked =
        keeps_more _ _ _ _ _
        (subst (λ (t : ℕ). Logs (Times t now) log log') keeps.timed asked) keeps.limited refl

    -- The link has not failed yet.
    module _ (sound : failed ≡ false) where
      pub keeps_sent : {A E : Type 0} (result : Result A E) (to : Station) (octets : List ℕ) (log' : List SystemCall)
          (failed' : Bool) → Logs (Sends refused to octets (is_ok result)) log log'
          → Keeps refused before log' (xs ++ posted result to octets ∷ []) patience time failed'
      keeps_sent (Ok x) to octets log' failed' asked =
          keeps_more _ _ _ _ _ asked (λ s. keeps.limited sound) keeps.timed
      keeps_sent (Err e) to octets log' failed' asked =
          keeps_more _ _ _ _ _ asked (λ s. keeps.limited sound) keeps.timed

      pub keeps_offered : (to : Station) (octets : List ℕ) (taken : Bool) (log' : List SystemCall) (failed' : Bool)
          → Logs (Sends Fails to octets taken) log log'
          → Keeps refused before log' (xs ++ Offered to octets taken ∷ []) patience time failed'
      keeps_offered to octets taken log' failed' asked =
          keeps_more _ _ _ _ _ asked (λ s. keeps.limited sound) keeps.timed

      pub keeps_waited : {A E : Type 0} (result : Result A E) (wait : ℕ) (heard : Heard) (log' : List SystemCall)
          (patience' : Patience) (failed' : Bool) → Logs (Waits refused patience wait heard) log log'
          → OnOk result (patience' ≡ patience_for patience wait) → failed' ≡ is_err result
          → Keeps refused before log' (xs ++ Waited wait heard ∷ []) patience' time failed'
      keeps_waited result wait heard log' patience' failed' asked limited marked =
          keeps_more _ _ _ _ _
          (subst (λ (p : Patience). Logs (Waits refused p wait heard) log log') (keeps.limited sound) asked)
          (λ good. go result limited (sym marked ∙ good)
          ∙ ap (λ (p : Patience). patience_for p wait) (keeps.limited sound)) keeps.timed
        where
          go : {A E : Type 0} (result : Result A E) → OnOk result (patience' ≡ patience_for patience wait)
              → is_err result ≡ false → patience' ≡ patience_for patience wait
          go (Ok x) limited good = limited
          go (Err e) limited good = cc

-- ---- a look

-- If no receive is left, the result is silence.
pub looks_end : (refused : OnRefusal) (times left : ℕ) {before after : List SystemCall} → left ≡ 0
    → Logs (HasLooked refused times left) before after → Logs (Looks refused times Silence) before after
looks_end refused times left none so_far = record {
  calls = so_far.calls;
  logged = so_far.logged;
  are = subst (λ (calls : List SystemCall). Looks refused times Silence calls) (append-nil so_far.calls)
      (so_far.are.goes Silence []
      (subst (λ (n : ℕ). Looks refused n Silence []) (sym none) (refl, refl)));
}

module _ (refused : OnRefusal) (times : ℕ) {before mid after : List SystemCall} where
  -- A receive with a result ends a look.
  pub looked : (left : ℕ) (first : Heard) → 0 < left → Logs (HasLooked refused times left) before mid
      → Logs (ReceivesOnce refused (Some first)) mid after → Logs (Looks refused times first) before after
  looked (suc left) first some so_far one = record {
    calls = so_far.calls ++ one.calls;
    logged = one.logged ∙ ap (λ (calls : List SystemCall). calls ++ one.calls) so_far.logged
        ∙ append_assoc before so_far.calls one.calls;
    are = so_far.are.goes first one.calls (
      one.are.came,
      [],
      one.are.asked,
      subst (λ (o : Option Heard). Ends o (Looks refused left) first [])
          one.are.brought_is (refl, refl),
    );
  }
  looked zero first some so_far one = absurd (omega (arith, some))

  -- After a datagram that is skipped, the look continues.
  pub looks_on : (left : ℕ) → 0 < left → Logs (HasLooked refused times left) before mid
      → Logs (ReceivesOnce refused None) mid after → Logs (HasLooked refused times (left - 1)) before after
  looks_on (suc left) some so_far one =
      let fewer : suc left - 1 ≡ left = omega arith in
      rw fewer (record {
        calls = so_far.calls ++ one.calls;
        logged = one.logged ∙ ap (λ (calls : List SystemCall). calls ++ one.calls) so_far.logged
            ∙ append_assoc before so_far.calls one.calls;
        are = record {
          goes = λ heard rest looks.
              subst (λ (calls : List SystemCall). Looks refused times heard calls)
              (sym (append_assoc so_far.calls one.calls rest))
              (so_far.are.goes heard (one.calls ++ rest) (
                one.are.came,
                rest,
                ap (λ (calls : List SystemCall). calls ++ rest) one.are.asked,
                subst (λ (o : Option Heard). Ends o (Looks refused left) heard rest) one.are.brought_is looks,
              ));
        };
      })
  looks_on zero some so_far one = absurd (omega (arith, some))

-- ---- one entry more

behind_more : (stage : ToPlay) (xs : List Entry) (x : Entry)
    → behind_all stage (xs ++ x ∷ []) ≡ behind (behind_all stage xs) x
behind_more _ [] x = refl
behind_more stage (y ∷ xs) x = behind_more (behind stage y) xs x

played_more : (stage : ToPlay) (xs : List Entry) (x : Entry) → ArePlayed stage xs → IsPlayed (behind_all stage xs) x
    → ArePlayed stage (xs ++ x ∷ [])
played_more _ [] x _ last = (last, tt)
played_more stage (y ∷ xs) x (first, later) last = (first, played_more (behind stage y) xs x later last)

sendings_more : (stage : ToPlay) (xs : List Entry) (x : Entry)
    → sendings stage (xs ++ x ∷ []) ≡ sendings stage xs ++ sending_in (behind_all stage xs).time x
sendings_more _ [] x = append-nil _
sendings_more stage (y ∷ xs) x = grind (arith, append_assoc, sendings_more (behind stage y) xs x)

drop_one : (scene : Scene) (ss : List Scene) (n : ℕ) → slice_get ss n ≡ Some scene → drop n ss ≡ scene ∷ drop (suc n) ss
drop_one _ [] n e = absurd (none-some _ e)
drop_one _ (s ∷ ss) zero e = ap (λ (o : Option Scene). unwrap_or o s ∷ ss) e
drop_one _ (s ∷ ss) (suc n) e = drop_one _ ss n e

drop_past : (ss : List Scene) (n m : ℕ) → slice_get ss n ≡ None → n ≤ m → drop m ss ≡ []
drop_past = grind (arith, slice_get_cases, drop_of_length-le)

module _ (scenes : List Scene) (xs : List Entry) (next time : ℕ) (sent : List Sending)
    (stands : HasPlayed scenes xs next time sent) where
  abbrev here : ToPlay
  here = record { scenes = drop next scenes; time = time }

  goes_on : (x : Entry) (next' time' : ℕ) (sent' : List Sending) → IsPlayed here x
      → behind here x ≡ record { scenes = drop next' scenes; time = time' } → sent' ≡ sent ++ sending_in time x
      → HasPlayed scenes (xs ++ x ∷ []) next' time' sent'
  goes_on = grind (arith, played_more, behind_more, sendings_more)

  pub stands_timed : HasPlayed scenes (xs ++ Timed time ∷ []) next time sent
  stands_timed = goes_on _ _ _ _ refl refl (sym (append-nil sent))

  pub stands_sent : {A E : Type 0} (result : Result A E) (to : Station) (octets : List ℕ) (sent' : List Sending)
      → OnOk result (sent' ≡ sent ++ record { time = time; to = to; octets = octets } ∷ [])
      → OnErr result (sent' ≡ sent) → HasPlayed scenes (xs ++ posted result to octets ∷ []) next time sent'
  stands_sent (Ok x) to octets sent' more _ = goes_on _ _ _ _ tt refl more
  stands_sent (Err e) to octets sent' _ same =
      goes_on _ _ _ _ tt refl (same ∙ sym (append-nil sent))

  pub stands_offered : {A E : Type 0} (result : Result A E) (to : Station) (octets : List ℕ) (sent' : List Sending)
      → OnOk result (sent' ≡ sent ++ record { time = time; to = to; octets = octets } ∷ [])
      → OnErr result (sent' ≡ sent) → HasPlayed scenes (xs ++ Offered to octets (is_ok result) ∷ []) next time sent'
  stands_offered (Ok x) to octets sent' more _ = goes_on _ _ _ _ tt refl more
  stands_offered (Err e) to octets sent' _ same = goes_on _ _ _ _ tt refl (same ∙ sym (append-nil sent))

  -- A wait, if this scene is next, or none is left.
  pub stands_waited : (scene : Option Scene) (wait : ℕ) (heard : Heard) (next' time' : ℕ)
      → slice_get scenes next ≡ scene → heard ≡ heard_next (option_to_list scene)
      → time' ≡ (behind_wait wait (option_to_list scene) time).time → length scenes < 2 ^ 64 → next < 2 ^ 64
      → next' ≡ min (next + 1) (2 ^ 64 - 1) → HasPlayed scenes (xs ++ Waited wait heard ∷ []) next' time' sent
  stands_waited (Some scene) wait heard next' time' comes hears passes few small goes =
      let left = drop_one _ _ next comes in
      let more : next' ≡ suc next = omega (arith, goes, few, slice_get_within _ next _ comes) in
      goes_on (Waited wait heard) next' time' sent (hears ∙ sym (ap heard_next left))
      (ap (λ (ss : List Scene). behind_wait wait ss time) left
      ∙ (λ i. record { scenes = drop (sym more i) scenes; time = sym passes i })) (sym (append-nil sent))
  stands_waited None wait heard next' time' spent hears passes few small goes =
      let left = drop_past _ next next spent (omega arith) in
      let within : next ≤ next' = omega (arith, goes, small) in
      goes_on (Waited wait heard) _ _ _ (hears ∙ sym (ap heard_next left))
      (ap (λ (ss : List Scene). behind_wait wait ss time) left
      ∙ (λ i. record { scenes = sym (drop_past _ _ _ spent within) i; time = sym passes i })) (sym (append-nil sent))

-- ---- one proof at most

IsPlayed-prop : (stage : ToPlay) (x : Entry) → IsProp (IsPlayed stage x)
IsPlayed-prop _ (Waited wait heard) = let code : Coded Heard = hlevel codes in Coded-set code _ _
IsPlayed-prop _ (Timed time) = Coded-set coded_ℕ _ _
IsPlayed-prop _ _ = Unit-prop

ArePlayed-prop : (stage : ToPlay) (xs : List Entry) → IsProp (ArePlayed stage xs)
ArePlayed-prop _ [] = Unit-prop
ArePlayed-prop stage (x ∷ xs) = ×_prop (IsPlayed-prop stage x) (ArePlayed-prop (behind stage x) xs)

-- The list of sends that was kept is that of the history.
pub sent_so : {scenes : List Scene} {xs : List Entry} {next time : ℕ} {sent : List Sending}
    → ∥ HasPlayed scenes xs next time sent ∥₁ → sent ≡ sendings (at_first scenes) xs
sent_so stands =
    let code : Coded (List Sending) = hlevel codes in ∥∥₁_elim stands (Coded-set code _ _) (λ it. it.sendings)

pub played_so : {scenes : List Scene} {xs : List Entry} {next time : ℕ} {sent : List Sending}
    → ∥ HasPlayed scenes xs next time sent ∥₁ → ArePlayed (at_first scenes) xs
played_so stands = ∥∥₁_elim stands (ArePlayed-prop _ _) (λ it. it.played)
