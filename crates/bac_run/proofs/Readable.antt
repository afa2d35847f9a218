-- The acts of a run are read back from its journal.
use Rattle.std.proofs.{Common.◌⊎◌, Common.{[], ap, append-nil, append_assoc, arith, Err, false, List}}
use Rattle.std.proofs.Common.{Ok, Option, option_map, refl, Result, subst, sym, unwrap_or, ℕ, ◌++◌, ◌∙◌, ◌∷◌, ◌≡◌}
use Rattle.std.{proofs.{lemmas.Bool.Decides.nat_tests}, specs.List.{AllByRecursion, flat_map}}
use Rattle.{bac_pdu.specs.Station, bac_tsm.specs.{Ask, Data}, bac_script.{proofs.ReadBack.plain, specs.Blank}}
use Rattle.bac_script.specs.{Happens, Said, declared.line.LineFault.TheVariants.Bad}
use Rattle.bac_run.{proofs.{Acts.all_both, Cut.lines_fed}, specs.Act}
use Rattle.bac_run.proofs.ReadBack.{arrival_read_back, empty_read_back, line_read_back, time_read_back}
use Rattle.bac_run.specs.{act_of, acts_of_result, acts_or_none, AllDone, arrival_line, Asked, Came, Checked}
use Rattle.bac_run.specs.{EndsWithFeed, Feeds, feeds_in, FitsLine, HasNoFeed, inputs_in, IsLast, IsLineOf, IsReplayed}
use Rattle.bac_run.specs.{IsWholeLine, LineFault, lines_in, NoLine, own_of, OwnLine, Paused, Reading, Rested, RunFault}
use Rattle.bac_run.specs.{said_of, Sought, TakesLines, Told, Took, TraceEnd}

came_back : (wait : ℕ) (from : Station) (octets : List ℕ) → FitsLine (Came wait from octets)
    → IsReplayed (Came wait from octets)
came_back wait from octets (ip, port, none, bytes, line) =
    let same : plain from.ip from.port ≡ from =
    sym (ap (λ (route : Option _). record { ip = from.ip; port = from.port; route = route }) none) in
    subst (λ (peer : Station). IsLineOf false (arrival_line peer octets) (Happens (Data peer octets))) same
    (arrival_read_back from.ip from.port octets ip port bytes (grind (arith, nat_tests, line))
    (grind (arith, nat_tests, line)))

-- The remarks of `who` and `wait` are read as remarks.
own_back : (own : Option OwnLine)
    → AllByRecursion IsReplayed (unwrap_or (option_map (λ own. act_of own ∷ []) own) [])
own_back = grind (arith, append_assoc, append-nil)

line_back : (line : List ℕ) → EndsWithFeed line ⊎ HasNoFeed line → AllByRecursion IsReplayed (acts_or_none line)
line_back line cut = go (said_of line) refl
  where
    go : (r : Result Said LineFault) → said_of line ≡ r
        → AllByRecursion IsReplayed (unwrap_or (acts_of_result line r) [])
    go (Err Bad) is = own_back (own_of line)
    go (Ok Blank) is = (empty_read_back, tt)
    go (Ok (Happens (Ask peer service body))) is = (line_read_back line (Happens (Ask peer service body)) cut is, tt)
    go _ is = tt

front_back : (xs ys : List Act) → AllByRecursion IsReplayed (xs ++ ys) → AllByRecursion IsReplayed xs
front_back [] ys is = tt
front_back (x ∷ xs) ys (first, later) = (first, front_back xs ys later)

cut_so : (reading : Reading) (line rest : List ℕ) → IsWholeLine line ⊎ IsLast reading line rest
    → EndsWithFeed line ⊎ HasNoFeed line
cut_so = grind arith

lines_back : (reading : Reading) (acts : List Act) (given kept : List ℕ) → Feeds reading given kept acts
    → AllByRecursion IsReplayed (flat_map acts_or_none (lines_in acts))
lines_back reading [] given kept fed = tt
lines_back reading (Took line ∷ acts) given kept (rest, _, cut, fed) =
    all_both IsReplayed (acts_or_none line) (flat_map acts_or_none (lines_in acts))
    (line_back line (cut_so reading line rest cut)) (lines_back reading acts rest kept fed)
lines_back reading (NoLine over ∷ acts) given kept (_, _, fed) = lines_back reading acts given kept fed
lines_back reading (_ ∷ acts) given kept fed = absurd fed

acts_back : (acts : List Act) → AllByRecursion IsReplayed (inputs_in acts) → AllByRecursion FitsLine acts
    → AllByRecursion IsReplayed acts
acts_back [] is fit = tt
acts_back (Asked line event ∷ later) (here, is) (_, fit) = (here, acts_back later is fit)
acts_back (Paused ∷ later) (here, is) (_, fit) = (here, acts_back later is fit)
acts_back (Sought to octets ∷ later) (here, is) (_, fit) = (here, acts_back later is fit)
acts_back (Rested time ∷ later) (here, is) (_, fit) = (here, acts_back later is fit)
acts_back (Came wait from octets ∷ later) is (here, fit) = (came_back wait from octets here, acts_back later is fit)
acts_back (Told time ∷ later) is (here, fit) = (time_read_back time here, acts_back later is fit)
acts_back (_ ∷ later) is (_, fit) = (tt, acts_back later is fit)

-- The acts that were done are the first of those that the lines ask for.
done_front : (result : Result TraceEnd RunFault) (taken : List (List ℕ)) (kept : List ℕ) (acts : List Act)
    → AllDone result taken kept acts → (rest : List Act) × (flat_map acts_or_none taken ≡ inputs_in acts ++ rest)
done_front (Ok end) taken kept acts (asked, _, _, _) = ([], sym asked ∙ sym (append-nil _))
done_front (Err fault) taken kept acts is = is

-- The acts of a run are read back.
pub run_back : {R : Type 0} {remaining : R → Option (List ℕ)} {reader reader' : Checked R}
    (result : Result TraceEnd RunFault) (acts : List Act) → TakesLines remaining reader reader' acts result
    → AllByRecursion FitsLine acts → AllByRecursion IsReplayed acts
run_back result acts takes fit =
    let (rest, front) = done_front result (lines_in acts) takes.kept acts takes.all_done in
    let lines = lines_back takes.reading (feeds_in acts) takes.given takes.kept takes.feeds in
    acts_back acts (front_back (inputs_in acts) rest (rw (lines_fed acts, front) at lines)) fit
