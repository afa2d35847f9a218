-- Items, regions and parameters: reading agrees with the relations; and values that are read back.
use Rattle.std.proofs.Common.{[], ap, append-nil, append_assoc, arith, Bool, cond, drop, drop_at, eqb, false, inl, inr}
use Rattle.std.proofs.Common.{length, length-append, length-take-le, List, None, Option, option_map, refl, Some, subst}
use Rattle.std.proofs.Common.{suc, sym, take, take-append-drop, take_at, true, zero, ℕ, ◌++◌, ◌+◌, ◌-◌, ◌<◌, ◌^◌, ◌↔◌}
use Rattle.std.proofs.{Common.{◌∙◌, ◌∷◌, ◌≡◌, ◌≤◌}, lemmas.Bool.{eq-eqb, eqb-true, le-ltb, ltb-false}}
use Rattle.std.proofs.lemmas.{Grind.common_steps, List.{append_cancel_left, append_cancel_right, nil_from_length}}
use Rattle.std.proofs.lemmas.Option.{cond_some, none-some, same_Some, some_pair_parts}
use Rattle.bac_wire.proofs.DatumLaws.{count_fits, count_four, count_low, same_identifier, value_reader, within_again}
use Rattle.bac_wire.proofs.{DatumLaws.within_takes, TagLaws.{begins_read, bind_some, chosen, found_at, only_if}}
use Rattle.bac_wire.proofs.TagLaws.{plain_tag_spells, reader_of, tag_reader, take_front, Took, unless}
use Rattle.bac_wire.specs.{App, Begins, behind_closing, behind_count, behind_item, behind_items, behind_opening}
use Rattle.bac_wire.specs.{behind_tag, behind_tag_found, closing_of, closing_tag, context_at, context_octets}
use Rattle.bac_wire.specs.{context_tag, counted_of, Counts, datum, enclosed_at, enclosed_octets, enumerated}
use Rattle.bac_wire.specs.{enumerated_in, FindsFront, FindsRegion, HasEnded, here, into, IsBracketed, IsClosedRegion}
use Rattle.bac_wire.specs.{IsIdentifier, IsItem, IsPrimitive, IsReadBack, IsReader, IsRegion, IsSequence, kind_at}
use Rattle.bac_wire.specs.{LeavesRest, more, none, number_at, number_octets, object_at, object_in, object_octets}
use Rattle.bac_wire.specs.{Opening, opening_of, opening_tag, Opens, past, region_at, Shape, Spells, SpellsClosed}
use Rattle.bac_wire.specs.{SpellsContext, SpellsEnclosed, SpellsIn, SpellsTag, StandsFor, tag_at, unsigned, unsigned_in}
use Rattle.bac_wire.specs.{value_at, ◌>>=◌, Datum.Datum, declared.tag.{Shape.TheVariants.{Closing, Context}, Tag.Tag}}
use Rattle.bac_wire.specs.{declared.value.Value.Value, Identifier.Identifier, Inner.{CountsBehind, Finds, LeavesBehind}}
use Rattle.bac_wire.specs.Datum as values

pub no_octets : tag_at [] ≡ None
unfolding tag_at
no_octets = refl

-- a tag has at least one octet
pub after_shorter : (octets : List ℕ) (tag : Tag) (after : List ℕ) → tag_at octets ≡ found_at tag after
    → length after < length octets
after_shorter _ tag _ e = let taken = tag_reader.takes _ tag _ e in grind (arith, common_steps)

pub tag_parts : (tag : Tag) (number : ℕ) (shape : Shape) → tag.shape ≡ shape → tag.number ≡ number
    → tag ≡ record { number = number; shape = shape }
tag_parts _ _ _ e f = rw (← e, ← f) refl

-- a tag and the octets after it are read in front of a rest
pub tag_again : (front others rest : List ℕ) (tag : Tag) → Begins SpellsTag front tag others
    → tag_at (front ++ rest) ≡ found_at tag (others ++ rest)
tag_again _ _ rest _ b = ap (λ (w : List ℕ). tag_at (w ++ rest)) b.whole
    ∙ ap tag_at (append_assoc _ _ rest) ∙ tag_reader.again _ _ _ b.spelled

-- ---- a closing tag

-- the octets are a closing tag of this number, and then this rest
abbrev pub IsClosedBy : ℕ → List ℕ → List ℕ → Type 0
IsClosedBy number octets rest = Begins SpellsTag octets (closing_tag number) rest

pub closing_read : (number : ℕ) (octets rest : List ℕ) → IsClosedBy number octets rest
    → tag_at octets ≡ found_at (closing_tag number) rest
closing_read _ _ _ = begins_read _ _ tag_reader _ _ _

closed_since : (tag : Tag) (number : ℕ) (octets rest : List ℕ) → tag_at octets ≡ found_at tag rest → tag.shape ≡ Closing
    → tag.number ≡ number → IsClosedBy number octets rest
closed_since _ _ _ _ e shape same = grind (arith, tag_reader.takes, tag_parts)

pub ended_since : (tag : Tag) (octets rest : List ℕ) → tag_at octets ≡ found_at tag rest → tag.shape ≡ Closing
    → HasEnded octets
ended_since tag _ rest e shape = inr (tag.number, rest, closed_since _ _ _ _ e shape refl)

closing_takes : (number : ℕ) (tag : Tag) (shape : Shape) (after rest : List ℕ)
    → closing_of number tag shape after ≡ Some rest → (shape ≡ Closing) × (tag.number ≡ number) × (after ≡ rest)
closing_takes = grind arith

pub closed_takes : (number : ℕ) (octets rest : List ℕ) → behind_closing number octets ≡ Some rest
    → IsClosedBy number octets rest
unfolding behind_closing
closed_takes _ _ _ e =
    let ((tag, _), tag_read, behind) = bind_some _ _ _ e in
    let (closing, same, rest_is) = closing_takes _ tag _ _ _ behind in
    closed_since _ _ _ _ (tag_read ∙ ap (found_at _) rest_is) closing same

pub closed_again : (number : ℕ) (octets rest : List ℕ) → IsClosedBy number octets rest
    → behind_closing number octets ≡ Some rest
unfolding behind_closing
closed_again _ _ _ c = rw (closing_read _ _ _ c, eq-eqb _ _ refl) refl

-- ---- one step

-- the octets after the item at the front; `items` reads those inside the item
abbrev pub item_at : (ℕ → List ℕ → Option (List ℕ)) → ℕ → List ℕ → Option (List ℕ)
item_at items depth octets = tag_at octets >>= λ (tag, after). behind_item items depth tag tag.shape after

tag_found : (items : ℕ → List ℕ → Option (List ℕ)) (depth : ℕ) (octets : List ℕ) (tag : Tag) (after : List ℕ)
    → behind_tag_found items depth octets (found_at tag after) ≡ behind_tag items depth octets tag tag.shape after
tag_found _ _ [] tag after = refl
tag_found _ _ _ tag after = refl

pub ended_again : (count depth : ℕ) (octets : List ℕ) → HasEnded octets
    → behind_items (suc count) depth octets ≡ Some octets
unfolding behind_items
ended_again _ _ _ ended = elim ended [
  | inl empty ↦ rw (empty, no_octets) refl
  | inr (_, _, closed) ↦ rw (closing_read _ _ _ closed) (grind (arith, tag_found))
]

going_on : (items : ℕ → List ℕ → Option (List ℕ)) (depth : ℕ) (octets : List ℕ) (tag : Tag) (shape : Shape)
    (after : List ℕ)
    → (shape ≡ Closing → ⊥)
    → behind_tag items depth octets tag shape after ≡ (behind_item items depth tag shape after >>= items depth)
going_on = grind arith

-- at a tag that is not a closing one, the first item, and then the others
pub one_step : (count depth : ℕ) (octets : List ℕ) (tag : Tag) (after : List ℕ) → tag_at octets ≡ found_at tag after
    → (tag.shape ≡ Closing → ⊥)
    → behind_items (suc count) depth octets ≡ (item_at (behind_items count) depth octets >>= behind_items count depth)
unfolding behind_items
one_step = grind (arith, going_on)

-- ---- what is read is spelled

-- reading the items inside an item finds spelled items
abbrev TakesRegion : (ℕ → List ℕ → Option (List ℕ)) → Type 0
TakesRegion items = (depth : ℕ) (octets rest : List ℕ) → items depth octets ≡ Some rest → LeavesRest depth octets rest

primitive_item : (depth : ℕ) (item : List ℕ) → IsPrimitive item → IsItem depth item
primitive_item zero _ p = p
primitive_item (suc depth) _ p = inl p

ended_leaves : (depth : ℕ) (octets rest : List ℕ) → HasEnded octets
    → ◌≡◌ {A = Option (List ℕ)} (Some octets) (Some rest) → LeavesRest depth octets rest
ended_leaves _ _ _ ended e =
    let same = same_Some _ _ e in
    record { front = []; region = none; whole = same; ended = subst HasEnded same ended }

-- the octets after this tag
module _ (octets : List ℕ) (tag : Tag) (after : List ℕ) (e : tag_at octets ≡ found_at tag after) where
  counted_behind : (depth : ℕ) (contents rest : List ℕ) → after ≡ contents ++ rest
      → Counts tag.number tag.shape (length contents) → LeavesBehind depth octets rest
  counted_behind _ contents _ line counted =
      let taken = tag_reader.takes _ _ _ e in
      let item : IsPrimitive (taken.front ++ contents) =
      record {
        tag = tag;
        contents = contents;
        tagged = record { front = taken.front; spelled = taken.spelled; whole = refl };
        counted = counted;
      } in
      record { front = taken.front ++ contents; item = primitive_item _ _ item; whole = grind (arith, append_assoc) }

  -- this many octets after the tag
  count_behind : (depth count : ℕ) (rest : List ℕ) → ((n : ℕ) → n ≡ count → Counts tag.number tag.shape n)
      → behind_count count after ≡ Some rest → LeavesBehind depth octets rest
  count_behind _ count rest counts f =
      let (room, behind) = unless _ f in
      let line : after ≡ take count after ++ rest = grind (arith, take-append-drop, same_Some) in
      counted_behind _ _ _ line (counts _ (length-take-le _ _ (ltb-false _ _ room)))

  module _ (items : ℕ → List ℕ → Option (List ℕ)) (takes : TakesRegion items) where
    item_takes : (depth : ℕ) (shape : Shape) (rest : List ℕ) → tag.shape ≡ shape
        → behind_item items depth tag shape after ≡ Some rest → LeavesBehind depth octets rest
    item_takes _ (App n) _ is f = elim (chosen (eqb tag.number 1) _ _ _ f) [
      | inl (boolean, found) ↦ counted_behind _ [] _ (same_Some _ _ found) (rw (is, boolean) refl)
      | inr (other, found) ↦ count_behind _ n _ (λ m same. rw (is, other) same) found
    ]
    item_takes _ (Context n) _ is f = grind (arith, count_behind)
    item_takes (suc depth) Opening _ is f =
        let (_, inside, behind) = bind_some _ _ _ f in
        let l = takes _ _ _ inside in
        let c = closed_takes _ _ _ behind in
        let taken = tag_reader.takes _ _ _ e in
        let opened = subst (SpellsTag _) (tag_parts _ _ _ is refl) taken.spelled in
        record {
          front = taken.front ++ (l.front ++ c.front);
          item = inr (
            tag.number,
            l.front,
            record {
              closing = c.front;
              opened = record { front = taken.front; spelled = opened; whole = refl };
              parts = l.region;
              closed = c.spelled;
            },
          );
          whole = grind (arith, append_assoc);
        }
    item_takes _ _ _ is f = absurd (none-some _ f)

    -- the items after the first one
    more_takes : (depth : ℕ) (shape : Shape) (rest : List ℕ) → tag.shape ≡ shape
        → behind_tag items depth octets tag shape after ≡ Some rest → LeavesRest depth octets rest
    more_takes _ Closing _ is f = grind (arith, ended_leaves, ended_since)
    more_takes _ shape _ is f =
        let (others, first, later) = bind_some _ _ _ f in
        let i = item_takes _ _ _ is first in
        let l = takes _ others _ later in
        record {
          front = i.front ++ l.front;
          region = more i.item l.region;
          whole = grind (arith, append_assoc);
          ended = l.ended;
        }

module _ (items : ℕ → List ℕ → Option (List ℕ)) (takes : TakesRegion items) (depth : ℕ) (octets rest : List ℕ) where
  pub item_at_takes : item_at items depth octets ≡ Some rest → LeavesBehind depth octets rest
  item_at_takes = grind (arith, item_takes)

  found_takes : (read : Option (Tag × List ℕ)) → tag_at octets ≡ read
      → behind_tag_found items depth octets read ≡ Some rest → LeavesRest depth octets rest
  found_takes = grind (arith, ended_leaves, more_takes)

pub items_take : (count : ℕ) → TakesRegion (behind_items count)
unfolding behind_items
items_take zero _ _ _ e = absurd (none-some _ e)
items_take (suc count) _ _ _ e = found_takes _ (items_take count) _ _ _ _ refl e

-- ---- what is spelled is read

-- reading lists of fewer octets finds the spelled items
abbrev Again : (ℕ → List ℕ → Option (List ℕ)) → ℕ → Type 0
Again items most = (depth top : ℕ) (front rest : List ℕ) → depth ≤ top → length (front ++ rest) < most
    → IsRegion depth front → HasEnded rest → items top (front ++ rest) ≡ Some rest

count_again : (count : ℕ) (contents rest : List ℕ) → length contents ≡ count
    → behind_count count (contents ++ rest) ≡ Some rest
count_again = grind (arith, length-append, drop_at)

boolean_again : (b : Bool) (n : ℕ) (contents rest : List ℕ) → length contents ≡ cond b 0 n
    → cond b (Some (contents ++ rest)) (behind_count n (contents ++ rest)) ≡ Some rest
boolean_again true n _ _ e = rw (nil_from_length _ e) refl
boolean_again false n _ _ e = count_again n _ _ e

-- the octets after an item, whichever function reads the items inside it
module _ (items : ℕ → List ℕ → Option (List ℕ)) (rest : List ℕ) where
  counted_again : (top : ℕ) (tag : Tag) (shape : Shape) (contents : List ℕ)
      → Counts tag.number shape (length contents) → behind_item items top tag shape (contents ++ rest) ≡ Some rest
  counted_again = grind (arith, boolean_again, count_again)

  primitive_again : (top : ℕ) (item : List ℕ) → IsPrimitive item → item_at items top (item ++ rest) ≡ Some rest
  primitive_again top _ p = rw (tag_again _ _ _ _ p.tagged) (counted_again _ _ _ _ p.counted)

  module _ (most : ℕ) (again : Again items most) where
    bracket_again : (depth top number : ℕ) (item inside : List ℕ) → depth ≤ top → length (item ++ rest) < suc most
        → IsBracketed (IsItem depth) number item inside → item_at items (suc top) (item ++ rest) ≡ Some rest
    bracket_again _ top number _ inside le short b =
        let c : IsClosedBy number (b.closing ++ rest) rest =
        record { front = b.closing; spelled = b.closed; whole = refl } in
        let read = tag_again _ _ rest _ b.opened in
        let line = append_assoc inside b.closing rest in
        let within = again _ top _ _ le (grind (arith, after_shorter)) b.parts (inr (number, rest, c)) in
        rw (read, line, within, closed_again _ _ _ c) refl

    pub item_again : (depth top : ℕ) (item : List ℕ) → depth ≤ top → length (item ++ rest) < suc most
        → IsItem depth item → item_at items top (item ++ rest) ≡ Some rest
    item_again zero _ _ _ _ p = primitive_again _ _ p
    item_again (suc depth) zero _ le _ i = absurd (omega arith)
    item_again (suc depth) (suc top) _ le short i = elim i [
      | inl p ↦ primitive_again (suc _) _ p
      | inr (number, inside, bracketed) ↦ bracket_again _ top number _ inside (omega arith) short bracketed
    ]

pub item_shorter : (depth : ℕ) (item rest : List ℕ) → IsItem depth item → length rest < length (item ++ rest)
item_shorter = grind (arith, common_steps)

-- after an item the others are read
pub more_again : (count top : ℕ) (octets next : List ℕ) → item_at (behind_items count) top octets ≡ Some next
    → behind_items (suc count) top octets ≡ behind_items count top next
more_again count top _ _ e =
    let (_, tag_read, behind) = bind_some _ _ _ e in
    one_step _ _ _ _ _ tag_read (λ closing. none-some _ (rw closing at behind))
    ∙ ap (λ (r : Option (List ℕ)). r >>= behind_items count top) e

pub items_again : (count : ℕ) → Again (behind_items count) count
items_again zero _ _ _ _ le short r ended = absurd (omega arith)
items_again (suc count) _ top _ rest le _ none ended = ended_again _ _ _ ended
items_again (suc count) depth top _ rest le short (more {first} {rest = others} i s) ended =
    let line = append_assoc first others rest in
    let shorter = item_shorter _ _ (others ++ rest) i in
    let read = item_again _ _ _ (items_again count) _ _ _ le (rw line at short) i in
    rw line (more_again _ _ _ _ read ∙ items_again count depth top _ rest le (omega (arith, ap length line)) s ended)

-- ---- one rest, and one item

left_again : (count depth top : ℕ) (octets rest : List ℕ) → depth ≤ top → length octets < count
    → LeavesRest depth octets rest → behind_items count top octets ≡ Some rest
left_again = grind (arith, items_again)

-- whole items leave one rest, whatever depth is allowed
pub one_left : (depth other : ℕ) (octets rest another : List ℕ) → LeavesRest depth octets rest
    → LeavesRest other octets another → rest ≡ another
one_left depth other octets rest _ l m =
    let count = suc (length octets) in
    same_Some rest _ (sym (left_again count depth _ _ rest (omega arith) (omega arith) l)
    ∙ left_again count other (depth + other) _ _ (omega arith) (omega arith) m)

pub region_leaves : (depth number : ℕ) (octets front : List ℕ) (r : IsClosedRegion depth number octets front)
    → LeavesRest depth octets r.behind
region_leaves = grind arith

-- an item before a rest is read, if the count allows as many octets
pub item_read : (count depth top : ℕ) (octets item rest : List ℕ) → depth ≤ top → length octets < suc count
    → IsItem depth item
    → octets ≡ item ++ rest → item_at (behind_items count) top octets ≡ Some rest
item_read _ _ top _ _ _ le short i e = ap (item_at _ top) e
    ∙ item_again _ _ _ (items_again _) _ _ _ le (rw e at short) i

-- no item begins another, whatever depth is allowed to either
pub one_item : (depth other : ℕ) (a b u v : List ℕ) → IsItem depth a → IsItem other b → a ++ u ≡ b ++ v → a ≡ b
one_item depth other a b u v i j e =
    let count = length (a ++ u) in
    let first = item_read _ depth _ _ a u (omega arith) (omega arith) i refl in
    let same = same_Some u v
    (sym first ∙ item_read count other (depth + other) _ b v (omega arith) (omega arith) j e) in
    append_cancel_right a b v (ap (λ (w : List ℕ). a ++ w) (sym same) ∙ e)

-- no item begins where the items have ended, and none begins with a closing tag
pub item_ended : (depth : ℕ) (octets item rest : List ℕ) → HasEnded octets → IsItem depth item → octets ≡ item ++ rest
    → ⊥
item_ended = grind arith

pub item_opens : (depth number : ℕ) (item closing u v : List ℕ) → IsItem depth item
    → SpellsTag closing (closing_tag number) → item ++ u ≡ closing ++ v → ⊥
item_opens = grind arith

-- ---- one region, and its depth

pub one_region : (depth other number another : ℕ) (octets a b : List ℕ) → IsClosedRegion depth number octets a
    → IsClosedRegion other another octets b → (a ≡ b) × (number ≡ another)
one_region _ _ number _ _ a b r s =
    let same = one_left _ _ _ _ _ (region_leaves _ _ _ a r) (region_leaves _ _ _ b s) in
    let (tags, _) = some_pair_parts _ _ _ _
    (sym (closing_read _ _ _ r.closed) ∙ ap tag_at same ∙ closing_read _ _ _ s.closed) in
    (grind (arith, append_cancel_right), ap (λ t. t.number) tags)

-- the items inside an item
inside_of : (count depth number : ℕ) (after next : List ℕ)
    → behind_item (behind_items count) depth (opening_tag number) Opening after ≡ Some next
    → (below : ℕ) × (depth ≡ suc below) × (mid : List ℕ) × LeavesRest below after mid
inside_of = grind (arith, bind_some, items_take)

opens_within : (depth count : ℕ) (front region tail rest : List ℕ) → Opens count front
    → IsSequence (IsItem depth) region → HasEnded tail → region ++ tail ≡ front ++ rest → count ≤ depth
opens_within _ _ _ _ _ _ here s ended e = omega arith
opens_within _ _ _ _ tail rest (past {rest = others} other item i o) none ended e =
    absurd (item_ended other tail item _ ended i (e ∙ append_assoc item _ rest))
opens_within depth count _ _ tail rest (past {rest = others} other item i o) (more {first} {rest = after} j s) ended e =
    let line : first ++ (after ++ tail) ≡ item ++ (others ++ rest) = grind (arith, append_assoc) in
    let same = one_item depth other first item _ _ j i line in
    let next = append_cancel_left first _ _ (line ∙ ap (λ w. w ++ (others ++ rest)) (sym same)) in
    opens_within depth count _ after tail rest o s ended next
opens_within _ _ _ _ _ _ (into {opening} {rest = others} number t o) none ended e = grind arith
opens_within depth _ _ region tail rest (into {count = fewer} {opening} {rest = others} number t o)
    (more {first} {rest = after} j s) ended e =
    let octets = opening ++ _ in
    let line : octets ≡ first ++ (after ++ tail) =
    sym (sym (append_assoc first after tail) ∙ e ∙ append_assoc _ others rest) in
    let read = item_read (length octets) depth depth octets first _ (omega arith) (omega arith) j line in
    let (below, deeper, _, inside) = inside_of _ depth number _ _ (rw (tag_reader.again _ _ _ t) at read) in
    let within = opens_within below fewer others _ _ rest o inside.region inside.ended cc in
    omega arith

pub nesting : (depth count : ℕ) (octets front rest : List ℕ) → IsRegion depth octets → Opens count front
    → octets ≡ front ++ rest → count ≤ depth
nesting _ _ _ _ _ r o e = opens_within _ _ _ _ [] _ o r (inl refl) (append-nil _ ∙ e)

-- ---- the reading function and the relation agree

-- a reading function returns a rest exactly if it is one in the relation
pub record Reads (IsRest : List ℕ → Type 0) (read : Option (List ℕ)) : Type 0 where
  pub takes : (rest : List ℕ) → read ≡ Some rest → IsRest rest
  pub again : (rest : List ℕ) → IsRest rest → read ≡ Some rest

pub finds_by : {IsRest : List ℕ → Type 0} (read : Option (List ℕ)) → Reads IsRest read → Finds IsRest read
finds_by = grind arith

pub found_by : {IsRest : List ℕ → Type 0} (read found : Option (List ℕ)) → Reads IsRest read → Finds IsRest found
    → read ≡ found
found_by None None _ _ = refl
found_by (Some rest) None reads finds = absurd (finds _ (reads.takes _ refl))
found_by _ (Some rest) reads finds = reads.again _ finds

pub closing_reads : (number : ℕ) (octets : List ℕ) → Reads (IsClosedBy number octets) (behind_closing number octets)
closing_reads = search (arith, closed_takes, closed_again)

pub count_reads : (count : ℕ) (octets : List ℕ) → Reads (CountsBehind count octets) (behind_count count octets)
count_reads = grind arith

item_reads : (count depth : ℕ) (octets : List ℕ) → length octets < suc count
    → Reads (LeavesBehind depth octets) (item_at (behind_items count) depth octets)
item_reads = grind (arith, item_at_takes, items_take, item_read)

items_read : (count depth : ℕ) (octets : List ℕ) → length octets < count
    → Reads (LeavesRest depth octets) (behind_items count depth octets)
items_read _ _ _ short = record {
  takes = items_take _ _ _;
  again = λ rest l. left_again _ _ _ _ _ (omega arith) short l;
}

-- the function and the relation agree
pub items_is : (depth : ℕ) (octets rest : List ℕ)
    → (behind_items (length octets + 1) depth octets ≡ Some rest) ↔ LeavesRest depth octets rest
items_is _ _ _ =
    let reads = items_read _ _ _ (omega arith) in
    (reads.takes _, reads.again _)

pub whole_region : (depth : ℕ) (octets rest : List ℕ) → LeavesRest depth octets rest → rest ≡ [] → IsRegion depth octets
whole_region = grind (arith, append-nil)

pub region_whole : (depth : ℕ) (octets : List ℕ) → IsRegion depth octets → LeavesRest depth octets []
region_whole = grind (arith, append-nil)

-- a region leaves nothing
pub whole_is : (depth : ℕ) (octets : List ℕ)
    → (behind_items (length octets + 1) depth octets ≡ Some []) ↔ IsRegion depth octets
whole_is = grind (arith, whole_region, items_is, region_whole)

-- ---- the items of the code

-- the octets after whole items at the front, with a large enough count
abbrev pub rest_of : ℕ → List ℕ → Option (List ℕ)
rest_of depth octets = behind_items (suc (length octets)) depth octets

pub rest_found : (depth : ℕ) (octets : List ℕ) (found : Option (List ℕ)) → rest_of depth octets ≡ found
    → Finds (LeavesRest depth octets) found
rest_found = grind (arith, finds_by, items_read)

-- without a tag there is no rest
pub rest_none : (depth : ℕ) (octets : List ℕ) → None ≡ tag_at octets → (octets ≡ [] → ⊥) → rest_of depth octets ≡ None
unfolding behind_items
rest_none _ [] e some = absurd (some refl)
rest_none _ (x ∷ xs) e some = cc

pub behind_shorter : (depth : ℕ) (octets rest : List ℕ) → LeavesBehind depth octets rest → length rest < length octets
behind_shorter _ _ _ l = rw l.whole (item_shorter _ _ _ l.item)

-- the octets after the first tag
module _ (depth : ℕ) (octets : List ℕ) (tag : Tag) (after : List ℕ) (e : found_at tag after ≡ tag_at octets) where
  -- the rest after an item that was found or not
  pub rest_step : (found : Option (List ℕ)) → (tag.shape ≡ Closing → ⊥) → Finds (LeavesBehind depth octets) found
      → rest_of depth octets ≡ (found >>= rest_of depth)
  rest_step None going finds =
      one_step _ _ _ _ _ (sym e) going ∙ rw (found_by _ None (item_reads (length octets) _ _ (omega arith)) finds) refl
  rest_step (Some next) going finds =
      let reads = items_read _ _ _ (behind_shorter _ _ _ finds) in
      one_step _ _ _ _ _ (sym e) going ∙ rw (found_by _ (Some _) (item_reads (length octets) _ _ (omega arith)) finds)
      (found_by _ _ reads (rest_found _ _ _ refl))

  -- the item that was read is the item that was found
  pub item_found : (shape : Shape) (found : Option (List ℕ)) → tag.shape ≡ shape
      → behind_item (behind_items (length octets)) depth tag shape after ≡ found
      → Finds (LeavesBehind depth octets) found
  item_found _ found is f =
      let read : item_at (behind_items (length octets)) depth octets ≡ found = cc in
      subst (Finds _) read (finds_by _ (item_reads (length octets) depth octets (omega arith)))

  -- the items inside an item were found or not
  pub opening_found : (below : ℕ) (inside found : Option (List ℕ)) → depth ≡ suc below → tag.shape ≡ Opening
      → Finds (LeavesRest below after) inside → (inside >>= behind_closing tag.number) ≡ found
      → Finds (LeavesBehind depth octets) found
  opening_found _ _ _ deeper is finds f =
      let within = found_by _ _ (items_read _ _ _ (after_shorter _ _ _ (sym e))) finds in
      item_found _ _ is cc

-- ---- a region

-- a region is read up to its closing tag
region_again : (number : ℕ) (octets region : List ℕ) (r : IsClosedRegion 32 number octets region)
    → region_at number octets ≡ found_at region r.rest
unfolding region_at
region_again _ octets region r =
    let l = region_leaves 32 _ _ _ r in
    rw (
      left_again (suc (length octets)) 32 32 _ _ (omega arith) (omega arith) l,
      closed_again _ _ _ r.closed,
      (take_front _ region _ r.whole).taken,
    ) refl

region_takes : (number : ℕ) (octets region rest : List ℕ) → region_at number octets ≡ found_at region rest
    → Begins (SpellsClosed number) octets region rest
unfolding region_at
region_takes _ _ region rest e =
    let (_, items_read, closing) = bind_some _ _ (region, rest) e in
    let (_, closed_read, found) = bind_some _ _ (region, rest) closing in
    let (region_is, _) = some_pair_parts _ _ _ _ found in
    let l = items_take _ 32 _ _ items_read in
    let c = closed_takes _ _ _ closed_read in
    let same : l.front ≡ region = sym (take_front _ _ _ l.whole).taken ∙ region_is in
    let items = subst (IsRegion 32) same l.region in
    record {
      front = region ++ c.front;
      spelled = record { closing = c.front; whole = refl; items = items; closed = c.spelled };
      whole = grind (arith, append_assoc);
    }

-- a region at the front, and its closing tag
abbrev pub closed_region : (number : ℕ) (octets region rest : List ℕ)
    (b : Begins (SpellsClosed number) octets region rest) → IsClosedRegion 32 number octets region
closed_region _ _ _ rest b =
    let s = b.spelled in
    record {
      behind = s.closing ++ rest;
      rest = rest;
      region = s.items;
      whole = grind (arith, append_assoc);
      closed = record { front = s.closing; spelled = s.closed; whole = refl };
    }

pub region_reader : (number : ℕ) → IsReader (SpellsClosed number) (region_at number)
region_reader _ = record {
  takes = region_takes _;
  again = λ front region rest s.
      region_again _ _ _ (closed_region _ _ _ rest (record { front = front; spelled = s; whole = refl }));
}

-- if no region was found, none is read
none_read : (number : ℕ) (octets : List ℕ) (read : Option (List ℕ × List ℕ)) → region_at number octets ≡ read
    → FindsRegion 32 number octets None → None ≡ read
none_read _ _ None e _ = refl
none_read _ _ (Some x) e finds = absurd (none-some _ (finds.all _ (closed_region _ _ _ _ (region_takes _ _ _ _ e))))

pub no_region : (number : ℕ) (octets : List ℕ) → FindsRegion 32 number octets None → None ≡ region_at number octets
no_region _ _ = none_read _ _ _ refl

-- a region that was found is read, and the octets after its closing tag
pub region_found : (number k : ℕ) (octets front back : List ℕ) → front ≡ take k octets → back ≡ drop k octets
    → FindsRegion 32 number octets (Some k) → region_at number octets ≡ (behind_closing number back >>= found_at front)
region_found _ k _ _ back f b finds =
    let r = subst (IsClosedRegion 32 _ _) (sym f) finds.found in
    let same : back ≡ r.behind = grind (arith, drop_at, length-take-le) in
    region_again _ _ _ r ∙ sym (rw (same, closed_again _ _ _ r.closed) refl)

-- a region is found if a closing tag follows whole items, and not otherwise
pub region_finds : (depth number : ℕ) (octets rest : List ℕ) (behind : Option (List ℕ)) → LeavesRest depth octets rest
    → Finds (IsClosedBy number rest) behind
    → FindsRegion depth number octets (option_map (λ _. length octets - length rest) behind)
region_finds _ _ _ rest None l h = record {
  within = tt;
  found = tt;
  all = λ front r.
      let same = one_left _ _ _ _ rest (region_leaves _ _ _ _ r) l in
      absurd (h _ (subst (λ w. IsClosedBy _ w r.rest) same r.closed));
}
region_finds _ _ _ rest (Some after) l h = record {
  within = omega arith;
  found = rw (take_front _ _ rest l.whole).taken
      (record { behind = rest; rest = after; region = l.region; whole = l.whole; closed = h });
  all = λ front r.
      let same = one_left _ _ _ rest _ l (region_leaves _ _ _ _ r) in
      ap Some (grind (arith, take_front));
}

-- ---- the contents under a context tag

counted_takes : (number : ℕ) (octets : List ℕ) (tag : Tag) (shape : Shape) (after contents rest : List ℕ)
    → tag_at octets ≡ found_at tag after → tag.shape ≡ shape
    → counted_of number tag shape after ≡ found_at contents rest
    → Took (SpellsContext number) octets contents rest
counted_takes number _ tag (Context n) after contents rest e is f =
    let (same, counted) = only_if _ f in
    let (room, found) = unless _ counted in
    let (contents_are, behind) = some_pair_parts _ _ _ _ found in
    let long : n ≡ length contents = grind (arith, length-take-le, ltb-false) in
    let tag_here = tag_parts _ _ _ (is ∙ ap Context long) (eqb-true _ _ same) in
    let taken = tag_reader.takes _ tag _ e in
    let after_is : after ≡ contents ++ rest = grind (arith, take-append-drop) in
    let here : SpellsContext number (taken.front ++ contents) contents =
    record { front = taken.front; spelled = subst (SpellsTag _) tag_here taken.spelled; whole = refl } in (
      taken.front ++ contents,
      here,
      grind (arith, append_assoc),
    )
counted_takes _ _ _ _ _ contents rest e is f = absurd (none-some (contents, rest) f)

contents_again : (number : ℕ) (contents rest : List ℕ)
    → counted_of number (context_tag number (length contents)) (Context (length contents)) (contents ++ rest)
    ≡ found_at contents rest
contents_again = grind (arith, length-append, le-ltb, take_at, drop_at)

context_takes : (number : ℕ) (octets contents rest : List ℕ) → context_at number octets ≡ found_at contents rest
    → Took (SpellsContext number) octets contents rest
unfolding context_at
context_takes = grind (arith, counted_takes)

context_again : (number : ℕ) (front contents rest : List ℕ) → SpellsContext number front contents
    → context_at number (front ++ rest) ≡ found_at contents rest
unfolding context_at
context_again _ _ _ _ s = rw (tag_again _ _ _ _ s) (contents_again _ _ _)

-- ---- numbers and objects

in_reader : {A : Type 0} (kind : A → Datum) (of : List ℕ → Option A)
    → ((contents : List ℕ) (x : A) → of contents ≡ Some x → StandsFor contents (kind x))
    → ((contents : List ℕ) (x : A) → StandsFor contents (kind x) → of contents ≡ Some x)
    → (number : ℕ) → IsReader (SpellsIn kind number)
    (λ octets. context_at number octets >>= (λ (contents, rest). of contents >>= (λ a. found_at a rest)))
in_reader _ of taken_as again_as _ = record {
  takes = grind (arith, bind_some, some_pair_parts, context_takes);
  again = λ front x rest s. rw (context_again _ _ _ _ s.context, again_as _ x s.stands) refl;
}

pub number_reader : (number : ℕ) → IsReader (SpellsIn enumerated number) (number_at number)
unfolding number_at
number_reader = in_reader _ _ (within_takes 4) (grind (arith, within_again))

pub object_reader : (number : ℕ) → IsReader (SpellsIn values.object number) (object_at number)
unfolding object_at
object_reader = in_reader _ _ (grind (arith, cond_some, eqb-true)) (grind (arith, eq-eqb, same_identifier))

pub context_reader : (number : ℕ) → IsReader (SpellsContext number) (context_at number)
context_reader _ = reader_of _ _ (context_takes _) (context_again _)

-- if there are no octets, nothing is read
pub no_number : (number : ℕ) → number_at number [] ≡ None
unfolding number_at context_at
no_number _ = rw no_octets refl

pub no_object : (number : ℕ) → object_at number [] ≡ None
unfolding object_at context_at
no_object _ = rw no_octets refl

-- ---- items between two tags

opening_takes : (number : ℕ) (tag : Tag) (shape : Shape) (after rest : List ℕ)
    → opening_of number tag shape after ≡ Some rest → (shape ≡ Opening) × (tag.number ≡ number) × (after ≡ rest)
opening_takes = grind arith

enclosed_takes : (number : ℕ) (octets region rest : List ℕ) → enclosed_at number octets ≡ found_at region rest
    → Took (SpellsEnclosed number) octets region rest
unfolding enclosed_at behind_opening
enclosed_takes _ _ region rest e =
    let (inside, opening_read, region_read) = bind_some _ _ (region, rest) e in
    let ((tag, _), tag_read, behind) = bind_some _ _ inside opening_read in
    let (opening, same, inside_is) = opening_takes _ tag _ _ inside behind in
    let t = tag_reader.takes _ _ _ tag_read in
    let b = (region_reader _).takes inside _ _ region_read in
    let opened = subst (SpellsTag _) (tag_parts _ _ _ opening same) t.spelled in (
      t.front ++ b.front,
      record {
        closing = b.spelled.closing;
        opened = record { front = t.front; spelled = opened; whole = grind arith };
        parts = b.spelled.items;
        closed = b.spelled.closed;
      },
      grind (arith, append_assoc),
    )

pub enclosed_reader : (number : ℕ) → IsReader (SpellsEnclosed number) (enclosed_at number)
unfolding enclosed_at behind_opening
enclosed_reader _ =
    reader_of _ _ (enclosed_takes _) (λ front region rest s.
    rw (tag_again _ _ _ _ s.opened, eq-eqb _ _ refl)
    ((region_reader _).again _ _ _ (record { closing = s.closing; whole = refl; items = s.parts; closed = s.closed })))

-- items between tags are not a number
pub enclosed_no_number : (number other : ℕ) (octets front region rest : List ℕ) → SpellsEnclosed other front region
    → octets ≡ front ++ rest → number_at number octets ≡ None
unfolding number_at context_at
enclosed_no_number _ _ _ _ _ _ s e =
    rw (e, tag_again _ _ _ _ s.opened) refl

-- ---- values of one kind

-- the result of the function is spelled at the front, as `made` of it
pub record IsStep {A P : Type 0} (Spells : List ℕ → P → Type 0) (made : A → P)
    (at : List ℕ → Option (A × List ℕ)) : Type 0 where
  pub takes : (octets : List ℕ) (x : A) (rest : List ℕ) → at octets ≡ found_at x rest
      → Begins Spells octets (made x) rest
  pub again : (octets : List ℕ) (x : A) (rest : List ℕ) → Begins Spells octets (made x) rest
      → at octets ≡ found_at x rest

kind_step : {A : Type 0} (made : A → Datum) (in_kind : Datum → Option A)
    → ((value : Datum) (x : A) → in_kind value ≡ Some x → value ≡ made x) → ((x : A) → in_kind (made x) ≡ Some x)
    → IsStep Spells made (kind_at in_kind)
unfolding kind_at
kind_step made _ takes again = record {
  takes = λ octets x rest e.
      let (_, value_read, kind) = bind_some _ _ _ e in
      let (_, in_it, found) = bind_some _ _ _ kind in
      let (same, behind) = some_pair_parts _ x _ _ found in
      let taken = value_reader.takes _ _ _ value_read in
      record {
        front = taken.front;
        spelled = subst (Spells _) (takes _ _ in_it ∙ ap made same) taken.spelled;
        whole = taken.whole ∙ ap (λ (w : List ℕ). taken.front ++ w) behind;
      };
  again = λ octets x rest b. rw (ap value_at b.whole ∙ value_reader.again _ _ _ b.spelled, again x) refl;
}

pub unsigned_step : IsStep Spells unsigned (kind_at unsigned_in)
unsigned_step = grind (arith, kind_step)

pub enumerated_step : IsStep Spells enumerated (kind_at enumerated_in)
enumerated_step = grind (arith, kind_step)

pub object_step : IsStep Spells values.object (kind_at object_in)
object_step = grind (arith, kind_step)

-- ---- what is written is a spelling

pub context_spells : (number : ℕ) (contents : List ℕ) → number < 255 → length contents < 2 ^ 32
    → SpellsContext number (context_octets number contents) contents
context_spells = grind (arith, plain_tag_spells)

pub number_spells : (number n : ℕ) → number < 255 → n < 2 ^ 32 → SpellsIn enumerated number (number_octets number n) n
number_spells = grind (arith, count_low, count_four, context_spells, count_fits)

pub object_spells : (number : ℕ) (id : Identifier) → number < 255 → IsIdentifier id
    → SpellsIn values.object number (object_octets number id) id
object_spells = grind (arith, context_spells)

pub enclosed_spells : (number : ℕ) (region : List ℕ) → number < 255 → IsRegion 32 region
    → SpellsEnclosed number (enclosed_octets number region) region
enclosed_spells = grind (arith, plain_tag_spells)

-- ---- written values are read back; crates above cite this with `IsReadBack` and `FindsFront`

-- the value that was found, without where its octets lie
abbrev pub found_seen : Option (Value × ℕ) → Option (Datum × ℕ)
found_seen found = option_map (λ (value, count). (datum value, count)) found

-- this value was found, in this many octets
abbrev pub IsFound : Option (Value × ℕ) → Datum → ℕ → Type 0
IsFound found x count = (value : Value) × (found ≡ Some (value, count)) × (datum value ≡ x)

-- the octets begin with the written ones
pub value_back : (plain rest octets : List ℕ) (x : Datum) (found : Option (Value × ℕ)) → IsReadBack Spells plain x
    → octets ≡ plain ++ rest → FindsFront Spells octets (found_seen found) → IsFound found x (length plain)
value_back _ rest _ x found back whole finds = grind arith

-- the octets are the written ones, after none
pub value_alone : (first plain octets : List ℕ) (x : Datum) (found : Option (Value × ℕ)) → first ≡ []
    → octets ≡ first ++ plain → IsReadBack Spells plain x → FindsFront Spells octets (found_seen found)
    → IsFound found x (length octets)
value_alone _ plain octets x found nothing whole back finds =
    let same : octets ≡ plain = rw nothing at whole in
    subst (λ (w : List ℕ). IsFound found x (length w)) (sym same)
    (value_back _ [] _ _ _ back (same ∙ sym (append-nil _)) finds)
