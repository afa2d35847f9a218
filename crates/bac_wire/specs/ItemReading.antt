-- Reading items from left to right: the octets after them. The relations are `LeavesRest` and `SpellsClosed`.
use Rattle.std.specs.Prelude.{[], drop, if◌then◌else◌, length, List, nat_lt, None, Option, Some, suc, take, zero, ℕ}
use Rattle.std.specs.Prelude.{◌-◌, ◌==◌, ◌∷◌}
use Rattle.bac_wire.specs.declared.tag.{Shape.{Shape, TheVariants.{App, Closing, Context, Opening}}, Tag.Tag}
use Rattle.bac_wire.specs.{Limits.deepest, Steps.◌>>=◌, TagReading.tag_at}

-- The octets after this many.
abbrev pub behind_count : ℕ → List ℕ → Option (List ℕ)
behind_count count octets = if nat_lt (length octets) count then None else Some (drop count octets)

-- The octets after a tag, if it is the closing tag of this number.
abbrev pub closing_of : ℕ → Tag → Shape → List ℕ → Option (List ℕ)
closing_of number tag Closing rest = if tag.number == number then Some rest else None
closing_of number tag _ rest = None

-- The octets after a closing tag with this number.
unfoldable pub behind_closing : ℕ → List ℕ → Option (List ℕ)
behind_closing number octets = tag_at octets >>= (λ (tag, rest). closing_of number tag tag.shape rest)

-- The octets after the item that begins with this tag. `items` skips the items inside the item, and `depth` says how
-- many opening tags may be open.
abbrev pub behind_item : (ℕ → List ℕ → Option (List ℕ)) → ℕ → Tag → Shape → List ℕ → Option (List ℕ)
behind_item items depth tag (App n) rest = if tag.number == 1 then Some rest else behind_count n rest
behind_item items depth tag (Context n) rest = behind_count n rest
behind_item items (suc depth) tag Opening rest = items depth rest >>= behind_closing tag.number
behind_item items depth tag _ rest = None

-- The octets after the items that begin with this tag. No item begins with a closing tag, so then all octets are left.
abbrev pub behind_tag : (ℕ → List ℕ → Option (List ℕ)) → ℕ → List ℕ → Tag → Shape → List ℕ → Option (List ℕ)
behind_tag items depth octets tag Closing rest = Some octets
behind_tag items depth octets tag shape rest = behind_item items depth tag shape rest >>= items depth

-- The octets after the items that begin with the tag that was found. If no tag was found, the octets are at their end,
-- or are not items.
abbrev pub behind_tag_found : (ℕ → List ℕ → Option (List ℕ)) → ℕ → List ℕ → Option (Tag × List ℕ) → Option (List ℕ)
behind_tag_found items depth [] None = Some []
behind_tag_found items depth (x ∷ xs) None = None
behind_tag_found items depth octets (Some (tag, rest)) = behind_tag items depth octets tag tag.shape rest

-- The octets after the items at the front. Each step skips an item or goes into one; `steps` ends the recursion, and
-- the number of octets plus one is enough (law `regions`, `rest`).
unfoldable pub behind_items : (steps depth : ℕ) → List ℕ → Option (List ℕ)
behind_items zero depth octets = None
behind_items (suc steps) depth octets = behind_tag_found (behind_items steps) depth octets (tag_at octets)

-- The items up to a closing tag with this number, and the octets after that tag.
unfoldable pub region_at : ℕ → List ℕ → Option (List ℕ × List ℕ)
region_at number octets = do
  closing ← behind_items (suc (length octets)) deepest octets
  rest ← behind_closing number closing
  Some (take (length octets - length closing) octets, rest)
