-- The definitions that the worked examples compute with. Unfolding `computed` unfolds all of them.
use Rattle.bac_wire.specs.{behind_closing, behind_items, behind_opening, contents_of, context_at, enclosed_at}
use Rattle.bac_wire.specs.{length_at, long_length_at, number_at, object_at, plain, plain_tag, region_at, shape_at}
use Rattle.bac_wire.specs.{tag_at, tag_number_at, value_at}

unfoldable pub computed : Unit {0}
unfolding tag_number_at long_length_at length_at shape_at tag_at contents_of value_at context_at number_at object_at
    behind_opening enclosed_at behind_closing behind_items region_at plain plain_tag
computed = tt
