-- A value that is alone in a frame is read back whole.
use Rattle.std.proofs.Common.{refl, true}
use Rattle.bac_wire.proofs.ItemLaws.{value_alone}
use Rattle.bac_uses.proofs.wire.written_alone.Goals as goal

pub unwrap-count-requires : goal.unwrap-count-requires
unwrap-count-requires c =
    let wrote = c.in_ok-write_value.ensures in
    let finds = rw c.as_slice.ensures.value at c.read_value.ensures in
    let (_, found, _) = value_alone _ _ _ _ _ c.clear.ensures wrote.appended.ok wrote.read_back finds in
    rw found (refl {a = true})

pub returns-clause-count : goal.returns-clause-count
returns-clause-count c =
    let wrote = c.in_ok-write_value.ensures in
    let finds = rw c.as_slice.ensures.value at c.read_value.ensures in
    let found = value_alone _ _ _ _ _ c.clear.ensures wrote.appended.ok wrote.read_back finds in
    cc
