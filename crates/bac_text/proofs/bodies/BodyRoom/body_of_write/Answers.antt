-- The pairs are a region of values, as the writer of the request requires, or their fault is that of the body.
use Rattle.std.proofs.Common.{arith, subst, sym}
use Rattle.{bac_wire.specs.IsRegion, bac_text.proofs.{body-fault, region_written, values_are_region}}
use Rattle.bac_text.proofs.bodies.BodyRoom.body_of_write.Goals as goal

pub returns-in_err-read_pairs : goal.returns-in_err-read_pairs
returns-in_err-read_pairs g c = grind (arith, body-fault)

pub write_write-requires-clause-region : goal.write_write-requires-clause-region
write_write-requires-clause-region g c =
    let written = region_written (g.S.WordSource.left c.args.words.now) _ c.in_ok-read_pairs.ensures.value in
    subst (IsRegion 32) (sym c.as_slice.ensures.value) (values_are_region _ _ written.spelled)
