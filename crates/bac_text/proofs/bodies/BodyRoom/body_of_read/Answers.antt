-- A ReadProperty has at most 45 octets, so there is room for it.
use Rattle.std.proofs.Common.{ap, arith, length, ◌∙◌, ◌≡◌}
use Rattle.bac_pdu.{proofs.ShortestLaws.{read_alone, read_octets_short}, specs.{read_octets, reference}}
use Rattle.bac_text.proofs.bodies.BodyRoom.body_of_read.Goals as goal

pub returns : goal.returns
returns c =
    let short = read_octets_short (reference c.args.request.now) in
    let framed = read_alone _ _ _ _ c.clear.ensures c.write_read.ensures.appended in
    let same : c.as_slice.result.now ≡ read_octets (reference c.args.request.now) = c.as_slice.ensures.value ∙ framed in
    record { body = same; short = let size = ap length same in omega arith }
