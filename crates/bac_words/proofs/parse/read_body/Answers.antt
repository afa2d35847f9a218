-- There is always room for the body of a ReadProperty.
use Rattle.std.proofs.Common.{ap, arith, length, ◌∙◌}
use Rattle.bac_pdu.{proofs.ShortestLaws.{read_alone, read_octets_short}, specs.reference}
use Rattle.bac_words.proofs.parse.read_body.Goals as goal

pub copy_of-requires : goal.copy_of-requires
copy_of-requires c =
    let request = reference c.args.request.now in
    let written = read_alone _ _ _ request c.new-body.ensures c.write_read.ensures.appended in
    let size = ap length (c.as_slice.ensures.value ∙ written) in omega (arith, size, read_octets_short request)

pub returns : goal.returns
returns c =
    c.copy_of.ensures ∙ c.as_slice.ensures.value
    ∙ read_alone _ _ _ (reference c.args.request.now) c.new-body.ensures c.write_read.ensures.appended
