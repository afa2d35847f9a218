-- A body has at most 45 octets, for which there is room in an empty frame.
use Rattle.std.{proofs.Common.{[], arith, Err, List, None, Ok, Result, ℕ, ◌≡◌}, specs.Result.IsOk}
use Rattle.bac_wire.specs.{Appends, identifier}
use Rattle.bac_pdu.{proofs.ShortestLaws.read_octets_short, specs.{read_octets, Reference}}
use Rattle.bac_uses.proofs.pdu.asking.Goals as goal

has_room : {A E : Type 0} (result : Result A E) (before after : List ℕ) (r : Reference) → before ≡ []
    → Appends before (read_octets r) after result → IsOk result
has_room (Ok _) _ _ _ _ _ = search
has_room (Err _) _ _ r none appended = grind (arith, appended.full, read_octets_short r)

pub unwrap-requires : goal.unwrap-requires
unwrap-requires c =
    let request : Reference = record { object = identifier c.args.object; property = 85; index = None } in
    has_room c.write_read.result _ _ request c.new-body.ensures c.write_read.ensures.appended
