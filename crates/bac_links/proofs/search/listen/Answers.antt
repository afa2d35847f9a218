-- The history gained the received datagram, whose octets are in the room now.
use Rattle.std.proofs.{Common.{refl}, lemmas.Result.err_from_is_err_and}
use Rattle.{bac_pdu.specs.{station, Found.found_seen}, bac_links.specs.Arrived}
use Rattle.bac_links.proofs.search.listen.Goals as goal

pub returns-in_err-show_found-in-Some-clause-told : goal.returns-in_err-show_found-in-Some-clause-told
returns-in_err-show_found-in-Some-clause-told g c =
    let (_, was, same) = err_from_is_err_and c.from_residual.result c.from_residual.ensures.1 in
    let gains = rw (c.in-Ok-Some.field-0-is, ← c.as_slice.ensures.value) at c.in-Ok-Some.ensures.told in
    let (taken, rest, line, printed) = c.in_err-show_found-in-Some.ensures.text in
    rw (was, same, c.in_err-show_found-in-Some.ensures.fault) (record {
      heard = Arrived (station c.in-Ok-Some.from) c.as_slice.result.now;
      gains = gains;
      last = found_seen c.in-Some.found;
      finds = rw (← c.in-Some.ensures) refl;
      taken = taken;
      rest = rest;
      line = line;
      printed = printed;
    })
