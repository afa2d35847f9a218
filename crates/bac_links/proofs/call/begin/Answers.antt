-- A new client accepts the request, so its first ticket is 0 and the datagram is that of the request.
use Rattle.std.proofs.{Common.{◌≡◌}}
use Rattle.bac_links.proofs.{begun, gains_both, submitted_is}
use Rattle.bac_links.proofs.call.begin.Goals as goal

pub returns-clause-ok : goal.returns-clause-ok
returns-clause-ok g c =
    let short = rw c.as_slice.ensures.value at c.as_slice.ensures.fits in
    let answer = rw (
      c.tick.ensures.left,
      c.new-client.ensures,
      c.service_of.ensures,
      c.as_slice.ensures.value,
      submitted_is _ c.args.call.now _ short,
    ) at c.submit.ensures.answer in
    let first : c.unwrap-ticket.result ≡ 0 = cc in
    let client = rw (c.tick.ensures.left, c.new-client.ensures, c.service_of.ensures, c.as_slice.ensures.value) at
    c.submit.ensures.left in
    let sends = rw first at c.in_ok-send_request.ensures.ok in
    begun c.args.purpose c.args.call.now c.now.result short client (gains_both _ _ _ _ _ c.now.ensures.told sends)
