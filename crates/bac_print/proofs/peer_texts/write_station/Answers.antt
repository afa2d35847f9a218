-- The parts are written from the last to the first, and their texts are grouped in another way than in the definition.
use Rattle.std.proofs.Common.{append-nil, append_assoc, arith, drop_of_length-le}
use Rattle.bac_print.proofs.peer_texts.write_station.Goals as goal

pub returns-clause-text : goal.returns-clause-text
returns-clause-text c =
    let none = drop_of_length-le c.args.room.now {i = 21} (omega arith) in
    let last = c.write_octet.ensures.text in let third = c.write_octet-start-3.ensures.text in
    let second = c.write_octet-start-2.ensures.text in let first = c.write_octet-start.ensures.text in
    grind (arith, append_assoc, append-nil, none, last, third, second, first)
