-- The definitions that the worked examples compute with. Unfolding `computed` unfolds all of them.
use Rattle.bac_wire.specs.{contents_of, kind_at, length_at, long_length_at, shape_at, tag_at, tag_number_at, value_at}
use Rattle.bac_pdu.specs.{address_at, apdu_of, carried, error_of, header_at, link_at, parts_at, wrapped}
use Rattle.bac_tsm.specs.{answer_in_datagram, is_answer_to, next_invoke_id, refusal_of, same_station}

unfoldable pub computed : Unit {0}
unfolding contents_of kind_at length_at long_length_at shape_at tag_at tag_number_at value_at address_at apdu_of carried
    error_of header_at link_at parts_at wrapped answer_in_datagram is_answer_to next_invoke_id refusal_of same_station
computed = tt
