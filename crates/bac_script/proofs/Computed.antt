-- The definitions that worked examples open to be computed, those of a device too: to unfold `computed` opens all of
-- them.
use Rattle.std.specs.{Fmt.digits, Str.{chars, is_utf8}}
use Rattle.{hex.specs.Hex.{decode_pairs, encode_with}, bac_wire.specs.values_within}
use Rattle.bac_pdu.specs.{ack_of, ValueReading.{introduction_of, who_is_of}}
use Rattle.bac_tsm.specs.{next_invoke_id, refusal_of, Answers.{answer_in_datagram, is_answer_to, same_station}}
use Rattle.bac_device.{proofs.Computed.computed as replies, specs.{Device.add_point, Inner.Demo.with_row, Kind.kind_of}}
use Rattle.bac_device.specs.{Places.place_at, Point.description_of, Reply.who_is_reply}
use Rattle.bac_text.specs.ValueWords.{value_under}
use lib.Utf8.{encode}

unfoldable pub computed : Unit {0}
unfolding replies encode is_utf8 chars digits decode_pairs encode_with value_under values_within ack_of next_invoke_id
    refusal_of answer_in_datagram same_station is_answer_to who_is_of introduction_of who_is_reply with_row
    description_of kind_of place_at add_point
computed = tt
