-- The definitions that the worked examples compute with. Unfolding `computed` unfolds all of them.
use Rattle.bac_wire.specs.{behind_closing, behind_items, behind_opening, contents_of, context_at, enclosed_at, kind_at}
use Rattle.bac_wire.specs.{length_at, long_length_at, number_at, object_at, plain, plain_tag, region_at, shape_at}
use Rattle.bac_wire.specs.{tag_at, tag_number_at, value_at, Inner.Datum.tagged}
use Rattle.bac_pdu.specs.{address_at, apdu_of, carried, header_at, link_at, parts_at, plain_parameter, wrapped}
use Rattle.bac_pdu.specs.{write_of, Inner.Datagram.front_octets, PropertyReading.{read_of, reference_at}}
use Rattle.bac_device.specs.{accepted_write, device_property, element, fixed_value, full_reply, kind_property}
use Rattle.bac_device.specs.{one_value, ordered_write, place, point_property, property_of, read_property, read_reply}
use Rattle.bac_device.specs.{reply_of, standing_after, write_in_datagram, write_reply, written_value}

unfoldable pub computed : Unit {0}
unfolding tag_number_at long_length_at length_at shape_at tag_at contents_of value_at context_at number_at object_at
    behind_opening enclosed_at kind_at behind_closing behind_items region_at tagged plain plain_tag wrapped front_octets
    address_at header_at link_at carried parts_at apdu_of reference_at read_of write_of plain_parameter element
    kind_property point_property one_value place standing_after written_value fixed_value device_property
    property_of read_property ordered_write accepted_write read_reply write_reply full_reply reply_of
    write_in_datagram
computed = tt
