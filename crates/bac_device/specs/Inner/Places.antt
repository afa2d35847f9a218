-- A write as the code keeps it.
use Rattle.{bac_wire.specs.identifier, bac_pdu.specs.IsPriority}
use Rattle.bac_device.specs.{declared.write.PlaceWrite.PlaceWrite, Places.Write}

-- The priority of the write is 1 to 16.
abbrev pub IsUrgent : Write → Type 0
IsUrgent write = IsPriority write.priority

-- A write as the code keeps it, as a write of these definitions.
abbrev pub write_seen : PlaceWrite → Write
write_seen write = record { object = identifier write.object; priority = write.priority; value = write.value }
