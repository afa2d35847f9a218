-- The value's octets are known to be at least one, so fewer octets are left.
use Rattle.std.proofs.Common.{sym}
use Rattle.bac_wire.proofs.DatumLaws.{value-shorter}
use Rattle.bac_print.proofs.values.value_and_rest.Goals as goal

pub returns-clause-shorter : goal.returns-clause-shorter
returns-clause-shorter c = value-shorter _ _ _ (sym c.in_ok-value.ensures)
