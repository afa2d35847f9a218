-- Which limits of a Who-Is can be written (ANSI/ASHRAE 135, 16.10).
use Rattle.std.specs.Prelude.{◌<◌, ◌^◌}
use Rattle.bac_pdu.specs.declared.discovery.WhoIs.{WhoIs}
use Rattle.bac_pdu.specs.declared.discovery.WhoIs.TheVariants as limits

-- A Who-Is that can be written: its limits are numbers of at most four octets.
abbrev pub HasLimits : WhoIs → Type 0
HasLimits limits.All = Unit {0}
HasLimits (limits.Range low high) = (low < 2 ^ 32) × (high < 2 ^ 32)
