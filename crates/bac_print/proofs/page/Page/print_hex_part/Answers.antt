-- The pairs are those of all octets, and digits are no line feeds.
use Rattle.std.proofs.Common.{refl}
use Rattle.hex.specs.Hex.{encode_with}
use Rattle.bac_print.{specs.Inner.{hex_pairs}}
use Rattle.bac_print.proofs.page.Page.print_hex_part.Goals as goal

pub write_pairs-requires-clause-pairs : goal.write_pairs-requires-clause-pairs
unfolding hex_pairs encode_with
write_pairs-requires-clause-pairs g c = refl
