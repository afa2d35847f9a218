-- The digits end at a blank or at the end of the text, so they are its first word.
use Rattle.std.proofs.{Common.arith, lemmas.List.take_rest}
use Rattle.bac_text.proofs.{first_number_is}
use Rattle.bac_text.proofs.words.first_number.Goals as goal

pub returns : goal.returns
returns c = grind (arith, take_rest, first_number_is)
