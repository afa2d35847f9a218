-- An APDU that was written reads back, by the lemma over all kinds.
use Rattle.std.proofs.lemmas.Result.{on_ok_weaker}
use Rattle.bac_pdu.proofs.{apdu_back}
use Rattle.bac_pdu.proofs.apdu.write_apdu.Goals as goal

pub returns-clause-read_back : goal.returns-clause-read_back
returns-clause-read_back c = on_ok_weaker _ (λ _. apdu_back _ c.requires) c.append_apdu.ensures.fits
