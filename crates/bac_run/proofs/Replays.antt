-- The journal, read as a script.
use Rattle.std.proofs.{Common.◌≡◌, Common.{[], append-nil, arith, codes, false, List, None, refl, true, ℕ}}
use Rattle.std.{proofs.{Common.{◌++◌, ◌∷◌}, lemmas.List.Concat.flat_map-append}, specs.List.AllByRecursion}
use Rattle.{bac_tsm.specs.{Data, Tick, Client.Client}, bac_print.proofs.Texts.decimal_plain}
use Rattle.{bac_print.proofs.Texts.{hex_plain, peer_plain}, bac_script.proofs.Replayed.{is_plain_line, lay, noted_then}}
use Rattle.bac_script.{proofs.Replayed.{plain_line-append, remark_skipped, Replays, script_prints}, specs.Blank}
use Rattle.bac_script.specs.{Happens, lines, Inner.Running.ScriptStage, Script.{first_fault, text}, Text.note_text}
use Rattle.{bac_script.specs.Text.notes_text, bac_run.{proofs.ReadBack.read_as, specs.{Act, AreSettings, Asked, AtEnd}}}
use Rattle.bac_run.specs.{Came, Closed, closing_text, Handed, IsReplayed, journal, journal_of, line_of, new_client}
use Rattle.bac_run.specs.{notes_of, Paused, remarks, rest_text, Rested, seek_text, Setup, Sought, Told, turn_at}
use Rattle.bac_run.specs.{unsent_text}

abbrev on : Client → ScriptStage
on client = record { client = client; writes = [] }

remark_then : (client : Client) (told rest printed : List ℕ) → is_plain_line told ≡ true
    → Replays (on client) (lay rest) printed
    → Replays (on client) (lay (((codes "# " ++ told) ++ []) ++ rest)) printed
remark_then client told rest printed is more =
    rw (append-nil told) (remark_skipped (on client) rest printed more told is)

-- The text of an act comes before the text of the rest.
act_then : (client : Client) (act : Act) (rest printed : List ℕ) → IsReplayed act
    → Replays (on (turn_at client act).after) (lay rest) printed
    → Replays (on client) (lay ((line_of act ++ remarks (turn_at client act).notes) ++ rest))
    (notes_text (turn_at client act).notes ++ printed)
act_then client (Asked line event) rest printed is more =
    noted_then (on client) (Happens event) _ rest (read_as is) more
act_then client (Came wait from octets) rest printed is more =
    noted_then (on client) (Happens (Data from octets)) _ rest (read_as is) more
act_then client (Told time) rest printed is more = noted_then (on client) (Happens (Tick time)) _ rest (read_as is) more
act_then client Paused rest printed is more = noted_then (on client) Blank [] rest (read_as is) more
act_then client (Sought to octets) rest printed is more =
    remark_then client (seek_text to octets) rest printed
    (grind (arith, plain_line-append, peer_plain, hex_plain)) more
act_then client (Rested time) rest printed is more =
    remark_then client (rest_text time) rest printed (grind (arith, plain_line-append, decimal_plain)) more
act_then client Closed rest printed is more = remark_then client closing_text rest printed refl more
act_then client (Handed to octets false) rest printed is more =
    remark_then client (unsent_text to octets) rest printed
    (grind (arith, plain_line-append, peer_plain, hex_plain)) more
act_then client (Handed to octets true) rest printed is more = more
act_then client _ rest printed is more = more

journal_text : (client : Client) (acts : List Act) → AllByRecursion IsReplayed acts
    → Replays (on client) (lay (journal client acts)) (notes_text (notes_of client acts))
journal_text client [] are = record { text = refl; well = λ n. refl }
journal_text client (act ∷ later) (here, are) =
    let after = (turn_at client act).after in
    rw (flat_map-append note_text (turn_at client act).notes (notes_of after later))
    (act_then client act (journal after later) _ here (journal_text after later are))

-- The text of a journal, and that no line of it has a fault.
pub replays : (setup : Setup) (acts : List Act) → AreSettings setup → AllByRecursion IsReplayed acts
    → (text (journal_of setup acts) AtEnd
    ≡ notes_text (notes_of (new_client setup.config.timeout setup.config.retries 0) acts))
    × (first_fault (lines (journal_of setup acts) AtEnd) ≡ None)
replays setup acts settings are =
    let client = new_client setup.config.timeout setup.config.retries 0 in
    script_prints (journal client acts) (read_as settings) (journal_text client acts are)
