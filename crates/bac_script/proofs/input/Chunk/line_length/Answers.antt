-- The searched octets are a part of the chunk, so their positions differ from those of the held octets.
use Rattle.std.proofs.Common.{arith, sym, ◌∙◌}
use Rattle.bac_script.proofs.{cut_as_long, cut_behind}
use Rattle.bac_script.proofs.input.Chunk.line_length.Goals as goal

pub returns-in-Some-clause-line : goal.returns-in-Some-clause-line
returns-in-Some-clause-line c =
    let (inside, _) = c.self.invariant in
    cut_behind c.self.inside.octets _ c.self.inside.start _ _ c.self.inside.end c.self.view_is c.min-limit.ensures
    inside (omega arith) c.requires.within c.requires.few c.requires.before _
    (sym c.feed_position.ensures ∙ c.in-Some.is)

pub returns-else-searched-lt-LINE_ROOM-clause-line : goal.returns-else-searched-lt-LINE_ROOM-clause-line
returns-else-searched-lt-LINE_ROOM-clause-line c =
    let (inside, _) = c.self.invariant in
    cut_as_long c.self.inside.octets _ c.self.inside.start _ _ c.self.inside.end c.self.view_is c.min-limit.ensures
    inside (omega arith) c.requires.within c.requires.few c.requires.before
    (sym c.feed_position.ensures ∙ c.in_default.is) c.if-searched-lt-LINE_ROOM.false
