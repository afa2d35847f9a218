-- What contracts see of a link, a reader and a writer.
use Rattle.std.specs.{declared.io.traits.{Read.Ghosts as OfReader, Write.Ghosts as OfWriter}, Prelude.{Bool, List}}
use Rattle.std.specs.Prelude.{Option, ℕ}
use Rattle.bac_links.specs.{Account, declared.link.Link.Ghosts as OfLink}

-- The state of the outside of a run, as contracts see it: the history of the link and whether it has failed; the octets
-- that the reader has left, and those of the writer, if they are known.
pub record Outside (Origin L R W : Type 0) : Type 0 where
  pub seen : L → Account Origin
  pub failed : L → Bool
  pub remaining : R → Option (List ℕ)
  pub contents : W → Option (List ℕ)

-- The state of a link, a reader and a writer, through their traits.
abbrev pub outside : {L R W : Type 0} → (link : OfLink L) → OfReader R → OfWriter W → Outside link.Origin L R W
outside link reader writer = record {
  seen = link.seen;
  failed = link.has_failed;
  remaining = reader.remaining;
  contents = writer.contents;
}
