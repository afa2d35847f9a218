-- A line `who` or `wait`, as the code reads it.
use Rattle.std.specs.Prelude.{IfSome, ◌<◌, ⊤}
use Rattle.{bac_text.specs.Reach.reach_seen, bac_run.specs.declared.own.Own.{Own, TheVariants.{Rest, Seek}}}
use Rattle.bac_run.specs.Own.{OwnLine, seek_octets, WaitLine, WhoLine}

-- The meaning of the line.
abbrev pub own_seen : Own → OwnLine
own_seen (Seek reach who) = WhoLine (reach_seen reach).0 (seek_octets (reach_seen reach) who)
own_seen (Rest time) = WaitLine time

-- The network of a Who-Is is not 0.
abbrev pub IsSendable : Own → Type 0
IsSendable (Seek reach who) = IfSome reach.network (λ network. 0 < network)
IsSendable (Rest time) = ⊤
