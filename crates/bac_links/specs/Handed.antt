-- The events of a client that follow from the calls and answers of a link.
use Rattle.std.specs.{List.flat_map, Prelude.{[], List, ◌∷◌}}
use Rattle.{bac_tsm.specs.{Data, Event, Tick}, bac_links.specs.History.{Arrived, Entry, Timed, Waited}}

-- The event in an entry: a received datagram, or a time.
abbrev pub handed_of : Entry → List Event
handed_of (Waited wait (Arrived from octets)) = Data from octets ∷ []
handed_of (Timed time) = Tick time ∷ []
handed_of _ = []

-- Each received datagram, and each time.
abbrev pub handed : List Entry → List Event
handed = flat_map handed_of
