-- How many requests are open: a datagram or a time never opens one.
use Rattle.std.proofs.Common.{[], arith, length, length-append, List, Option, ℕ, ◌*◌}
use Rattle.std.{proofs.Common.{◌+◌, ◌-◌, ◌^◌, ◌∷◌, ◌≤◌}, specs.List.flat_map}
use Rattle.{bac_pdu.specs.Station, bac_tsm.specs.Outcome}
use Rattle.bac_tsm.specs.{rules_of, Client.Client, Events.Request, Machine.{datagram, deliver, kept}}
use Rattle.bac_tsm.specs.Machine.{tick, Waiting}

delivered_few : (outcome : Request → Option Outcome) (ws : List Waiting)
    → length (deliver outcome ws).waiting ≤ length ws
delivered_few outcome [] = omega arith
delivered_few outcome (w ∷ ws) = grind (arith, delivered_few outcome ws)

pub datagram_open : (client : Client) (from : Station) (octets : List ℕ)
    → length (datagram (rules_of client) client.state from octets).after.waiting ≤ length client.state.waiting
datagram_open client from octets = delivered_few _ client.state.waiting

kept_few : (client : Client) (clock : ℕ) (ws : List Waiting)
    → length (flat_map (kept (rules_of client) clock) ws) ≤ length ws
kept_few client clock [] = omega arith
kept_few client clock (w ∷ ws) = grind (arith, length-append, kept_few client clock ws)

-- After a time no more requests are open than before.
pub tick_open : (client : Client) (time : ℕ)
    → length (tick (rules_of client) client.state time).after.waiting ≤ length client.state.waiting
tick_open client time = kept_few client _ client.state.waiting

-- A number that each turn makes smaller: a turn is one fewer, or moves the clock on.
abbrev pub room_left : (clock left : ℕ) → ℕ
room_left clock left = (2 ^ 64 - clock) * 65537 + left
