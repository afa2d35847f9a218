-- The lines of a run that a script does not have: `who` sends a Who-Is once, and `wait` waits.
use Rattle.std.specs.Prelude.{[], bytes_eq, codes, false, if◌then◌else◌, List, nat_le, None, Option, option_map, Some}
use Rattle.std.specs.{Prelude.{ℕ, ◌==◌, ◌∷◌}, Result.result_ok}
use Rattle.{bac_wire.specs.◌>>=◌, bac_pdu.specs.{laid_out, Station, unconfirmed, wrapped, Peer.everyone}}
use Rattle.bac_pdu.specs.{declared.discovery.WhoIs.{WhoIs, TheVariants.{All, Range}}, Discovery.who_is_octets}
use Rattle.bac_text.specs.{words_of, Address.reach_of, Words.{at_end, next_as, number_up_to}}
use Rattle.bac_script.specs.Line.{text_of_line}
use Rattle.bac_run.specs.Journal.{Act, Rested, Sought}

-- What such a line asks for: a Who-Is to this peer, or a wait of this many milliseconds.
pub data OwnLine : Type 0 where
  WhoLine : (to : Station) (octets : List ℕ) → OwnLine
  WaitLine : (time : ℕ) → OwnLine

-- The act of such a line.
abbrev pub act_of : OwnLine → Act
act_of (WhoLine to octets) = Sought to octets
act_of (WaitLine time) = Rested time

-- The datagram of a Who-Is: to a peer; or to a router, which broadcasts it in this network (clause 6.2.2).
abbrev pub seek_octets : Station × Option ℕ → WhoIs → List ℕ
seek_octets (to, None) who = wrapped to.route false (laid_out (unconfirmed 8 (who_is_octets who)))
seek_octets (to, Some network) who =
    wrapped (Some (everyone network)) false (laid_out (unconfirmed 8 (who_is_octets who)))

-- The devices that are asked for: all, or those with instances from LOW to HIGH, if LOW is not above HIGH.
abbrev pub limits_of : List (List ℕ) → Option WhoIs
limits_of [] = Some All
limits_of (word ∷ words) = do
  low ← number_up_to 4194303 word
  (high, words) ← next_as (number_up_to 4194303) words
  if nat_le low high then at_end words (Range low high) else None

-- A Who-Is: PEER, ROUTER/NETWORK or ROUTER/*, but not at 0.0.0.0, and optional limits.
abbrev pub seek_of : List (List ℕ) → Option OwnLine
seek_of words = do
  (reach, words) ← next_as reach_of words
  if reach.0.ip == 0 then None else option_map (λ who. WhoLine reach.0 (seek_octets reach who)) (limits_of words)

-- A wait: TIME, at most a minute.
abbrev pub rest_of : List (List ℕ) → Option OwnLine
rest_of words = do
  (time, words) ← next_as (number_up_to 60000) words
  at_end words (WaitLine time)

-- The meaning of the words of a line `who` or `wait`.
abbrev pub own_by : List (List ℕ) → Option OwnLine
own_by [] = None
own_by (name ∷ words) =
    if bytes_eq name (codes "who") then seek_of words
    else if bytes_eq name (codes "wait") then rest_of words
    else None

-- The meaning of a line `who` or `wait`.
abbrev pub own_of : List ℕ → Option OwnLine
own_of line = result_ok (text_of_line line) >>= (λ text. own_by (words_of text))
