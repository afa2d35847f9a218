-- A request as it begins to wait, and after it is sent again.
use Rattle.std.specs.Prelude.{List, suc, ℕ}
use Rattle.{bac_pdu.specs.station, bac_tsm.specs.{Answers.octets_of, declared.request.Asked.Asked, Machine.Waiting}}

-- The ticket of a request that waits.
abbrev pub ticket_in : Waiting → ℕ
ticket_in w = w.request.ticket

-- The invoke id of a request that waits.
abbrev pub invoke_id_in : Waiting → ℕ
invoke_id_in w = w.request.invoke_id

-- A new request with this body, as it waits for an answer.
abbrev pub begun : Asked → List ℕ → Waiting
begun asked body = record {
  request = record {
    ticket = asked.ticket;
    peer = station asked.peer;
    service = asked.service;
    invoke_id = asked.invoke_id;
    octets = octets_of (station asked.peer) asked.service body asked.invoke_id;
  };
  last_sent = asked.clock;
  resends = 0;
}

-- The request, sent again at this clock.
abbrev pub sent_at : ℕ → Waiting → Waiting
sent_at clock w = record { request = w.request; last_sent = clock; resends = suc w.resends }
