-- A slot of the table that holds no request.
use Rattle.std.specs.Prelude.{[], None}
use Rattle.bac_tsm.specs.Machine.{Waiting}

-- A blank request, which is read at a slot that is not there.
abbrev pub nothing : Waiting
nothing = record {
  request =
      record { ticket = 0; peer = record { ip = 0; port = 0; route = None }; service = 0; invoke_id = 0; octets = [] };
  last_sent = 0;
  resends = 0;
}
