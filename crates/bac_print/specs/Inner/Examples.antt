-- The octets, the peers, the streams and the pages of examples.
use Rattle.std.specs.Prelude.{[], codes, Err, false, length, List, None, Ok, Option, replicate, Result, Some, true, ℕ}
use Rattle.std.specs.Prelude.{◌∷◌, ◌≡◌}
use Rattle.{bac_pdu.specs.Station, bac_print.specs.{Checked.fresh, declared.{checked.Checked.Checked, page.Page.Page}}}
use Rattle.bac_print.specs.{StreamCall.WriteCall, Values.region_text}
use Prim.Native.String.{String}

-- These octets have this text.
abbrev pub PrintsAs : List ℕ → String → Type 0
PrintsAs octets text = region_text octets ≡ codes text

-- 127.0.0.1, port 47808.
abbrev pub device : Station
device = record { ip = 0x7f000001; port = 47808; route = None }

-- The station with address 7 of network 5, behind a router at the device's address and port.
abbrev pub far_device : Station
far_device = record { ip = 0x7f000001; port = 47808; route = Some (record { network = 5; address = 7 ∷ [] }) }

-- Any writer, with unknown contents.
abbrev pub unknown : ℕ → Option (List ℕ)
unknown writer = None

-- A reader or writer with no call made yet, and a writer that took these octets.
abbrev pub unasked : Checked ℕ
unasked = fresh 0

abbrev pub having : List ℕ → Checked ℕ
having octets = record {
  inner = record {
    stream = 0;
    transcript = record { of = record {}; items = WriteCall octets (Ok (length octets)) ∷ [] };
  };
  failed = false;
  reads = 0;
}

-- A writer that refused an octet this many times, and has failed.
abbrev pub refusing : ℕ → Checked ℕ
refusing times = record {
  inner = record {
    stream = 0;
    transcript = record { of = record {}; items = replicate times (WriteCall (1 ∷ []) (Ok 0)) };
  };
  failed = true;
  reads = 0;
}

-- A write that ended well.
abbrev pub written : Result ℕ ℕ
written = Ok 0

abbrev pub failed : Result ℕ ℕ
failed = Err 0

-- A page that holds these octets, with this ghost name for its writer, which had no call yet.
abbrev pub page_named : ℕ → List ℕ → Page ℕ
page_named name octets = record {
  writer = record { now = unasked; ref_ptr = (0, 0); ghost_name = name };
  held = record { items = octets };
  room = None;
}

abbrev pub page : List ℕ → Page ℕ
page = page_named 0
