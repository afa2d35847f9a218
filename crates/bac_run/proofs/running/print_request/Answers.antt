-- The line of a write is written at once.
use Rattle.{std.proofs.lemmas.List.append-nil, bac_print.proofs.Printed.{printed_as, ◌⨾◌}}
use Rattle.bac_run.proofs.running.print_request.Goals as goal

pub returns-then-service-eq-WRITE_PROPERTY : goal.returns-then-service-eq-WRITE_PROPERTY
returns-then-service-eq-WRITE_PROPERTY g c =
    printed_as (c.print_line.ensures ⨾ c.turn_in.ensures.printed) (append-nil _)
