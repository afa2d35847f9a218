-- The command has the rules of its arguments, in their order.
use Rattle.bac_words.proofs.command.bacrun.Goals as goal

pub returns : goal.returns
returns c =
    rw (
      c.in_ok-arguments.ensures.items,
      c.timeout_arg.ensures.rule,
      c.retries_arg.ensures.rule,
      c.port_arg.ensures.rule,
      c.option.ensures.rule,
    ) at (c.tool.ensures _ c.named.ensures)
