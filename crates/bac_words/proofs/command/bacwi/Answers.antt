-- The command has the rules of its arguments, in their order.
use Rattle.bac_words.proofs.command.bacwi.Goals as goal

pub returns : goal.returns
returns c =
    rw (
      c.in_ok-arguments.ensures.items,
      c.number_argument.ensures.rule,
      c.number_argument-2.ensures.rule,
      c.mac_arg.ensures.rule,
      c.timeout_arg.ensures.rule,
      c.port_arg.ensures.rule,
    ) at (c.tool.ensures _ c.named.ensures)
