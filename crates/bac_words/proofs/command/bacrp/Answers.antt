-- The command has the rules of its arguments, in their order.
use Rattle.bac_words.proofs.command.bacrp.Goals as goal

pub returns : goal.returns
returns c =
    rw (
      c.in_ok-arguments.ensures.items,
      c.needed_argument.ensures.rule,
      c.needed_argument-2.ensures.rule,
      c.needed_argument-3.ensures.rule,
      c.needed_argument-4.ensures.rule,
      c.number_argument.ensures.rule,
      c.mac_arg.ensures.rule,
      c.timeout_arg.ensures.rule,
      c.retries_arg.ensures.rule,
      c.port_arg.ensures.rule,
    ) at (c.tool.ensures _ c.named.ensures)
