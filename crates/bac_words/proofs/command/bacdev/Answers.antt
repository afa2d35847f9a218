-- The command has the rules of its arguments, in their order.
use Rattle.bac_words.proofs.command.bacdev.Goals as goal

pub returns : goal.returns
returns c =
    rw (
      c.in_ok-arguments.ensures.items,
      c.own_instance_arg.ensures.rule,
      c.port_arg.ensures.rule,
      c.option.ensures.rule,
    ) at (c.tool.ensures _ c.named.ensures)
