-- The six tools are added, one after another, to a command that needs one.
use Rattle.clap_laws.proofs.Parsed.{wanting_is}
use Rattle.bac_words.proofs.command.bactool.Goals as goal

pub returns : goal.returns
returns c =
    let wanting = wanting_is c.named.result c.subcommand_required-command.result c.named.ensures
    c.subcommand_required-command.ensures in
    let with_2 = c.in_ok-command-2.ensures _ _ (c.in_ok-command.ensures _ _ wanting c.bacrp.ensures) c.bacwp.ensures in
    let with_4 = c.in_ok-command-4.ensures _ _ (c.in_ok-command-3.ensures _ _ with_2 c.bacwi.ensures)
    c.bacdev.ensures in
    c.with_tool-6.ensures _ _ (c.in_ok-command-5.ensures _ _ with_4 c.bacrun.ensures) c.bactrace.ensures
