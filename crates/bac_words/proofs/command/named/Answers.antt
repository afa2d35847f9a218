-- The help of a command is not one of its rules.
use Rattle.clap_laws.proofs.Parsed.{helped}
use Rattle.bac_words.proofs.command.named.Goals as goal

pub returns : goal.returns
returns c =
    helped c.new.result c.about.result c.after_help.result
    (record { shape = c.new.ensures.app; local = c.new.ensures.local }) c.about.ensures c.after_help.ensures
