-- The arguments are added one after another, and the command stays simple.
use Rattle.std.proofs.lemmas.Result.{IfOk-weaker}
use Rattle.clap_laws.proofs.Parsed.{in_turn}
use Rattle.bac_words.proofs.command.tool.Goals as goal

pub returns : goal.returns
returns c = λ app is.
    IfOk-weaker c.args-2.result _ _ (λ new h. in_turn c.args.arguments.items app c.args.command new is c.requires h)
    c.args-2.ensures
