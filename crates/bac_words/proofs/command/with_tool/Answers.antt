-- A tool is added after the others.
use Rattle.std.proofs.lemmas.Result.{IfOk-weaker}
use Rattle.clap_laws.proofs.Parsed.{with_tool}
use Rattle.bac_words.proofs.command.with_tool.Goals as goal

pub returns : goal.returns
returns c = λ app added is tool_is. IfOk-weaker c.subcommand.result _ _
    (λ new h. with_tool c.args.command new c.in_ok-tool.field-0 is (rw c.in_ok-tool.was at tool_is) h)
    c.subcommand.ensures
