-- `clap` refuses the marked words, or accepts them and finds a tool in them.
use Rattle.std.proofs.Common.{[], ap, inl, inr, IsSomeAnd, List, map, Option, option_map, subst, sym, ◌∙◌, ◌≡◌}
use Rattle.std.specs.Cow.{cow_str_bytes}
use Rattle.clap.specs.{Faults.{fault_of, is_simple_and_free}, Kinds.HasKind, Simple.{App, is_simple, subcommand_of}}
use Rattle.clap.specs.Walk.{Row, Text, texts}
use Rattle.bac_words.proofs.{bactool_is_free, bactool_is_simple, refused, tool_met}
use Rattle.bac_words.specs.{bactool, marked_words, order_of, Inner.IsTool}
use Rattle.bac_words.proofs.parse.parse_words.Goals as goal

pub returns-in_err-matches-clause-answer : goal.returns-in_err-matches-clause-answer
returns-in_err-matches-clause-answer c =
    let shape = c.in_ok-command.ensures.shape in
    let words = map cow_str_bytes c.as_slice.result.now in
    let same = ap (map cow_str_bytes) c.as_slice.ensures.value ∙ c.in_ok-marked.ensures in
    let error = c.in_err-matches.field-0.0 in
    let h = c.in_err-matches.ensures.kinds (ap is_simple_and_free shape ∙ bactool_is_free) in
    inl (refused (texts c.args.words.now) words error c.from_residual-in_err-matches.result same
    (subst (λ (a : App). HasKind (fault_of a words) error) shape h) c.from_residual-in_err-matches.ensures.1)

pub job-requires : goal.job-requires
job-requires c =
    let shape = c.in_ok-command.ensures.shape in
    let words = map cow_str_bytes c.as_slice.result.now in
    let (_, matched) = c.in_ok-matches.ensures.matches (ap is_simple shape ∙ bactool_is_simple) in
    let found = matched ∙ ap (λ (a : App). subcommand_of a words) shape in
    let none : fault_of bactool words ≡ [] = ap (λ (a : App). fault_of a words) (sym shape)
    ∙ c.in_ok-matches.ensures.kinds (ap is_simple_and_free shape ∙ bactool_is_free) in
    subst (λ (o : Option (Text × List Row)). IsSomeAnd o IsTool) (sym found) (tool_met words none)

pub returns-clause-answer : goal.returns-clause-answer
returns-clause-answer c =
    let shape = c.in_ok-command.ensures.shape in
    let words = map cow_str_bytes c.as_slice.result.now in
    let same : words ≡ marked_words (texts c.args.words.now) = ap (map cow_str_bytes) c.as_slice.ensures.value
    ∙ c.in_ok-marked.ensures in
    let (_, matched) = c.in_ok-matches.ensures.matches (ap is_simple shape ∙ bactool_is_simple) in
    let found = matched ∙ ap (λ (a : App). subcommand_of a words) shape in
    let none : fault_of bactool words ≡ [] = ap (λ (a : App). fault_of a words) (sym shape)
    ∙ c.in_ok-matches.ensures.kinds (ap is_simple_and_free shape ∙ bactool_is_free) in
    inr (record {
      taken = ap (fault_of bactool) (sym same) ∙ none;
      answer_is = ap (option_map order_of) (sym (found ∙ ap (subcommand_of bactool) same)) ∙ c.job.ensures.job;
    })
