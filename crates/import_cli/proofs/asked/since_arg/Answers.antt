use Rattle.std.proofs.Common.{rules, ◌≡◌, ◌∙◌, Some, ap}
use Rattle.clap.specs.declared.builder.value_parser.ValueParser.TheVariants as vp
use Rattle.import_cli.specs.CommandLine.{since_option}
use Rattle.import_cli.proofs.asked.since_arg.Goals as goal

pub returns-clause-rule : goal.returns-clause-rule
unfolding since_option
returns-clause-rule c =
    let given = c.value_parser.ensures.given in
    let parser_is : c.value_parser.result.value_parser ≡ Some vp.NonEmptyString = given.1 ∙ ap Some given.2 in
    search rules
