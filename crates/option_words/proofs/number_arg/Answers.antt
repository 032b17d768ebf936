use Rattle.std.proofs.Common.{rules, ◌≡◌, ◌∙◌, Some, ap}
use Rattle.clap.specs.declared.builder.value_parser.ValueParser.TheVariants as vp
use Rattle.option_words.specs.Options.{number_position}
use Rattle.option_words.proofs.number_arg.Goals as goal

pub returns-clause-rule : goal.returns-clause-rule
unfolding number_position
returns-clause-rule c =
    let given = c.value_parser.ensures.given in
    let parser_is : c.value_parser.result.value_parser ≡ Some (vp.Unsigned c.args.least c.args.greatest) = given.1 ∙ ap Some (given.2 ∙ c.unsigned.ensures) in
    search rules
