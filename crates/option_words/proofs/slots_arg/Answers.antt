use Rattle.std.proofs.Common.{rules, ◌≡◌, ◌∙◌, Some, ap}
use Rattle.clap.specs.declared.builder.value_parser.ValueParser.TheVariants as vp
use Rattle.option_words.specs.Options.{slots_option}
use Rattle.option_words.proofs.slots_arg.Goals as goal

pub returns-clause-rule : goal.returns-clause-rule
unfolding slots_option
returns-clause-rule c =
    let given = c.value_parser.ensures.given in
    let made : c.unsigned.result ≡ vp.Unsigned 1 c.args.most = c.unsigned.ensures ∙ ap (vp.Unsigned 1) c.from.ensures in
    let parser_is : c.value_parser.result.value_parser ≡ Some (vp.Unsigned 1 c.args.most) = given.1 ∙ ap Some (given.2 ∙ made) in
    search rules
