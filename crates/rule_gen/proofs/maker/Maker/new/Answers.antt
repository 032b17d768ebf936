use Rattle.std.proofs.Common.{◌*◌, ◌≤◌, length, sym, subst, All, arith}
use Rattle.rule_gen.specs.Batches.{AreBatches}
use Rattle.rule_gen.specs.Line.{IsListCommand}
use Rattle.rule_gen.proofs.Batches.{made_commands-batches, made_commands-few}
use Rattle.rule_gen.proofs.Left.{commands_left-all}
use Rattle.rule_gen.proofs.Lines.{made_commands-lines}
use Rattle.rule_gen.proofs.maker.Maker.new.Goals as goal

pub returns-clause-commands : goal.returns-clause-commands
returns-clause-commands c = rw c.new.ensures (commands_left-all c.args.seed c.args.rules c.args.batches _ (omega arith))

pub returns-clause-lines : goal.returns-clause-lines
returns-clause-lines c =
    subst (All IsListCommand) (sym (returns-clause-commands c)) (made_commands-lines c.args.seed c.args.rules c.args.batches c.requires.most_rules)

pub returns-clause-batches : goal.returns-clause-batches
returns-clause-batches c =
    subst (AreBatches (2 * c.args.rules) 0) (sym (returns-clause-commands c)) (made_commands-batches c.args.seed c.args.rules c.args.batches)

pub returns-clause-few : goal.returns-clause-few
returns-clause-few c =
    subst (λ made. length made ≤ 513 * c.args.batches) (sym (returns-clause-commands c)) (made_commands-few c.args.seed c.args.rules c.args.batches c.requires.most_rules)
