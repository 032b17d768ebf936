use Rattle.std.proofs.Common.{subst}
use Rattle.line_judge.specs.Meant.{IsLastOf}
use Rattle.line_judge.proofs.MeantAlone.{last_alone}
use Rattle.line_judge.proofs.commands.is_last_meant.Goals as goal

pub returns-then-unnamed : goal.returns-then-unnamed
returns-then-unnamed c =
    last_alone c.args.rules.now.rules c.args.batch.now c.args.command.now c.is_meant_alone.result
    (subst (IsLastOf c.args.rules.now.rules c.args.batch.now c.args.command.now) c.if-unnamed.true c.requires) c.is_meant_alone.ensures
