use Rattle.tcam_c.proofs.Parts.{passes_due}
use Rattle.tcam_c.proofs.part_steps.go_on.Goals as goal

pub returns-clause-on : goal.returns-clause-on
returns-clause-on c =
    passes_due c.args.manager.now c.advance.new.manager c.settle.new.manager c.requires.due c.advance.ensures.passed c.settle.ensures.settled c.settle.ensures.keeps
