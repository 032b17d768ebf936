use Rattle.cisco_lists.proofs.Outcomes.{outcome-told, outcome-said, outcome-unsaid}
use Rattle.cisco_lists.proofs.format.CiscoListLineFormat.take.Goals as goal

pub returns-clause-told : goal.returns-clause-told
returns-clause-told c = outcome-told _ c.args.self.now c.args.text.now _ _ c.take_line.ensures

pub returns-clause-said : goal.returns-clause-said
returns-clause-said c = outcome-said _ c.args.self.now c.args.text.now _ _ c.take_line.ensures

pub returns-clause-unsaid : goal.returns-clause-unsaid
returns-clause-unsaid c = outcome-unsaid _ c.args.self.now c.args.text.now _ _ c.take_line.ensures
