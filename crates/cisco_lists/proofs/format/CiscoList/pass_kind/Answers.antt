use Rattle.std.proofs.Common.{refl}
use Rattle.cisco_lists.specs.Lines.{other_kind}
use Rattle.cisco_lists.proofs.Outcomes.{said-outcome}
use Rattle.cisco_lists.proofs.format.CiscoList.pass_kind.Goals as goal

pub returns : goal.returns
returns c = said-outcome (other_kind c.args.self.now c.args.name.now) _ _ _ _ _ refl c.requires c.in_ok-put_named.ensures c.leave.ensures
