use Rattle.std.proofs.Common.{le_refl, refl, subst}
use Rattle.tcam_c.specs.Split.{IsServingSplit}
use Rattle.tcam_c.proofs.Parts.{fresh_handled}
use Rattle.tcam_c.proofs.split.SplitTable.new.Goals as goal

pub invariant_of-result : goal.invariant_of-result
invariant_of-result c = rw c.in_ok-device.ensures (fresh_handled c.args.slots c.args.slots c.args.mode c.args.placement c.in_ok-manager.manager c.in_ok-manager.ensures refl)

pub returns-clause-serves : goal.returns-clause-serves
returns-clause-serves c = subst IsServingSplit c.in_ok-manager.ensures (c.serving.ensures.serves c.in_ok-manager.manager.whole.slots (le_refl _))
