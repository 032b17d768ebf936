-- A whole new set of no changes yet.
use Rattle.std.proofs.Common.{◌≡◌, [], None, ap, subst, sym}
use Rattle.settled_changes.specs.declared.requested.Requested.TheVariants.{Whole}
use Rattle.replay.specs.Running.{Running}
use Rattle.replay.proofs.between.Joining.{joined-is, run-whole}
use Rattle.replay.proofs.run.Run.begin_whole.Goals as goal

pub invariant_of-self : goal.invariant_of-self
invariant_of-self c =
    run-whole _ c.clear.new.self (Whole c.new.result) c.self.invariant (subst (λ (r : Running). r.manager.held ≡ None) (sym c.self.view_is) c.requires.idle) c.clear.ensures (ap Whole c.new.ensures)

pub returns-clause-begun : goal.returns-clause-begun
returns-clause-begun c = joined-is (λ (r : Running). []) (λ (r : Running). Whole []) c.clear.new.self (Whole c.new.result) c.self.view_is c.clear.ensures (ap Whole c.new.ensures)
