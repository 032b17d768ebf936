-- What a change leaves of the run.
use Rattle.std.proofs.Common.{◌≡◌, None, sym, subst}
use Rattle.replay.specs.Running.{IsChangeOf, Running}
use Rattle.replay.proofs.between.Joining.{run-pushed}
use Rattle.replay.proofs.run.Run.push.Goals as goal

pub invariant_of-self : goal.invariant_of-self
invariant_of-self c =
    run-pushed c.push_within.result _ c.args.command c.push_within.new.batch c.push_within.new.self c.self.invariant (subst (λ (r : Running). r.manager.held ≡ None) (sym c.self.view_is) c.requires.idle)
    (subst (λ (r : Running). IsChangeOf r.family c.args.command) (sym c.self.view_is) c.requires.change) c.push_within.ensures.pushed c.push_within.ensures.same
