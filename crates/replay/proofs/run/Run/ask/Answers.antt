-- What a change leaves of the run.
use Rattle.std.proofs.Common.{◌≡◌, None, sym, subst}
use Rattle.settled_changes.specs.Requested.{strict_form}
use Rattle.replay.specs.Running.{IsChangeOf, Running}
use Rattle.replay.proofs.between.Joining.{run-asked}
use Rattle.replay.proofs.run.Run.ask.Goals as goal

pub invariant_of-self : goal.invariant_of-self
invariant_of-self c =
    run-asked c.ask_within.result _ c.args.request c.ask_within.new.batch c.ask_within.new.self c.self.invariant (subst (λ (r : Running). r.manager.held ≡ None) (sym c.self.view_is) c.requires.idle)
    (subst (λ (r : Running). IsChangeOf r.family (strict_form c.args.request)) (sym c.self.view_is) c.requires.change) c.ask_within.ensures.asked c.ask_within.ensures.same
