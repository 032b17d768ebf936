use Rattle.std.proofs.Common.{le_refl, ◌∙◌, ap}
use Rattle.split_device.specs.State.{split_lookup}
use Rattle.split_device.specs.Flight.{state_of_events}
use Rattle.tcam_c.proofs.split.SplitTable.look.Goals as goal

pub returns-clause-answer : goal.returns-clause-answer
returns-clause-answer c =
    let i = c.self.inside in
    let u = c.self.invariant.unsettled in
    rw (← c.self.view_is) (c.look.ensures ∙ (ap (λ n. split_lookup (state_of_events n i.device.events) c.args.key.now) u.same_slots
    ∙ ap (λ some. split_lookup (state_of_events i.manager.whole.slots some) c.args.key.now) u.events_are))

pub returns-clause-serves : goal.returns-clause-serves
returns-clause-serves c = rw (← c.self.view_is) (c.serving.ensures.serves c.self.inside.manager.whole.slots (le_refl _))
