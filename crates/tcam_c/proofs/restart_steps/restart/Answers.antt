use Rattle.std.proofs.Common.{ap, ◌∙◌}
use Rattle.batch_order.specs.Managed.{Managed}
use Rattle.tcam_c.proofs.Restarted.{settled_slots}
use Rattle.tcam_c.proofs.restart_steps.restart.Goals as goal

pub returns-in-Ok-clause-slots : goal.returns-in-Ok-clause-slots
returns-in-Ok-clause-slots c =
    c.settle.ensures.driven.same_slots ∙ ap (λ (m : Managed). m.slots) c.settle.ensures.settled ∙ settled_slots c.in-Ok.manager
    ∙ ap (λ (m : Managed). m.slots) c.in-Ok.ensures.answers.1.new_is ∙ c.slots-slots.ensures
