use Rattle.std.proofs.Common.{ap, sym, ◌∙◌}
use Rattle.split_hardware.proofs.Kept.{searched}
use Rattle.split_hardware.proofs.lookups.Lookups.search.Goals as goal

pub returns-in-Ok-clause-flight : goal.returns-in-Ok-clause-flight
returns-in-Ok-clause-flight c =
    let i = c.self.inside in
    rw (← c.self.view_is) (searched i.memory.state i.words.items _ i.found.items _ _ _ c.find-slot.result (sym c.in-Some.is ∙ c.pop_front.ensures.value) (ap (λ b. b.items) c.pop_front.ensures.items) c.find-slot.ensures
    (ap (λ b. b.items) c.in-Ok.ensures.ok))
