use Rattle.std.proofs.Common.{◌∙◌, sym, ap, Some}
use Rattle.memory_tcam.proofs.Searched.{none_waits, oldest_waits}
use Rattle.memory_tcam.proofs.lookups.Lookups.search.Goals as goal
use Rattle.memory_tcam.proofs.lookups.Lookups.search.Goals.{in-None, in-Some}

pub returns-clause-answer : goal.returns-clause-answer
returns-clause-answer c =
    rw (← c.self.view_is) (elim c.match-pop_front.branch [
      | in-None w ↦ w.result-is ∙ sym (none_waits c.self.inside.memory.state c.self.inside.flight.items (sym c.pop_front.ensures.value ∙ w.in-None.is))
      | in-Some w ↦
          w.result-is ∙ ap Some w.find.ensures
          ∙ sym (oldest_waits c.self.inside.memory.state c.self.inside.flight.items (w.in-Some.field-0-0, w.in-Some.word) (sym c.pop_front.ensures.value ∙ w.in-Some.is))
    ])
