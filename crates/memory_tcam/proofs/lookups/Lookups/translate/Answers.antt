use Rattle.std.proofs.Common.{◌∙◌, ap, ◌++◌, ◌∷◌, []}
use Rattle.memory_tcam.proofs.lookups.Lookups.translate.Goals as goal

pub returns-clause-flight : goal.returns-clause-flight
returns-clause-flight c =
    rw (← c.self.view_is) (ap (λ b. b.items) c.in-Ok.ensures.ok ∙ ap (λ w. c.self.inside.flight.items ++ (c.args.key.now, w) ∷ []) c.word-word.ensures)
