use Rattle.std.proofs.Common.{List, Option, sym, ◌∙◌, ap, subst}
use Rattle.std.specs.Prelude.{◌≡◌, IfSome}
use Rattle.rule_model.specs.declared.Rule.{Rule}
use Rattle.rule_store.specs.Batch.{set_after}
use Rattle.line_judge.specs.declared.track.Track.{Track}
use Rattle.line_judge.proofs.track.Track.take_ahead.Goals as goal

pub returns-in-Some-clause-set : goal.returns-in-Some-clause-set
returns-in-Some-clause-set c =
    subst (λ (ahead : Option (List Rule)). IfSome ahead (λ set. set ≡ set_after c.args.self.now.rules c.args.self.now.batch)) (sym c.take.ensures.value ∙ c.in-Some.is) c.requires.ahead

pub returns-in-Some-clause-same : goal.returns-in-Some-clause-same
returns-in-Some-clause-same c = ap (λ (rest : Option (List Rule)). let t : Track = record c.args.self.now { ahead = rest } in t) c.take.ensures.after

pub returns-in-None-clause-same : goal.returns-in-None-clause-same
returns-in-None-clause-same c = c.make_ahead.ensures.same ∙ ap (λ (rest : Option (List Rule)). let t : Track = record c.args.self.now { ahead = rest } in t) c.take.ensures.after
