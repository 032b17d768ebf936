use Rattle.std.proofs.Common.{◌≡◌, List, ap, subst, sym}
use Rattle.std.specs.Prelude.{IfOk}
use Rattle.rule_model.specs.declared.Rule.{Rule}
use Rattle.rule_store.specs.Batch.{IsSound, set_after}
use Rattle.line_judge.specs.declared.track.Track.{Track}
use Rattle.line_judge.proofs.track.Track.make_ahead.Goals as goal

pub made_ahead-requires : goal.made_ahead-requires
made_ahead-requires c = subst (λ (rules : List Rule). IsSound rules c.args.self.now.batch) (sym c.complete.ensures) c.requires

pub returns-in-Ok-clause-set : goal.returns-in-Ok-clause-set
returns-in-Ok-clause-set c =
    subst (λ (rules : List Rule). IfOk c.made_ahead.result (λ set. set ≡ set_after rules c.args.self.now.batch)) c.complete.ensures c.made_ahead.ensures.set

pub returns-in-Ok-clause-same : goal.returns-in-Ok-clause-same
returns-in-Ok-clause-same c = ap (λ (rules : List Rule). let t : Track = record c.args.self.now { rules = rules } in t) c.complete.ensures

pub returns-in-Err-clause-same : goal.returns-in-Err-clause-same
returns-in-Err-clause-same c = ap (λ (rules : List Rule). let t : Track = record c.args.self.now { rules = rules } in t) c.complete.ensures
