use Rattle.std.proofs.Common.{◌≡◌, [], ◌∙◌, true, false, List, None, ap, subst, sym}
use Rattle.rule_model.specs.declared.Rule.{Rule}
use Rattle.rule_store.specs.declared.Command.{Command}
use Rattle.rule_store.specs.Batch.{IsSound, commands_naming}
use Rattle.line_judge.specs.declared.track.Track.{Track}
use Rattle.line_judge.proofs.track.Track.push.Goals as goal

pub is_last_meant-requires : goal.is_last_meant-requires
is_last_meant-requires c = record {
  earlier = c.args.self.now.batch;
  batch_is = c.in-Ok.ensures.pushed;
  sound = subst (λ (rules : List Rule). IsSound rules c.args.self.now.batch) (sym c.rules-rules.ensures) c.requires;
  alone = λ told. subst (λ priority. commands_naming priority c.args.self.now.batch ≡ []) c.priority.ensures (c.is_unnamed-unnamed.ensures told);
}

pub returns-then-is_last_meant-clause-pushed : goal.returns-then-is_last_meant-clause-pushed
returns-then-is_last_meant-clause-pushed c = (
  subst (λ (batch : List Command). IsSound c.args.self.now.rules batch) c.in-Ok.ensures.pushed
      (subst (λ (rules : List Rule). IsSound rules c.push_settled.new.self) c.rules-rules.ensures (c.is_last_meant.ensures.0 c.if-is_last_meant.true)),
  ap (λ (batch : List Command). let t : Track = record c.args.self.now { batch = batch; ahead = None } in t) c.in-Ok.ensures.pushed,
)

pub returns-else-is_last_meant-clause-stopped : goal.returns-else-is_last_meant-clause-stopped
returns-else-is_last_meant-clause-stopped c = λ sound.
    let known : IsSound c.rules-rules.result.now.rules c.push_settled.new.self =
    subst (λ (rules : List Rule). IsSound rules c.push_settled.new.self) (sym c.rules-rules.ensures)
    (subst (λ (batch : List Command). IsSound c.args.self.now.rules batch) (sym c.in-Ok.ensures.pushed) sound) in
    let bad : false ≡ true = sym c.if-is_last_meant.false ∙ c.is_last_meant.ensures.1 known in
    cc
