use Rattle.std.proofs.Common.{◌≡◌, List, OnOk, subst, sym}
use Rattle.rule_model.specs.declared.Rule.{Rule}
use Rattle.rule_store.specs.Batch.{IsSound, set_after}
use Rattle.write_judge.proofs.rule_view.RuleView.apply.Goals as goal

pub applied-changed-requires : goal.applied-changed-requires
applied-changed-requires c = subst (λ (rules : List Rule). IsSound rules c.args.batch.now) (sym c.self.view_is) c.requires

pub invariant_of-self : goal.invariant_of-self
invariant_of-self c = (c.len-count.ensures.falling, c.are_right.ensures, tt)

pub returns : goal.returns
returns c =
    subst (λ (rules : List Rule). OnOk c.applied-changed.result (c.applied-changed.new.rules.rules ≡ set_after rules c.args.batch.now)) c.self.view_is c.applied-changed.ensures
