use Rattle.std.proofs.Common.{◌≡◌, Err, sym, ◌∙◌, subst, ap}
use Rattle.std.proofs.lemmas.Result.{IfOk-weaker, IfErr-weaker}
use Rattle.rule_store.specs.Verdict.{Accepted}
use Rattle.readback.specs.Judged.{judgement}
use Rattle.trace_check.specs.Kept.{IsRefusal}
use Rattle.trace_check.proofs.commit.begin_commit.Goals as goal

pub accepted_commit-requires : goal.accepted_commit-requires
accepted_commit-requires c = c.requires c.in-Ok.ensures.accepted

pub returns-in-Ok-clause-accepted : goal.returns-in-Ok-clause-accepted
returns-in-Ok-clause-accepted c = IfOk-weaker c.accepted_commit.result _ _ (λ commit is. c.in-Ok.ensures.accepted) c.accepted_commit.ensures.commit

pub returns-in-Ok-clause-refused : goal.returns-in-Ok-clause-refused
returns-in-Ok-clause-refused c =
    IfErr-weaker c.accepted_commit.result _ _ (λ fault is. subst (IsRefusal c.args.slots c.args.mode c.args.rules.now.rules c.args.batch.now) (sym is) tt) c.accepted_commit.ensures.memory

pub returns-in-Err-clause-refused : goal.returns-in-Err-clause-refused
returns-in-Err-clause-refused c accepted = let e : Err c.in-Err.field-0 ≡ judgement Accepted = c.in-Err.ensures.answer ∙ ap judgement accepted in absurd (cc)
