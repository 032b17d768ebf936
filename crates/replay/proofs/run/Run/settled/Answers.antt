-- What is asked for, and over which rules it is settled, is what is seen of the run.
use Rattle.std.proofs.Common.{◌≡◌, List, IfErr, IfOk, OnOk, subst, sym}
use Rattle.rule_model.specs.declared.Rule.{Rule}
use Rattle.rule_store.specs.Batch.{IsSound}
use Rattle.settled_changes.specs.Requested.{IsAsked, IsWhyNone, TakesAsked, settled_batch}
use Rattle.replay.specs.Running.{Running}
use Rattle.replay.proofs.run.Run.settled.Goals as goal

pub settle-requires-clause-asked : goal.settle-requires-clause-asked
settle-requires-clause-asked c = subst (λ (run : Running). IsAsked run.asked) (sym c.self.view_is) c.requires.asked

pub returns-clause-settled : goal.returns-clause-settled
returns-clause-settled c =
    subst (λ (run : Running). IfOk c.settle.result (λ batch. batch ≡ settled_batch run.manager.rules run.pending run.asked)) c.self.view_is
    (subst (λ (rules : List Rule). IfOk c.settle.result (λ batch. batch ≡ settled_batch rules c.self.inside.pending c.self.inside.asked)) c.rules.ensures.rules (c.settle.ensures.settled c.self.inside.pending))

pub returns-clause-taken : goal.returns-clause-taken
returns-clause-taken c =
    subst (λ (run : Running). OnOk c.settle.result (TakesAsked run.manager.rules run.asked)) c.self.view_is
    (subst (λ (rules : List Rule). OnOk c.settle.result (TakesAsked rules c.self.inside.asked)) c.rules.ensures.rules c.settle.ensures.taken)

pub returns-clause-sound : goal.returns-clause-sound
returns-clause-sound c =
    subst (λ (run : Running). IfOk c.settle.result (IsSound run.manager.rules)) c.self.view_is
    (subst (λ (rules : List Rule). IfOk c.settle.result (IsSound rules)) c.rules.ensures.rules c.settle.ensures.sound)

pub returns-clause-fault : goal.returns-clause-fault
returns-clause-fault c =
    subst (λ (run : Running). IfErr c.settle.result (IsWhyNone run.manager.rules run.asked)) c.self.view_is
    (subst (λ (rules : List Rule). IfErr c.settle.result (IsWhyNone rules c.self.inside.asked)) c.rules.ensures.rules c.settle.ensures.fault)
