use Rattle.explain.proofs.Settled.{fault-trial, next-trial, next-strict}
use Rattle.explain.proofs.explainer.Explainer.judge_trial.Goals as goal

pub returns-in-Ok-Some : goal.returns-in-Ok-Some
returns-in-Ok-Some c =
    let h = c.in-Ok-Some in
    let found = rw h.field-0-is at h.ensures.refused in
    fault-trial c.refuse.result c.args.number h.fault c.settle.new.self c.args.self.now c.refuse.new.self found.0 found.1 c.refuse.ensures

pub try_batch-requires : goal.try_batch-requires
try_batch-requires c =
    let h = c.in-Ok-None in
    next-strict c.settle.new.self c.args.self.now (rw h.field-0-is at h.ensures.taken)

pub returns-in-Ok-None : goal.returns-in-Ok-None
returns-in-Ok-None c =
    let h = c.in-Ok-None in
    next-trial c.try_batch.result c.args.number c.settle.new.self c.args.self.now c.try_batch.new.self (rw h.field-0-is at h.ensures.taken) c.try_batch.ensures
