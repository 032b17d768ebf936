use Rattle.explain.proofs.Settled.{fault-parted, next-parted, next-strict}
use Rattle.explain.proofs.explainer.Explainer.judge_commit.Goals as goal

pub returns-in-Ok-Some : goal.returns-in-Ok-Some
returns-in-Ok-Some c =
    let h = c.in-Ok-Some in
    let found = rw h.field-0-is at h.ensures.refused in
    fault-parted c.refuse.result h.fault c.settle.new.self c.args.self.now c.refuse.new.self found.0 found.1 c.refuse.ensures

pub judge_parts-requires : goal.judge_parts-requires
judge_parts-requires c =
    let h = c.in-Ok-None in
    next-strict c.settle.new.self c.args.self.now (rw h.field-0-is at h.ensures.taken)

pub returns-in-Ok-None : goal.returns-in-Ok-None
returns-in-Ok-None c =
    let h = c.in-Ok-None in
    next-parted c.judge_parts.result c.settle.new.self c.args.self.now c.judge_parts.new.self (rw h.field-0-is at h.ensures.taken) c.judge_parts.ensures
