use Rattle.std.proofs.Common.{◌+◌, ℕ, length, subst, ap, arith}
use Rattle.std.proofs.lemmas.Result.{on_ok_weaker}
use Rattle.batch_order.specs.Placing.{aims_from}
use Rattle.batch_order.specs.Planning.{ArePlannedSince}
use Rattle.batch_order.proofs.insertions.plan_additions.Goals as goal

pub plan_more-requires-clause-standing : goal.plan_more-requires-clause-standing
plan_more-requires-clause-standing c = let all = c.requires.standing in omega arith

pub returns-clause-planned : goal.returns-clause-planned
returns-clause-planned c =
    on_ok_weaker c.plan_more.result (λ planned.
    subst (λ (all : ℕ). ArePlannedSince c.args.live.now c.plan_more.new.live c.args.arrangement.now c.plan_more.new.arrangement c.args.plan.now c.plan_more.new.plan c.args.pieces.now
    (aims_from c.args.placement c.args.mode (length c.args.arrangement.now) c.args.rules.now.rules all 0 c.args.pieces.now))
    (ap (λ (n : ℕ). n + length c.args.pieces.now) c.requires.standing) planned) c.plan_more.ensures.planned
