use Rattle.std.proofs.Common.{ℕ, sym, subst, arith}
use Rattle.std.proofs.lemmas.Result.{on_ok_weaker, IfErr-weaker}
use Rattle.rule_store.specs.Batch.{set_after}
use Rattle.driver_trace.specs.declared.Asked.TheVariants.{OldOrNew}
use Rattle.tcam_device.specs.State.{State}
use Rattle.driver_trace.specs.Known.{moved_slots}
use Rattle.line_judge.specs.Tracked.{IsJudgedEvent}
use Rattle.line_judge.proofs.Judged.{fault_at, move_judged}
use Rattle.line_judge.proofs.track.Track.move_both.Goals as goal

abbrev moved_by : State → ℕ → ℕ → ℕ → State
moved_by state from to count = record state { slots = moved_slots state.slots from to count }

pub move_block-requires-clause-from : goal.move_block-requires-clause-from
move_block-requires-clause-from c = let size = c.requires.open.sized in let within = c.requires.from in omega arith

pub move_block-requires-clause-to : goal.move_block-requires-clause-to
move_block-requires-clause-to c = let size = c.requires.open.sized in let within = c.requires.to in omega arith

pub returns-in-Ok-clause-written : goal.returns-in-Ok-clause-written
returns-in-Ok-clause-written c =
    on_ok_weaker c.judge_move.result (λ is. subst (IsJudgedEvent c.args.self.now (moved_by c.args.self.now.device c.args.from c.args.to c.args.count)) (sym is.2)
    (move_judged c.args.self.now c.requires.open c.args.ahead c.requires.ahead c.move_block.new.self c.args.from c.args.to c.args.count c.args.moved.now c.args.gone.now c.requires.from c.requires.to c.requires.moved
    c.requires.gone c.in-Ok.ensures.moved is.0 is.1)) c.judge_move.ensures.judged

pub returns-in-Ok-clause-stopped : goal.returns-in-Ok-clause-stopped
returns-in-Ok-clause-stopped c =
    IfErr-weaker c.judge_move.result _ _ (λ fault is. fault_at c.args.self.now.by OldOrNew c.move_block.new.self (moved_by c.args.self.now.device c.args.from c.args.to c.args.count) c.args.self.now.rules c.args.ahead
    (set_after c.args.self.now.rules c.args.self.now.batch) fault c.in-Ok.ensures.moved c.requires.ahead is) c.judge_move.ensures.stopped
