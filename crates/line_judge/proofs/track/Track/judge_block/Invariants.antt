use Rattle.std.proofs.Common.{ℕ, ◌<◌}
use Rattle.slot_order.specs.Order.{slot}
use Rattle.driver_trace.specs.declared.Asked.TheVariants.{OldOrNew}
use Rattle.line_judge.specs.Tracked.{IsRightWhereHit}
use Rattle.line_judge.proofs.track.Track.judge_block.Given as goal

-- the first entries are judged
abbrev pub invariant-loop-held : goal.invariant-loop-held
invariant-loop-held l =
    (at : ℕ) → at < l.held-index → IsRightWhereHit l.self.by OldOrNew (record { state = l.self.device; old = l.self.rules; new = l.ahead }) (slot l.block at)
