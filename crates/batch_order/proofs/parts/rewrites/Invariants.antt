use Rattle.std.proofs.Common.{take}
use Rattle.std.specs.List.{AllZip}
use Rattle.commit_writes.specs.PlannedBatch.{IsRewriteOf}
use Rattle.batch_order.proofs.parts.rewrites.Given as goal

-- the first pieces have their ids with their entries
abbrev pub invariant-loop-ranked : goal.invariant-loop-ranked
invariant-loop-ranked l = AllZip (IsRewriteOf l.live.live) (take l.ranked-index l.pieces) l.rewrites.items
