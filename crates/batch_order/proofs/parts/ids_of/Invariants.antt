use Rattle.std.proofs.Common.{take}
use Rattle.std.specs.List.{AllZip}
use Rattle.commit_writes.specs.PlannedBatch.{IsIdOf}
use Rattle.batch_order.proofs.parts.ids_of.Given as goal

-- the first pieces have their ids
abbrev pub invariant-loop-ranked : goal.invariant-loop-ranked
invariant-loop-ranked l = AllZip (IsIdOf l.live.live) (take l.ranked-index l.pieces) l.ids.items
