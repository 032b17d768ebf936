use Rattle.std.proofs.Common.{◌≡◌, ◌≤◌, length, take}
use Rattle.std.specs.Prelude.{vec_capacity}
use Rattle.batch_order.specs.Entries.{AddsIds}
use Rattle.batch_order.specs.Noting.{AreNotedIn}
use Rattle.batch_order.specs.Placing.{aims_from}
use Rattle.batch_order.specs.Planning.{IsPlannable, ArePlannedSince}
use Rattle.batch_order.proofs.insertions.plan_more.Given as goal

abbrev pub invariant-loop-ranked : goal.invariant-loop-ranked
invariant-loop-ranked l = IsPlannable l.live l.arrangement l.plan.writes
    × AddsIds l.fn.live l.live l.ids.items
    × (length l.ids.items ≡ l.ranked-index)
    × (length l.pieces ≤ vec_capacity l.ids)
    × ArePlannedSince l.fn.live l.live l.fn.arrangement l.arrangement l.fn.plan l.plan (take l.ranked-index l.pieces)
    (take l.ranked-index (aims_from l.placement l.mode l.slots l.rules.rules l.all l.made l.pieces))
    × AreNotedIn l.fn.arrangement l.arrangement l.fn.plan l.plan
