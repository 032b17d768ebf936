use Rattle.std.proofs.Common.{◌≡◌, ◌-◌, length, take}
use Rattle.batch_order.specs.Entries.{AreLast, KeepEntries, StayTold}
use Rattle.batch_order.proofs.insertions.forget_all.Given as goal

abbrev pub invariant-loop-id : goal.invariant-loop-id
invariant-loop-id l = AreLast l.live.live l.ids.items
    × (take (length l.live.live - length l.ids.items) l.live.live ≡ take (length l.fn.live.live - length l.fn.ids.items) l.fn.live.live)
    × (l.live.slots ≡ l.fn.live.slots)
    × KeepEntries (take (length l.fn.live.live - length l.fn.ids.items) l.fn.live.live) l.fn.live.entries l.live.entries
    × StayTold l.fn.live l.live

abbrev pub decreases-loop-id : goal.decreases-loop-id
decreases-loop-id l = length l.ids.items
