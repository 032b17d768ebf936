use Rattle.std.proofs.Common.{◌≡◌, take}
use Rattle.commit_writes.specs.PlannedBatch.{erased_live}
use Rattle.batch_order.specs.Entries.{KeepEntries, StayTold}
use Rattle.batch_order.proofs.entries.LiveEntries.forget_each.Given as goal

-- the first ids aren't live
abbrev pub invariant-loop-id : goal.invariant-loop-id
invariant-loop-id l = record {
  live : l.self.live ≡ erased_live l.fn.self.live (take l.id-index l.ids);
  kept : KeepEntries l.self.live l.fn.self.entries l.self.entries;
  slots : l.self.slots ≡ l.fn.self.slots;
  told : StayTold l.fn.self l.self;
}
