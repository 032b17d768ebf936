use Rattle.std.proofs.Common.{◌≡◌, take}
use Rattle.commit_writes.specs.PlannedBatch.{rewritten_entries}
use Rattle.batch_order.proofs.entries.LiveEntries.rewrite_all.Given as goal

-- the first ones have their entries
abbrev pub invariant-loop-rewrite : goal.invariant-loop-rewrite
invariant-loop-rewrite l = record {
  live : l.self.live ≡ l.fn.self.live;
  entries : l.self.entries ≡ rewritten_entries l.fn.self.entries (take l.rewrite-index l.rewrites);
  slots : l.self.slots ≡ l.fn.self.slots;
  told : l.self.told ≡ l.fn.self.told;
}
