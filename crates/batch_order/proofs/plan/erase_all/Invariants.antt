use Rattle.std.proofs.Common.{◌≡◌, take}
use Rattle.commit_writes.specs.PlannedBatch.{erased_slots}
use Rattle.batch_order.specs.Entries.{AreTold}
use Rattle.batch_order.proofs.plan.erase_all.Given as goal

-- the first ids are erased, and it is told where they stand
abbrev pub invariant-loop-id : goal.invariant-loop-id
invariant-loop-id l = record {
  slots : l.arrangement ≡ erased_slots l.fn.arrangement (take l.id-index l.ids);
  live : l.live.live ≡ l.fn.live.live;
  entries : l.live.entries ≡ l.fn.live.entries;
  number : l.live.slots ≡ l.fn.live.slots;
  told : AreTold l.fn.live l.fn.arrangement → AreTold l.live l.arrangement;
}
