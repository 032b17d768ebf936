use Rattle.std.proofs.Common.{◌≡◌, ◌++◌, List, length, map, take}
use Rattle.std.specs.List.{AllByRecursion}
use Rattle.commit_writes.specs.declared.Rewrite.{Rewrite}
use Rattle.commit_writes.specs.Planned.{IdEntries}
use Rattle.commit_writes.specs.PlannedBatch.{erase_write}
use Rattle.batch_order.specs.Noting.{GainsAtHome, put_at_home}
use Rattle.batch_order.specs.Planning.{IsWithin, as_writes}
use Rattle.batch_order.proofs.plan.plan_erases.Given as goal

abbrev pub invariant-loop-id : goal.invariant-loop-id
invariant-loop-id l = record {
  writes : (entries : IdEntries) (rewrites : List Rewrite) → as_writes entries rewrites l.writes.items ≡ as_writes entries rewrites l.fn.writes.items ++ map (erase_write l.arrangement) (take l.id-index l.ids);
  within : AllByRecursion (IsWithin (length l.arrangement)) l.writes.items;
  at_home : GainsAtHome l.arrangement (take l.id-index l.ids) l.fn.writes.items l.writes.items;
  noted : l.undo ≡ l.fn.undo ++ map (put_at_home l.arrangement) (take l.id-index l.ids);
}
