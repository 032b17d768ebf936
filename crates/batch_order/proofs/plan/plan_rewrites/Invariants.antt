use Rattle.std.proofs.Common.{◌≡◌, ◌++◌, length, map, take}
use Rattle.std.specs.List.{AllByRecursion}
use Rattle.commit_writes.specs.declared.Rewrite.{Rewrite}
use Rattle.commit_writes.specs.Planned.{IdEntries}
use Rattle.commit_writes.specs.PlannedBatch.{rewrite_write}
use Rattle.batch_order.specs.Noting.{GainsAtHome, put_at_home}
use Rattle.batch_order.specs.Planning.{IsWithin, as_writes}
use Rattle.batch_order.proofs.plan.plan_rewrites.Given as goal

abbrev pub invariant-loop-place : goal.invariant-loop-place
invariant-loop-place l = record {
  writes : (entries : IdEntries) → as_writes entries l.rewrites l.writes.items ≡ as_writes entries l.rewrites l.fn.writes.items ++ map (rewrite_write l.arrangement) (take l.place l.rewrites);
  within : AllByRecursion (IsWithin (length l.arrangement)) l.writes.items;
  at_home : GainsAtHome l.arrangement (take l.place (map (λ (rewrite : Rewrite). rewrite.id) l.rewrites)) l.fn.writes.items l.writes.items;
  noted : l.undo ≡ l.fn.undo ++ map (λ (rewrite : Rewrite). put_at_home l.arrangement rewrite.id) (take l.place l.rewrites);
}
