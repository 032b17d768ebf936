use Rattle.std.proofs.Common.{◌≡◌, ◌++◌}
use Rattle.fpm_routes.specs.Ways.{group_by, group_text}
use Rattle.fpm_routes.proofs.ways.put_group.Given as goal

abbrev pub invariant-loop-left : goal.invariant-loop-left
invariant-loop-left l = record { same : l.fn.into.items ++ group_text l.bytes ≡ l.into.items ++ group_by l.left l.rest }

abbrev pub decreases-loop-left : goal.decreases-loop-left
decreases-loop-left l = l.left
