use Rattle.std.proofs.Common.{◌≡◌}
use Rattle.fpm_routes.specs.Attributes.{find, find_by}
use Rattle.fpm_routes.proofs.attributes.find.Given as goal

abbrev pub invariant-loop-left : goal.invariant-loop-left
invariant-loop-left l = record { same : find l.kind l.bytes ≡ find_by l.left l.kind l.rest }

abbrev pub decreases-loop-left : goal.decreases-loop-left
decreases-loop-left l = l.left
