use Rattle.std.proofs.Common.{◌≡◌}
use Rattle.fpm_routes.specs.Attributes.{check, check_by}
use Rattle.fpm_routes.proofs.attributes.check.Given as goal

abbrev pub invariant-loop-left : goal.invariant-loop-left
invariant-loop-left l = record { same : check l.at l.bytes ≡ check_by l.left l.at l.rest }

abbrev pub decreases-loop-left : goal.decreases-loop-left
decreases-loop-left l = l.left
