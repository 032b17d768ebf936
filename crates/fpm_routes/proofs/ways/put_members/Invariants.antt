use Rattle.std.proofs.Common.{ℕ}
use Rattle.fpm_routes.specs.Ways.{members_by, members_text}
use Rattle.fpm_routes.proofs.Parts.{Making}
use Rattle.fpm_routes.proofs.ways.put_members.Given as goal

abbrev pub invariant-loop-left : goal.invariant-loop-left
invariant-loop-left l = record { made : Making ℕ (members_text l.bytes) l.fn.into.items l.into.items (members_by l.left l.rest) }

abbrev pub decreases-loop-left : goal.decreases-loop-left
decreases-loop-left l = l.left
