use Rattle.std.specs.Prelude.{map}
use Rattle.fpm_routes.specs.Views.{change_of}
use Rattle.fpm_routes.specs.Changes.{Changing, changes_by, frame_changes}
use Rattle.fpm_routes.proofs.Parts.{Making}
use Rattle.fpm_routes.proofs.changes.read_changes.Given as goal

abbrev pub invariant-loop-left : goal.invariant-loop-left
invariant-loop-left l = record {
  made : Making Changing (frame_changes l.version l.messages) (map change_of l.fn.changes.items) (map change_of l.changes.items) (changes_by l.left l.version l.rest);
}

abbrev pub decreases-loop-left : goal.decreases-loop-left
decreases-loop-left l = l.left
