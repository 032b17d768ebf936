use Rattle.std.proofs.Common.{◌≡◌, drop}
use Rattle.std.specs.Prelude.{map}
use Rattle.std.specs.List.{list_any}
use Rattle.fpm_routes.specs.Telling.{is_change}
use Rattle.fpm_routes.specs.Views.{change_of}
use Rattle.fpm_routes.proofs.telling.is_commit.Given as goal

abbrev pub invariant-loop-change : goal.invariant-loop-change
invariant-loop-change l = record { same : list_any is_change (map change_of l.changes) ≡ list_any is_change (map change_of (drop l.change-index l.changes)) }
