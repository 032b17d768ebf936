use Rattle.std.proofs.Common.{◌≡◌, ◌++◌, drop}
use Rattle.std.specs.Prelude.{map}
use Rattle.fpm_routes.specs.Telling.{changes_after, changes_text}
use Rattle.fpm_routes.specs.Views.{change_of}
use Rattle.fpm_routes.proofs.format.FpmRoutes.tell_all.Given as goal

abbrev pub invariant-loop-change : goal.invariant-loop-change
invariant-loop-change l = record {
  text : l.fn.into.items ++ changes_text l.fn.self (map change_of l.changes) ≡ l.into.items ++ changes_text l.self (map change_of (drop l.change-index l.changes));
  known : changes_after l.fn.self (map change_of l.changes) ≡ changes_after l.self (map change_of (drop l.change-index l.changes));
}
