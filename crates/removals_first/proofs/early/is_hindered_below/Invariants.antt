use Rattle.std.proofs.Common.{◌≡◌, drop}
use Rattle.std.specs.List.{list_any}
use Rattle.std.specs.BTreeSet.{contains}
use Rattle.std.specs.Ordering.{nat_cmp}
use Rattle.removals_first.specs.Tests.{hinders_below}
use Rattle.removals_first.proofs.early.is_hindered_below.Given as goal

abbrev pub invariant-loop-i : goal.invariant-loop-i
invariant-loop-i l =
    list_any (hinders_below (contains nat_cmp l.names.named) (contains nat_cmp l.early) l.rules.rules l.rule) (drop l.from l.rules.rules)
    ≡ list_any (hinders_below (contains nat_cmp l.names.named) (contains nat_cmp l.early) l.rules.rules l.rule) (drop l.i l.rules.rules)
