use Rattle.std.proofs.Common.{◌≡◌, drop}
use Rattle.std.specs.List.{list_any}
use Rattle.std.specs.BTreeSet.{contains}
use Rattle.std.specs.Ordering.{nat_cmp}
use Rattle.removals_first.specs.Tests.{spares}
use Rattle.removals_first.proofs.early.is_spared.Given as goal

abbrev pub invariant-loop-i : goal.invariant-loop-i
invariant-loop-i l =
    list_any (spares (contains nat_cmp l.names.named) l.rule l.other) l.rules.rules
    ≡ list_any (spares (contains nat_cmp l.names.named) l.rule l.other) (drop l.i l.rules.rules)
