use Rattle.std.proofs.Common.{◌≡◌, drop}
use Rattle.std.specs.List.{list_any}
use Rattle.std.specs.BTreeSet.{contains}
use Rattle.std.specs.Ordering.{nat_cmp}
use Rattle.rule_store.specs.Batch.{additions}
use Rattle.removals_first.specs.Tests.{hinders}
use Rattle.removals_first.proofs.early.is_hindered.Given as goal

abbrev pub invariant-loop-i : goal.invariant-loop-i
invariant-loop-i l =
    list_any (hinders (contains nat_cmp l.names.named) l.rules.rules l.rule) (additions l.batch)
    ≡ list_any (hinders (contains nat_cmp l.names.named) l.rules.rules l.rule) (additions (drop l.i l.batch))
