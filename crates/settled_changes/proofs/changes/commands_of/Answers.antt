use Rattle.std.proofs.Common.{◌≡◌, ◌-◌, true, not, sym, subst, arith}
use Rattle.std.specs.BTreeSet.{Updates, contains}
use Rattle.std.specs.Ordering.{nat_cmp}
use Rattle.settled_changes.proofs.FromLast.{from-before}
use Rattle.settled_changes.proofs.changes.commands_of.Goals as goal

pub loop-place-preserved : goal.loop-place-preserved
loop-place-preserved c =
    let inserted = c.in_ok-is_last.ensures in
    from-before c.args.rules.now.rules c.args.requests.now c.loop-place.place (c.loop-place.place - 1) c.index-requests-place.result
    c.loop-place.commands.items c.put_in_front.new.commands.items c.loop-place.named c.insert.new.self c.in_ok-is_last.is_last
    (omega arith) (sym c.index-requests-place.is) c.loop-place.invariant
    (subst (λ n. Updates nat_cmp c.loop-place.named c.insert.new.self n true) c.priority.ensures inserted.updates)
    (subst (λ n. c.in_ok-is_last.is_last ≡ not (contains nat_cmp c.loop-place.named n)) c.priority.ensures inserted.added)
    c.in_ok-put_in_front.ensures
