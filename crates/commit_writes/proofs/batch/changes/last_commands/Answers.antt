use Rattle.std.proofs.Common.{Some, subst, arith}
use Rattle.std.specs.BTreeMap.{Updates}
use Rattle.std.specs.Ordering.{nat_cmp}
use Rattle.std.proofs.lemmas.List.{take_all}
use Rattle.commit_writes.specs.Changes.{AreLastCommands}
use Rattle.commit_writes.proofs.Named.{last_none, last_more}
use Rattle.commit_writes.proofs.batch.changes.last_commands.Goals as goal

pub loop-place-init : goal.loop-place-init
loop-place-init c = last_none c.args.batch.now c.new-last.result c.new-last.ensures.empty c.new-last.ensures.ordered

pub loop-place-preserved : goal.loop-place-preserved
loop-place-preserved c =
    let place = c.loop-place.place in
    last_more c.args.batch.now place c.at.result c.loop-place.last c.insert.new.self c.at.ensures c.loop-place.invariant
    (subst (λ n. Updates nat_cmp c.loop-place.last c.insert.new.self n (Some place)) c.priority.ensures c.in_ok-insert.ensures.updates) c.in_ok-insert.ensures.ordered

pub returns : goal.returns
returns c = subst (λ commands. AreLastCommands c.args.batch.now commands c.loop-place.last) (take_all c.loop-place.place c.args.batch.now (omega arith)) c.loop-place.invariant
