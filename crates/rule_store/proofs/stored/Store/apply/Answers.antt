use Rattle.std.proofs.Common.{arith}
use Rattle.rule_store.proofs.Steps.{additions-most}
use Rattle.rule_store.proofs.stored.Store.apply.Goals as goal

pub insert_all-requires-clause-room : goal.insert_all-requires-clause-room
insert_all-requires-clause-room c =
    let most = additions-most c.args.batch.now in
    let first = c.remove_all.ensures.spare in
    let second = c.change_all.ensures.spare in
    omega (arith, c.requires.room)

pub returns-clause-spare : goal.returns-clause-spare
returns-clause-spare c =
    let most = additions-most c.args.batch.now in
    let first = c.remove_all.ensures.spare in
    let second = c.change_all.ensures.spare in
    let third = c.insert_all.ensures.spare in
    omega arith
