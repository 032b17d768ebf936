use Rattle.std.proofs.Common.{◌<◌, length, arith}
use Rattle.std.proofs.lemmas.Grind.{common_steps}
use Rattle.slot_pool.proofs.SlotSums.{added}
use Rattle.slot_pool.proofs.sums.put.Goals as goal

pub returns-then-id-sums : goal.returns-then-id-sums
returns-then-id-sums c =
    let test = c.if-id-sums.true in
    let known : c.args.id < length c.args.sums.now = first_of (omega arith, grind (arith, common_steps)) in
    added c.args.slots.now c.args.sums.now c.args.slot c.args.id c.requires.sums c.requires.place c.requires.free known
