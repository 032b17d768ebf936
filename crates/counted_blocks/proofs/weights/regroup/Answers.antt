use Rattle.std.proofs.Common.{◌*◌}
use Rattle.counted_blocks.proofs.Groups.{part-fits}
use Rattle.counted_blocks.proofs.weights.regroup.Goals as goal

pub sum-weight-requires : goal.sum-weight-requires
sum-weight-requires c =
    rw c.group_of.ensures (part-fits c.args.weights.now c.requires.few c.requires.light (32 * c.len-in-loop-groups.result) 32)
