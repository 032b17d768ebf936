use Rattle.overlap_index.proofs.Paired.{paired_none}
use Rattle.overlap_index.proofs.pairs.Linked.new.Goals as goal

pub returns : goal.returns
returns c = paired_none c.args.ids _ c.in_ok-columns.ensures c.in_ok-destinations.ensures.none c.in_ok-edges.ensures.ids c.in_ok-edges.ensures.none
