use Rattle.overlap_index.proofs.Paired.{told_none}
use Rattle.overlap_index.proofs.ties.Ties.new.Goals as goal

pub returns : goal.returns
returns c = told_none c.args.ids _ c.in_ok-new-2.ensures
