use Rattle.std.proofs.Common.{◌∙◌, ap, sym}
use Rattle.placement.specs.Live.{rank_in}
use Rattle.placement.proofs.Above.{rank_is}
use Rattle.overlap_index.proofs.Index.rank_of.Goals as goal

pub returns : goal.returns
returns c =
    sym (rank_is c.args.self.now.live c.piece_of.result.now c.piece_of.ensures.apart.once c.piece_of.ensures.live)
    ∙ ap (rank_in c.args.self.now.live) c.piece_of.ensures.id
