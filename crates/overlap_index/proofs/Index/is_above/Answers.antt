use Rattle.std.proofs.Common.{◌∙◌, ap₂}
use Rattle.placement.specs.Live.{is_above}
use Rattle.placement.proofs.Above.{above_of}
use Rattle.overlap_index.proofs.Index.is_above.Goals as goal

pub returns : goal.returns
returns c =
    c.is_over.ensures
    ∙ above_of c.args.self.now.live c.piece_of.result.now c.piece_of-2.result.now c.piece_of.ensures.apart.once c.piece_of.ensures.live c.piece_of-2.ensures.live
    ∙ ap₂ (is_above c.args.self.now.live) c.piece_of.ensures.id c.piece_of-2.ensures.id
