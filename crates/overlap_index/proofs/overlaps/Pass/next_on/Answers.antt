use Rattle.std.proofs.Common.{◌∙◌, sym}
use Rattle.overlap_index.proofs.Passed.{pass_miss}
use Rattle.overlap_index.proofs.overlaps.Pass.next_on.Goals as goal

pub loop-self-preserved : goal.loop-self-preserved
loop-self-preserved c =
    let pass = c.loop-self.self in
    sym (pass_miss pass.side pass.of _ pass.pieces.now pass.at c.loop-self-test.true (sym c.is_on.ensures ∙ c.if-is_on.false)) ∙ c.loop-self.invariant
