use Rattle.std.proofs.Common.{arith}
use Rattle.std.proofs.lemmas.Grind.{common_steps}
use Rattle.overlap_index.proofs.Parts.{parts_none}
use Rattle.overlap_index.proofs.Index.new.Goals as goal

pub invariant_of-result : goal.invariant_of-result
invariant_of-result c = rw (c.in_ok-pieces.ensures.items, c.in_ok-buckets.ensures, c.new-3.ensures)
    (parts_none c.args.slots c.in_ok-places.places.items c.in_ok-ties.ties c.requires.some c.requires.most (grind (arith, common_steps)) c.in_ok-ties.ensures)
