use Rattle.std.proofs.Common.{min, max, sym, subst}
use Rattle.word_tree.specs.Marks.{IsLastSet, IsNextSet, IsNearestSet}
use Rattle.word_tree.proofs.Nearest.{nearest_is}
use Rattle.word_tree.proofs.Members.nearest.Goals as goal

pub returns : goal.returns
returns c =
    let marks = c.args.self.now in
    let low : IsLastSet marks c.args.from (min c.args.mid c.args.to) c.last-below.result = rw c.min.ensures at c.last-below.ensures in
    let high : IsNextSet marks (max c.args.mid c.args.from) c.args.to c.next-above.result = rw c.max.ensures at c.next-above.ensures in
    subst (IsNearestSet marks c.args.from c.args.to c.args.mid) (sym c.nearer.ensures) (nearest_is marks c.args.from c.args.to c.args.mid c.last-below.result c.next-above.result low high)
