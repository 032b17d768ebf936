use Rattle.std.proofs.Common.{List, sym, subst, take, take_all, arith}
use Rattle.placement.specs.declared.LivePiece.{LivePiece}
use Rattle.overlap_index.specs.Tied.{ArePaired}
use Rattle.overlap_index.proofs.Paired.{front_coming, front_more, paired_same}
use Rattle.overlap_index.proofs.pairs.Linked.of.Goals as goal

pub loop-place-init : goal.loop-place-init
loop-place-init c = c.in_ok-linked.ensures

pub more-requires : goal.more-requires
more-requires c =
    let k = c.loop-place.place in (
      c.args.ids,
      take k c.args.pieces.now,
      front_coming c.args.ids c.requires.0 c.args.pieces.now c.args.places.now c.args.one.now c.requires.1 k c.index-pieces-place.result (omega arith) (sym c.index-pieces-place.is),
      c.loop-place.invariant,
    )

pub loop-place-preserved : goal.loop-place-preserved
loop-place-preserved c =
    let k = c.loop-place.place in
    let pieces = c.args.pieces.now in
    let one = c.index-pieces-place.result in
    let coming = front_coming c.args.ids c.requires.0 pieces c.args.places.now c.args.one.now c.requires.1 k one (omega arith) (sym c.index-pieces-place.is) in
    let more = front_more c.args.ids c.requires.0 pieces c.args.places.now c.args.one.now c.requires.1 k one (omega arith) (sym c.index-pieces-place.is) in
    subst (λ (xs : List LivePiece). ArePaired c.args.ids xs xs c.more.new.self) (sym more) (c.in_ok-more.ensures.paired c.args.ids (take k pieces) coming c.loop-place.invariant)

pub more-requires-2 : goal.more-requires-2
more-requires-2 c =
    let pieces = c.args.pieces.now in
    let all = subst (λ (xs : List LivePiece). ArePaired c.args.ids xs xs c.loop-place.linked) (take_all c.loop-place.place pieces (omega arith)) c.loop-place.invariant in
    (c.args.ids, c.requires.0, c.requires.1, paired_same c.args.ids pieces c.requires.0 pieces c.loop-place.linked c.requires.1.table.same all)

pub returns : goal.returns
returns c live coming =
    let pieces = c.args.pieces.now in
    let all = subst (λ (xs : List LivePiece). ArePaired c.args.ids xs xs c.loop-place.linked) (take_all c.loop-place.place pieces (omega arith)) c.loop-place.invariant in
    c.in_ok-more-2.ensures.paired c.args.ids live coming (paired_same c.args.ids pieces live pieces c.loop-place.linked coming.table.same all)
