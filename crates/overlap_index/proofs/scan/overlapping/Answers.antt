use Rattle.std.proofs.Common.{◌≡◌, get_or, arith, sym}
use Rattle.overlap_index.specs.declared.scan.Side.TheVariants.{Above, Below}
use Rattle.overlap_index.proofs.Passed.{found_more, found_still}
use Rattle.overlap_index.proofs.Rows.{columns_size}
use Rattle.overlap_index.proofs.scan.overlapping.Goals as goal

pub loop-next-preserved-then-next-pieces : goal.loop-next-preserved-then-next-pieces
loop-next-preserved-then-next-pieces c =
    let of = c.args.of.now in
    let pieces = c.args.pieces.now in
    let next = c.next_near-next.result in
    let one = c.index-pieces-next.result in
    let width = columns_size pieces c.args.columns.now c.requires in
    let here : get_or pieces next one ≡ one = sym c.index-pieces-next.is in
    record {
      inside = omega arith;
      above = found_more Above of one pieces next _ _ _ (omega arith) here
          (found_still Above of pieces c.args.columns.now c.spans_of-spans.result c.loop-next.next next _ _ c.requires c.spans_of-spans.ensures.value c.next_near-next.ensures.from (omega arith) c.next_near-next.ensures.passed c.loop-next.invariant.above)
          c.in_ok-put.ensures.above;
      below = found_more Below of one pieces next _ _ _ (omega arith) here
          (found_still Below of pieces c.args.columns.now c.spans_of-spans.result c.loop-next.next next _ _ c.requires c.spans_of-spans.ensures.value c.next_near-next.ensures.from (omega arith) c.next_near-next.ensures.passed c.loop-next.invariant.below)
          c.in_ok-put.ensures.below;
    }

pub loop-next-preserved : goal.loop-next-preserved
loop-next-preserved c =
    let of = c.args.of.now in
    let pieces = c.args.pieces.now in
    let next = c.next_near-next.result in
    let width = columns_size pieces c.args.columns.now c.requires in
    record {
      inside = omega arith;
      above = found_still Above of pieces c.args.columns.now c.spans_of-spans.result c.loop-next.next next _ _ c.requires c.spans_of-spans.ensures.value c.next_near-next.ensures.from (omega arith) c.next_near-next.ensures.passed c.loop-next.invariant.above;
      below = found_still Below of pieces c.args.columns.now c.spans_of-spans.result c.loop-next.next next _ _ c.requires c.spans_of-spans.ensures.value c.next_near-next.ensures.from (omega arith) c.next_near-next.ensures.passed c.loop-next.invariant.below;
    }
