use Rattle.std.proofs.Common.{◌≡◌, ◌∙◌, arith, length, length-set, refl}
use Rattle.lane_lookup.proofs.Steps.{row_step, places_step}
use Rattle.lane_lookup.proofs.columns.put_row.Goals as goal

pub loop-lane-preserved : goal.loop-lane-preserved
loop-lane-preserved c =
    let now = c.loop-lane.invariant in
    let lanes = c.loop-lane.lanes.items in
    let values : length c.args.value.now.lane ≡ 11 = assumption c.type_inv.value in
    let masks : length c.args.mask.now.lane ≡ 11 = assumption c.type_inv.mask in
    let count = now.count in record {
      count = length-set lanes c.loop-lane.lane c.set.new.self ∙ now.count;
      place = places_step lanes c.args.slot c.loop-lane.lane c.index_mut.result.now _ _ _ now.place (omega arith) c.index_mut.ensures.value c.set.ensures;
      rest = now.rest
          ∙ row_step lanes c.args.value.now.lane c.args.mask.now.lane c.args.slot c.loop-lane.lane c.index_mut.result.now _ _ _ (omega arith) (omega arith) (omega arith)
          c.index_mut.ensures.value refl refl c.set.ensures;
    }
