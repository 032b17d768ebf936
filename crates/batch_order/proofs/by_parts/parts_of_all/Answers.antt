use Rattle.std.proofs.Common.{◌≡◌, ◌+◌, ◌<◌, ◌∙◌, Option, Some, length, slice_get, arith, sym, ap, ap₂}
use Rattle.std.specs.Prelude.{option_map}
use Rattle.std.proofs.lemmas.List.{length-map, take_all}
use Rattle.std.proofs.lemmas.Option.{slice_get-map}
use Rattle.tcam_device.specs.declared.Write.{Write}
use Rattle.batch_order.specs.ByParts.{paired_number}
use Rattle.batch_order.specs.declared.planned_writes.PlannedWrite.{PlannedWrite}
use Rattle.batch_order.specs.Noting.{all_undo}
use Rattle.batch_order.specs.Planning.{all_writes, as_write, as_writes}
use Rattle.batch_order.proofs.planning.Numbers.{paired_more}
use Rattle.batch_order.proofs.by_parts.parts_of_all.Goals as goal

pub loop-place-preserved : goal.loop-place-preserved
loop-place-preserved c =
    let writes = all_writes c.args.writes.now in
    let undo = all_undo c.args.undo.now in
    let entries = c.args.live.now.entries in
    let rewrites = c.args.rewrites.now in
    let place = c.loop-place.place in
    let inside : place < length writes = omega arith in
    let size : length undo ≡ length writes = c.requires.size in
    let one : slice_get writes place ≡ Some c.unwrap-planned.result = sym c.get.ensures ∙ c.unwrap-planned.ensures in
    let two : slice_get undo place ≡ Some c.unwrap-back.result = sym c.get-in-loop-place.ensures ∙ c.unwrap-back.ensures in
    let write : slice_get (as_writes entries rewrites writes) place ≡ Some c.write_of-write.result =
    slice_get-map (as_write entries rewrites) writes place ∙ (ap (λ (some : Option PlannedWrite). option_map (as_write entries rewrites) some) one ∙ ap (λ (w : Write). Some w) (sym c.write_of-write.ensures)) in
    let before : slice_get (as_writes entries rewrites undo) place ≡ Some c.write_of-before.result =
    slice_get-map (as_write entries rewrites) undo place ∙ (ap (λ (some : Option PlannedWrite). option_map (as_write entries rewrites) some) two ∙ ap (λ (w : Write). Some w) (sym c.write_of-before.ensures)) in
    let more = paired_more (as_writes entries rewrites writes) (as_writes entries rewrites undo) place c.write_of-write.result c.write_of-before.result write before in
    let was = c.loop-place.invariant.counted in
    let counts = c.part_count.ensures.parts in
    let few = c.part_count.ensures.few in
    let before_few = c.loop-place.invariant.few in
    record {
      counted = ap₂ (λ a b. a + b) was counts ∙ sym more;
      few = omega arith;
    }

pub returns : goal.returns
returns c =
    let writes = all_writes c.args.writes.now in
    let undo = all_undo c.args.undo.now in
    let entries = c.args.live.now.entries in
    let rewrites = c.args.rewrites.now in
    let place = c.loop-place.place in
    let size : length undo ≡ length writes = c.requires.size in
    let one : length (as_writes entries rewrites writes) ≡ length writes = length-map writes (as_write entries rewrites) in
    let two : length (as_writes entries rewrites undo) ≡ length undo = length-map undo (as_write entries rewrites) in
    c.loop-place.invariant.counted
    ∙ ap₂ paired_number (take_all place (as_writes entries rewrites writes) (omega arith)) (take_all place (as_writes entries rewrites undo) (omega arith))
