use Rattle.std.proofs.Common.{◌≡◌, Some, [], ◌∷◌, List, length, slice_get, take, sym, ap, ◌∙◌, arith}
use Rattle.std.proofs.lemmas.List.{take_all}
use Rattle.std.proofs.lemmas.List.Sums.{fold-append}
use Rattle.std.proofs.lemmas.Option.{get_or_from_slice_get, slice_get_within}
use Rattle.tcam_device.specs.State.{State, apply, state_after}
use Rattle.tcam_device.proofs.Wider.{slots-after}
use Rattle.batch_order.specs.declared.planned_writes.PlannedWrite.{PlannedWrite}
use Rattle.batch_order.specs.Planning.{all_writes, as_write, as_writes}
use Rattle.batch_order.proofs.arranged.Walked.{map_next}
use Rattle.batch_order.proofs.translation.set_words.Goals as goal

pub set_word-requires : goal.set_word-requires
set_word-requires c = ap (λ (s : State). length s.slots) (c.loop-place.invariant [] []) ∙ (slots-after c.args.tables.now (as_writes [] [] (take c.loop-place.place (all_writes c.args.writes.now))) ∙ c.requires.size)

pub loop-place-preserved : goal.loop-place-preserved
loop-place-preserved c = λ entries rewrites.
    let all = all_writes c.args.writes.now in
    let place = c.loop-place.place in
    let one = c.unwrap.result in
    let read : slice_get all place ≡ Some one = sym c.get.ensures ∙ c.unwrap.ensures in
    c.set_word.ensures entries rewrites
    ∙ (ap (λ (s : State). apply s (as_write entries rewrites one)) (c.loop-place.invariant entries rewrites)
    ∙ (sym (fold-append apply c.args.tables.now (as_writes entries rewrites (take place all)) (as_write entries rewrites one ∷ []))
    ∙ ap (state_after c.args.tables.now) (sym (map_next (as_write entries rewrites) all place one (slice_get_within all place one read) (get_or_from_slice_get all place one one read)))))

pub returns : goal.returns
returns c = λ entries rewrites.
    c.loop-place.invariant entries rewrites
    ∙ ap (λ (some : List PlannedWrite). state_after c.args.tables.now (as_writes entries rewrites some)) (take_all c.loop-place.place (all_writes c.args.writes.now) (omega arith))
