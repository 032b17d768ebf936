use Rattle.std.proofs.Common.{◌≡◌, ◌∙◌, ◌++◌, ◌∷◌, [], append-nil, append_assoc, ap, refl, sym}
use Rattle.slot_pool.specs.Arrangement.{last_slot}
use Rattle.placement.specs.Live.{is_above}
use Rattle.placement.proofs.Above.{ids_above_are}
use Rattle.move_planner.specs.Steps.{greater}
use Rattle.move_planner.proofs.Ends.{among, last_of_none, last_of_more, last_of_all, both_are}
use Rattle.move_planner.proofs.places.last_listed.Goals as goal

pub loop-other-init : goal.loop-other-init
loop-other-init c = record { last = sym (last_of_none c.args.slots.now); left = refl }

pub loop-other-preserved : goal.loop-other-preserved
loop-other-preserved c = record {
  last = c.greater-last.ensures ∙ (ap (λ last. greater last c.home.result) c.loop-other.invariant.last
      ∙ (ap (greater (last_slot (among c.loop-other.yielded) c.args.slots.now)) c.home.ensures
      ∙ sym (last_of_more c.args.slots.now c.loop-other.yielded c.in-Some.other c.requires.once)));
  left = append_assoc c.loop-other.yielded (c.in-Some.other ∷ []) c.next.new.self
      ∙ (ap (λ left. c.loop-other.yielded ++ left) (sym c.in-Some.ensures.steps) ∙ c.loop-other.invariant.left);
}

pub returns-clause-last : goal.returns-clause-last
returns-clause-last c =
    let all : c.loop-other.yielded ≡ c.above-other-items.result =
    sym (append-nil c.loop-other.yielded) ∙ (ap (λ left. c.loop-other.yielded ++ left) (sym c.in-None.ensures.steps.0)
    ∙ (c.loop-other.invariant.left ∙ c.into_iter-other-iterator.ensures.into_iter_gives)) in
    c.loop-other.invariant.last ∙ (ap (λ ids. last_slot (among ids) c.args.slots.now) all
    ∙ last_of_all c.args.slots.now c.above-other-items.result (λ other. is_above c.args.index.now.live other c.args.id)
    (both_are c.above-other-items.result _ _ c.above-other-items.ensures.exact (ids_above_are c.args.index.now.live c.args.id)))
