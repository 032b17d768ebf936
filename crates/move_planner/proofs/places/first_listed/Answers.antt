use Rattle.std.proofs.Common.{◌≡◌, ◌∙◌, ◌++◌, ◌∷◌, [], append-nil, append_assoc, ap, refl, sym}
use Rattle.slot_pool.specs.Arrangement.{first_slot}
use Rattle.placement.specs.Live.{is_above}
use Rattle.placement.proofs.Above.{ids_below_are}
use Rattle.move_planner.specs.Steps.{lesser}
use Rattle.move_planner.proofs.Ends.{among, first_of_none, first_of_more, first_of_all, both_are}
use Rattle.move_planner.proofs.places.first_listed.Goals as goal

pub loop-other-init : goal.loop-other-init
loop-other-init c = record { first = sym (first_of_none c.args.slots.now); left = refl }

pub loop-other-preserved : goal.loop-other-preserved
loop-other-preserved c = record {
  first = c.lesser-first.ensures ∙ (ap (λ first. lesser first c.home.result) c.loop-other.invariant.first
      ∙ (ap (lesser (first_slot (among c.loop-other.yielded) c.args.slots.now)) c.home.ensures
      ∙ sym (first_of_more c.args.slots.now c.loop-other.yielded c.in-Some.other)));
  left = append_assoc c.loop-other.yielded (c.in-Some.other ∷ []) c.next.new.self
      ∙ (ap (λ left. c.loop-other.yielded ++ left) (sym c.in-Some.ensures.steps) ∙ c.loop-other.invariant.left);
}

pub returns-clause-first : goal.returns-clause-first
returns-clause-first c =
    let all : c.loop-other.yielded ≡ c.below-other-items.result =
    sym (append-nil c.loop-other.yielded) ∙ (ap (λ left. c.loop-other.yielded ++ left) (sym c.in-None.ensures.steps.0)
    ∙ (c.loop-other.invariant.left ∙ c.into_iter-other-iterator.ensures.into_iter_gives)) in
    c.loop-other.invariant.first ∙ (ap (λ ids. first_slot (among ids) c.args.slots.now) all
    ∙ first_of_all c.args.slots.now c.below-other-items.result (λ other. is_above c.args.index.now.live c.args.id other)
    (both_are c.below-other-items.result _ _ c.below-other-items.ensures.exact (ids_below_are c.args.index.now.live c.args.id)))
