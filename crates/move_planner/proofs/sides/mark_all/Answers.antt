use Rattle.std.proofs.Common.{◌≡◌, ◌∙◌, ◌++◌, ◌∷◌, [], append-nil, append_assoc, ap, refl, sym, subst}
use Rattle.move_planner.specs.Steps.{AreMarked}
use Rattle.move_planner.proofs.Marks.{marked_none, marked_more}
use Rattle.move_planner.proofs.sides.mark_all.Goals as goal

pub loop-other-init : goal.loop-other-init
loop-other-init c = record { marked = marked_none c.args.slots.now c.args.start c.args.marks.now; left = refl }

pub loop-other-preserved : goal.loop-other-preserved
loop-other-preserved c = record {
  marked = marked_more c.args.slots.now c.args.start c.loop-other.yielded (c.in-Some.other ∷ []) c.args.marks.now c.loop-other.marks _ c.loop-other.invariant.marked c.mark.ensures;
  left = append_assoc c.loop-other.yielded (c.in-Some.other ∷ []) c.next.new.self
      ∙ (ap (λ left. c.loop-other.yielded ++ left) (sym c.in-Some.ensures.steps) ∙ c.loop-other.invariant.left);
}

pub returns : goal.returns
returns c =
    let all : c.loop-other.yielded ≡ c.args.others =
    sym (append-nil c.loop-other.yielded) ∙ (ap (λ left. c.loop-other.yielded ++ left) (sym c.in-None.ensures.steps.0)
    ∙ (c.loop-other.invariant.left ∙ c.into_iter-other-iterator.ensures.into_iter_gives)) in
    subst (λ ids. AreMarked c.args.slots.now c.args.start ids c.args.marks.now c.loop-other.marks) all c.loop-other.invariant.marked
