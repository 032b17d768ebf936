use Rattle.std.proofs.Common.{length, Contains, refl, sym, ap, ◌∙◌, subst, ne_eqb, eq-eqb}
use Rattle.std.proofs.lemmas.Bool.{cond-true, cond-false}
use Rattle.slot_order.proofs.Lists.{contains_head, contains_tail}
use Rattle.overlap_index.specs.Buckets.{next_of, before_of}
use Rattle.overlap_index.proofs.Paths.{path_ids, path_inside}
use Rattle.overlap_index.proofs.buckets.Buckets.before.Goals as goal

pub loop-other-init : goal.loop-other-init
loop-other-init c =
    let links = c.args.self.now in
    let on = c.requires.ends in
    let all = c.into_iter-other-iterator.ensures.into_iter_gives ∙ c.from-other-items.ensures ∙ path_ids links.nexts (length links.nexts) (next_of links.nexts c.args.bucket) on.ids on.path on.few in
    record {
      before = refl;
      inside = c.requires.inside;
      left = λ other has. path_inside links.nexts (next_of links.nexts c.args.bucket) on.ids other on.path (subst (λ xs. Contains xs other) all has);
    }

pub loop-other-preserved : goal.loop-other-preserved
loop-other-preserved c =
    let other = c.in-Some.other in
    let rest = c.next.new.self in
    let i = c.loop-other.invariant in
    let steps = c.in-Some.ensures.steps in
    record {
      before = sym (cond-false _ _ _ (ne_eqb other c.args.id c.if-other-id.false)) ∙ ap (λ xs. before_of c.loop-other.before xs c.args.id) (sym steps) ∙ i.before;
      inside = i.left other (subst (λ xs. Contains xs other) (sym steps) (contains_head other rest));
      left = λ y has. i.left y (subst (λ xs. Contains xs y) (sym steps) (contains_tail other y rest has));
    }

pub returns-then-other-id-clause-before : goal.returns-then-other-id-clause-before
returns-then-other-id-clause-before c =
    let other = c.in-Some.other in
    sym (cond-true _ _ _ (eq-eqb other c.args.id c.if-other-id.true)) ∙ ap (λ xs. before_of c.loop-other.before xs c.args.id) (sym c.in-Some.ensures.steps) ∙ c.loop-other.invariant.before
    ∙ ap (λ xs. before_of c.args.bucket xs c.args.id) (c.into_iter-other-iterator.ensures.into_iter_gives ∙ c.from-other-items.ensures)

pub returns-clause-before : goal.returns-clause-before
returns-clause-before c =
    sym (ap (λ xs. before_of c.loop-other.before xs c.args.id) c.in-None.ensures.steps.0) ∙ c.loop-other.invariant.before
    ∙ ap (λ xs. before_of c.args.bucket xs c.args.id) (c.into_iter-other-iterator.ensures.into_iter_gives ∙ c.from-other-items.ensures)
