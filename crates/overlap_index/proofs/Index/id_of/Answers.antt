use Rattle.std.proofs.Common.{◌≡◌, true, false, Contains, sym, subst, ◌∙◌, inl, inr}
use Rattle.slot_order.proofs.Lists.{contains_head, contains_tail, contains_cases, contains_none}
use Rattle.overlap_index.proofs.Placed.{is_just}
use Rattle.overlap_index.proofs.Index.id_of.Goals as goal

pub loop-id-init : goal.loop-id-init
loop-id-init c =
    let all = c.into_iter-id-iterator.ensures.into_iter_gives in
    record {
      live = λ id has. c.candidates-id-items.ensures.live id (subst (λ xs. Contains xs id) all has);
      left = λ one has piece rank. subst (λ xs. Contains xs one.id) (sym all) (c.candidates-id-items.ensures.all one has piece rank);
    }

pub stands_for-requires : goal.stands_for-requires
stands_for-requires c = c.loop-id.invariant.live c.in-Some.id (subst (λ xs. Contains xs c.in-Some.id) (sym c.in-Some.ensures.steps) (contains_head c.in-Some.id c.next.new.self))

pub loop-id-preserved : goal.loop-id-preserved
loop-id-preserved c =
    let id = c.in-Some.id in
    let rest = c.next.new.self in
    let steps = c.in-Some.ensures.steps in
    record {
      live = λ other has. c.loop-id.invariant.live other (subst (λ xs. Contains xs other) (sym steps) (contains_tail id other rest has));
      left = λ one has piece rank. elim (contains_cases id one.id rest (subst (λ xs. Contains xs one.id) steps (c.loop-id.invariant.left one has piece rank))) [
        | inl e ↦
            let is : c.stands_for.result ≡ true = c.stands_for.ensures.1 (subst (Contains c.args.self.now.live) (is_just one id c.args.piece.now c.args.priority (sym e) piece rank) has) in
            let no : c.stands_for.result ≡ false = c.if-stands_for.false in
            absurd (let z : true ≡ false = sym is ∙ no in cc)
        | inr later ↦ later
      ];
    }

pub returns-then-stands_for-clause-found : goal.returns-then-stands_for-clause-found
returns-then-stands_for-clause-found c = c.stands_for.ensures.0 c.if-stands_for.true

pub returns-clause-none : goal.returns-clause-none
returns-clause-none c none one has piece rank =
    contains_none one.id (subst (λ xs. Contains xs one.id) c.in-None.ensures.steps.0 (c.loop-id.invariant.left one has piece rank))
