use Rattle.std.proofs.Common.{◌∷◌, length, sym, ap, ◌∙◌, subst, arith}
use Rattle.std.proofs.lemmas.List.{get_or_default}
use Rattle.overlap_index.specs.Buckets.{nil, IsOnPath, ids_from}
use Rattle.overlap_index.proofs.Paths.{step}
use Rattle.overlap_index.proofs.buckets.BucketIterator.next.Goals as goal

pub bounds-self-inside-id : goal.bounds-self-inside-id
bounds-self-inside-id c = (step c.self.inside.nexts.now c.self.inside.at c.if-self.false c.self.invariant).here

pub invariant_of-self : goal.invariant_of-self
invariant_of-self c =
    let nexts = c.self.inside.nexts.now in
    let at = c.self.inside.at in
    let s = step nexts at c.if-self.false c.self.invariant in
    subst (IsOnPath nexts) (sym (get_or_default nexts at 0 nil s.here)) s.rest

-- what was left is the id that is given, and what is left
pub returns-clause-steps : goal.returns-clause-steps
returns-clause-steps c =
    let nexts = c.self.inside.nexts.now in
    let at = c.self.inside.at in
    let s = step nexts at c.if-self.false c.self.invariant in
    sym c.self.view_is ∙ s.all ∙ ap (λ z. at ∷ ids_from nexts (length nexts) z) (sym (get_or_default nexts at 0 nil s.here))

pub returns-clause-goes : goal.returns-clause-goes
returns-clause-goes c =
    let less = ap length (returns-clause-steps c) in
    record { on = λ f. (tt, tt, omega arith); keeps = tt; rests = λ f. tt }
