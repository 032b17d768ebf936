use Rattle.std.proofs.Common.{◌+◌, ◌-◌, None, Some, length, arith, subst, ap}
use Rattle.word_tree.specs.Tree.{IsLastLeaf}
use Rattle.word_tree.proofs.Rows.{place_of, last_none, last_far, last_some}
use Rattle.word_tree.proofs.Members.last.Goals as goal

pub overflow_add-self-inside : goal.overflow_add-self-inside
overflow_add-self-inside c =
    let to = c.requires in
    let few = (place_of {at = c.args.to - 1} c.self.invariant.0 c.self.view_is (omega arith)).few in
    omega arith

pub last_leaf-requires-clause-leaf : goal.last_leaf-requires-clause-leaf
last_leaf-requires-clause-leaf c = let to = c.requires in (place_of {at = c.args.to - 1} c.self.invariant.0 c.self.view_is (omega arith)).leaf

pub last_leaf-requires-clause-room : goal.last_leaf-requires-clause-room
last_leaf-requires-clause-room c =
    let to = c.requires in
    let room = (place_of {at = c.args.to - 1} c.self.invariant.0 c.self.view_is (omega arith)).room in
    let lent = ap length c.deref.ensures.value in
    omega arith

pub returns-in_default : goal.returns-in_default
returns-in_default c =
    last_none c.self.invariant.0 c.self.view_is c.requires
    (subst (λ items. IsLastLeaf items c.self.inside.depth (c.self.inside.base + (c.args.to - 1)) None) c.deref.ensures.value c.in_default.ensures)

pub returns-then-from-at : goal.returns-then-from-at
returns-then-from-at c =
    last_some c.self.invariant.0 c.self.view_is c.requires (omega arith) (omega arith)
    (subst (λ items. IsLastLeaf items c.self.inside.depth (c.self.inside.base + (c.args.to - 1)) (Some c.in-Some.bit)) c.deref.ensures.value c.in-Some.ensures)

pub returns-else-from-at : goal.returns-else-from-at
returns-else-from-at c =
    last_far c.self.invariant.0 c.self.view_is c.requires (omega arith)
    (subst (λ items. IsLastLeaf items c.self.inside.depth (c.self.inside.base + (c.args.to - 1)) (Some c.in-Some.bit)) c.deref.ensures.value c.in-Some.ensures)
