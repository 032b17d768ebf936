use Rattle.std.proofs.Common.{◌+◌, None, Some, length, arith, subst, ap}
use Rattle.word_tree.specs.Tree.{IsNextLeaf}
use Rattle.word_tree.proofs.Rows.{place_of, next_none, next_far, next_some}
use Rattle.word_tree.proofs.Members.next.Goals as goal

pub overflow_add-self-inside : goal.overflow_add-self-inside
overflow_add-self-inside c =
    let to = c.requires in
    let few = (place_of {at = c.args.from} c.self.invariant.0 c.self.view_is (omega arith)).few in
    omega arith

pub next_leaf-requires-clause-leaf : goal.next_leaf-requires-clause-leaf
next_leaf-requires-clause-leaf c = let to = c.requires in (place_of {at = c.args.from} c.self.invariant.0 c.self.view_is (omega arith)).leaf

pub next_leaf-requires-clause-room : goal.next_leaf-requires-clause-room
next_leaf-requires-clause-room c =
    let to = c.requires in
    let room = (place_of {at = c.args.from} c.self.invariant.0 c.self.view_is (omega arith)).room in
    let lent = ap length c.deref.ensures.value in
    omega arith

pub returns-in_default : goal.returns-in_default
returns-in_default c =
    next_none c.self.invariant.0 c.self.view_is c.requires
    (subst (λ items. IsNextLeaf items c.self.inside.depth (c.self.inside.base + c.args.from) None) c.deref.ensures.value c.in_default.ensures)

pub returns-then-at-to : goal.returns-then-at-to
returns-then-at-to c =
    next_some c.self.invariant.0 c.self.view_is c.requires (omega arith)
    (subst (λ items. IsNextLeaf items c.self.inside.depth (c.self.inside.base + c.args.from) (Some c.in-Some.bit)) c.deref.ensures.value c.in-Some.ensures)

pub returns-else-at-to : goal.returns-else-at-to
returns-else-at-to c =
    next_far c.self.invariant.0 c.self.view_is c.requires (omega arith)
    (subst (λ items. IsNextLeaf items c.self.inside.depth (c.self.inside.base + c.args.from) (Some c.in-Some.bit)) c.deref.ensures.value c.in-Some.ensures)
