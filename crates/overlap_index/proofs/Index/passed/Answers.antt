use Rattle.std.proofs.Common.{ℕ, List, Contains, sym, subst}
use Rattle.std.specs.Prelude.{◌↔◌, nat_eq}
use Rattle.std.specs.List.{IsDistinct}
use Rattle.placement.specs.declared.LivePiece.{LivePiece}
use Rattle.placement.specs.Live.{AreApart, LivePieces}
use Rattle.overlap_index.specs.Changes.{live_after}
use Rattle.overlap_index.specs.Sides.{ids_beside, ids_on}
use Rattle.overlap_index.proofs.Beside.{beside}
use Rattle.overlap_index.proofs.Came.{distinct_on}
use Rattle.overlap_index.proofs.Placed.{apart_placed}
use Rattle.overlap_index.proofs.Index.passed.Goals as goal

pub returns-clause-exact : goal.returns-clause-exact
returns-clause-exact c other =
    let i = c.self.inside in
    let of = c.piece_of-of.result.now in
    let live = live_after i.history.items in
    let has = subst (λ (v : LivePieces). Contains v.live of) (sym c.self.view_is) c.piece_of-of.ensures.live in
    subst (λ (xs : List LivePiece). Contains (ids_on c.args.side of xs) other ↔ Contains (ids_beside c.args.side c.args.self.now.live c.args.id) other) (sym c.deref.ensures.value)
    (subst (λ (n : ℕ). Contains (ids_on c.args.side of i.pieces.items) other ↔ Contains (ids_beside c.args.side c.args.self.now.live n) other) c.piece_of-of.ensures.id
    (subst (λ (v : LivePieces). Contains (ids_on c.args.side of i.pieces.items) other ↔ Contains (ids_beside c.args.side v.live of.id) other) c.self.view_is
    (beside i.slots live i.pieces.items i.places.items of c.self.invariant.apart c.self.invariant.table has c.args.side other)))

pub returns-clause-once : goal.returns-clause-once
returns-clause-once c =
    let i = c.self.inside in
    let of = c.piece_of-of.result.now in
    let dense = apart_placed i.slots (live_after i.history.items) i.pieces.items i.places.items c.self.invariant.apart c.self.invariant.table in
    subst (λ (xs : List LivePiece). IsDistinct nat_eq (ids_on c.args.side of xs)) (sym c.deref.ensures.value) (distinct_on c.args.side of i.pieces.items dense.once)

pub returns-clause-apart : goal.returns-clause-apart
returns-clause-apart c = subst (λ v. AreApart v.slots v.live) c.self.view_is c.self.invariant.apart
