use Rattle.std.proofs.Common.{◌≡◌, true, Contains, arith, subst, sym}
use Rattle.std.proofs.lemmas.Grind.{common_steps}
use Rattle.overlap_index.specs.Changes.{live_after}
use Rattle.placement.specs.Live.{AreApart, is_live}
use Rattle.overlap_index.proofs.Linked.{live_small}
use Rattle.overlap_index.proofs.Placed.{FoundAt, found_at, reads_place}
use Rattle.overlap_index.proofs.Index.piece_of.Goals as goal

pub index-requires : goal.index-requires
index-requires c =
    let parts = c.self.invariant in
    let live = subst (λ v. is_live v.live c.args.id ≡ true) (sym c.self.view_is) c.requires in
    let small = live_small c.self.inside.slots (live_after c.self.inside.history.items) c.args.id parts.apart live in
    let many = parts.table.many in
    grind (arith, common_steps)

pub index-requires-2 : goal.index-requires-2
index-requires-2 c =
    let i = c.self.inside in
    let live = subst (λ v. is_live v.live c.args.id ≡ true) (sym c.self.view_is) c.requires in
    let at = reads_place i.slots c.args.id c.index.result.now (live_after i.history.items) i.pieces.items i.places.items c.self.invariant.apart c.self.invariant.table live c.index.ensures in
    let inside = at.inside in
    grind (arith, common_steps)

found : (c : goal.After-index-2) → FoundAt (live_after c.self.inside.history.items) c.args.id c.index-2.result.now
found c =
    let i = c.self.inside in
    found_at i.slots c.args.id c.index.result.now (live_after i.history.items) i.pieces.items i.places.items c.index-2.result.now c.self.invariant.apart c.self.invariant.table
    (subst (λ v. is_live v.live c.args.id ≡ true) (sym c.self.view_is) c.requires) c.index.ensures c.index-2.ensures

pub returns-clause-live : goal.returns-clause-live
returns-clause-live c = subst (λ v. Contains v.live c.index-2.result.now) c.self.view_is (found c).has

pub returns-clause-id : goal.returns-clause-id
returns-clause-id c = (found c).named

pub returns-clause-apart : goal.returns-clause-apart
returns-clause-apart c = subst (λ v. AreApart v.slots v.live) c.self.view_is c.self.invariant.apart
