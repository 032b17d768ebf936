use Rattle.std.proofs.Common.{◌≡◌, ℕ, List, ◌++◌, replicate, None, inl, inr, refl, sym, ◌∙◌, subst, arith}
use Rattle.order_chains.specs.Pairs.{Pairs}
use Rattle.placement.specs.declared.LivePiece.{LivePiece}
use Rattle.overlap_index.specs.declared.pairs.Linked.{Linked}
use Rattle.overlap_index.specs.declared.scan.Side.TheVariants.{Above, Below}
use Rattle.overlap_index.specs.Sides.{AreOn}
use Rattle.overlap_index.specs.Tied.{ArePaired}
use Rattle.overlap_index.proofs.Known.{route_absent}
use Rattle.overlap_index.proofs.Linked.{linked_roomy, not_lower, not_upper, on_others}
use Rattle.overlap_index.proofs.Paired.{paired_more, paired_roomy}
use Rattle.overlap_index.proofs.Refused.{on_err_from}
use Rattle.overlap_index.proofs.pairs.Linked.more.Goals as goal

pub overlapping-requires : goal.overlapping-requires
overlapping-requires c = c.requires

-- the pieces stay paired
abbrev Keeps : List LivePiece → Linked → Linked → Type 0
Keeps pieces old new = (ids : ℕ) (live : List LivePiece) → ArePaired ids live pieces old → ArePaired ids live pieces new

roomy : (pieces : List LivePiece) (old : Linked) (room : Pairs) → ((more : ℕ) × (room.places ≡ old.edges.places ++ replicate more None)) → room.ids ≡ old.edges.ids
    → Keeps pieces old (record { columns = old.columns; destinations = old.destinations; edges = room })
roomy pieces old room same ids slots live paired = paired_roomy slots live pieces old room same ids paired

pub returns-in_err-found-clause-refused : goal.returns-in_err-found-clause-refused
returns-in_err-found-clause-refused c =
    let kept : Keeps c.args.pieces.now c.args.self.now c.args.self.now = λ ids live paired. paired in
    on_err_from _ kept

-- with room for its links all is as before
pub returns-in_err-reserve-clause-refused : goal.returns-in_err-reserve-clause-refused
returns-in_err-reserve-clause-refused c = on_err_from _ (roomy c.args.pieces.now c.args.self.now c.reserve.new.self c.reserve.ensures.same c.reserve.ensures.ids)

pub returns-in_err-push-clause-refused : goal.returns-in_err-push-clause-refused
returns-in_err-push-clause-refused c =
    rw c.in_err-push.ensures.refused (on_err_from _ (roomy c.args.pieces.now c.args.self.now c.reserve.new.self c.reserve.ensures.same c.reserve.ensures.ids))

above_on : (c : goal.After-deref) → AreOn Above c.args.one.now c.requires.1 c.deref.result.now
above_on c = subst (AreOn Above c.args.one.now c.requires.1) (sym c.deref.ensures.value) (c.in_ok-found.ensures.above c.requires.0 c.requires.1 c.requires.2 c.requires.3)

pub link_above-requires-clause-small : goal.link_above-requires-clause-small
link_above-requires-clause-small c =
    let small = c.requires.2.small in
    let nodes = c.requires.3.nodes in
    let same = c.reserve.ensures.ids in
    omega arith

pub link_above-requires-clause-others : goal.link_above-requires-clause-others
link_above-requires-clause-others c =
    on_others Above c.args.one.now c.requires.0 c.reserve.new.self.ids c.requires.1 c.deref.result.now (above_on c) (c.reserve.ensures.ids ∙ c.requires.3.nodes) c.requires.2.apart c.requires.2.absent

pub link_above-requires-clause-once : goal.link_above-requires-clause-once
link_above-requires-clause-once c = (above_on c).once

pub link_above-requires-clause-absent : goal.link_above-requires-clause-absent
link_above-requires-clause-absent c upper _ has =
    let room = c.reserve.ensures.same in
    not_lower c.reserve.new.self c.requires.1 c.args.one.now.id upper (linked_roomy c.args.self.now.edges c.reserve.new.self c.requires.1 room.0 room.1 c.requires.3.links) c.requires.2.absent has

below_on : (c : goal.After-deref-2) → AreOn Below c.args.one.now c.requires.1 c.deref-2.result.now
below_on c = subst (AreOn Below c.args.one.now c.requires.1) (sym c.deref-2.ensures.value) (c.in_ok-found.ensures.below c.requires.0 c.requires.1 c.requires.2 c.requires.3)

pub link_below-requires-clause-small : goal.link_below-requires-clause-small
link_below-requires-clause-small c =
    let small = c.requires.2.small in
    let nodes = c.requires.3.nodes in
    let same = c.reserve.ensures.ids in
    let linked = c.link_above.ensures.ids in
    omega arith

pub link_below-requires-clause-others : goal.link_below-requires-clause-others
link_below-requires-clause-others c =
    on_others Below c.args.one.now c.requires.0 c.link_above.new.edges.ids c.requires.1 c.deref-2.result.now (below_on c)
    (c.link_above.ensures.ids ∙ (c.reserve.ensures.ids ∙ c.requires.3.nodes)) c.requires.2.apart c.requires.2.absent

pub link_below-requires-clause-once : goal.link_below-requires-clause-once
link_below-requires-clause-once c = (below_on c).once

pub link_below-requires-clause-absent : goal.link_below-requires-clause-absent
link_below-requires-clause-absent c lower among has =
    let room = c.reserve.ensures.same in
    let links = linked_roomy c.args.self.now.edges c.reserve.new.self c.requires.1 room.0 room.1 c.requires.3.links in
    elim ((c.link_above.ensures.linked c.args.one.now.id lower).0 has) [
      | inl old ↦ not_upper c.reserve.new.self c.requires.1 c.args.one.now.id lower links c.requires.2.absent old
      | inr more ↦ (on_others Below c.args.one.now c.requires.0 c.requires.0 c.requires.1 c.deref-2.result.now (below_on c) refl c.requires.2.apart c.requires.2.absent lower among).1 more.1
    ]

pub enter-requires-clause-small : goal.enter-requires-clause-small
enter-requires-clause-small c routes is =
    let small = c.requires.2.small in
    let many = (c.requires.3.known routes is).many in
    omega arith

pub enter-requires-clause-absent : goal.enter-requires-clause-absent
enter-requires-clause-absent c routes is = route_absent c.requires.0 c.requires.1 routes (c.requires.3.known routes is) c.args.one.now.id c.requires.2.absent

-- the new piece is linked to all that it overlaps
pub returns-clause-paired : goal.returns-clause-paired
returns-clause-paired c ids live coming paired =
    let one = c.args.one.now in
    let above = subst (AreOn Above one live) (sym c.deref.ensures.value) (c.in_ok-found.ensures.above ids live coming paired) in
    let below = subst (AreOn Below one live) (sym c.deref-2.ensures.value) (c.in_ok-found.ensures.below ids live coming paired) in
    paired_more ids live c.args.pieces.now c.args.places.now c.args.self.now _ c.reserve.new.self c.link_above.new.edges one c.deref.result.now c.deref-2.result.now coming above below
    c.in_ok-push.ensures.more c.reserve.ensures.same c.reserve.ensures.ids c.link_above.ensures.linked c.link_below.ensures.linked (c.link_below.ensures.ids ∙ c.link_above.ensures.ids) c.enter.ensures paired
