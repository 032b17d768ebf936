use Rattle.std.proofs.Common.{◌≡◌, ◌<◌, true, subst, sym}
use Rattle.overlap_index.specs.Changes.{live_after}
use Rattle.placement.specs.Live.{AreApart, is_live}
use Rattle.overlap_index.specs.Linked.{AreLinked}
use Rattle.overlap_index.specs.Tied.{ArePaired, AreTied}
use Rattle.overlap_index.proofs.Linked.{linked_above, live_small}
use Rattle.overlap_index.proofs.Index.above.Goals as goal

pub above-requires : goal.above-requires
above-requires c =
    let i = c.self.inside in
    let live = live_after i.history.items in
    let paired : ArePaired i.slots live i.pieces.items c.in-Linked.linked = subst (AreTied i.slots live i.pieces.items) c.in-Linked.is c.self.invariant.tied in
    let small = live_small i.slots live c.args.id c.self.invariant.apart (subst (λ v. is_live v.live c.args.id ≡ true) (sym c.self.view_is) c.requires) in
    subst (λ n. c.args.id < n) (sym paired.nodes) small

pub returns-in-Linked-clause-exact : goal.returns-in-Linked-clause-exact
returns-in-Linked-clause-exact c =
    let i = c.self.inside in
    let paired : ArePaired i.slots (live_after i.history.items) i.pieces.items c.in-Linked.linked = subst (AreTied i.slots (live_after i.history.items) i.pieces.items) c.in-Linked.is c.self.invariant.tied in
    linked_above c.in-Linked.linked.edges c.args.self.now.live c.args.id c.above.result (subst (λ v. AreLinked c.in-Linked.linked.edges v.live) c.self.view_is paired.links) c.above.ensures.exact

pub returns-in-Linked-clause-apart : goal.returns-in-Linked-clause-apart
returns-in-Linked-clause-apart c = subst (λ v. AreApart v.slots v.live) c.self.view_is c.self.invariant.apart
