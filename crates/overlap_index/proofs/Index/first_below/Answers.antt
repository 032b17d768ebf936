use Rattle.std.proofs.Common.{◌≡◌, ◌∙◌, true, Some, ap, sym, subst}
use Rattle.overlap_index.specs.Changes.{live_after}
use Rattle.placement.specs.Live.{LivePieces, IsNextTold, is_above, is_live}
use Rattle.placement.proofs.Above.{live_is}
use Rattle.prefix_trie.specs.Routes.{IsNearestAround, route_of}
use Rattle.overlap_index.specs.Routed.{homes_of}
use Rattle.overlap_index.specs.Tied.{AreTied, AreTold}
use Rattle.overlap_index.proofs.Known.{route_present}
use Rattle.overlap_index.proofs.Told.{homes_told, nestable, next_told, none_told}
use Rattle.overlap_index.proofs.Index.first_below.Goals as goal

pub first_covering-requires : goal.first_covering-requires
first_covering-requires c =
    let i = c.self.inside in
    let live = live_after i.history.items in
    let told : AreTold i.slots live c.in-Told.trie = subst (AreTied i.slots live i.pieces.items) c.in-Told.is c.self.invariant.tied in
    route_present i.slots live c.in-Told.trie told.known c.args.id (subst (λ v. is_live v.live c.args.id ≡ true) (sym c.self.view_is) c.requires)

pub returns-in-Told : goal.returns-in-Told
returns-in-Told c homes is =
    let i = c.self.inside in
    let p = c.self.invariant in
    let live = live_after i.history.items in
    let routes = c.in-Told.trie in
    let all = nestable i.slots live i.pieces.items i.ties routes c.in-Told.is p.apart p.tied c.are_apart.ensures in
    let one = live_is live c.args.id (subst (λ v. is_live v.live c.args.id ≡ true) (sym c.self.view_is) c.requires) in
    let route = all.known.to one.0 one.1 in
    let has = subst (λ n. route_of routes n ≡ Some route.0) one.2 route.1 in
    let found = subst (λ b. IsNearestAround routes b c.first_covering.result) route.2 (c.first_covering.ensures route.0 has) in
    let told = next_told i.slots live routes all one.0 one.1 c.first_covering.result found in
    let same = homes_told i.ties routes homes c.in-Told.is (ap (λ (v : LivePieces). v.told) c.self.view_is ∙ is) in
    subst (λ h. IsNextTold (is_above c.args.self.now.live) h c.args.id c.first_covering.result) same (subst (λ (v : LivePieces). IsNextTold (is_above v.live) (homes_of routes) c.args.id c.first_covering.result) c.self.view_is (subst (λ n. IsNextTold (is_above live) (homes_of routes) n c.first_covering.result) one.2 told))

pub returns-in-Linked : goal.returns-in-Linked
returns-in-Linked c homes is = absurd (none_told c.self.inside.ties c.in-Linked.field-0 homes c.in-Linked.is (ap (λ (v : LivePieces). v.told) c.self.view_is ∙ is))
