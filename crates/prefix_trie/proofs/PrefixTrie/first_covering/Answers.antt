use Rattle.std.proofs.Common.{◌≡◌, true, Some, sym, ◌∙◌, subst}
use Rattle.std.specs.Prelude.{is_some, length}
use Rattle.prefix_trie.specs.Routes.{Routes, route_of, IsNearestAround}
use Rattle.prefix_trie.specs.Changes.{routes_after}
use Rattle.prefix_trie.proofs.Parts.{read_some, read_none, near_of}
use Rattle.prefix_trie.proofs.PrefixTrie.first_covering.Goals as goal

pub returns-in-None : goal.returns-in-None
returns-in-None c x x_is = absurd (read_none (routes_after (length c.self.inside.places.items) c.self.inside.history.items) c.self.inside.places.items c.self.inside.nodes.items c.self.invariant.held c.args.id c.index.result.now c.index.ensures (sym c.get.ensures ∙ c.in-None.is)
    (subst (λ (r : Routes). is_some (route_of r c.args.id) ≡ true) (sym c.self.view_is) c.requires))

pub returns-in-Some : goal.returns-in-Some
returns-in-Some c x x_is =
    subst (λ (r : Routes). IsNearestAround r x.block c.nearest.result) c.self.view_is
    (near_of (routes_after (length c.self.inside.places.items) c.self.inside.history.items) c.self.inside.places.items c.self.inside.nodes.items c.deref.result.now c.deref.ensures.value c.self.invariant.held c.args.id c.in-Some.at c.index.result.now c.index.ensures (sym c.get.ensures ∙ c.in-Some.is)
    x (subst (λ (r : Routes). route_of r c.args.id ≡ Some x) (sym c.self.view_is) x_is) c.nearest.result c.nearest.ensures)

pub nearest-requires-clause-here : goal.nearest-requires-clause-here
nearest-requires-clause-here c =
    read_some (routes_after (length c.self.inside.places.items) c.self.inside.history.items) c.self.inside.places.items c.self.inside.nodes.items c.deref.result.now c.deref.ensures.value c.self.invariant.held c.args.id c.in-Some.at c.index.result.now c.index.ensures (sym c.get.ensures ∙ c.in-Some.is)
    (subst (λ (r : Routes). is_some (route_of r c.args.id) ≡ true) (sym c.self.view_is) c.requires)
