use Rattle.std.proofs.Common.{List, Option, sym, subst}
use Rattle.std.specs.Prelude.{length}
use Rattle.prefix_trie.specs.declared.node.Node.{Node}
use Rattle.prefix_trie.specs.Routes.{Routes, IsAnswer}
use Rattle.prefix_trie.specs.Changes.{routes_after}
use Rattle.prefix_trie.specs.Trie.{IsTrie, IsHolder}
use Rattle.prefix_trie.proofs.Parts.{best-routes}
use Rattle.prefix_trie.proofs.PrefixTrie.best.Goals as goal

pub best-requires : goal.best-requires
best-requires c = subst IsTrie (sym c.deref.ensures.value) c.self.invariant.trie

pub returns : goal.returns
returns c =
    subst (λ (r : Routes). IsAnswer r c.args.address c.best.result) c.self.view_is
    (best-routes (routes_after (length c.self.inside.places.items) c.self.inside.history.items) c.self.inside.places.items c.self.inside.nodes.items c.self.invariant.held c.args.address c.best.result
    (subst (λ (ns : List (Option Node)). IsHolder ns c.args.address c.best.result) c.deref.ensures.value c.best.ensures))
