use Rattle.std.proofs.Common.{List, Option, sym, subst}
use Rattle.std.specs.Prelude.{length, MatchOption}
use Rattle.prefix_trie.specs.declared.node.Node.{Node}
use Rattle.prefix_trie.specs.Routes.{Routes, IsNew, HasPrefix}
use Rattle.prefix_trie.specs.Changes.{routes_after}
use Rattle.prefix_trie.specs.Trie.{IsTrie, IsIdOf}
use Rattle.prefix_trie.proofs.Walked.{id-of-routes}
use Rattle.prefix_trie.proofs.PrefixTrie.id_of.Goals as goal

pub id_of-requires : goal.id_of-requires
id_of-requires c = subst IsTrie (sym c.deref.ensures.value) c.self.invariant.trie

pub returns : goal.returns
returns c =
    subst (λ (r : Routes). MatchOption c.id_of.result (IsNew r c.args.prefix.now) (HasPrefix r c.args.prefix.now)) c.self.view_is
    (id-of-routes (routes_after (length c.self.inside.places.items) c.self.inside.history.items) c.self.inside.places.items c.self.inside.nodes.items c.self.invariant.held c.args.prefix.now c.id_of.result
    (subst (λ (ns : List (Option Node)). IsIdOf ns c.args.prefix.now c.id_of.result) c.deref.ensures.value c.id_of.ensures))
