use Rattle.std.proofs.Common.{◌*◌, ◌^◌, List, Option, sym, subst}
use Rattle.std.specs.Prelude.{length, IfOk, IfSome}
use Rattle.std.proofs.lemmas.Option.{IfSome_then}
use Rattle.std.proofs.lemmas.Result.{IfOk-weaker}
use Rattle.prefix_trie.specs.declared.node.Node.{Node}
use Rattle.prefix_trie.specs.Routes.{Routes}
use Rattle.prefix_trie.specs.Changes.{routes_after}
use Rattle.prefix_trie.specs.Nested.{AreAllNested, AreFoundBefore, HaveOnce}
use Rattle.prefix_trie.specs.Trie.{IsTrie}
use Rattle.prefix_trie.proofs.Walked.{all-nested, held-once}
use Rattle.prefix_trie.proofs.PrefixTrie.nested.Goals as goal

pub nested-requires-clause-trie : goal.nested-requires-clause-trie
nested-requires-clause-trie c = subst IsTrie (sym c.deref.ensures.value) c.self.invariant.trie

pub nested-requires-clause-once : goal.nested-requires-clause-once
nested-requires-clause-once c =
    subst HaveOnce (sym c.deref.ensures.value) (held-once (routes_after (length c.self.inside.places.items) c.self.inside.history.items) c.self.inside.places.items c.self.inside.nodes.items c.self.invariant.held)

pub returns : goal.returns
returns c =
    subst (λ (r : Routes). IfOk c.nested.result (λ found. IfSome found (λ ids. AreAllNested r c.args.prefix.now ids.items))) c.self.view_is
    (IfOk-weaker c.nested.result _ _ (λ found some.
    IfSome_then found some (λ ids is.
    all-nested (routes_after (length c.self.inside.places.items) c.self.inside.history.items) c.self.inside.places.items c.self.inside.nodes.items c.self.invariant.held c.self.invariant.trie c.args.prefix.now ids.items
    (subst (λ (ns : List (Option Node)). AreFoundBefore ns c.args.prefix.now (2 ^ 128 * 256) ids.items) c.deref.ensures.value is))) c.nested.ensures)
