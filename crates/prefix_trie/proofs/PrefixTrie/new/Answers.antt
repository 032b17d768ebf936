use Rattle.std.proofs.Common.{◌≡◌, List, [], ◌∷◌, ◌++◌, Option, Some, None, replicate, arith, ◌∙◌, ap}
use Rattle.std.proofs.lemmas.List.{length-replicate}
use Rattle.std.proofs.lemmas.Grind.{common_steps}
use Rattle.prefix_trie.specs.declared.node.Node.{Node}
use Rattle.prefix_trie.proofs.Begun.{first_node, parts-begun}
use Rattle.prefix_trie.proofs.PrefixTrie.new.Goals as goal

pub invariant_of-result : goal.invariant_of-result
invariant_of-result c =
    let places : c.in_ok-places.places.items ≡ replicate c.args.ids None = grind (arith, common_steps) in
    let nodes : c.push.new.self.items ≡ Some first_node ∷ [] = c.in_ok-push.ensures.items
    ∙ (ap (λ (ns : List (Option Node)). ns ++ c.of.result ∷ []) c.in_ok-nodes.ensures.items ∙ ap (λ (o : Option Node). o ∷ []) (c.of.ensures ∙ ap (λ (n : Node). Some n) c.empty.ensures)) in
    rw (places, nodes, c.new-2.ensures, length-replicate) (parts-begun c.args.ids (omega arith))
