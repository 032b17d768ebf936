use Rattle.std.proofs.Common.{sym, subst, ◌∙◌, ap}
use Rattle.std.specs.Prelude.{is_some}
use Rattle.rule_model.specs.AddressBlock.{AddressBlock}
use Rattle.prefix_trie.specs.Trie.{IsDeepest}
use Rattle.prefix_trie.proofs.Ways.{deep_found, deep_above}
use Rattle.prefix_trie.proofs.search.best.Goals as goal

pub node_at-requires : goal.node_at-requires
node_at-requires c = ap is_some c.deepest-at.ensures.is

pub returns-in-Some : goal.returns-in-Some
returns-in-Some c =
    deep_found c.args.nodes.now c.args.address c.deepest-at.result c.in-Some.id c.node_at.result c.requires
    (subst (λ (b : AddressBlock). IsDeepest c.args.nodes.now b c.deepest-at.result) c.whole-key.ensures c.deepest-at.ensures) c.node_at.ensures (sym c.get.ensures ∙ c.in-Some.is)

pub returns-in-None : goal.returns-in-None
returns-in-None c =
    deep_above c.args.nodes.now c.args.address c.deepest-at.result c.node_at.result c.nearest.result c.requires
    (subst (λ (b : AddressBlock). IsDeepest c.args.nodes.now b c.deepest-at.result) c.whole-key.ensures c.deepest-at.ensures) c.node_at.ensures (sym c.get.ensures ∙ c.in-None.is)
    (c.nearest.ensures c.node_at.result c.node_at.ensures)
