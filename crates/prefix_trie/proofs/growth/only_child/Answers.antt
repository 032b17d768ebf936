use Rattle.std.proofs.Common.{sym, ◌∙◌, ap}
use Rattle.std.specs.Prelude.{not}
use Rattle.prefix_trie.proofs.Onlys.{not_some, only_one, only_zero}
use Rattle.prefix_trie.proofs.growth.only_child.Goals as goal

pub returns-then-is_none : goal.returns-then-is_none
returns-then-is_none c =
    only_one c.args.node.now (sym c.get.ensures ∙ not_some c.get.result (sym c.is_some.ensures ∙ c.if-is_some.false)) (sym c.get-2.ensures ∙ not_some c.get-2.result (c.is_none.ensures ∙ ap not c.if-is_none.true))

pub returns-then-is_none-2 : goal.returns-then-is_none-2
returns-then-is_none-2 c =
    only_zero c.args.node.now (sym c.get.ensures ∙ not_some c.get.result (sym c.is_some.ensures ∙ c.if-is_some.false)) (sym c.get-3.ensures ∙ not_some c.get-3.result (c.is_none-2.ensures ∙ ap not c.if-is_none-2.true))
