use Rattle.std.proofs.Common.{ℕ, List, sym, subst, length, map, ap}
use Rattle.std.specs.Prelude.{is_none, count_by}
use Rattle.order_chains.specs.declared.node.Node.{Node}
use Rattle.order_chains.specs.Pairs.{AreChains, pair_of}
use Rattle.order_chains.proofs.Grown.{no_chains}
use Rattle.order_chains.proofs.Edges.new.Goals as goal

pub invariant_of-result : goal.invariant_of-result
invariant_of-result c =
    let none = c.in_ok-nodes.ensures in
    let below = c.in_ok-below.ensures.items_if_clones_equal (λ y e. e) in
    let above = c.in_ok-above.ensures.items_if_clones_equal (λ y e. e) in (
      subst (λ (z : List Node × List ℕ × List ℕ). AreChains c.args.ids z.0 z.1 z.2 (length z.0)) (λ i. (sym none i, sym below i, sym above i)) (no_chains c.args.ids c.requires.some c.requires.most),
      ap (λ ns. count_by is_none (map (pair_of c.args.ids) ns)) none,
    )
