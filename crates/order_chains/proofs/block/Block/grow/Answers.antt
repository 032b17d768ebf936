use Rattle.std.proofs.Common.{◌≡◌, ◌+◌, ◌++◌, ◌∙◌, ap, sym, length, replicate, arith}
use Rattle.order_chains.specs.Nodes.{no_node}
use Rattle.order_chains.proofs.Filled.{full_size, filled_more, IsOf}
use Rattle.order_chains.proofs.block.Block.grow.Goals as goal

-- what stands in the places of the new block
holds : (c : goal.After-drop-self-inside) → IsOf c.fill.new.places.nodes (c.args.self.now ++ replicate c.args.more c.args.node)
holds c =
    let h = c.self.invariant in
    let n : length c.args.self.now ≡ c.self.inside.len = sym (ap length c.self.view_is) ∙ (full_size c.self.inside.places.nodes h.full ∙ h.size.0) in
    filled_more c.fill.new.places.nodes c.args.self.now c.args.more no_node c.args.node (c.fill.ensures.places.1 ∙ ap (λ k. k + c.args.more) (sym n))
    (λ k l. c.fill.ensures.kept k (omega arith) ∙ c.copy_into.ensures.copied k (omega arith))
    (λ k l m. c.fill.ensures.filled k (omega arith) (omega arith))

pub invariant_of-self : goal.invariant_of-self
invariant_of-self c =
    let h = c.self.invariant in
    let n : length c.args.self.now ≡ c.self.inside.len = sym (ap length c.self.view_is) ∙ (full_size c.self.inside.places.nodes h.full ∙ h.size.0) in
    let t = c.in_ok-places.ensures in
    record {
      right = (t.1, t.2 ∙ sym (c.fill.ensures.places.0 ∙ c.copy_into.ensures.to.0), t.3);
      size = (c.fill.ensures.places.1, omega arith);
      full = (holds c).full;
    }

pub returns-clause-ok : goal.returns-clause-ok
returns-clause-ok c = (holds c).items
