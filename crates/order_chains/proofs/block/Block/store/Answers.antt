use Rattle.std.proofs.Common.{◌∙◌, ap, sym, subst, length, length-set, set}
use Rattle.order_chains.specs.Whole.{somes}
use Rattle.order_chains.proofs.Filled.{full_set, IsOf}
use Rattle.order_chains.proofs.block.Block.store.Goals as goal

pub invariant_of-self : goal.invariant_of-self
invariant_of-self c =
    let h = c.self.invariant in
    let e = c.put.ensures.1 in
    let f = full_set c.self.inside.places.nodes c.args.at c.args.node h.full in
    record {
      right = (h.right.0, h.right.1 ∙ sym c.put.ensures.0, h.right.2);
      size = (ap length e ∙ (length-set _ _ _ ∙ h.size.0), h.size.1);
      full = (subst (λ z. IsOf z (set (somes c.self.inside.places.nodes) c.args.at c.args.node)) (sym e) f).full;
    }

pub returns : goal.returns
returns c =
    let f = full_set c.self.inside.places.nodes c.args.at c.args.node c.self.invariant.full in
    ap somes c.put.ensures.1 ∙ (f.items ∙ ap (λ z. set z c.args.at c.args.node) c.self.view_is)
