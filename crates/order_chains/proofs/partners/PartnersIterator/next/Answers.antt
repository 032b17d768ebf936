use Rattle.std.proofs.Common.{◌≡◌, ◌∷◌, length, sym, ap, ◌∙◌, subst, arith}
use Rattle.order_chains.specs.Chains.{link_of, next_at}
use Rattle.order_chains.specs.Nodes.{node_at}
use Rattle.order_chains.specs.Partners.{other_end, along, IsOnList}
use Rattle.order_chains.proofs.Along.{step}
use Rattle.order_chains.proofs.partners.PartnersIterator.next.Goals as goal

pub load-node-requires : goal.load-node-requires
load-node-requires c = (step c.self.inside.side c.self.inside.nodes.now c.self.inside.at c.if-self.false c.self.invariant).here

pub invariant_of-self : goal.invariant_of-self
invariant_of-self c =
    let side = c.self.inside.side in
    let ns = c.self.inside.nodes.now in
    let at = c.self.inside.at in
    let next : c.link_of.result.next ≡ next_at side ns at = ap (λ l. l.next) (c.link_of.ensures ∙ ap (link_of side) c.load-node.ensures) in
    subst (IsOnList side ns) (sym next) (step side ns at c.if-self.false c.self.invariant).rest

-- what was left is the partner that is given, and what is left
pub returns-clause-steps : goal.returns-clause-steps
returns-clause-steps c =
    let side = c.self.inside.side in
    let ns = c.self.inside.nodes.now in
    let at = c.self.inside.at in
    let next : c.link_of.result.next ≡ next_at side ns at = ap (λ l. l.next) (c.link_of.ensures ∙ ap (link_of side) c.load-node.ensures) in
    let other : c.other_end.result ≡ other_end side (node_at ns at) = c.other_end.ensures ∙ ap (other_end side) c.load-node.ensures in
    sym c.self.view_is ∙ (step side ns at c.if-self.false c.self.invariant).all ∙ ap (λ x. x ∷ along side ns (length ns) (next_at side ns at)) (sym other)
    ∙ ap (λ p. c.other_end.result ∷ along side ns (length ns) p) (sym next)

pub returns-clause-goes : goal.returns-clause-goes
returns-clause-goes c =
    let less = ap length (returns-clause-steps c) in
    record { on = λ f. (tt, tt, omega arith); keeps = tt; rests = λ f. tt }
