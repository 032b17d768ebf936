use Rattle.std.proofs.Common.{◌≡◌, ◌<◌, ℕ, Some, not, eqb, sym, subst}
use Rattle.std.specs.Prelude.{IfSome, IfNone}
use Rattle.std.specs.Bool.{then_some}
use Rattle.order_chains.specs.Chains.{nil}
use Rattle.order_chains.specs.Pairs.{held}
use Rattle.order_chains.proofs.Firsts.{first_lower, none_lower}
use Rattle.order_chains.proofs.Edges.first_above.Goals as goal

pub returns-clause-first : goal.returns-clause-first
returns-clause-first c =
    let i = c.self.inside in
    let at = c.index-at.result.now in
    let small = subst (λ z. c.args.id < z.ids) (sym c.self.view_is) c.requires in
    let r = first_lower i.ids i.nodes i.below.items i.above.items c.self.invariant.0 c.args.id at small c.index-at.ensures in
    subst (λ z. IfSome z (λ p. (upper : ℕ) × (held c.args.self.now p ≡ Some (upper, c.args.id)))) (sym c.then_some.ensures)
    (subst (λ z. IfSome (then_some (not (eqb at nil)) at) (λ p. (upper : ℕ) × (held z p ≡ Some (upper, c.args.id)))) c.self.view_is r)

pub returns-clause-none : goal.returns-clause-none
returns-clause-none c =
    let i = c.self.inside in
    let at = c.index-at.result.now in
    let small = subst (λ z. c.args.id < z.ids) (sym c.self.view_is) c.requires in
    let r = none_lower i.ids i.nodes i.below.items i.above.items c.self.invariant.0 c.args.id at small c.index-at.ensures in
    subst (λ z. IfNone z ((k upper : ℕ) → held c.args.self.now k ≡ Some (upper, c.args.id) → ⊥)) (sym c.then_some.ensures)
    (subst (λ z. IfNone (then_some (not (eqb at nil)) at) ((k upper : ℕ) → held z k ≡ Some (upper, c.args.id) → ⊥)) c.self.view_is r)
