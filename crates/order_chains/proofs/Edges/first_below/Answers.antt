use Rattle.std.proofs.Common.{◌≡◌, ◌<◌, ℕ, Some, not, eqb, sym, subst}
use Rattle.std.specs.Prelude.{IfSome, IfNone}
use Rattle.std.specs.Bool.{then_some}
use Rattle.order_chains.specs.Chains.{nil}
use Rattle.order_chains.specs.Pairs.{held}
use Rattle.order_chains.proofs.Firsts.{first_upper, none_upper}
use Rattle.order_chains.proofs.Edges.first_below.Goals as goal

pub returns-clause-first : goal.returns-clause-first
returns-clause-first c =
    let i = c.self.inside in
    let at = c.index-at.result.now in
    let small = subst (λ z. c.args.id < z.ids) (sym c.self.view_is) c.requires in
    let r = first_upper i.ids i.nodes i.below.items i.above.items c.self.invariant.0 c.args.id at small c.index-at.ensures in
    subst (λ z. IfSome z (λ p. (lower : ℕ) × (held c.args.self.now p ≡ Some (c.args.id, lower)))) (sym c.then_some.ensures)
    (subst (λ z. IfSome (then_some (not (eqb at nil)) at) (λ p. (lower : ℕ) × (held z p ≡ Some (c.args.id, lower)))) c.self.view_is r)

pub returns-clause-none : goal.returns-clause-none
returns-clause-none c =
    let i = c.self.inside in
    let at = c.index-at.result.now in
    let small = subst (λ z. c.args.id < z.ids) (sym c.self.view_is) c.requires in
    let r = none_upper i.ids i.nodes i.below.items i.above.items c.self.invariant.0 c.args.id at small c.index-at.ensures in
    subst (λ z. IfNone z ((k lower : ℕ) → held c.args.self.now k ≡ Some (c.args.id, lower) → ⊥)) (sym c.then_some.ensures)
    (subst (λ z. IfNone (then_some (not (eqb at nil)) at) ((k lower : ℕ) → held z k ≡ Some (c.args.id, lower) → ⊥)) c.self.view_is r)
