use Rattle.std.proofs.Common.{◌≡◌, subst, sym, arith, map, Some}
use Rattle.std.proofs.lemmas.List.{length-map}
use Rattle.order_chains.specs.Pairs.{pair_of, held}
use Rattle.order_chains.proofs.Held.{not_all_empty}
use Rattle.order_chains.proofs.Edges.give_up.Goals as goal

pub overflow_add-self : goal.overflow_add-self
overflow_add-self c =
    let i = c.self.inside in
    let h = subst (λ z. held z c.args.at ≡ Some c.requires.0) (sym c.self.view_is) c.requires.1 in
    let l = not_all_empty (map (pair_of i.ids) i.nodes) c.args.at c.requires.0 h in
    let m = length-map i.nodes (pair_of i.ids) in
    let s = c.self.invariant.0.size.2 in
    let e = c.self.invariant.1 in
    omega arith
