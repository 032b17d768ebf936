use Rattle.std.proofs.Common.{◌≡◌, ◌<◌, ◌≤◌, ◌+◌, ◌++◌, ◌∙◌, ℕ, List, sym, subst, length, replicate, map, ap, arith, None}
use Rattle.std.specs.Prelude.{is_none, count_by}
use Rattle.order_chains.specs.declared.node.Node.{Node}
use Rattle.order_chains.specs.Pairs.{AreChains, pair_of, upper_at}
use Rattle.order_chains.proofs.Places.{count_more}
use Rattle.order_chains.proofs.Grown.{grown_at, grown_upper, grown_pairs, items_of}
use Rattle.order_chains.proofs.Edges.reserve.Goals as goal

pub free_all-requires-clause-chains : goal.free_all-requires-clause-chains
free_all-requires-clause-chains c =
    let i = c.self.inside in
    let u = c.free_node.ensures in
    let from = c.len-from.ensures in
    let g = c.growth-more.ensures.1 in
    (i.above.items, grown_at i.ids i.nodes c.growth-more.result c.free_node.result u.0 u.1 i.below.items i.above.items c.self.invariant.0 (omega arith) _ _ _ c.in_ok-grow.ensures.ok c.as_mut_slice.ensures.value from)

pub free_all-requires-clause-free : goal.free_all-requires-clause-free
free_all-requires-clause-free c =
    let i = c.self.inside in
    let u = c.free_node.ensures in
    subst (λ (z : List Node). (p : ℕ) → c.len-from.result ≤ p → p < length z → upper_at z p ≡ i.ids) (sym c.in_ok-grow.ensures.ok)
    (λ p l m. grown_upper i.ids i.nodes c.growth-more.result c.free_node.result u.0 u.1 p (subst (λ z. z ≤ p) c.len-from.ensures l) m)

-- what the places hold then
held : (c : goal.After-self-2-1) → map (pair_of c.self.inside.ids) c.free_all.new.block ≡ map (pair_of c.self.inside.ids) c.self.inside.nodes ++ replicate c.growth-more.result None
held c =
    let i = c.self.inside in
    let u = c.free_node.ensures in
    c.free_all.ensures.pairs ∙ (ap (map (pair_of i.ids)) c.in_ok-grow.ensures.ok ∙ grown_pairs i.ids i.nodes c.growth-more.result c.free_node.result u.0 u.1)

count : (c : goal.After-self-2-1) → count_by is_none (map (pair_of c.self.inside.ids) c.free_all.new.block) ≡ c.self.inside.spare + c.growth-more.result
count c = ap (count_by is_none) (held c) ∙ (count_more (map (pair_of c.self.inside.ids) c.self.inside.nodes) c.growth-more.result ∙ ap (λ k. k + c.growth-more.result) c.self.invariant.1)

pub invariant_of-self-2 : goal.invariant_of-self-2
invariant_of-self-2 c =
    let i = c.self.inside in
    let u = c.free_node.ensures in
    let from = c.len-from.ensures in
    let below = c.as_mut_slice.ensures.value in
    let g = c.growth-more.ensures.1 in
    let r = c.free_all.ensures.chains i.above.items
    (grown_at i.ids i.nodes c.growth-more.result c.free_node.result u.0 u.1 i.below.items i.above.items c.self.invariant.0 (omega arith) _ _ _ c.in_ok-grow.ensures.ok below from) in
    let size : length c.free_all.new.below ≡ i.below.len = r.heads.0 ∙ (sym c.self.invariant.0.heads.0 ∙ (sym (ap length below) ∙ c.as_mut_slice.ensures.len)) in
    (subst (λ z. AreChains i.ids c.free_all.new.block z i.above.items (length c.free_all.new.block)) (sym (items_of c.free_all.new.below i.below.items i.below.len size)) r, count c)

pub returns-clause-room : goal.returns-clause-room
returns-clause-room c =
    let n = count c in
    let g = c.growth-more.ensures.0 in
    let r : c.args.n ≤ count_by is_none (map (pair_of c.self.inside.ids) c.free_all.new.block) = omega arith in
    r

pub returns-clause-same : goal.returns-clause-same
returns-clause-same c = (c.growth-more.result, held c ∙ ap (λ z. z.places ++ replicate c.growth-more.result None) c.self.view_is)
