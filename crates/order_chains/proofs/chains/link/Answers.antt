use Rattle.std.proofs.Common.{◌≢◌, ◌<◌, ℕ, List, sym, subst, length, get_or, set, map, ap, ◌∙◌, arith}
use Rattle.order_chains.specs.declared.node.Node.{Node}
use Rattle.order_chains.specs.declared.chains.Side.TheVariants.{Below, Above}
use Rattle.order_chains.specs.Chains.{nil, pushed}
use Rattle.order_chains.specs.Pairs.{AreChains, IsLinked, pair_of, with_ends}
use Rattle.order_chains.proofs.Linked.{first_read, first_links, first_down, first_up, chains_linked, is_linked}
use Rattle.order_chains.proofs.Written.{unlinked_length}
use Rattle.order_chains.proofs.chains.link.Goals as goal

pub unlink-requires-clause-inside : goal.unlink-requires-clause-inside
unlink-requires-clause-inside c =
    let a = c.requires.chains in
    let h = a.heads.0 in
    ((first_read c.args.ids c.args.block.now c.args.below.now c.args.above.now a c.requires.room).inside, omega arith)

pub unlink-requires-clause-next : goal.unlink-requires-clause-next
unlink-requires-clause-next c =
    let a = c.requires.chains in
    (first_links c.args.ids c.args.block.now c.args.below.now c.args.above.now a _ (first_read c.args.ids c.args.block.now c.args.below.now c.args.above.now a c.requires.room)).0

pub unlink-requires-clause-back : goal.unlink-requires-clause-back
unlink-requires-clause-back c =
    let a = c.requires.chains in
    (first_links c.args.ids c.args.block.now c.args.below.now c.args.above.now a _ (first_read c.args.ids c.args.block.now c.args.below.now c.args.above.now a c.requires.room)).1

pub set_ends-requires : goal.set_ends-requires
set_ends-requires c =
    let a = c.requires.chains in
    let f = first_read c.args.ids c.args.block.now c.args.below.now c.args.above.now a c.requires.room in
    let e = c.requires.ends in
    subst (λ z. get_or c.args.below.now c.args.ids 0 < length z) (sym c.unlink.ensures.nodes)
    (subst (λ z. get_or c.args.below.now c.args.ids 0 < z) (sym (unlinked_length Below c.args.block.now (get_or c.args.below.now c.args.ids 0))) f.inside)

pub push-requires-clause-inside : goal.push-requires-clause-inside
push-requires-clause-inside c =
    let a = c.requires.chains in
    let f = first_read c.args.ids c.args.block.now c.args.below.now c.args.above.now a c.requires.room in
    let e = c.requires.ends in
    let at = get_or c.args.below.now c.args.ids 0 in
    let d = first_down c.args.ids c.args.block.now c.args.below.now c.args.above.now a c.args.upper c.args.lower at f e.0 e.1 e.2 c.requires.absent in
    let second = c.set_ends.ensures ∙ ap (λ z. with_ends z at c.args.upper c.args.lower) c.unlink.ensures.nodes in
    (subst (λ z. at < length z) (sym second) d.0, subst (λ z. c.args.upper < length z) (sym c.unlink.ensures.heads) d.1)

pub push-requires-clause-first : goal.push-requires-clause-first
push-requires-clause-first c =
    let a = c.requires.chains in
    let f = first_read c.args.ids c.args.block.now c.args.below.now c.args.above.now a c.requires.room in
    let e = c.requires.ends in
    let at = get_or c.args.below.now c.args.ids 0 in
    let d = first_down c.args.ids c.args.block.now c.args.below.now c.args.above.now a c.args.upper c.args.lower at f e.0 e.1 e.2 c.requires.absent in
    let second = c.set_ends.ensures ∙ ap (λ z. with_ends z at c.args.upper c.args.lower) c.unlink.ensures.nodes in
    subst (λ (z : List ℕ × List Node). get_or z.0 c.args.upper nil ≢ nil → get_or z.0 c.args.upper nil < length z.1) (λ i. (sym c.unlink.ensures.heads i, sym second i)) d.2

-- what the last push finds, and what it leaves
pub push-requires-2-clause-inside : goal.push-requires-2-clause-inside
push-requires-2-clause-inside c =
    let a = c.requires.chains in
    let f = first_read c.args.ids c.args.block.now c.args.below.now c.args.above.now a c.requires.room in
    let e = c.requires.ends in
    let at = get_or c.args.below.now c.args.ids 0 in
    let u = first_up c.args.ids c.args.block.now c.args.below.now c.args.above.now a c.args.upper c.args.lower at f e.0 e.1 e.2 c.requires.absent in
    let second = c.set_ends.ensures ∙ ap (λ z. with_ends z at c.args.upper c.args.lower) c.unlink.ensures.nodes in
    let third = c.push.ensures.nodes ∙ (λ i. pushed Below (second i) at (get_or (c.unlink.ensures.heads i) c.args.upper nil)) in
    (subst (λ z. at < length z) (sym third) u.0, u.1)

pub push-requires-2-clause-first : goal.push-requires-2-clause-first
push-requires-2-clause-first c =
    let a = c.requires.chains in
    let f = first_read c.args.ids c.args.block.now c.args.below.now c.args.above.now a c.requires.room in
    let e = c.requires.ends in
    let at = get_or c.args.below.now c.args.ids 0 in
    let u = first_up c.args.ids c.args.block.now c.args.below.now c.args.above.now a c.args.upper c.args.lower at f e.0 e.1 e.2 c.requires.absent in
    let second = c.set_ends.ensures ∙ ap (λ z. with_ends z at c.args.upper c.args.lower) c.unlink.ensures.nodes in
    let third = c.push.ensures.nodes ∙ (λ i. pushed Below (second i) at (get_or (c.unlink.ensures.heads i) c.args.upper nil)) in
    subst (λ z. get_or c.args.above.now c.args.lower nil ≢ nil → get_or c.args.above.now c.args.lower nil < length z) (sym third) u.2

pub returns-clause-chains : goal.returns-clause-chains
returns-clause-chains c =
    let a = c.requires.chains in
    let f = first_read c.args.ids c.args.block.now c.args.below.now c.args.above.now a c.requires.room in
    let e = c.requires.ends in
    let at = get_or c.args.below.now c.args.ids 0 in
    let r = chains_linked c.args.ids c.args.block.now c.args.below.now c.args.above.now a c.args.upper c.args.lower at f e.0 e.1 e.2 c.requires.absent in
    let second = c.set_ends.ensures ∙ ap (λ z. with_ends z at c.args.upper c.args.lower) c.unlink.ensures.nodes in
    let third = c.push.ensures.nodes ∙ (λ i. pushed Below (second i) at (get_or (c.unlink.ensures.heads i) c.args.upper nil)) in
    let last = c.push-2.ensures.nodes ∙ ap (λ z. pushed Above z at (get_or c.args.above.now c.args.lower nil)) third in
    let downs = c.push.ensures.heads ∙ ap (λ z. set z c.args.upper at) c.unlink.ensures.heads in
    subst (λ (z : List Node × List ℕ × List ℕ). AreChains c.args.ids z.0 z.1 z.2 (length z.0)) (λ i. (sym last i, sym downs i, sym c.push-2.ensures.heads i)) r

pub returns-clause-linked : goal.returns-clause-linked
returns-clause-linked c =
    let a = c.requires.chains in
    let f = first_read c.args.ids c.args.block.now c.args.below.now c.args.above.now a c.requires.room in
    let e = c.requires.ends in
    let at = get_or c.args.below.now c.args.ids 0 in
    let r = is_linked c.args.ids c.args.block.now c.args.below.now c.args.above.now a c.args.upper c.args.lower at f e.0 e.1 e.2 c.requires.absent in
    let second = c.set_ends.ensures ∙ ap (λ z. with_ends z at c.args.upper c.args.lower) c.unlink.ensures.nodes in
    let third = c.push.ensures.nodes ∙ (λ i. pushed Below (second i) at (get_or (c.unlink.ensures.heads i) c.args.upper nil)) in
    let last = c.push-2.ensures.nodes ∙ ap (λ z. pushed Above z at (get_or c.args.above.now c.args.lower nil)) third in
    subst (λ z. IsLinked (map (pair_of c.args.ids) c.args.block.now) (map (pair_of c.args.ids) z) (c.args.upper, c.args.lower)) (sym last) r
