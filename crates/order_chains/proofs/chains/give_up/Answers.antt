use Rattle.std.proofs.Common.{◌≡◌, ◌≢◌, ◌<◌, ℕ, List, sym, subst, length, get_or, set, map, None, ap, ◌∙◌}
use Rattle.order_chains.specs.declared.node.Node.{Node}
use Rattle.order_chains.specs.declared.chains.Side.TheVariants.{Below, Above}
use Rattle.order_chains.specs.Chains.{nil, next_at, back_at, pushed, unlinked, heads_unlinked}
use Rattle.order_chains.specs.Pairs.{AreChains, pair_of, with_ends}
use Rattle.order_chains.proofs.GivenUp.{HasNeighbours, beside_down, beside_up, first_free, chains_given_up, is_given_up}
use Rattle.order_chains.proofs.chains.give_up.Goals as goal

pub unlink-requires-clause-next : goal.unlink-requires-clause-next
unlink-requires-clause-next c = (beside_down c.args.ids c.args.block.now c.args.below.now c.args.above.now c.requires.chains c.args.at c.requires.inside c.requires.taken).0

pub unlink-requires-clause-back : goal.unlink-requires-clause-back
unlink-requires-clause-back c = (beside_down c.args.ids c.args.block.now c.args.below.now c.args.above.now c.requires.chains c.args.at c.requires.inside c.requires.taken).1

pub unlink-requires-2-clause-next : goal.unlink-requires-2-clause-next
unlink-requires-2-clause-next c =
    let at = c.args.at in
    let r = beside_up c.args.ids c.args.block.now c.args.below.now c.args.above.now c.requires.chains at c.requires.inside c.requires.taken in
    (subst (λ z. HasNeighbours (next_at Above z) (back_at Above z) (length z) at) (sym c.unlink.ensures.nodes) r).0

pub unlink-requires-2-clause-back : goal.unlink-requires-2-clause-back
unlink-requires-2-clause-back c =
    let at = c.args.at in
    let r = beside_up c.args.ids c.args.block.now c.args.below.now c.args.above.now c.requires.chains at c.requires.inside c.requires.taken in
    (subst (λ z. HasNeighbours (next_at Above z) (back_at Above z) (length z) at) (sym c.unlink.ensures.nodes) r).1

pub push-requires-clause-first : goal.push-requires-clause-first
push-requires-clause-first c =
    let at = c.args.at in
    let r = first_free c.args.ids c.args.block.now c.args.below.now c.args.above.now c.requires.chains at c.requires.inside c.requires.taken in
    let downs = c.unlink.ensures.heads ∙ ap (λ (n : Node). heads_unlinked Below c.args.block.now c.args.below.now n.upper at) c.load-node.ensures in
    let second = c.unlink-2.ensures.nodes ∙ ap (λ z. unlinked Above z at) c.unlink.ensures.nodes in
    let third = c.set_ends.ensures ∙ ap (λ z. with_ends z at c.args.ids c.args.ids) second in
    subst (λ (z : List ℕ × List Node). get_or z.0 c.args.ids nil ≢ nil → get_or z.0 c.args.ids nil < length z.1) (λ i. (sym downs i, sym third i)) r.2

pub returns-clause-chains : goal.returns-clause-chains
returns-clause-chains c =
    let at = c.args.at in
    let r = chains_given_up c.args.ids c.args.block.now c.args.below.now c.args.above.now c.requires.chains at c.requires.inside c.requires.taken in
    let downs = c.unlink.ensures.heads ∙ ap (λ (n : Node). heads_unlinked Below c.args.block.now c.args.below.now n.upper at) c.load-node.ensures in
    let ups = c.unlink-2.ensures.heads ∙ (λ i. heads_unlinked Above (c.unlink.ensures.nodes i) c.args.above.now (c.load-node.ensures i).lower at) in
    let second = c.unlink-2.ensures.nodes ∙ ap (λ z. unlinked Above z at) c.unlink.ensures.nodes in
    let third = c.set_ends.ensures ∙ ap (λ z. with_ends z at c.args.ids c.args.ids) second in
    let last = c.push.ensures.nodes ∙ (λ i. pushed Below (third i) at (get_or (downs i) c.args.ids nil)) in
    let heads = c.push.ensures.heads ∙ ap (λ z. set z c.args.ids at) downs in
    subst (λ (z : List Node × List ℕ × List ℕ). AreChains c.args.ids z.0 z.1 z.2 (length z.0)) (λ i. (sym last i, sym heads i, sym ups i)) r

pub returns-clause-gone : goal.returns-clause-gone
returns-clause-gone c =
    let at = c.args.at in
    let r = is_given_up c.args.ids c.args.block.now c.args.below.now c.args.above.now c.requires.chains at c.requires.inside c.requires.taken in
    let downs = c.unlink.ensures.heads ∙ ap (λ (n : Node). heads_unlinked Below c.args.block.now c.args.below.now n.upper at) c.load-node.ensures in
    let second = c.unlink-2.ensures.nodes ∙ ap (λ z. unlinked Above z at) c.unlink.ensures.nodes in
    let third = c.set_ends.ensures ∙ ap (λ z. with_ends z at c.args.ids c.args.ids) second in
    let last = c.push.ensures.nodes ∙ (λ i. pushed Below (third i) at (get_or (downs i) c.args.ids nil)) in
    subst (λ z. map (pair_of c.args.ids) z ≡ set (map (pair_of c.args.ids) c.args.block.now) at None) (sym last) r
