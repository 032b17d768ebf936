use Rattle.std.proofs.Common.{◌≡◌, ◌+◌, ◌<◌, ◌∙◌, ℕ, List, length, sym, ap, subst, arith}
use Rattle.order_chains.specs.declared.node.Node.{Node}
use Rattle.order_chains.specs.declared.chains.Side.TheVariants.{Below}
use Rattle.order_chains.specs.Pairs.{AreChains, upper_at, lower_at}
use Rattle.order_chains.proofs.Freed.{free_first, freed, pushed_upper, pushed_lower, within}
use Rattle.order_chains.proofs.Places.{none_changed}
use Rattle.order_chains.proofs.Written.{pushed_length}
use Rattle.order_chains.proofs.chains.free_all.Goals as goal

pub push-requires-clause-first : goal.push-requires-clause-first
push-requires-clause-first c =
    let a = c.loop-at.invariant.chains c.requires.chains.0 c.requires.chains.1 in
    free_first c.args.ids c.loop-at.block c.loop-at.below c.requires.chains.0 c.loop-at.at a (let t = c.loop-at-test.true in let e = c.len-at-end.ensures in let s = c.loop-at.invariant.size in omega arith)

pub loop-at-preserved : goal.loop-at-preserved
loop-at-preserved c =
    let i = c.loop-at.invariant in
    let at = c.loop-at.at in
    let r = c.loop-at.auto.at in
    let inside : at < length c.loop-at.block = (let t = c.loop-at-test.true in let e = c.len-at-end.ensures in let s = i.size in omega arith) in
    let free : upper_at c.loop-at.block at ≡ c.args.ids = i.uppers at ∙ c.requires.free at (omega arith) (let s = i.size in omega arith) in
    let nodes = c.push.ensures.nodes in
    let heads = c.push.ensures.heads in
    record {
      size = ap length nodes ∙ (pushed_length Below c.loop-at.block at _ ∙ i.size);
      uppers = λ k. ap (λ z. upper_at z k) nodes ∙ (pushed_upper c.loop-at.block at _ k ∙ i.uppers k);
      lowers = λ k. ap (λ z. lower_at z k) nodes ∙ (pushed_lower c.loop-at.block at _ k ∙ i.lowers k);
      chains = λ above a. subst (λ (z : List Node × List ℕ). AreChains c.args.ids z.0 z.1 above (at + 1)) (λ j. (sym nodes j, sym heads j))
          (freed c.args.ids c.loop-at.block c.loop-at.below above at (i.chains above a) inside free);
    }

pub returns-clause-chains : goal.returns-clause-chains
returns-clause-chains c = λ above a.
    let w = within c.args.ids c.args.block.now c.args.below.now above c.args.from a in
    let b = c.loop-at.invariant.chains above a in
    let t = c.loop-at-test.false in
    let r = c.loop-at.auto.at in
    let e = c.len-at-end.ensures in
    let s = c.loop-at.invariant.size in
    subst (λ z. AreChains c.args.ids c.loop-at.block c.loop-at.below above z) (omega arith) b

pub returns-clause-pairs : goal.returns-clause-pairs
returns-clause-pairs c = let i = c.loop-at.invariant in none_changed c.args.ids c.args.block.now c.loop-at.block i.size i.uppers i.lowers
