use Rattle.std.proofs.Common.{◌≡◌, suc, ◌+◌, ◌*◌, ◌<◌, arith, subst}
use Rattle.word_tree.specs.Tree.{ancestor, IsInLevel}
use Rattle.word_tree.proofs.Levels.{one_down, is_upper, start_most, word_below, in_level, set_ancestor, ancestor_suc, ancestor_zero}
use Rattle.word_tree.proofs.Steps.{down_low, down_least, found_one}
use Rattle.word_tree.proofs.tree.first_under.Goals as goal

pub overflow_add-word : goal.overflow_add-word
overflow_add-word c =
    let high = is_upper c.loop-lower._lower c.args.depth c.loop-lower.at c.loop-lower-test.true c.loop-lower.invariant.place in
    let few = start_most c.args.depth c.requires.deep in omega arith

pub overflow_mul-at : goal.overflow_mul-at
overflow_mul-at c =
    let high = is_upper c.loop-lower._lower c.args.depth c.loop-lower.at c.loop-lower-test.true c.loop-lower.invariant.place in
    let few = start_most c.args.depth c.requires.deep in omega arith

pub bounds-words-word : goal.bounds-words-word
bounds-words-word c = (word_below c.args.words.now c.args.depth c.loop-lower._lower c.loop-lower.at c.requires.tree c.loop-lower-test.true c.loop-lower.invariant.place c.loop-lower.invariant.one).0

pub first_one-requires : goal.first_one-requires
first_one-requires c = (word_below c.args.words.now c.args.depth c.loop-lower._lower c.loop-lower.at c.requires.tree c.loop-lower-test.true c.loop-lower.invariant.place c.loop-lower.invariant.one).1

pub overflow_add-at : goal.overflow_add-at
overflow_add-at c =
    let high = is_upper c.loop-lower._lower c.args.depth c.loop-lower.at c.loop-lower-test.true c.loop-lower.invariant.place in
    let few = start_most c.args.depth c.requires.deep in
    let small = c.first_one.ensures.1 in omega arith

pub loop-lower-preserved : goal.loop-lower-preserved
loop-lower-preserved c =
    let i = c.loop-lower.invariant in
    let words = c.args.words.now in
    let at = c.loop-lower.at in
    let level = c.loop-lower._lower in
    let bit = c.first_one.result in
    let is = c.first_one.ensures in
    let small : bit < 64 = is.1 in
    record {
      deep = omega arith;
      place = let e : suc level ≡ level + 1 = omega arith in subst (λ l. IsInLevel l ((at + 1) * 64 + bit)) e (one_down level at bit i.place small);
      one = found_one words (at + 1) 0 bit is;
      low = λ h g p e f less.
          let up = ancestor_suc h p in
          let was = i.low (suc h) g p (omega arith) f less in
          down_low at bit (ancestor h p) (omega arith);
      least = λ h g p e f leaf one more.
          let up = ancestor_suc h p in
          let was = i.least (suc h) g p (omega arith) f leaf one more in
          let mine = set_ancestor words c.args.depth h (suc level) p (omega arith) c.requires.tree leaf one in
          let inside = in_level c.args.depth h (suc level) p (omega arith) leaf in
          down_least words level at bit (ancestor h p) inside mine (omega arith) small (λ k below. is.3 k (omega arith) below);
    }

pub returns : goal.returns
returns c =
    let i = c.loop-lower.invariant in
    let end : c.loop-lower._lower ≡ c.args.depth = let few = i.deep in omega arith in
    record {
      leaf = subst (λ l. IsInLevel l c.loop-lower.at) end i.place;
      one = i.one;
      low = λ g p f less. let a = ancestor_zero p in let w = i.low 0 g p (omega arith) f less in omega arith;
      least = λ g p f leaf one more. let a = ancestor_zero p in let w = i.least 0 g p (omega arith) f leaf one more in omega arith;
    }
