use Rattle.std.proofs.Common.{◌≡◌, ◌≢◌, suc, ◌-◌, ◌/◌, arith, sym, ◌∙◌, subst}
use Rattle.word_tree.specs.Tree.{IsInLevel}
use Rattle.word_tree.proofs.Levels.{one_up, below_root, in_root, is_upper}
use Rattle.word_tree.proofs.Changes.{set_all, set_end, leaves_still, is_done, child_is, a_lower, some_word}
use Rattle.word_tree.proofs.tree.set.Goals as goal

pub returns-then-put-ne0-clause-tree : goal.returns-then-put-ne0-clause-tree
returns-then-put-ne0-clause-tree c =
    let i = c.loop-level.invariant in
    let some : c.put.result ≢ 0 = λ z. omega arith in
    set_end c.loop-level.words c.put.new.words c.loop-level.bit c.args.depth c.put.ensures.put (λ z. some (c.put.ensures.was ∙ z)) i.child i.agree

pub returns-then-put-ne0-clause-others : goal.returns-then-put-ne0-clause-others
returns-then-put-ne0-clause-others c =
    let i = c.loop-level.invariant in
    leaves_still c.loop-level.words c.put.new.words c.args.words.now c.loop-level.bit c.args.at 1 c.args.depth c.put.ensures.put i.upper i.leaves

pub overflow_sub-bit : goal.overflow_sub-bit
overflow_sub-bit c =
    let far = below_root (c.loop-level._level - 1) c.loop-level.bit (a_lower c.loop-level._level c.loop-level.bit c.loop-level-test.true c.loop-level.invariant.place) in omega arith

pub loop-level-preserved : goal.loop-level-preserved
loop-level-preserved c =
    let i = c.loop-level.invariant in
    let bit = c.loop-level.bit in
    let level = c.loop-level._level - 1 in
    let place : IsInLevel (suc level) bit = a_lower c.loop-level._level bit c.loop-level-test.true i.place in
    let far = below_root level bit place in
    let word = child_is c.put.new.words level bit place in
    let up = one_up level bit place in
    let none : c.put.result ≡ 0 = omega arith in
    let high = is_upper level c.args.depth (bit / 64 - 1) (let few = i.deep in let t = c.loop-level-test.true in omega arith) up in
    let low = c.requires.leaf.low in
    record {
      deep = let few = i.deep in omega arith;
      place = up;
      room = let r = i.room in let l = c.put.ensures.len in omega arith;
      leaves = leaves_still c.loop-level.words c.put.new.words c.args.words.now bit c.args.at 1 c.args.depth c.put.ensures.put i.upper i.leaves;
      done = λ _. is_done c.loop-level.words c.put.new.words bit c.args.at 1 c.put.ensures.put i.done;
      upper = λ _. high;
      child = λ _ empty. some_word c.loop-level.words c.put.new.words c.loop-level.bit c.put.ensures.put (sym word ∙ empty);
      agree = λ q upper other. set_all c.loop-level.words c.put.new.words bit c.args.depth c.put.ensures.put i.child i.agree q upper (λ e. other (omega arith));
    }

pub returns-clause-tree : goal.returns-clause-tree
returns-clause-tree c =
    let i = c.loop-level.invariant in
    let root : c.loop-level._level ≡ 0 = omega arith in
    let small = in_root c.loop-level.bit (subst (λ l. IsInLevel l c.loop-level.bit) root i.place) in
    λ q upper. set_all c.loop-level.words c.put-2.new.words c.loop-level.bit c.args.depth c.put-2.ensures.put i.child i.agree q upper (λ e. omega arith)

pub returns-clause-others : goal.returns-clause-others
returns-clause-others c =
    let i = c.loop-level.invariant in
    leaves_still c.loop-level.words c.put-2.new.words c.args.words.now c.loop-level.bit c.args.at 1 c.args.depth c.put-2.ensures.put i.upper i.leaves
