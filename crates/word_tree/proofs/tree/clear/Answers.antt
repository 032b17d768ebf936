use Rattle.std.proofs.Common.{◌≡◌, ◌≢◌, suc, ◌-◌, ◌/◌, ◌≤◌, arith, sym, ◌∙◌, subst}
use Rattle.std.specs.Prelude.{slice_index_or}
use Rattle.word_tree.specs.Tree.{IsInLevel}
use Rattle.word_tree.proofs.Levels.{one_up, below_root, in_root, is_upper}
use Rattle.word_tree.proofs.Changes.{clear_all, clear_end, leaves_still, is_done, child_is, a_lower}
use Rattle.word_tree.proofs.tree.clear.Goals as goal

pub returns-then-cut-ne0-clause-tree : goal.returns-then-cut-ne0-clause-tree
returns-then-cut-ne0-clause-tree c =
    let i = c.loop-level.invariant in
    let some : c.cut.result ≢ 0 = λ z. omega arith in
    clear_end c.loop-level.words c.cut.new.words c.loop-level.bit c.args.depth c.cut.ensures.cut (λ z. some (c.cut.ensures.left ∙ z)) (subst (λ z. z ≤ slice_index_or c.loop-level.words (c.loop-level.bit / 64) 0) c.cut.ensures.left c.cut.ensures.less) i.child i.agree

pub returns-then-cut-ne0-clause-others : goal.returns-then-cut-ne0-clause-others
returns-then-cut-ne0-clause-others c =
    let i = c.loop-level.invariant in
    leaves_still c.loop-level.words c.cut.new.words c.args.words.now c.loop-level.bit c.args.at 0 c.args.depth c.cut.ensures.cut i.upper i.leaves

pub overflow_sub-bit : goal.overflow_sub-bit
overflow_sub-bit c =
    let far = below_root (c.loop-level._level - 1) c.loop-level.bit (a_lower c.loop-level._level c.loop-level.bit c.loop-level-test.true c.loop-level.invariant.place) in omega arith

pub loop-level-preserved : goal.loop-level-preserved
loop-level-preserved c =
    let i = c.loop-level.invariant in
    let bit = c.loop-level.bit in
    let level = c.loop-level._level - 1 in
    let place : IsInLevel (suc level) bit = a_lower c.loop-level._level bit c.loop-level-test.true i.place in
    let far = below_root level bit place in
    let word = child_is c.cut.new.words level bit place in
    let up = one_up level bit place in
    let gone : c.cut.result ≡ 0 = omega arith in
    let high = is_upper level c.args.depth (bit / 64 - 1) (let few = i.deep in let t = c.loop-level-test.true in omega arith) up in
    let low = c.requires.leaf.low in
    record {
      deep = let few = i.deep in omega arith;
      place = up;
      room = let r = i.room in let l = c.cut.ensures.len in omega arith;
      leaves = leaves_still c.loop-level.words c.cut.new.words c.args.words.now bit c.args.at 0 c.args.depth c.cut.ensures.cut i.upper i.leaves;
      done = λ _. is_done c.loop-level.words c.cut.new.words bit c.args.at 0 c.cut.ensures.cut i.done;
      upper = λ _. high;
      child = λ _. word ∙ (sym c.cut.ensures.left ∙ gone);
      agree = λ q upper other. clear_all c.loop-level.words c.cut.new.words bit c.args.depth c.cut.ensures.cut i.child i.agree q upper (λ e. other (omega arith));
    }

pub returns-clause-tree : goal.returns-clause-tree
returns-clause-tree c =
    let i = c.loop-level.invariant in
    let root : c.loop-level._level ≡ 0 = omega arith in
    let small = in_root c.loop-level.bit (subst (λ l. IsInLevel l c.loop-level.bit) root i.place) in
    λ q upper. clear_all c.loop-level.words c.cut-2.new.words c.loop-level.bit c.args.depth c.cut-2.ensures.cut i.child i.agree q upper (λ e. omega arith)

pub returns-clause-others : goal.returns-clause-others
returns-clause-others c =
    let i = c.loop-level.invariant in
    leaves_still c.loop-level.words c.cut-2.new.words c.args.words.now c.loop-level.bit c.args.at 0 c.args.depth c.cut-2.ensures.cut i.upper i.leaves
