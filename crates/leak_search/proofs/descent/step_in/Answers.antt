use Rattle.std.proofs.Common.{refl}
use Rattle.leak_search.proofs.Clear.{cut_step, narrowed_clear, words_clear}
use Rattle.leak_search.proofs.descent.step_in.Goals as goal

pub returns-in-Right : goal.returns-in-Right
returns-in-Right c = λ src dst is.
    let some = c.in_ok-some.some in
    narrowed_clear c.args.question src dst c.args.lists.now some c.args.part.now c.in_ok-some.ensures.device c.in_ok-some.ensures.old c.in_ok-some.ensures.new
    (words_clear c.args.question src dst some c.args.part.now (c.in-Right.ensures.right refl))

pub returns-in-Wrong : goal.returns-in-Wrong
returns-in-Wrong c = λ src dst.
    cut_step c.args.question src dst c.args.lists.now c.in_ok-some.some c.args.part.now c.wrong_in.result c.in_ok-some.ensures.device c.in_ok-some.ensures.old c.in_ok-some.ensures.new
    c.wrong_in.ensures

pub cut_in_two-requires : goal.cut_in_two-requires
cut_in_two-requires c = c.in-Cut.ensures.cut c.in-Cut.lane c.in-Cut.bit refl

pub returns-in-Cut : goal.returns-in-Cut
returns-in-Cut c = λ src dst.
    cut_step c.args.question src dst c.args.lists.now c.in_ok-some.some c.args.part.now c.cut_in_two.result c.in_ok-some.ensures.device c.in_ok-some.ensures.old c.in_ok-some.ensures.new
    c.cut_in_two.ensures
