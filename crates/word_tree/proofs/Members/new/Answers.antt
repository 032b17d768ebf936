use Rattle.std.proofs.Common.{◌≡◌, ◌+◌, ◌/◌, replicate, length, arith, sym, ◌∙◌, subst, ap}
use Rattle.std.specs.List.{count_by}
use Rattle.std.proofs.lemmas.List.{length-replicate}
use Rattle.word_tree.specs.Tree.{Tells}
use Rattle.word_tree.specs.Marks.{marks_of}
use Rattle.word_tree.proofs.Levels.{whole_words, zeros_tell}
use Rattle.word_tree.proofs.Rows.{none_marked, none_counted}
use Rattle.word_tree.proofs.Members.new.Goals as goal

pub invariant_of-result : goal.invariant_of-result
invariant_of-result c =
    let size = c.base_of-base.result / 64 + c.div_ceil.result in
    let zeros : c.in_ok-words.words.items ≡ replicate size 0 = c.in_ok-words.ensures.items_if_clones_equal (λ y h. h) in
    let len : length c.in_ok-words.words.items ≡ size = ap length zeros ∙ length-replicate size 0 in
    let is = c.base_of-base.ensures in
    let top = c.depth_of-depth.ensures.room in
    let whole = whole_words c.depth_of-depth.result in (
      record {
        few = c.requires;
        deep = c.depth_of-depth.ensures.deep;
        low = is;
        high = omega arith;
        room = omega arith;
        tree = λ at _. subst (λ words. Tells words at) (sym zeros) (zeros_tell size at);
      },
      sym (ap (λ words. count_by (λ mark. mark) (marks_of words c.base_of-base.result c.args.places)) zeros
          ∙ (ap (λ marks. count_by (λ mark. mark) marks) (none_marked size c.base_of-base.result c.args.places) ∙ none_counted c.args.places)),
    )

pub returns : goal.returns
returns c =
    let size = c.base_of-base.result / 64 + c.div_ceil.result in
    let zeros : c.in_ok-words.words.items ≡ replicate size 0 = c.in_ok-words.ensures.items_if_clones_equal (λ y h. h) in
    ap (λ words. marks_of words c.base_of-base.result c.args.places) zeros ∙ none_marked size c.base_of-base.result c.args.places
