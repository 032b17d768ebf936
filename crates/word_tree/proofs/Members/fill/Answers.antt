use Rattle.std.proofs.Common.{true, false, length, arith, ◌∙◌, ap}
use Rattle.std.specs.Prelude.{slice_index_or}
use Rattle.std.proofs.lemmas.List.{length-set}
use Rattle.word_tree.proofs.Rows.{all_are, one_further}
use Rattle.word_tree.proofs.Members.fill.Goals as goal

pub insert-requires : goal.insert-requires
insert-requires c = let size = c.loop-at.invariant.size in let many = c.places-places.ensures.number in omega arith

pub loop-at-preserved : goal.loop-at-preserved
loop-at-preserved c =
    let size = c.loop-at.invariant.size in
    let many = c.places-places.ensures.number in
    let row = c.insert.ensures in
    record {
      size = ap length row ∙ (length-set c.loop-at.self c.loop-at.at true ∙ size);
      marked = λ k below. ap (λ marks. slice_index_or marks k false) row ∙ one_further c.loop-at.self c.loop-at.at (omega arith) c.loop-at.invariant.marked k below;
    }

pub returns : goal.returns
returns c =
    let size = c.loop-at.invariant.size in
    let many = c.places-places.ensures.number in
    all_are c.loop-at.self _ true size (λ k below. c.loop-at.invariant.marked k (omega arith))
