use Rattle.std.proofs.Common.{◌≡◌, ◌∙◌, true, length, ap, arith}
use Rattle.std.specs.Prelude.{slice_set}
use Rattle.std.proofs.lemmas.List.{with_items_is}
use Rattle.word_tree.specs.Tree.{bit_of}
use Rattle.word_tree.specs.Marks.{marks_of}
use Rattle.word_tree.proofs.Rows.{many_marks, marked}
use Rattle.slot_pool.proofs.FlatRows.{from_first}
use Rattle.slot_pool.proofs.mark_row.Marks.mark.Goals as goal

pub put-requires : goal.put-requires
put-requires c =
    let many = many_marks c.self.inside.words.items 0 c.self.inside.places in
    let same = ap length c.self.view_is in
    let all = ap length c.deref_mut.ensures.value in
    let inside = c.self.invariant.1 in omega arith

pub returns : goal.returns
returns c =
    let words = c.self.inside.words.items in
    let many = many_marks words 0 c.self.inside.places in
    let same = ap length c.self.view_is in
    let lent = ap length c.deref_mut.ensures.value in
    let len : length c.put.new.words ≡ c.self.inside.words.len = let l = c.put.ensures.len in omega (arith, c.self.inside.words.ok.0) in
    ap (λ after. marks_of after 0 c.self.inside.places) (with_items_is c.self.inside.words c.put.new.words len)
    ∙ (marked words c.put.new.words 0 c.self.inside.places c.args.at (omega arith) (from_first c.put.new.words c.args.at ∙ c.put.ensures.put.bit)
    (λ k low other. c.put.ensures.put.others k (λ e. other (omega arith)) ∙ ap (λ lent. bit_of lent k) c.deref_mut.ensures.value)
    ∙ ap (λ marks. slice_set marks c.args.at true) c.self.view_is)
