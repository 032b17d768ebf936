use Rattle.std.proofs.Common.{◌∙◌, false, length, sym, ap, arith}
use Rattle.std.specs.Prelude.{nat_eq, slice_index_or}
use Rattle.word_tree.proofs.Rows.{many_marks, mark_is, bit_read}
use Rattle.slot_pool.proofs.FlatRows.{from_first}
use Rattle.slot_pool.proofs.mark_row.Marks.is_marked.Goals as goal

pub index-requires : goal.index-requires
index-requires c =
    let many = many_marks c.self.inside.words.items 0 c.self.inside.places in
    let same = ap length c.self.view_is in
    let inside = c.self.invariant.1 in omega (arith, c.self.inside.words.ok.0)

pub returns : goal.returns
returns c =
    let words = c.self.inside.words.items in
    let places = c.self.inside.places in
    let many = many_marks words 0 places in
    let same = ap length c.self.view_is in
    let inside = c.self.invariant.1 in
    ap (λ bit. nat_eq bit 1) (bit_read words c.args.at c.index.result.now (omega arith) c.index.ensures ∙ sym (from_first words c.args.at))
    ∙ (sym (mark_is words 0 places c.args.at (omega arith)) ∙ ap (λ marks. slice_index_or marks c.args.at false) c.self.view_is)
