use Rattle.std.proofs.Common.{length, ap, subst, arith}
use Rattle.word_tree.specs.Marks.{IsNextSet}
use Rattle.slot_pool.specs.Flat.{IsNextMarked}
use Rattle.word_tree.proofs.Rows.{many_marks}
use Rattle.slot_pool.proofs.FlatRows.{next_set}
use Rattle.slot_pool.proofs.mark_row.Marks.next_marked.Goals as goal

pub next_marked-requires-clause-to : goal.next_marked-requires-clause-to
next_marked-requires-clause-to c =
    let many = many_marks c.self.inside.words.items 0 c.self.inside.places in
    let same = ap length c.self.view_is in
    let all = ap length c.deref.ensures.value in
    let inside = c.self.invariant.1 in omega arith

pub returns : goal.returns
returns c =
    let many = many_marks c.self.inside.words.items 0 c.self.inside.places in
    let same = ap length c.self.view_is in
    subst (λ marks. IsNextSet marks c.args.from c.args.to c.next_marked.result) c.self.view_is
    (next_set c.self.inside.words.items c.self.inside.places c.args.from c.args.to c.next_marked.result (omega arith)
    (subst (λ words. IsNextMarked words c.args.from c.args.to c.next_marked.result) c.deref.ensures.value c.next_marked.ensures))
