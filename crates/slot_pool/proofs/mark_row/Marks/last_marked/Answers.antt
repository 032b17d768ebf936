use Rattle.std.proofs.Common.{length, ap, subst, arith}
use Rattle.word_tree.specs.Marks.{IsLastSet}
use Rattle.slot_pool.specs.Flat.{IsLastMarked}
use Rattle.word_tree.proofs.Rows.{many_marks}
use Rattle.slot_pool.proofs.FlatRows.{last_set}
use Rattle.slot_pool.proofs.mark_row.Marks.last_marked.Goals as goal

pub last_marked-requires-clause-to : goal.last_marked-requires-clause-to
last_marked-requires-clause-to c =
    let many = many_marks c.self.inside.words.items 0 c.self.inside.places in
    let same = ap length c.self.view_is in
    let all = ap length c.deref.ensures.value in
    let inside = c.self.invariant.1 in omega arith

pub returns : goal.returns
returns c =
    let many = many_marks c.self.inside.words.items 0 c.self.inside.places in
    let same = ap length c.self.view_is in
    subst (λ marks. IsLastSet marks c.args.from c.args.to c.last_marked.result) c.self.view_is
    (last_set c.self.inside.words.items c.self.inside.places c.args.from c.args.to c.last_marked.result (omega arith)
    (subst (λ words. IsLastMarked words c.args.from c.args.to c.last_marked.result) c.deref.ensures.value c.last_marked.ensures))
