use Rattle.std.proofs.Common.{◌∙◌, sym, ap, length}
use Rattle.word_tree.proofs.Rows.{many_marks}
use Rattle.slot_pool.proofs.mark_row.Marks.places.Goals as goal

pub returns-clause-number : goal.returns-clause-number
returns-clause-number c = sym (many_marks c.self.inside.words.items 0 c.self.inside.places) ∙ ap length c.self.view_is
