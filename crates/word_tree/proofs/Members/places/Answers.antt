use Rattle.std.proofs.Common.{◌∙◌, length, sym, ap}
use Rattle.word_tree.proofs.Rows.{many_marks}
use Rattle.word_tree.proofs.Members.places.Goals as goal

pub returns-clause-number : goal.returns-clause-number
returns-clause-number c = sym (many_marks c.self.inside.words.items c.self.inside.base c.self.inside.places) ∙ ap length c.self.view_is
