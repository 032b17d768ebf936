use Rattle.std.proofs.Common.{ℕ, List, length, ap, ◌∙◌}
use Rattle.std.specs.Prelude.{slice_index}
use Rattle.port_table.specs.Table.{RoomyTable, words_by}
use Rattle.port_table.proofs.PortTable.word.Goals as goal

pub word_in-requires : goal.word_in-requires
word_in-requires c whole = ap length c.deref.ensures.value ∙ c.self.invariant.size whole

pub returns : goal.returns
returns c =
    c.word_in.ensures ∙ ap (λ (words : List ℕ). slice_index (words_by c.self.inside.is_whole words c.deref-2.result.now) c.args.port) c.deref.ensures.value
    ∙ ap (λ (written : List (ℕ × ℕ)). slice_index (words_by c.self.inside.is_whole c.self.inside.words.items written) c.args.port) c.deref-2.ensures.value
    ∙ ap (λ (table : RoomyTable). slice_index table.words c.args.port) c.self.view_is
