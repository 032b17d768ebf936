use Rattle.std.proofs.Common.{Bool, ap, sym, ◌∙◌, arith}
use Rattle.std.specs.Prelude.{slice_index}
use Rattle.port_table.specs.Table.{words_by}
use Rattle.port_table.proofs.word_in.Goals as goal

pub bounds-words-port : goal.bounds-words-port
bounds-words-port c = let size = c.requires c.if-is_whole.true in omega arith

pub returns-then-is_whole : goal.returns-then-is_whole
returns-then-is_whole c = ap (λ (whole : Bool). slice_index (words_by whole c.args.words.now c.args.written.now) c.args.port) (sym c.if-is_whole.true)

pub returns-else-is_whole : goal.returns-else-is_whole
returns-else-is_whole c =
    c.written_word.ensures
    ∙ ap (λ (whole : Bool). slice_index (words_by whole c.args.words.now c.args.written.now) c.args.port) (sym c.if-is_whole.false)
