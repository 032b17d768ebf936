-- The number, the table's name and the words of what was made stand behind the first word.
use Rattle.std.proofs.Common.{[], ◌∷◌, codes, decimal}
use Rattle.report_lines.proofs.Lines.{with_words-line}
use Rattle.router.specs.Text.{family_of, part_words, side_word}
use Rattle.router.proofs.report.action.Goals as goal

pub returns-in-Written-clause-text : goal.returns-in-Written-clause-text
returns-in-Written-clause-text c =
    rw (c.in-Written.is, c.with_part.ensures.text, c.naming.ensures, c.word-line.ensures.text, c.word_of.ensures.word, c.number.ensures.text, c.new.ensures)
    (with_words-line (codes "w") (decimal c.args.parts ∷ side_word c.args.telling.now.side ∷ part_words (family_of c.args.telling.now.version c.args.telling.now.side) c.in-Written.part))

pub returns-in-Drained-clause-text : goal.returns-in-Drained-clause-text
returns-in-Drained-clause-text c =
    rw (c.in-Drained.is, c.word.ensures.text, c.word-line.ensures.text, c.word_of.ensures.word, c.number.ensures.text, c.new.ensures)
    (with_words-line (codes "w") (decimal c.args.parts ∷ side_word c.args.telling.now.side ∷ codes "drain" ∷ []))
