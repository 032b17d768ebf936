-- The table's name and the words of the reason stand behind the words that each such line has.
use Rattle.std.proofs.Common.{◌∷◌, codes, decimal}
use Rattle.report_lines.specs.Text.{reason_words}
use Rattle.report_lines.specs.Told.{verdict_told}
use Rattle.report_lines.proofs.Lines.{with_words-line}
use Rattle.router.specs.Text.{family_of, side_word}
use Rattle.router.proofs.report.refused.Goals as goal

pub returns-clause-text : goal.returns-clause-text
returns-clause-text c =
    rw (c.reason.ensures.text, c.naming.ensures, c.word-2.ensures.text, c.word_of.ensures.word, c.word.ensures.text, c.number.ensures.text, c.new.ensures, c.from.ensures)
    (with_words-line (codes "commit") (decimal c.args.commit ∷ codes "refused" ∷ side_word c.args.side ∷ reason_words (family_of c.args.version c.args.side) (verdict_told c.args.rejection.now)))
