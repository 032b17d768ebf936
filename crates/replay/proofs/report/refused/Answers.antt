-- The words of the reason stand behind the three that each such line has.
use Rattle.std.proofs.Common.{◌∷◌, codes, decimal}
use Rattle.report_lines.specs.Text.{reason_words}
use Rattle.report_lines.specs.Told.{verdict_told}
use Rattle.report_lines.proofs.Lines.{with_words-line}
use Rattle.replay.proofs.report.refused.Goals as goal

pub returns-clause-text : goal.returns-clause-text
returns-clause-text c =
    rw (c.reason.ensures.text, c.word.ensures.text, c.number.ensures.text, c.new.ensures, c.from.ensures)
    (with_words-line (codes "commit") (decimal c.args.commit ∷ codes "refused" ∷ reason_words c.args.family (verdict_told c.args.rejection.now)))
