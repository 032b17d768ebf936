-- The parts of the address stand one behind the other.
use Rattle.report_lines.proofs.Lines.{four_parts}
use Rattle.report_lines.proofs.report_line.ReportLine.short_dotted.Goals as goal

pub returns-clause-text : goal.returns-clause-text
returns-clause-text c =
    rw (c.digits-4.ensures.text, c.text-3.ensures.text, c.digits-3.ensures.text, c.text-2.ensures.text, c.digits-2.ensures.text, c.text.ensures.text, c.digits.ensures.text)
    (four_parts _ _ _ _ _)
