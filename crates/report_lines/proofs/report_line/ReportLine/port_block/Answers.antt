-- The two numbers stand one behind the other.
use Rattle.report_lines.proofs.Lines.{two_parts}
use Rattle.report_lines.proofs.report_line.ReportLine.port_block.Goals as goal

pub returns-clause-text : goal.returns-clause-text
returns-clause-text c =
    rw (c.digits-2.ensures.text, c.text-2.ensures.text, c.digits.ensures.text, c.text.ensures.text) (two_parts _ _ _ _)
