-- The bytes handed over are those of the text.
use Rattle.report_lines.proofs.Handing.{writes-line}
use Rattle.report_lines.proofs.any_report.write_text.Goals as goal

pub returns : goal.returns
returns g c = writes-line g.K.Sink.taken g.K.Sink.accepted g.K.Sink.faults _ _ c.write_all.result _ _ c.as_bytes.ensures.value c.write_all.ensures.whole c.write_all.ensures.part c.write_all.ensures.cause
