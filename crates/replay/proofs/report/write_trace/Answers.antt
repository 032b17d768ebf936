-- The number and the words of the write stand behind the first word.
use Rattle.std.proofs.Common.{◌≡◌, [], ◌∷◌, ◌++◌, codes, decimal}
use Rattle.report_lines.specs.Text.{write_words}
use Rattle.replay.specs.Text.{write_line}
use Rattle.report_lines.proofs.Lines.{with_words-line}
use Rattle.replay.proofs.report.write_trace.Goals as goal

pub returns : goal.returns
returns g c =
    let same : c.device_write.result ++ 10 ∷ [] ≡ write_line c.args.family c.args.number c.args.write.now =
    rw (c.device_write.ensures.text, c.number.ensures.text, c.new.ensures) (with_words-line (codes "w") (decimal c.args.number ∷ write_words c.args.family c.args.write.now)) in
    rw same at c.write.ensures
