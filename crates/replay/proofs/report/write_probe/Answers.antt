-- The numbers and the words of the answer stand behind the first word.
use Rattle.std.proofs.Common.{◌≡◌, [], ◌∷◌, ◌++◌, codes, decimal}
use Rattle.report_lines.specs.Text.{answer_words}
use Rattle.replay.specs.Text.{probe_line}
use Rattle.report_lines.proofs.Lines.{with_words-line}
use Rattle.replay.proofs.report.write_probe.Goals as goal

pub returns : goal.returns
returns g c =
    let same : c.answer.result ++ 10 ∷ [] ≡ probe_line c.args.family c.args.number c.args.probe c.args.found =
    rw (c.answer.ensures.text, c.number-2.ensures.text, c.from.ensures, c.word.ensures.text, c.number.ensures.text, c.new.ensures)
    (with_words-line (codes "w") (decimal c.args.number ∷ codes "p" ∷ decimal c.args.probe ∷ answer_words c.args.family c.args.found)) in
    rw same at c.write.ensures
