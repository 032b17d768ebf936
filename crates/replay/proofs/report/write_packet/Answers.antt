-- The words of the answer stand behind the first word.
use Rattle.std.proofs.Common.{◌≡◌, [], ◌∷◌, ◌++◌, codes}
use Rattle.report_lines.specs.Text.{answer_words}
use Rattle.replay.specs.Text.{packet_line}
use Rattle.report_lines.proofs.Lines.{with_words-line}
use Rattle.replay.proofs.report.write_packet.Goals as goal

pub returns : goal.returns
returns g c =
    let same : c.answer.result ++ 10 ∷ [] ≡ packet_line c.args.family c.args.found =
    rw (c.answer.ensures.text, c.new.ensures) (with_words-line (codes "packet") (answer_words c.args.family c.args.found)) in
    rw same at c.write.ensures
