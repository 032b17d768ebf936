-- The word and the number stand behind the first word.
use Rattle.std.proofs.Common.{◌≡◌, [], ◌∷◌, ◌++◌, codes, decimal}
use Rattle.replay.specs.Text.{no_line}
use Rattle.report_lines.proofs.Lines.{with_words-line}
use Rattle.replay.proofs.report.write_no.Goals as goal

pub returns : goal.returns
returns g c =
    let same : c.number.result ++ 10 ∷ [] ≡ no_line c.args.line =
    rw (c.number.ensures.text, c.word.ensures.text, c.new.ensures) (with_words-line (codes "no") (codes "line" ∷ decimal c.args.line ∷ [])) in
    rw same at c.write.ensures
