-- The number and the word stand behind the first word.
use Rattle.std.proofs.Common.{◌≡◌, [], ◌∷◌, ◌++◌, codes, decimal}
use Rattle.replay.specs.Text.{drain_line}
use Rattle.report_lines.proofs.Lines.{with_words-line}
use Rattle.replay.proofs.report.write_drain.Goals as goal

pub returns : goal.returns
returns g c =
    let same : c.word.result ++ 10 ∷ [] ≡ drain_line c.args.number =
    rw (c.word.ensures.text, c.number.ensures.text, c.new.ensures) (with_words-line (codes "w") (decimal c.args.number ∷ codes "drain" ∷ [])) in
    rw same at c.write.ensures
