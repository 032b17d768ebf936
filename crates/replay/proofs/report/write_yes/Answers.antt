-- The words and numbers stand behind the first word.
use Rattle.std.proofs.Common.{◌≡◌, [], ◌∷◌, ◌++◌, codes, decimal}
use Rattle.replay.specs.Text.{yes_line}
use Rattle.report_lines.proofs.Lines.{with_words-line}
use Rattle.replay.proofs.report.write_yes.Goals as goal

pub returns : goal.returns
returns g c =
    let same : c.number-2.result ++ 10 ∷ [] ≡ yes_line c.args.commits c.args.writes =
    rw (c.number-2.ensures.text, c.word-2.ensures.text, c.number.ensures.text, c.word.ensures.text, c.new.ensures) (with_words-line (codes "yes") (codes "commits" ∷ decimal c.args.commits ∷ codes "writes" ∷ decimal c.args.writes ∷ [])) in
    rw same at c.write.ensures
