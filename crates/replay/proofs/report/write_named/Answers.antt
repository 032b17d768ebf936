-- The number and what the write does stand behind the first word.
use Rattle.std.proofs.Common.{◌≡◌, [], ◌∷◌, ◌++◌, codes, decimal}
use Rattle.report_lines.specs.Named.{deed_words}
use Rattle.replay.specs.Text.{named_line}
use Rattle.report_lines.proofs.Lines.{with_words-line}
use Rattle.replay.proofs.report.write_named.Goals as goal

pub returns : goal.returns
returns g c =
    let same : c.deed.result ++ 10 ∷ [] ≡ named_line c.args.family c.args.number c.args.deed.now =
    rw (c.deed.ensures.text, c.number.ensures.text, c.new.ensures) (with_words-line (codes "w") (decimal c.args.number ∷ deed_words c.args.family c.args.deed.now)) in
    rw same at c.write.ensures
