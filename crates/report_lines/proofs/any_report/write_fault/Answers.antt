-- The number and the text stand behind the first word.
use Rattle.std.proofs.Common.{◌≡◌, [], ◌∷◌, ◌++◌, codes, decimal}
use Rattle.report_lines.specs.Text.{fault_line}
use Rattle.report_lines.proofs.Lines.{with_words-line}
use Rattle.report_lines.proofs.any_report.write_fault.Goals as goal

pub returns : goal.returns
returns g c =
    let same : c.word.result ++ 10 ∷ [] ≡ fault_line c.args.line c.args.fault.now =
    rw (c.word.ensures.text, c.number.ensures.text, c.new.ensures) (with_words-line (codes "line") (decimal c.args.line ∷ c.args.fault.now ∷ [])) in
    rw same at c.write.ensures
