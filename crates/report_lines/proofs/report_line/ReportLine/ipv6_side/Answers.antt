-- The length stands behind the address, where the mask has bits.
use Rattle.std.proofs.Common.{◌∷◌, ◌++◌, ◌∙◌, ap, sym, count_ones, decimal}
use Rattle.line_words.specs.Shown.{ipv6_text}
use Rattle.report_lines.proofs.Lines.{address_and_length, prefix_some}
use Rattle.report_lines.proofs.report_line.ReportLine.ipv6_side.Goals as goal

pub returns-clause-text : goal.returns-clause-text
returns-clause-text c =
    rw (c.digits.ensures.text, c.text-3.ensures.text, c.text-2.ensures.text, c.as_str.ensures, c.new-address.ensures.text, c.text.ensures.text)
    (address_and_length c.args.self (ipv6_text c.args.address) (decimal (count_ones c.args.mask))
    ∙ ap (λ text. c.args.self ++ 32 ∷ text) (sym (prefix_some (ipv6_text c.args.address) (count_ones c.args.mask) c.if-ones-eq0.false)))
