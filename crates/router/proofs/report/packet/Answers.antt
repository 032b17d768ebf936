-- The words of each answer stand behind the name of its table.
use Rattle.std.proofs.Common.{◌≡◌, List, ℕ, [], ◌∷◌, ◌++◌, codes, sym, ap, ◌∙◌}
use Rattle.report_lines.specs.Text.{answer_words}
use Rattle.report_lines.specs.Told.{with_words}
use Rattle.report_lines.proofs.Lines.{with_words-append, with_words-line}
use Rattle.router.specs.declared.Side.TheVariants as side
use Rattle.router.specs.Text.{family_of, packet_line}
use Rattle.router.proofs.report.packet.Goals as goal

pub returns-clause-text : goal.returns-clause-text
returns-clause-text c =
    let listed : List (List ℕ) = answer_words (family_of c.args.version side.List) c.args.listed in
    let routed : List (List ℕ) = answer_words (family_of c.args.version side.Routes) c.args.routed in
    let front : List ℕ = codes "packet" ++ 32 ∷ codes "list" in
    let same : with_words (with_words front listed ++ 32 ∷ codes "route") routed ++ 10 ∷ [] ≡ packet_line c.args.version c.args.listed c.args.routed =
    ap (λ (text : List ℕ). text ++ 10 ∷ []) (sym (with_words-append front listed (codes "route" ∷ routed)))
    ∙ with_words-line (codes "packet") (codes "list" ∷ (listed ++ codes "route" ∷ routed)) in
    rw (c.answer-2.ensures.text, c.naming-2.ensures, c.word-2.ensures.text, c.answer.ensures.text, c.naming.ensures, c.word.ensures.text, c.new.ensures) same
