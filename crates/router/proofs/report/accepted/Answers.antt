-- The words and numbers stand behind the first word.
use Rattle.std.proofs.Common.{[], ◌∷◌, codes, decimal}
use Rattle.report_lines.proofs.Lines.{with_words-line}
use Rattle.router.proofs.report.accepted.Goals as goal

pub returns-clause-text : goal.returns-clause-text
returns-clause-text c =
    rw (
      c.number-4.ensures.text,
      c.word-6.ensures.text,
      c.number-3.ensures.text,
      c.word-5.ensures.text,
      c.word-4.ensures.text,
      c.number-2.ensures.text,
      c.word-3.ensures.text,
      c.word-2.ensures.text,
      c.word.ensures.text,
      c.number.ensures.text,
      c.new.ensures,
      c.from.ensures,
    )
    (with_words-line (codes "commit") (
    decimal c.args.commit ∷ codes "ok" ∷ codes "list" ∷ codes "writes" ∷ decimal c.args.made.now.listed ∷ codes "route" ∷ codes "writes"
    ∷ decimal c.args.made.now.routed ∷ codes "drains" ∷ decimal c.args.made.now.drains ∷ []
    ))
