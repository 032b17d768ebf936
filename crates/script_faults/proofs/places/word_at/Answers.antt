use Rattle.std.proofs.Common.{sym, ◌∙◌}
use Rattle.line_words.specs.Words.{words_of}
use Rattle.script_faults.proofs.Passed.{first-behind, none-at}
use Rattle.script_faults.proofs.places.word_at.Goals as goal

pub returns-in-Some-clause-word : goal.returns-in-Some-clause-word
returns-in-Some-clause-word c = first-behind (words_of c.args.line.now) c.args.place _ _ (sym c.text_behind.ensures.words ∙ c.in-Some.ensures.words)

pub returns-in-None-clause-word : goal.returns-in-None-clause-word
returns-in-None-clause-word c = none-at (words_of c.args.line.now) c.args.place (sym c.text_behind.ensures.words ∙ c.in-None.ensures.words)
