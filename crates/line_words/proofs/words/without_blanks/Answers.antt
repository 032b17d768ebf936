use Rattle.std.proofs.lemmas.List.{take_rest}
use Rattle.line_words.specs.Words.{is_blank}
use Rattle.line_words.proofs.Walk.{words_by-trimmed}
use Rattle.line_words.proofs.words.without_blanks.Goals as goal

pub returns-clause-words : goal.returns-clause-words
returns-clause-words c = rw (take_rest, c.leading_blanks.ensures.count) (words_by-trimmed is_blank c.args.text.now)
