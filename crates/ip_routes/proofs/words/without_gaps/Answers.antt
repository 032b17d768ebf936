use Rattle.std.proofs.lemmas.List.{take_rest}
use Rattle.line_words.proofs.Walk.{words_by-trimmed}
use Rattle.ip_routes.specs.Words.{is_gap}
use Rattle.ip_routes.proofs.words.without_gaps.Goals as goal

pub returns-clause-words : goal.returns-clause-words
returns-clause-words c = rw (take_rest, c.leading_gaps.ensures.count) (words_by-trimmed is_gap c.args.text.now)
