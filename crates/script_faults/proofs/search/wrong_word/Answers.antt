use Rattle.line_words.specs.Notations.{notation_for}
use Rattle.line_words.specs.Words.{words_of}
use Rattle.script_faults.specs.Troubles.{grammar_version}
use Rattle.script_faults.proofs.search.wrong_word.Goals as goal

pub returns-in-Err-clause-word : goal.returns-in-Err-clause-word
returns-in-Err-clause-word c = c.no_command.ensures.word (notation_for (grammar_version c.args.grammar)) (words_of c.args.text.now)
