use Rattle.std.proofs.Common.{sym, subst}
use Rattle.line_words.specs.declared.WordFault.{WordFault}
use Rattle.line_words.specs.Notations.{notation_for}
use Rattle.line_words.specs.Words.{words_of}
use Rattle.script_faults.specs.Troubles.{IsAtFault}
use Rattle.script_faults.proofs.search.wrong_in.Goals as goal

pub returns-in-WordCount-clause-word : goal.returns-in-WordCount-clause-word
returns-in-WordCount-clause-word c =
    subst (λ (fault : WordFault). IsAtFault (notation_for c.args.version) (words_of c.args.text.now) fault c.miscounted.result.0 c.miscounted.result.1) (sym c.in-WordCount.is)
    c.miscounted.ensures.word
