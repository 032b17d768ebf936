use Rattle.std.proofs.Common.{◌≡◌, false, length}
use Rattle.line_words.specs.Words.{words_of}
use Rattle.iptables.specs.Passing.{passes}
use Rattle.iptables.proofs.passing.passes.Given as goal

abbrev pub invariant-words : goal.invariant-words
invariant-words l = record { same : passes false (words_of l.text) ≡ passes l.quoted (words_of l.rest) }

abbrev pub decreases-words : goal.decreases-words
decreases-words l = length (words_of l.rest)
