use Rattle.std.proofs.Common.{◌≡◌, false, length}
use Rattle.line_words.specs.Words.{words_of}
use Rattle.iptables.specs.Passing.{no_jump}
use Rattle.iptables.proofs.passing.no_jump.Given as goal

abbrev pub invariant-words : goal.invariant-words
invariant-words l = record { same : no_jump false (words_of l.text) ≡ no_jump l.quoted (words_of l.rest) }

abbrev pub decreases-words : goal.decreases-words
decreases-words l = length (words_of l.rest)
