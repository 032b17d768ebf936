use Rattle.std.proofs.Common.{◌≡◌, [], length}
use Rattle.line_words.specs.Words.{words_of}
use Rattle.iptables.specs.Reading.{nothing_read, read_words}
use Rattle.iptables.proofs.reading.read_rule.Given as goal

abbrev pub invariant-words : goal.invariant-words
invariant-words l = record {
  same : read_words l.version l.face l.names nothing_read [] (words_of l.text) ≡ read_words l.version l.face l.names (record { seen = l.seen; tests = l.tests.items }) l.last (words_of l.rest);
}

abbrev pub decreases-words : goal.decreases-words
decreases-words l = length (words_of l.rest)
