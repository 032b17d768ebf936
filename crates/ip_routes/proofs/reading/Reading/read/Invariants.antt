use Rattle.std.proofs.Common.{◌≡◌, [], length}
use Rattle.ip_routes.specs.Words.{gap_words}
use Rattle.ip_routes.specs.Reading.{read_words}
use Rattle.ip_routes.proofs.reading.Reading.read.Given as goal

abbrev pub invariant-words : goal.invariant-words
invariant-words l = record {
  same : read_words l.version l.fn.self [] (gap_words l.text) ≡ read_words l.version l.self l.last (gap_words l.rest);
}

abbrev pub decreases-words : goal.decreases-words
decreases-words l = length (gap_words l.rest)
