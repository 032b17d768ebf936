use Rattle.std.proofs.Common.{◌≡◌, length}
use Rattle.ip_routes.specs.Words.{gap_words}
use Rattle.ip_monitor.specs.Events.{value_of}
use Rattle.ip_monitor.proofs.events.value_of.Given as goal

abbrev pub invariant-words : goal.invariant-words
invariant-words l = record { same : value_of l.name (gap_words l.text) ≡ value_of l.name (gap_words l.rest) }

abbrev pub decreases-words : goal.decreases-words
decreases-words l = length (gap_words l.rest)
