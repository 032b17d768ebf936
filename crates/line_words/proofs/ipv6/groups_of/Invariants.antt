use Rattle.line_words.proofs.Groups.{IsReading}
use Rattle.line_words.proofs.ipv6.groups_of.Given as goal

-- so many groups are read, of this value
abbrev pub invariant-loop-count : goal.invariant-loop-count
invariant-loop-count l = IsReading l.text l.rest l.count l.value
