use Rattle.std.proofs.Common.{◌≡◌, take, drop}
use Rattle.line_words.specs.Ipv6.{at_double_colon}
use Rattle.line_words.proofs.Colons.{behind}
use Rattle.line_words.proofs.ipv6.double_colon.Given as goal

-- no two colons stand together up to the place
abbrev pub invariant-loop-place : goal.invariant-loop-place
invariant-loop-place l = at_double_colon l.word ≡ behind (take l.place l.word) (at_double_colon (drop l.place l.word))
