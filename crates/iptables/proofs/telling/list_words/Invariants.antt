use Rattle.std.proofs.Common.{◌≡◌, ◌++◌, drop, length}
use Rattle.iptables.specs.Telling.{list_words}
use Rattle.iptables.proofs.telling.list_words.Given as goal

abbrev pub invariant-loop-line : goal.invariant-loop-line
invariant-loop-line l = record {
  words : l.words.items ++ list_words l.version l.policy l.last (drop l.line-index l.lines) ≡ list_words l.version l.policy l.last l.lines;
  many : length l.words.items ≡ l.line-index;
}
