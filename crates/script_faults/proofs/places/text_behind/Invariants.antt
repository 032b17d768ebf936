use Rattle.std.proofs.Common.{◌≡◌, ◌≤◌, drop, length}
use Rattle.line_words.specs.Words.{words_of}
use Rattle.script_faults.proofs.places.text_behind.Given as goal

-- the words that were passed are left out
abbrev pub invariant-loop : goal.invariant-loop
invariant-loop l = record {
  words : words_of l.text ≡ drop l.counter (words_of l.line);
  within : l.counter ≤ l.count;
  short : length l.text ≤ length l.line;
}
