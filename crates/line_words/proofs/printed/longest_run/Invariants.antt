use Rattle.std.proofs.Common.{◌≡◌, ◌+◌, ◌≤◌, length, drop}
use Rattle.line_words.specs.Shown.{zeros_first, longest_run}
use Rattle.line_words.proofs.printed.longest_run.Given as goal

-- the zeros and the longest run from the place on
abbrev pub invariant-loop-place : goal.invariant-loop-place
invariant-loop-place l = record {
  zeros : l.zeros ≡ zeros_first (drop l.place l.groups);
  longest : l.longest ≡ longest_run l.place (drop l.place l.groups);
  room : l.zeros + l.place ≤ length l.groups;
}
