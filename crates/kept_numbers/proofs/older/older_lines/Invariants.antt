use Rattle.std.proofs.Common.{◌≡◌, ◌≤◌, ◌+◌, drop}
use Rattle.kept_numbers.specs.Older.{behind, older_lines}
use Rattle.kept_numbers.proofs.older.older_lines.Given as goal

abbrev pub invariant-loop-byte : goal.invariant-loop-byte
invariant-loop-byte l = record {
  told : behind l.older.items l.number l.line.items (drop l.byte-index l.text) ≡ older_lines l.text;
  number : l.number ≤ l.byte-index + 1;
}
