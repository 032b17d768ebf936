use Rattle.std.proofs.Common.{◌≡◌, ◌≤◌, drop}
use Rattle.kept_numbers.specs.Numbered.{numbered, put_before}
use Rattle.kept_numbers.proofs.numbering.numbered.Given as goal

abbrev pub invariant-loop-mark : goal.invariant-loop-mark
invariant-loop-mark l = record {
  told : numbered 0 0 l.marks ≡ put_before l.numbers.items (numbered l.at.low l.at.wait (drop l.mark-index l.marks));
  low : l.at.low ≤ 4294967295;
  few : l.at.wait ≤ l.mark-index;
}
