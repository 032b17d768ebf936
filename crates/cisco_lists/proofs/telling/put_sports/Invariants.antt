use Rattle.std.proofs.Common.{◌≡◌, ◌≤◌, ◌+◌, ◌*◌, ◌++◌, drop}
use Rattle.cisco_lists.specs.Telling.{sport_lines}
use Rattle.cisco_lists.proofs.telling.put_sports.Given as goal

abbrev pub invariant-loop-sport : goal.invariant-loop-sport
invariant-loop-sport l = record {
  text : l.fn.into.items ++ sport_lines l.entry l.number l.sports ≡ l.into.items ++ sport_lines l.entry l.next (drop l.sport-index l.sports);
  small : l.next ≤ l.number + 10 * l.sport-index;
}
