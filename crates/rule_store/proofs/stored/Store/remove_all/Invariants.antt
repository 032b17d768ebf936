use Rattle.std.proofs.Common.{◌≡◌, ◌≤◌, take}
use Rattle.rule_store.specs.Applied.{remaining_rules}
use Rattle.rule_store.proofs.stored.Store.remove_all.Given as goal

abbrev pub invariant-loop-i : goal.invariant-loop-i
invariant-loop-i l = record {
  rules : l.self.rules ≡ remaining_rules l.fn.self.rules (take l.i l.batch);
  spare : l.fn.self.spare ≤ l.self.spare;
}
