use Rattle.std.proofs.Common.{◌≡◌, ◌+◌, take, fold, length}
use Rattle.rule_store.specs.Batch.{additions, with_rule}
use Rattle.rule_store.proofs.stored.Store.insert_all.Given as goal

abbrev pub invariant-loop-i : goal.invariant-loop-i
invariant-loop-i l = record {
  rules : l.self.rules ≡ fold with_rule l.fn.self.rules (additions (take l.i l.batch));
  spare : l.self.spare + length (additions (take l.i l.batch)) ≡ l.fn.self.spare;
}
