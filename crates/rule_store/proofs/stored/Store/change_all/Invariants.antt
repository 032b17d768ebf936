use Rattle.std.proofs.Common.{◌≡◌, take, map}
use Rattle.rule_store.specs.Batch.{with_result_after}
use Rattle.rule_store.proofs.stored.Store.change_all.Given as goal

abbrev pub invariant-loop-i : goal.invariant-loop-i
invariant-loop-i l = record {
  rules : l.self.rules ≡ map (with_result_after (take l.i l.batch)) l.fn.self.rules;
  spare : l.self.spare ≡ l.fn.self.spare;
}
