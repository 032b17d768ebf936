use Rattle.std.proofs.Common.{◌≡◌, take, drop}
use Rattle.rule_store.specs.Batch.{batch_fault, batch_fault_after}
use Rattle.rule_store.proofs.stored.Store.check.Given as goal

abbrev pub invariant-loop-i : goal.invariant-loop-i
invariant-loop-i l = batch_fault l.self.rules l.batch ≡ batch_fault_after l.self.rules (take l.i l.batch) (drop l.i l.batch)
