use Rattle.std.proofs.Common.{◌≡◌, ◌≤◌, ◌*◌, take, length, sum_by}
use Rattle.rule_model.specs.declared.Rule.{Rule}
use Rattle.rule_store.specs.Batch.{additions}
use Rattle.rule_store.specs.Verdict.{added_pieces}
use Rattle.rule_store.proofs.stored.Store.entries_added.Given as goal

abbrev pub invariant-loop-i : goal.invariant-loop-i
invariant-loop-i l = record {
  count : l.total ≡ sum_by (λ (new : Rule). length (added_pieces l.mode l.self.rules new)) (additions (take l.i l.batch));
  most : l.total ≤ 900 * l.i;
}
