use Rattle.std.proofs.Common.{◌≡◌, ◌≤◌, ◌*◌, take}
use Rattle.batch_order.specs.ByParts.{paired_number}
use Rattle.batch_order.specs.Noting.{all_undo}
use Rattle.batch_order.specs.Planning.{all_writes, as_writes}
use Rattle.batch_order.proofs.by_parts.parts_of_all.Given as goal

abbrev pub invariant-loop-place : goal.invariant-loop-place
invariant-loop-place l = record {
  counted : l.parts ≡ paired_number (take l.place (as_writes l.live.entries l.rewrites (all_writes l.writes))) (take l.place (as_writes l.live.entries l.rewrites (all_undo l.undo)));
  few : l.parts ≤ 3 * l.place;
}
