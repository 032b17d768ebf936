use Rattle.std.proofs.Common.{◌≡◌, true, false, arith}
use Rattle.port_table.proofs.PortTable.new.Goals as goal

pub invariant_of-result : goal.invariant_of-result
invariant_of-result c = record {
  size = λ whole. absurd (let wrong : false ≡ true = whole in cc);
  enough = λ kept. omega arith;
}
