use Rattle.std.proofs.Common.{arith}
use Rattle.prefix_trie.proofs.Cells.{no_fault}
use Rattle.prefix_trie.proofs.blocks.whole.Goals as goal

pub returns-in-Err : goal.returns-in-Err
returns-in-Err c = absurd (no_fault c.v6.result c.args.address 128 c.in-Err.field-0 (omega arith) (omega arith) c.v6.ensures.length c.v6.ensures.host_bits c.in-Err.is)
