use Rattle.std.proofs.Common.{arith}
use Rattle.block_windows.specs.Windows.{open_bits}
use Rattle.block_windows.proofs.Blocks.{span_fits}
use Rattle.block_windows.proofs.last_of.Goals as goal

pub overflow_add-result : goal.overflow_add-result
overflow_add-result c =
    let room = span_fits c.window.result (open_bits c.args.before c.args.block.now.len) (omega arith) (omega arith) c.window.ensures.no_host_bits in
    let span = c.window_count.ensures.value in
    record { fits = omega arith }
