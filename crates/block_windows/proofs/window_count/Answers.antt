use Rattle.std.proofs.Common.{arith, pow_mono}
use Rattle.std.proofs.lemmas.Nat.{one_shl}
use Rattle.block_windows.proofs.window_count.Goals as goal

pub returns-clause-most : goal.returns-clause-most
returns-clause-most c = rw (one_shl c.saturating_sub-2.result 64 (omega arith)) (pow_mono {i = c.saturating_sub-2.result} {j = 32} (omega arith))
