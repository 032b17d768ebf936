use Rattle.std.proofs.Common.{sym, subst, ◌≡◌, ◌-◌, ◌/◌, ◌%◌, ◌^◌, ℕ}
use Rattle.block_windows.specs.Windows.{open_bits}
use Rattle.block_windows.proofs.Blocks.{window_multiple}
use Rattle.block_windows.proofs.window.Goals as goal

pub returns-clause-no_host_bits : goal.returns-clause-no_host_bits
returns-clause-no_host_bits c =
    subst (λ (n : ℕ). n / 2 ^ (96 - c.args.before) % 2 ^ 32 % 2 ^ open_bits c.args.before c.args.block.now.len ≡ 0) (sym c.addr.ensures.value)
    (window_multiple c.args.block.now.addr c.args.block.now.len c.args.before c.requires c.addr.ensures.block.no_host_bits)
