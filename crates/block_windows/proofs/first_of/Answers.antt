use Rattle.std.proofs.Common.{◌∙◌, ap, sym, ◌*◌, ◌/◌, ◌^◌, ℕ}
use Rattle.rule_model.proofs.Multiples.{multiple_is}
use Rattle.block_windows.specs.Windows.{open_bits}
use Rattle.block_windows.proofs.first_of.Goals as goal

pub returns : goal.returns
returns c =
    let size = 2 ^ open_bits c.args.before c.args.block.now.len in
    sym (multiple_is c.window.result size c.window.ensures.no_host_bits) ∙ ap (λ (n : ℕ). n / size * size) c.window.ensures.value
