use Rattle.std.proofs.Common.{◌≡◌, length, rules, sym}
use Rattle.trace_file.proofs.Views.{change_in-other}
use Rattle.trace_file.proofs.lines.change_of.Goals as goal
use Rattle.trace_file.proofs.lines.change_of.Goals.{in_default-via-then-as_slice-lt2, in_default-via-else-as_slice-lt2+else-this-lt3}

pub returns-in_default : goal.returns-in_default
returns-in_default c =
    let other : length c.as_slice.result.now ≡ 2 → ⊥ = λ same. elim c.in_default.branch [ in_default-via-then-as_slice-lt2 w ↦ search rules | in_default-via-else-as_slice-lt2+else-this-lt3 w ↦ search rules ] in
    sym (change_in-other _ _ _ c.in_ok-as_array.ensures c.as_slice.ensures.value other)
