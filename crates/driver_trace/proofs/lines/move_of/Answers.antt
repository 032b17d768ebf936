use Rattle.std.proofs.Common.{◌≡◌, length, rules, sym}
use Rattle.driver_trace.proofs.Read.{move_in-other}
use Rattle.driver_trace.proofs.lines.move_of.Goals as goal
use Rattle.driver_trace.proofs.lines.move_of.Goals.{in_default-via-then-as_slice-lt3, in_default-via-else-as_slice-lt3+else-this-lt4}

pub returns-in_default : goal.returns-in_default
returns-in_default c =
    let other : length c.as_slice.result.now ≡ 3 → ⊥ = λ same. elim c.in_default.branch [ in_default-via-then-as_slice-lt3 w ↦ search rules | in_default-via-else-as_slice-lt3+else-this-lt4 w ↦ search rules ] in
    sym (move_in-other _ _ _ c.in_ok-as_array.ensures c.as_slice.ensures.value other)
