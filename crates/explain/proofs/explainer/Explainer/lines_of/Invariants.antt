use Rattle.std.proofs.Common.{◌≡◌}
use Rattle.std.specs.Prelude.{vec_len}
use Rattle.explain.proofs.explainer.Explainer.lines_of.Given as goal

-- one line for each command so far
abbrev pub invariant-loop-i : goal.invariant-loop-i
invariant-loop-i l = vec_len l.lines ≡ l.i
