use Rattle.std.proofs.Common.{◌≡◌, ℕ, ◌≤◌, take, nat_lt, count_by}
use Rattle.move_planner.proofs.landing.coming_above.Given as goal

-- the higher ones among the first of them
abbrev pub invariant-loop-later : goal.invariant-loop-later
invariant-loop-later l = record {
  is : l.count ≡ count_by (λ (later : ℕ). nat_lt l.rank later) (take l.later-index l.coming);
  few : l.count ≤ l.later-index;
}
