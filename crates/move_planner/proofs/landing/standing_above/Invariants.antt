use Rattle.std.proofs.Common.{◌≡◌, ℕ, ◌≤◌, Option, take, nat_lt, count_by}
use Rattle.slot_moves.specs.Cuts.{holds}
use Rattle.placement.specs.Live.{rank_in}
use Rattle.move_planner.proofs.landing.standing_above.Given as goal

-- the higher ones among the first slots
abbrev pub invariant-loop-slot : goal.invariant-loop-slot
invariant-loop-slot l = record {
  is : l.count ≡ count_by (λ (held : Option ℕ). holds (λ id. nat_lt l.rank (rank_in l.index.live id)) held) (take l.slot l.slots);
  few : l.count ≤ l.slot;
}
