use Rattle.std.proofs.Common.{ℕ, ◌-◌, ◌*◌, ◌/◌, ◌^◌, ◌<◌, ◌≤◌}
use Rattle.std.specs.Prelude.{slice_index}
use Rattle.trace_check.specs.Pages.{IsWithin, page_slots}
use Rattle.trace_check.proofs.pages.bounds_of.Given as goal

-- each of the page's first ones is within
abbrev pub invariant-loop-place : goal.invariant-loop-place
invariant-loop-place l = (k : ℕ) → l.at / page_slots * page_slots ≤ k → k < l.place → slice_index l.ranks k < 2 ^ 32 - 1 → IsWithin l.bounds (slice_index l.ranks k)
