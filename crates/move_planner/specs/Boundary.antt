-- The choice of a boundary, from the marks of a crossed stretch.
use Rattle.std.specs.Prelude.{◌≡◌, ℕ, ◌+◌, ◌-◌, ◌<◌, ◌≤◌, Bool, false, ◌&&◌, cond, nat_lt, nat_le, if◌then◌else◌, Option, None, Some, MatchOption, List, take, drop, count_by}
use Rattle.slot_moves.specs.Cuts.{free_behind, near_before, near_behind}
use Rattle.slot_pool.specs.Arrangement.{Slots, is_free}
use Rattle.move_planner.specs.declared.sides.Sides.{Sides}
use Rattle.move_planner.specs.declared.boundary.Tally.{Tally}
use Rattle.move_planner.specs.declared.boundary.Choice.{Choice}
use Rattle.move_planner.specs.Steps.{mark_at}

-- 1 for what is so
abbrev pub one : Bool → ℕ
one so = cond so 1 0

-- how many marks are set
abbrev pub count_marks : List Bool → ℕ
count_marks marks = count_by (λ (mark : Bool). mark) marks

-- how many marked slots stand on the wrong side of a boundary
abbrev pub marked_early : Sides → ℕ → ℕ
marked_early sides cut = count_marks (take (cut - sides.start) sides.behind)

abbrev pub marked_late : Sides → ℕ → ℕ
marked_late sides cut = count_marks (drop (cut - sides.start) sides.before)

abbrev pub marked_wrong : Sides → ℕ → ℕ
marked_wrong sides cut = marked_early sides cut + marked_late sides cut

-- a boundary has room for them
pub record HasMarkedRoom (slots : Slots) (sides : Sides) (cut : ℕ) : Type 0 where
  pub room_behind : marked_early sides cut ≤ near_behind sides.end cut slots + marked_late sides cut
  pub room_before : marked_late sides cut ≤ near_before sides.start cut slots + marked_early sides cut

-- of the boundaries up to one, that with room and the fewest, the last of equal ones
pub record IsBestTo (slots : Slots) (sides : Sides) (to cut : ℕ) : Type 0 where
  pub low : sides.start ≤ cut
  pub high : cut ≤ to
  pub room : HasMarkedRoom slots sides cut
  pub fewest : (other : ℕ) → sides.start ≤ other → other ≤ to → HasMarkedRoom slots sides other → marked_wrong sides cut ≤ marked_wrong sides other
  pub last : (other : ℕ) → cut < other → other ≤ to → HasMarkedRoom slots sides other → marked_wrong sides cut < marked_wrong sides other

-- a choice that was made of them
pub record IsChosen (slots : Slots) (sides : Sides) (to : ℕ) (choice : Choice) : Type 0 where
  pub best : IsBestTo slots sides to choice.boundary
  pub wrong_is : choice.wrong ≡ marked_wrong sides choice.boundary

abbrev pub IsChosenTo : Slots → Sides → ℕ → Option Choice → Type 0
IsChosenTo slots sides to choice = MatchOption choice ((other : ℕ) → sides.start ≤ other → other ≤ to → HasMarkedRoom slots sides other → ⊥) (IsChosen slots sides to)

-- a tally is right
pub record IsTallied (slots : Slots) (sides : Sides) (tally : Tally) (cut : ℕ) : Type 0 where
  pub early_is : tally.early ≡ marked_early sides cut
  pub late_is : tally.late ≡ marked_late sides cut
  pub before_is : tally.free_before ≡ near_before sides.start cut slots
  pub behind_is : tally.free_behind ≡ near_behind sides.end cut slots

abbrev pub has_room : Tally → Bool
has_room tally = nat_le tally.early (tally.free_behind + tally.late) && nat_le tally.late (tally.free_before + tally.early)

-- no slot from one on and before another is marked or free: what is on either side of a boundary stays the same
pub record AreQuiet (slots : Slots) (sides : Sides) (from to : ℕ) : Type 0 where
  pub no_behind : (at : ℕ) → from ≤ at → at < to → mark_at sides.behind sides.start at ≡ false
  pub no_before : (at : ℕ) → from ≤ at → at < to → mark_at sides.before sides.start at ≡ false
  pub no_free : (at : ℕ) → from ≤ at → at < to → is_free slots at ≡ false

-- of a choice and a boundary with room the better one
abbrev pub with_fitting : Option Choice → Tally → ℕ → Option Choice
with_fitting None tally boundary = Some (record { boundary = boundary; wrong = tally.early + tally.late })
with_fitting (Some choice) tally boundary =
    if nat_lt choice.wrong (tally.early + tally.late) then Some choice else Some (record { boundary = boundary; wrong = tally.early + tally.late })

abbrev pub with_better : Option Choice → Tally → ℕ → Option Choice
with_better choice tally boundary = if has_room tally then with_fitting choice tally boundary else choice

-- what was found is the least free slot above one and before another, by the free slots from there on
abbrev pub IsNextFree : Slots → ℕ → ℕ → Option ℕ → Type 0
IsNextFree slots at end found = MatchOption found (free_behind (at + 1) slots ≡ free_behind end slots)
    (λ next. (at < next) × (next < end) × (free_behind (at + 1) slots ≡ free_behind (next + 1) slots + 1))
