-- A boundary between slots, and the entries that must stand behind it or before it.
use Rattle.std.specs.Prelude.{ℕ, ◌+◌, ◌-◌, min, ◌≤◌, Bool, false, List, take, drop, count_by, is_none, Option, None, Some}

-- an entry stands here and passes the test
abbrev pub holds : {E : Type 0} → (E → Bool) → Option E → Bool
holds test None = false
holds test (Some entry) = test entry

-- how many entries stand before a boundary and must stand behind it
abbrev pub early : {E : Type 0} → (E → Bool) → ℕ → List (Option E) → ℕ
early {E} behind cut slots = count_by (λ (held : Option E). holds behind held) (take cut slots)

-- how many stand behind it and must stand before it
abbrev pub late : {E : Type 0} → (E → Bool) → ℕ → List (Option E) → ℕ
late {E} before cut slots = count_by (λ (held : Option E). holds before held) (drop cut slots)

-- how many stand on its wrong side
abbrev pub wrong_side : {E : Type 0} → (E → Bool) → (E → Bool) → ℕ → List (Option E) → ℕ
wrong_side behind before cut slots = early behind cut slots + late before cut slots

-- how many slots before a boundary are empty, and how many from it on
abbrev pub free_before : {E : Type 0} → ℕ → List (Option E) → ℕ
free_before {E} cut slots = count_by (λ (held : Option E). is_none held) (take cut slots)

abbrev pub free_behind : {E : Type 0} → ℕ → List (Option E) → ℕ
free_behind {E} cut slots = count_by (λ (held : Option E). is_none held) (drop cut slots)

-- the entries on either wrong side fit into the empty slots beyond the boundary and those that the other side's leave
pub record HasRoom {E : Type 0} (behind before : E → Bool) (cut : ℕ) (slots : List (Option E)) : Type 0 where
  pub room_behind : early behind cut slots ≤ free_behind cut slots + late before cut slots
  pub room_before : late before cut slots ≤ free_before cut slots + early behind cut slots

-- how many empty slots before a boundary are near it: those of a stretch, and two before the stretch, if so many are empty
abbrev pub near_before : {E : Type 0} → ℕ → ℕ → List (Option E) → ℕ
near_before start cut slots = free_before cut slots - free_before start slots + min 2 (free_before start slots)

-- and from the boundary on: those of the stretch, and two behind it
abbrev pub near_behind : {E : Type 0} → ℕ → ℕ → List (Option E) → ℕ
near_behind end cut slots = free_behind cut slots - free_behind end slots + min 2 (free_behind end slots)

-- room in the near slots alone, where the stretch is from one slot on and before another
pub record HasRoomNear {E : Type 0} (behind before : E → Bool) (start end cut : ℕ) (slots : List (Option E)) : Type 0 where
  pub room_behind : early behind cut slots ≤ near_behind end cut slots + late before cut slots
  pub room_before : late before cut slots ≤ near_before start cut slots + early behind cut slots
