-- Places among the sets that a script leads a device through, by how much of its events there was.
use Rattle.std.specs.Prelude.{ℕ, ◌<◌, ◌≤◌}

-- behind so many events the place is past this one, and behind fewer it wasn't
abbrev pub IsFirstPast : (ℕ → ℕ) → ℕ → ℕ → Type 0
IsFirstPast place k n = (k < place n) × ((m : ℕ) → m < n → place m ≤ k)
