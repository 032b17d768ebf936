-- How changes and commits follow each other.
use Rattle.std.specs.Prelude.{◌≡◌, ℕ, ◌+◌, ◌<◌, List, [], ◌∷◌}
use Rattle.rule_gen.specs.declared.Made.{Made}
use Rattle.rule_gen.specs.declared.Made.TheVariants.{Change, Commit}

-- batches of at most so many changes, each ended by a commit, where so many changes of the first have come before
abbrev pub AreBatches : ℕ → ℕ → List Made → Type 0
AreBatches most come [] = come ≡ 0
AreBatches most come (Change change ∷ made) = (come < most) × AreBatches most (come + 1) made
AreBatches most come (Commit ∷ made) = AreBatches most 0 made
