-- What one step of a walk over words takes.
use Rattle.std.specs.Prelude.{◌≡◌, ℕ, ◌≤◌, Option, Some, None, List, [], ◌∷◌, length}
use Rattle.std.specs.Borrow.{Bor}

-- the first of the words, which is no longer than a line, or nothing where there is none
abbrev pub TakesWord : List (List ℕ) → Option (Bor (List ℕ)) → List (List ℕ) → Type 0
TakesWord words None rest = (words ≡ []) × (rest ≡ [])
TakesWord words (Some word) rest = (words ≡ word.now ∷ rest) × (length word.now ≤ 512)
