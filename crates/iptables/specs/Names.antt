-- The chains of a table, by their names.
use Rattle.std.specs.Prelude.{ℕ, ◌+◌, Option, Some, None, List, [], ◌∷◌, ◌++◌, if◌then◌else◌}
use Rattle.std.specs.Str.{bytes_eq}

-- the number of a name, where the first one here has this
abbrev pub number_from : ℕ → List (List ℕ) → List ℕ → Option ℕ
number_from number [] name = None
number_from number (other ∷ names) name = if bytes_eq name other then Some number else number_from (number + 1) names name

abbrev pub name_number : List (List ℕ) → List ℕ → Option ℕ
name_number names name = number_from 0 names name

-- a chain is declared: it gets the next number, if it has none
abbrev pub names_by : List (List ℕ) → List ℕ → Option ℕ → List (List ℕ)
names_by names name (Some number) = names
names_by names name None = names ++ name ∷ []

abbrev pub names_with : List (List ℕ) → List ℕ → List (List ℕ)
names_with names name = names_by names name (name_number names name)
