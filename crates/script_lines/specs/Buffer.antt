-- The bytes that are read and not used.
use Rattle.std.specs.Prelude.{◌≡◌, ℕ, List, [], ◌∷◌, ◌++◌, Option, length}
use Rattle.std.specs.Io.KnownBytes.{Consumes, IsAtEnd}

-- these bytes were read after those, and none of them only at the end of the input
pub record Gains (old new : List ℕ) (left after : Option (List ℕ)) (given_old given_new : List (List ℕ)) (n : ℕ) : Type 0 where
  pub got : List ℕ
  pub grown : new ≡ old ++ got
  pub count : length got ≡ n
  pub taken : Consumes left after got
  pub given : given_new ≡ given_old ++ got ∷ []
  pub end : n ≡ 0 → IsAtEnd after
