-- A number that may be missing, as one number: 0 where it is.
use Rattle.std.specs.Prelude.{◌≡◌, ℕ, zero, suc, Option, Some, None, refl}

abbrev pub number_in : ℕ → Option ℕ
number_in zero = None
number_in (suc n) = Some n

abbrev pub code_of : Option ℕ → ℕ
code_of None = 0
code_of (Some n) = suc n

pub code-back : (code : ℕ) → code_of (number_in code) ≡ code
code-back zero = refl
code-back (suc n) = refl
