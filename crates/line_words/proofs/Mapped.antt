-- What `map` makes of a result.
use Rattle.std.proofs.Common.{◌≡◌, Result, Ok, Err, ap}
use Rattle.std.specs.Result.{MatchResult, IsOkAnd}
use Rattle.line_words.specs.Words.{◌>>=◌}

-- a value is mapped, and a fault stays
pub mapped : {A B E : Type 0} (r : Result A E) (f : A → B) (out : Result B E)
    → MatchResult r (λ x. IsOkAnd out (λ y. y ≡ f x)) (λ e. out ≡ Err e) → out ≡ (r >>= λ x. Ok (f x))
mapped (Ok x) f (Ok y) is = ap Ok is
mapped (Ok x) f (Err e) is = absurd is
mapped (Err e) f out is = is
