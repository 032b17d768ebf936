-- The pairs with one id as their upper or as their lower end.
use Rattle.std.specs.Prelude.{ℕ, Bool, ◌==◌, if◌then◌else◌, Option, Some, None}
use Rattle.order_chains.specs.Pairs.{Pair}

abbrev pub has_upper : ℕ → Pair → Bool
has_upper id pair = pair.0 == id

abbrev pub has_lower : ℕ → Pair → Bool
has_lower id pair = pair.1 == id

-- what a place holds once the pairs of a kind are gone
abbrev pub without_those : (Pair → Bool) → Option Pair → Option Pair
without_those goes None = None
without_those goes (Some pair) = if goes pair then None else Some pair
