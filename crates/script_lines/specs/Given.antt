-- What a source gave and a sink accepted, call by call: what an object that foretells nothing can still remember.
use Rattle.std.specs.Prelude.{◌≡◌, ◌⊎◌, ℕ, Bool, true, false, List, [], ◌∷◌, ◌++◌, Option, Some, Result, take, MatchResult}
use Rattle.std.specs.List.{concat}
use Rattle.std.specs.Io.KnownBytes.{Consumes, IsAtEnd}

-- a read that answered Ok gave one piece more, and a failed one gave nothing
abbrev pub Gives : {E : Type 0} → List (List ℕ) → List (List ℕ) → Result ℕ E → List ℕ → Type 0
Gives old new result into = MatchResult result (λ n. new ≡ old ++ take n into ∷ []) (λ _. new ≡ old)

-- a write that answered Ok accepted the bytes that it counts, and a failed one accepted nothing
abbrev pub Accepts : {E : Type 0} → List ℕ → List ℕ → Result ℕ E → List ℕ → Type 0
Accepts old new result from = MatchResult result (λ n. new ≡ old ++ take n from) (λ _. new ≡ old)

-- some read gave nothing: the source said that the input is at its end
abbrev pub HasEnd : List (List ℕ) → Type 0
HasEnd [] = ⊥
HasEnd (piece ∷ pieces) = (piece ≡ []) ⊎ HasEnd pieces

-- a source that had these bytes to give may have given these pieces, and have those left: after the end it has none
pub record MayGive (left : List ℕ) (pieces : List (List ℕ)) (after : List ℕ) : Type 0 where
  pub bytes : left ≡ concat pieces ++ after
  pub end : HasEnd pieces → after ≡ []

-- a source gave these pieces, of what it had left where it tells that
pub record GivesPieces (given_old given_new : List (List ℕ)) (left_old left_new : Option (List ℕ)) (pieces : List (List ℕ)) : Type 0 where
  pub given : given_new ≡ given_old ++ pieces
  pub taken : Consumes left_old left_new (concat pieces)
  pub end : HasEnd pieces → IsAtEnd left_new

-- What is promised over a source that had these bytes before and has those now, at every source that may have given
-- what this one gave: nobody foretold the rest. After the end there is none.
abbrev pub ByGiven : List (List ℕ) → List (List ℕ) → (Option (List ℕ) → Option (List ℕ) → Type 0) → Type 0
ByGiven given_old given_new promise =
    (pieces : List (List ℕ)) × (given_new ≡ given_old ++ pieces)
    × ((left after : List ℕ) → MayGive left pieces after → promise (Some left) (Some after))

-- The bytes of a sink that a clause speaks of, either what it holds, where it tells that, or what its calls that
-- answered Ok accepted.
abbrev pub counted : Bool → Option (List ℕ) → List ℕ → Option (List ℕ)
counted true taken accepted = taken
counted false taken accepted = Some accepted
