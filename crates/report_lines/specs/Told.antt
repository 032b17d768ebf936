-- How lines are made of words, and what verdict a rejection tells: words that only the contracts of calls need.
use Rattle.std.specs.Prelude.{ℕ, List, [], ◌∷◌, ◌++◌}
use Rattle.rule_store.specs.Verdict.{Verdict, Unsound, OutOfBits, OutOfSlots}
use Rattle.readback.specs.declared.Rejection.{Rejection}
use Rattle.readback.specs.declared.Rejection.TheVariants as rejection

-- a line with these words more, each behind a space
abbrev pub with_words : List ℕ → List (List ℕ) → List ℕ
with_words line [] = line
with_words line (word ∷ words) = with_words (line ++ 32 ∷ word) words

-- the verdict that a rejection tells
abbrev pub verdict_told : Rejection → Verdict
verdict_told (rejection.Unsound fault) = Unsound fault
verdict_told (rejection.Bits field needed free) = OutOfBits field needed free
verdict_told (rejection.Slots needed free) = OutOfSlots needed free
