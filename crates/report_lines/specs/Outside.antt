-- What a call hands to a sink.
use Rattle.std.specs.Prelude.{◌≡◌, ℕ, ◌++◌, Bool, Option, IsSome, Result, OnOk, OnErr, List}
use Rattle.std.specs.Io.KnownBytes.{Appends}
use Rattle.script_lines.specs.Given.{counted}
use Rattle.call_history.specs.Cause.{HasCause}

-- What a call hands to a sink: one thing where it succeeds and another where it fails, by either count of the sink's
-- bytes. What was told stays told, and the sink's failures are counted.
pub record HandsOver {S T E : Type 0} (taken : S → Option (List ℕ)) (accepted : S → List ℕ) (faults : S → ℕ) (old new : S) (Whole Part : Option (List ℕ) → Option (List ℕ) → Type 0) (result : Result T E) : Type 0 where
  pub whole : (which : Bool) → OnOk result (Whole (counted which (taken old) (accepted old)) (counted which (taken new) (accepted new)))
  pub part : (which : Bool) → OnErr result (Part (counted which (taken old) (accepted old)) (counted which (taken new) (accepted new)))
  pub told : IsSome (taken old) → IsSome (taken new)
  pub cause : HasCause (faults old) (faults new) result

-- a part of a line came about, perhaps nothing or all of it
abbrev pub AppendsPart : Option (List ℕ) → Option (List ℕ) → List ℕ → Type 0
AppendsPart taken_old taken_new line =
    (partial : List ℕ) × (rest : List ℕ) × (line ≡ partial ++ rest) × Appends taken_old taken_new partial

-- one line, or a part of it
abbrev pub WritesLine : {S T E : Type 0} → (S → Option (List ℕ)) → (S → List ℕ) → (S → ℕ) → S → S → List ℕ → Result T E → Type 0
WritesLine taken accepted faults old new line result =
    HandsOver taken accepted faults old new (λ before after. Appends before after line) (λ before after. AppendsPart before after line) result
