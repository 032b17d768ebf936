-- What the sink is handed by a call, and how that ends.
use Rattle.std.specs.Prelude.{◌≡◌, ◌⊎◌, ◌≤◌, ℕ, Bool, Option, List, [], ◌++◌, length, take, codes, decimal}
use Rattle.std.specs.Io.KnownBytes.{Appends}
use Rattle.call_history.specs.Cause.{IsCounted}
use Rattle.script_lines.specs.Given.{counted}
use Rattle.script_runs.specs.declared.Status.{Status}
use Rattle.script_runs.specs.declared.Status.TheVariants as status

-- A sink is handed one text. It took the whole of it where it didn't fail, and else a part of its front, perhaps none of
-- it; that it failed is counted, by either count of its bytes.
pub record TakesText {S : Type 0} (taken : S → Option (List ℕ)) (accepted : S → List ℕ) (faults : S → ℕ) (old new : S) (text : List ℕ) (failed : Type 0) : Type 0 where
  pub whole : ¬ failed → (which : Bool) → Appends (counted which (taken old) (accepted old)) (counted which (taken new) (accepted new)) text
  pub part : failed → (which : Bool) → (n : ℕ) × (n ≤ length text) × Appends (counted which (taken old) (accepted old)) (counted which (taken new) (accepted new)) (take n text)
  pub cause : IsCounted failed (faults old) (faults new)

-- the line that tells of the fault of a trace's line
abbrev pub fault_line : ℕ → List ℕ → List ℕ
fault_line line why = codes "line " ++ (decimal line ++ (codes " " ++ (why ++ codes "\n")))

-- what is wrong with a line of a trace
abbrev pub IsFault : List ℕ → Type 0
IsFault why = (why ≡ codes "bad trace") ⊎ ((why ≡ codes "line too long") ⊎ (why ≡ codes "bad byte"))

-- The text is one that this status tells of: of a line at fault its number and the fault, and nothing of a picture; of words
-- that are no command line that; of a failed source or want of memory nothing at all.
abbrev pub IsOf : Status → List ℕ → Type 0
IsOf status.Script text = (line : ℕ) × (why : List ℕ) × IsFault why × (text ≡ fault_line line why)
IsOf status.Usage text = text ≡ codes "usage\n"
IsOf status.ReadFault text = text ≡ []
IsOf status.Memory text = text ≡ []
IsOf status.DeviceFault text = ⊥
IsOf _ text = Unit {0}

-- the sink is handed one text of the status
abbrev pub Tells : {S : Type 0} → (S → Option (List ℕ)) → (S → List ℕ) → (S → ℕ) → S → S → Status → Type 0
Tells taken accepted faults old new told =
    (text : List ℕ) × TakesText taken accepted faults old new text (told ≡ status.WriteFault) × IsOf told text
