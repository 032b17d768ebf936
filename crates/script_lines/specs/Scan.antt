-- Where a scan of the bytes held stops.
use Rattle.std.specs.Prelude.{◌≡◌, ◌≢◌, ℕ, ◌+◌, ◌<◌, ◌≤◌, List, ◌∷◌, ◌++◌, Option, Some, [], length, take}
use Rattle.std.specs.List.{concat}
use Rattle.std.specs.Io.KnownBytes.{Consumes}
use Rattle.script_lines.specs.Lines.{limits, byte_fault}
use Rattle.script_lines.specs.Reader.{IsOpenLine, LastAtOpenLine}
use Rattle.script_lines.specs.declared.LineFault.TheVariants as fault
use Rattle.script_lines.specs.declared.Over.{Over}
use Rattle.script_lines.specs.declared.Over.TheVariants as over
use Rattle.script_lines.specs.declared.scan.Found.{Found}
use Rattle.script_lines.specs.declared.scan.Found.TheVariants as found

-- by how many bytes stand before the line, its number, the part of it that is scanned, and the bytes after that
abbrev pub StopsAt : Found → ℕ → ℕ → List ℕ → List ℕ → Type 0
StopsAt found.LineFeed before number line rest = (after : List ℕ) × (rest ≡ 10 ∷ after) × (before + length line < 268435456)
StopsAt found.Open before number line rest = rest ≡ []
StopsAt (found.Fault why) before number line rest =
    (byte : ℕ) × (after : List ℕ) × (rest ≡ byte ∷ after) × (byte_fault limits (before + length line) number (length line) byte ≡ Some why)

-- so many of the bytes held are of one line
pub record IsScanned (held : List ℕ) (scanned before : ℕ) : Type 0 where
  pub one_line : IsOpenLine before (take scanned held)
  pub there : scanned ≤ length held

-- what a reader of lines keeps
pub record IsReader (held : List ℕ) (scanned before number : ℕ) (is : Over) : Type 0 where
  pub scan : IsScanned held scanned before
  pub lines : number ≤ before + 1
  pub sound : is ≢ over.Stopped fault.Read

-- these pieces were read behind the bytes that were held
pub record Gathers (before : ℕ) (old new : List ℕ) (left after : Option (List ℕ)) (given_old given_new : List (List ℕ)) (pieces : List (List ℕ)) : Type 0 where
  pub grown : new ≡ old ++ concat pieces
  pub given : given_new ≡ given_old ++ pieces
  pub taken : Consumes left after (concat pieces)
  pub last : LastAtOpenLine before old pieces
