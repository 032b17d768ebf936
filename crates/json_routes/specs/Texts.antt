-- What a text of JSON comes to, and an import of one, by what its source gave and what its sink took.
use Rattle.std.specs.Prelude.{◌≡◌, ◌⊎◌, ℕ, Bool, Option, Some, List, [], codes}
use Rattle.std.specs.List.{concat}
use Rattle.std.specs.Str.{IsUtf8}
use Rattle.std.specs.Io.KnownBytes.{Appends}
use Rattle.json.specs.Json.{array, document, Items}
use Rattle.script_lines.specs.Given.{HasEnd}
use Rattle.script_runs.specs.declared.Status.{Status}
use Rattle.script_runs.specs.declared.Status.TheVariants as status
use Rattle.import_lines.specs.Import.{ImportEnd, Whole, StoppedAt, StoppedAtEnd, ImportedScript}
use Rattle.import_lines.specs.Writes.{ClosesBy}
use Rattle.ip_routes.specs.Telling.{Known}
use Rattle.json_routes.specs.Items.{items_script}

-- a text is an array of these items
abbrev pub IsArrayOf : List ℕ → Items → Type 0
IsArrayOf text items = IsUtf8 text × (document text ≡ Some (array items))

-- the status of a script that ends so
abbrev pub status_of : ImportEnd → Status
status_of (Whole left_out) = status.Done
status_of (StoppedAt number) = status.Script
status_of StoppedAtEnd = status.Script

-- the script of an array of routes, and of a text that is no array
abbrev pub IsScriptOf : ImportedScript → List ℕ → Status → Type 0
IsScriptOf script written answer = (written ≡ script.text) × (answer ≡ status_of script.last)

abbrev pub no_array : List ℕ
no_array = codes "no JSON array\n"

-- What a text comes to: the script of its items, or the line that says that it is no array of any.
pub data TextTold (leave_out : Bool) (known : Known) (text written : List ℕ) (answer : Status) : Type 0 where
  ByItems : (items : Items) → IsArrayOf text items → IsScriptOf (items_script leave_out known 1 0 items) written answer → TextTold leave_out known text written answer
  NoArray : ((items : Items) → IsArrayOf text items → ⊥) → written ≡ no_array → answer ≡ status.Script → TextTold leave_out known text written answer

-- the whole of what a source gave, to its end
abbrev pub IsWholeOf : List (List ℕ) → List ℕ → Type 0
IsWholeOf pieces text = HasEnd pieces × (text ≡ concat pieces)

-- Where the source was read to its end the whole of what it gave is told: what that comes to was written whole, and the status
-- follows, or a part of it, and the sink failed.
pub record TellsWhole (leave_out : Bool) (known : Known) (pieces : List (List ℕ)) (answer : Status) (old new : Option (List ℕ)) : Type 0 where
  pub ended : HasEnd pieces
  pub written : List ℕ
  pub last : Status
  pub told : TextTold leave_out known (concat pieces) written last
  pub writes : ClosesBy written last answer old new

-- Or nothing was written: the source failed, or memory was wanting.
pub data JsonBy (leave_out : Bool) (known : Known) (pieces : List (List ℕ)) (answer : Status) (old new : Option (List ℕ)) : Type 0 where
  Told : TellsWhole leave_out known pieces answer old new → JsonBy leave_out known pieces answer old new
  Untold : (answer ≡ status.ReadFault) ⊎ (answer ≡ status.Memory) → Appends old new [] → JsonBy leave_out known pieces answer old new
