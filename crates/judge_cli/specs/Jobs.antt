-- What a command line of judgements comes to.
use Rattle.std.specs.Prelude.{◌≡◌, ◌⊎◌, ℕ, Option, List, [], codes}
use Rattle.script_runs.specs.declared.Status.{Status}
use Rattle.script_runs.specs.declared.Status.TheVariants as status
use Rattle.import_lines.specs.Writes.{ClosesBy, LastBy}
use Rattle.driver_verify.specs.Verify.{VerifiesBy}
use Rattle.driver_verify.specs.declared.DriverVerdict.{DriverVerdict}
use Rattle.driver_verify.specs.declared.DriverVerdict.TheVariants as verdict
use Rattle.judge_cli.specs.CommandLine.{JudgeJob, NoJob, Tells, Judges}
use Rattle.judge_cli.specs.Lines.{told_status, told_text}

-- a line was written whole, and the status follows, or a part of it, where the sink failed; or memory was wanting before
abbrev pub TellsLine : DriverVerdict → Status → Option (List ℕ) → Option (List ℕ) → Type 0
TellsLine told answer old new = ClosesBy (told_text told) (told_status told) answer old new ⊎ ((answer ≡ status.Memory) × (new ≡ old))

-- The line of a judgement was written; or nothing was, where the source failed or memory was wanting.
abbrev pub TellsBy : DriverVerdict → Status → Option (List ℕ) → Option (List ℕ) → Type 0
TellsBy verdict.Read answer old new = (answer ≡ status.ReadFault) × (new ≡ old)
TellsBy verdict.Memory answer old new = (answer ≡ status.Memory) × (new ≡ old)
TellsBy told answer old new = TellsLine told answer old new

-- A job is carried out, a judgement by this answer: it is right of what the source gave, whatever comes behind it, and is told; or
-- nothing is read, and the text is written whole, or a part of it where the sink failed, or nothing where memory was wanting.
abbrev pub CarriesOut : JudgeJob → DriverVerdict → List (List ℕ) → Status → Option (List ℕ) → Option (List ℕ) → Type 0
CarriesOut NoJob told pieces answer old new = (pieces ≡ []) × LastBy (codes "usage\n") status.Usage answer old new
CarriesOut (Tells text) told pieces answer old new = (pieces ≡ []) × LastBy text status.Done answer old new
CarriesOut (Judges by) told pieces answer old new = VerifiesBy by pieces told × TellsBy told answer old new
