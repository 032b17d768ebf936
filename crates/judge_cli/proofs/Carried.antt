-- What a command line comes to, by what its calls answer.
use Rattle.std.proofs.Common.{◌≡◌, ℕ, inl, inr, Option, List, [], refl, sym, subst}
use Rattle.std.specs.Prelude.{codes}
use Rattle.std.proofs.KnownBytes.{Appends-nil}
use Rattle.script_runs.specs.declared.Status.{Status}
use Rattle.script_runs.specs.declared.Status.TheVariants as status
use Rattle.import_lines.specs.Writes.{ClosesBy}
use Rattle.driver_verify.specs.declared.DriverVerdict.{DriverVerdict}
use Rattle.driver_verify.specs.declared.DriverVerdict.TheVariants as verdict
use Rattle.judge_cli.specs.declared.asked.Asked.{Asked}
use Rattle.judge_cli.specs.declared.asked.Asked.TheVariants as asked
use Rattle.judge_cli.specs.CommandLine.{JudgeJob, NoJob, Tells, Judges, asked_by}
use Rattle.judge_cli.specs.OwnTexts.{judge_help}
use Rattle.judge_cli.specs.Jobs.{CarriesOut}

-- what an answer asks for
pub carried-as : (a b : Asked) (told : DriverVerdict) (pieces : List (List ℕ)) (answer : Status) (o n : Option (List ℕ)) → a ≡ b
    → CarriesOut (asked_by b) told pieces answer o n → CarriesOut (asked_by a) told pieces answer o n
carried-as a b told pieces answer o n is carries = subst (λ x. CarriesOut (asked_by x) told pieces answer o n) (sym is) carries

-- the help, and words that are no command line
pub helped : (a : Asked) (text : List ℕ) (answer : Status) (o n : Option (List ℕ)) → a ≡ asked.Help → text ≡ judge_help → ClosesBy text status.Done answer o n
    → CarriesOut (asked_by a) verdict.Memory [] answer o n
helped a text answer o n is same closes =
    carried-as a asked.Help verdict.Memory [] answer o n is (refl, inl (subst (λ t. ClosesBy t status.Done answer o n) same closes))

pub misused : (job : JudgeJob) (text : List ℕ) (answer : Status) (o n : Option (List ℕ)) → job ≡ NoJob → text ≡ codes "usage\n" → ClosesBy text status.Usage answer o n
    → CarriesOut job verdict.Memory [] answer o n
misused job text answer o n is same closes =
    subst (λ j. CarriesOut j verdict.Memory [] answer o n) (sym is) (refl, inl (subst (λ t. ClosesBy t status.Usage answer o n) same closes))

-- memory was wanting before anything was read or written
pub wanting : (job : JudgeJob) (o : Option (List ℕ)) → CarriesOut job verdict.Memory [] status.Memory o o
wanting NoJob o = (refl, inr (refl, Appends-nil o))
wanting (Tells text) o = (refl, inr (refl, Appends-nil o))
wanting (Judges by) o = (λ text after may. record { told = tt; yes = tt; no = tt }, (refl, refl))
