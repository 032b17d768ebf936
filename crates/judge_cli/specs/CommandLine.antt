-- The command line of the judge, by the declaration that clap is given, and what it asks for.
use Rattle.std.specs.Prelude.{ℕ, Bool, Option, Some, None, List, [], ◌∷◌, true, false, codes, if◌then◌else◌}
use Rattle.std.specs.Str.{bytes_eq}
use Rattle.clap.specs.Walk.{Row, Rule, Text}
use Rattle.clap.specs.Simple.{App, new_app, new_rule, on_top, with_rule, with_subcommand, subcommand_of}
use Rattle.clap.specs.Faults.{fault_of}
use Rattle.clap.specs.Kinds.{Kinds}
use Rattle.clap.specs.declared.builder.action.ArgAction.TheVariants.{SetTrue}
use Rattle.clap.specs.declared.error.kind.ErrorKind.{ErrorKind}
use Rattle.clap.specs.declared.error.kind.ErrorKind.TheVariants as kind
use Rattle.option_words.specs.Options.{has_text}
use Rattle.driver_trace.specs.declared.Compared.{Compared}
use Rattle.driver_trace.specs.declared.Compared.TheVariants.{Answers, Results}
use Rattle.judge_cli.specs.declared.asked.Asked.{Asked}
use Rattle.judge_cli.specs.declared.asked.Asked.TheVariants as asked
use Rattle.judge_cli.specs.OwnTexts.{judge_help}

-- What words ask for: nothing, a text of the product, or a judgement, by what is compared.
pub data JudgeJob : Type 0 where
  NoJob : JudgeJob
  Tells : (text : List ℕ) → JudgeJob
  Judges : (by : Compared) → JudgeJob

-- --results, a flag
unfoldable pub results_flag : Rule
results_flag = record (new_rule (codes "results")) { long = Some (codes "results"); action = Some SetTrue }

-- a subcommand for judgements
unfoldable pub judge_app : App
judge_app = with_rule (new_app (codes "judge")) results_flag

-- tcam with a required subcommand; help is asked for by its flag alone
unfoldable pub judge_top : App
judge_top = on_top (λ top. record top { subcommand_required = true; disable_help_subcommand = true }) (new_app (codes "tcam"))

-- and with this one alone
unfoldable pub judge_line : App
judge_line = with_subcommand judge_top judge_app.top

-- by what answers are compared, with the flag or without it
abbrev pub compared_by : Bool → Compared
compared_by true = Results
compared_by false = Answers

-- what a subcommand and its arguments do
abbrev pub judge_job_of_rows : Text → List Row → JudgeJob
judge_job_of_rows name rows =
    if bytes_eq name (codes "judge") then Judges (compared_by (has_text (codes "results") (codes "true") rows)) else NoJob

abbrev pub judge_job_of : Option (Text × List Row) → JudgeJob
judge_job_of None = NoJob
judge_job_of (Some (name, rows)) = judge_job_of_rows name rows

-- what words ask for that clap doesn't take, by the kind of error that it answers
abbrev pub judge_job_of_fault : ErrorKind → JudgeJob
judge_job_of_fault kind.DisplayHelp = Tells judge_help
judge_job_of_fault k = NoJob

-- the same by the kinds that it may answer, and what the subcommand does where there is none
abbrev pub judge_job_by_faults : Kinds → Option (Text × List Row) → JudgeJob
judge_job_by_faults [] subcommand = judge_job_of subcommand
judge_job_by_faults (k ∷ []) subcommand = judge_job_of_fault k
judge_job_by_faults (k ∷ l ∷ ks) subcommand = NoJob

-- what words ask for, the program's name first
abbrev pub judge_job : List Text → JudgeJob
judge_job words = judge_job_by_faults (fault_of judge_line words) (subcommand_of judge_line words)

-- what an answer says that words ask for
abbrev pub asked_by : Asked → JudgeJob
asked_by (asked.Judge by) = Judges by
asked_by asked.Help = Tells judge_help
