-- What the calls that read a command line answer: words that only their contracts need.
use Rattle.std.specs.Prelude.{ℕ, ◌≡◌, ◌≤◌, Option, Some, None, List, true, false, codes, if◌then◌else◌}
use Rattle.std.specs.Str.{bytes_eq}
use Rattle.slot_order.specs.Order.{most_slots, script_slots}
use Rattle.clap.specs.Walk.{Row, Text}
use Rattle.report_lines.specs.declared.Family.{Family}
use Rattle.report_lines.specs.declared.Family.TheVariants.{Route, Acl, Route6, Acl6}
use Rattle.tcam_cli.specs.declared.command_line.Asked.{Asked}
use Rattle.tcam_cli.specs.declared.command_line.Asked.TheVariants as asked
use Rattle.option_words.specs.Options.{is_large, is_traced, number_given, placed_by}
use Rattle.tcam_cli.specs.CommandLine.{is_json, is_named, job_at, job_by, made_at, mode_wanted, parted_by, script_setting, slots_by}
use Rattle.tcam_cli.specs.OwnTexts.{HelpOn, Version}
use Rattle.tcam_cli.specs.Headline.{Job, NoJob, Tells, Reads, Makes, Verifies}

-- what a subcommand asks for by rows that may not be clap's, whose numbers are tested again; where clap takes
-- the words the tests pass, and the two are one
abbrev pub tested_script : Family → List Row → Job
tested_script family rows =
    job_by (slots_by rows) (λ slots.
    job_by (number_given 0 15 (codes "depth") rows) (λ depth.
    job_at family slots (mode_wanted family rows) (placed_by rows) (is_traced rows) depth (is_json rows) (is_named rows) (parted_by rows) (is_large rows)))

abbrev pub tested_made : List Row → Job
tested_made rows =
    job_by (number_given 1 script_slots (codes "slots") rows) (λ slots.
    job_by (number_given 0 2147483647 (codes "seed") rows) (λ seed.
    job_by (number_given 1 256 (codes "rules") rows) (λ rules.
    job_by (number_given 1 64 (codes "batches") rows) (λ batches.
    made_at slots (mode_wanted Acl rows) (placed_by rows) seed rules batches))))

abbrev pub tested_job_of_rows : Text → List Row → Job
tested_job_of_rows name rows =
    if bytes_eq name (codes "route") then tested_script Route rows
    else if bytes_eq name (codes "acl") then tested_script Acl rows
    else if bytes_eq name (codes "route6") then tested_script Route6 rows
    else if bytes_eq name (codes "acl6") then tested_script Acl6 rows
    else if bytes_eq name (codes "gen") then tested_made rows
    else if bytes_eq name (codes "verify") then Verifies
    else NoJob

abbrev pub tested_job : Option (Text × List Row) → Job
tested_job None = NoJob
tested_job (Some (name, rows)) = tested_job_of_rows name rows

-- what an answer says that words ask for
abbrev pub asked_by : Asked → Job
asked_by (asked.Script family slots mode placement trace depth json names parts large) =
    Reads (script_setting family slots mode placement trace depth json names parts large)
asked_by (asked.Made slots mode placement seed rules batches) = Makes (script_setting Acl slots mode placement false 0 false false false false) seed rules batches
asked_by asked.Verify = Verifies
asked_by (asked.Help topic) = Tells (HelpOn topic)
asked_by asked.Version = Tells Version

-- the numbers of made commands are in their ranges
pub record AreMadeNumbers (slots seed rules batches : ℕ) : Type 0 where
  pub some_slots : 1 ≤ slots
  pub script_slots : slots ≤ script_slots
  pub seed_fits : seed ≤ 2147483647
  pub some_rules : 1 ≤ rules
  pub most_rules : rules ≤ 256
  pub some_batches : 1 ≤ batches
  pub most_batches : batches ≤ 64

-- the numbers of an answer are in their ranges
abbrev pub IsInRange : Asked → Type 0
IsInRange (asked.Script family slots mode placement trace depth json names parts large) =
    (1 ≤ slots) × (slots ≤ most_slots) × (depth ≤ 15)
IsInRange (asked.Made slots mode placement seed rules batches) = AreMadeNumbers slots seed rules batches
IsInRange asked.Verify = Unit {0}
IsInRange (asked.Help topic) = Unit {0}
IsInRange asked.Version = Unit {0}
