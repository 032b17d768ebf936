-- The command lines, by the declaration that clap is given, and what each asks for.
use Rattle.std.specs.Prelude.{ℕ, Bool, ◌&&◌, Option, Some, None, option_and_then, slice_get, List, [], ◌∷◌, true, false, codes, if◌then◌else◌}
use Rattle.std.specs.Str.{bytes_eq}
use Rattle.clap.specs.Walk.{Rule, Row, Text}
use Rattle.clap.specs.Simple.{App, new_app, new_rule, on_top, with_rule, with_subcommand, subcommand_of}
use Rattle.clap.specs.Faults.{fault_of}
use Rattle.clap.specs.Kinds.{Kinds}
use Rattle.clap.specs.declared.error.kind.ErrorKind.{ErrorKind}
use Rattle.clap.specs.declared.error.kind.ErrorKind.TheVariants as kind
use Rattle.clap.specs.declared.builder.action.ArgAction.TheVariants.{Set, SetTrue}
use Rattle.clap.specs.declared.builder.value_parser.ValueParser.TheVariants.{Unsigned}
use Rattle.option_words.specs.Options.{text_of, number_of, has_text, is_traced, mode_in, placed_by, slots_option, ranges_option, placement_option, trace_flag, number_position, large_flag, is_large, slots_given}
use Rattle.slot_order.specs.Order.{most_slots, script_slots}
use Rattle.report_lines.specs.Sizes.{sizes_by}
use Rattle.rule_store.specs.declared.Mode.{Mode}
use Rattle.rule_store.specs.declared.Mode.TheVariants.{Cover}
use Rattle.batch_order.specs.declared.Placement.{Placement}
use Rattle.report_lines.specs.declared.Family.{Family}
use Rattle.report_lines.specs.declared.Family.TheVariants.{Route, Acl, Route6, Acl6}
use Rattle.replay.specs.Effects.{Setting}
use Rattle.tcam_cli.specs.declared.own_texts.Topic.{Topic}
use Rattle.tcam_cli.specs.declared.own_texts.Topic.TheVariants as about
use Rattle.tcam_cli.specs.Headline.{Job, NoJob, Tells, Reads, Makes, Verifies}
use Rattle.tcam_cli.specs.OwnTexts.{HelpOn, Version}

-- a script of a family over so many slots in use, port ranges tested as the mode says, each insertion aiming as the
-- placement says, with a trace or without, with the words of probes searched after so many further writes, with a report in
-- JSON or without, with a trace by names or by the words of the device, with removals first where they may or last, and with
-- tables, batches and scripts of the large sizes or of the usual ones
abbrev pub script_setting : Family → ℕ → Mode → Placement → Bool → ℕ → Bool → Bool → Bool → Bool → Setting
script_setting family slots mode placement trace depth json names parts large =
    record { slots = slots; mode = mode; placement = placement; family = family; trace = trace; depth = depth; json = json; names = names; parts = parts; large = large }

-- --depth, a number from 0 to 15, by default 0
unfoldable pub depth_option : Rule
depth_option = record (new_rule (codes "depth")) {
  long = Some (codes "depth");
  action = Some Set;
  parser = Some (Unsigned 0 15);
  defaults = codes "0" ∷ [];
}

-- --json, a flag
unfoldable pub json_flag : Rule
json_flag = record (new_rule (codes "json")) { long = Some (codes "json"); action = Some SetTrue }

-- --names, a flag
unfoldable pub names_flag : Rule
names_flag = record (new_rule (codes "names")) { long = Some (codes "names"); action = Some SetTrue }

-- --removals, a word, by default last
unfoldable pub removals_option : Rule
removals_option = record (new_rule (codes "removals")) {
  long = Some (codes "removals");
  action = Some Set;
  defaults = codes "last" ∷ [];
}

-- a subcommand for route scripts, by its name
unfoldable pub route_app : Text → App
route_app name =
    with_rule (with_rule (with_rule (with_rule (with_rule (with_rule (with_rule (with_rule (new_app name) (slots_option most_slots)) placement_option) trace_flag)
    depth_option) json_flag) names_flag) removals_option) large_flag

-- a subcommand for access-list scripts, by its name
unfoldable pub acl_app : Text → App
acl_app name =
    with_rule (with_rule (with_rule (with_rule (with_rule (with_rule (with_rule (with_rule (with_rule (new_app name) (slots_option most_slots)) ranges_option) placement_option)
    trace_flag) depth_option) json_flag) names_flag) removals_option) large_flag

-- the subcommand for made commands: SEED, RULES and BATCHES
unfoldable pub gen_app : App
gen_app =
    with_rule (with_rule (with_rule (with_rule (with_rule (with_rule (new_app (codes "gen")) (number_position (codes "seed") 0 2147483647))
    (number_position (codes "rules") 1 256)) (number_position (codes "batches") 1 64)) (slots_option script_slots)) ranges_option) placement_option

-- the subcommand for the check of a trace
unfoldable pub verify_app : App
verify_app = new_app (codes "verify")

-- tcam with a required subcommand and a version; help is asked for by its flag alone
unfoldable pub tcam_top : App
tcam_top = on_top (λ top. record top {
  has_version = true;
  subcommand_required = true;
  disable_help_subcommand = true;
}) (new_app (codes "tcam"))

-- and with its subcommands
unfoldable pub tcam_app : App
tcam_app =
    with_subcommand (with_subcommand (with_subcommand (with_subcommand (with_subcommand (with_subcommand tcam_top (route_app (codes "route")).top)
    (acl_app (codes "acl")).top) (route_app (codes "route6")).top) (acl_app (codes "acl6")).top) gen_app.top) verify_app.top

-- whether a report in JSON is wanted
abbrev pub is_json : List Row → Bool
is_json rows = has_text (codes "json") (codes "true") rows

-- whether a trace is to be by names
abbrev pub is_named : List Row → Bool
is_named rows = has_text (codes "names") (codes "true") rows

-- whether removals go first, where the word says when they go
abbrev pub removals_in : Text → Option Bool
removals_in text =
    if bytes_eq text (codes "last") then Some false else if bytes_eq text (codes "first") then Some true else None

abbrev pub parted_by : List Row → Option Bool
parted_by rows = removals_in (text_of (codes "removals") rows)

-- the mode that is wanted: the ranges of a route are any port, and it has no such option
abbrev pub mode_wanted : Family → List Row → Option Mode
mode_wanted Route rows = Some Cover
mode_wanted Acl rows = mode_in (text_of (codes "ranges") rows)
mode_wanted Route6 rows = Some Cover
mode_wanted Acl6 rows = mode_in (text_of (codes "ranges") rows)

-- what is asked for by a number, if there is one
abbrev pub job_by : Option ℕ → (ℕ → Job) → Job
job_by None job = NoJob
job_by (Some number) job = job number

-- a script of a family over so many slots, where the words of --ranges, --placement and --removals name a mode, a placement
-- and when removals go. A report in JSON is a trace, which has the usual sizes: so there is none of large ones.
abbrev pub job_at : Family → ℕ → Option Mode → Option Placement → Bool → ℕ → Bool → Bool → Option Bool → Bool → Job
job_at family slots None placement trace depth json names parts large = NoJob
job_at family slots (Some mode) None trace depth json names parts large = NoJob
job_at family slots (Some mode) (Some placement) trace depth json names None large = NoJob
job_at family slots (Some mode) (Some placement) trace depth json names (Some parts) large =
    if json && large then NoJob else Reads (script_setting family slots mode placement trace depth json names parts large)

-- the commands of a seed, over so many slots, where these words name them: so many batches of so many rules
abbrev pub made_at : ℕ → Option Mode → Option Placement → ℕ → ℕ → ℕ → Job
made_at slots None placement seed rules batches = NoJob
made_at slots (Some mode) None seed rules batches = NoJob
made_at slots (Some mode) (Some placement) seed rules batches = Makes (script_setting Acl slots mode placement false 0 false false false false) seed rules batches

-- the number of slots that was given, where it is one of the sizes that are wanted
abbrev pub slots_by : List Row → Option ℕ
slots_by rows = slots_given (sizes_by (is_large rows)).slots rows

-- a script of a family, by its arguments
abbrev pub script_by : Family → List Row → Job
script_by family rows =
    job_by (slots_by rows) (λ slots.
    job_at family slots (mode_wanted family rows) (placed_by rows) (is_traced rows) (number_of (codes "depth") rows) (is_json rows) (is_named rows) (parted_by rows) (is_large rows))

-- what a subcommand and its arguments ask for: a script of its family over so many slots, made commands, or the check of a
-- trace
abbrev pub job_of_rows : Text → List Row → Job
job_of_rows name rows =
    if bytes_eq name (codes "route") then script_by Route rows
    else if bytes_eq name (codes "acl") then script_by Acl rows
    else if bytes_eq name (codes "route6") then script_by Route6 rows
    else if bytes_eq name (codes "acl6") then script_by Acl6 rows
    else if bytes_eq name (codes "gen") then made_at (number_of (codes "slots") rows) (mode_wanted Acl rows) (placed_by rows) (number_of (codes "seed") rows)
    (number_of (codes "rules") rows) (number_of (codes "batches") rows)
    else if bytes_eq name (codes "verify") then Verifies
    else NoJob

-- what a subcommand asks for, if there is one
abbrev pub job_of_subcommand : Option (Text × List Row) → Job
job_of_subcommand None = NoJob
job_of_subcommand (Some (name, rows)) = job_of_rows name rows

-- the subcommand that a word names
abbrev pub topic_named : Text → Option Topic
topic_named word =
    if bytes_eq word (codes "route") then Some about.Route
    else if bytes_eq word (codes "acl") then Some about.Acl
    else if bytes_eq word (codes "route6") then Some about.Route6
    else if bytes_eq word (codes "acl6") then Some about.Acl6
    else if bytes_eq word (codes "gen") then Some about.Gen
    else if bytes_eq word (codes "verify") then Some about.Verify
    else None

-- whose help words ask for, the program's name first: that of the subcommand that follows the name, if one does
abbrev pub topic_in : List Text → Option Topic
topic_in words = option_and_then topic_named (slice_get words 1)

-- what words ask for that clap doesn't take, by the kind of error that it answers and whose help it would be
abbrev pub job_of_fault : Option Topic → ErrorKind → Job
job_of_fault topic kind.DisplayHelp = Tells (HelpOn topic)
job_of_fault topic kind.DisplayVersion = Tells Version
job_of_fault topic k = NoJob

-- the same by the kinds that it may answer, and what the subcommand does where there is none
abbrev pub job_by_faults : Option Topic → Kinds → Option (Text × List Row) → Job
job_by_faults topic [] subcommand = job_of_subcommand subcommand
job_by_faults topic (k ∷ []) subcommand = job_of_fault topic k
job_by_faults topic (k ∷ l ∷ ks) subcommand = NoJob

-- what words ask for, the program's name first
abbrev pub job_of : List Text → Job
job_of words = job_by_faults (topic_in words) (fault_of tcam_app words) (subcommand_of tcam_app words)
