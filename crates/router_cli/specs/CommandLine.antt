-- The command line of a router's script, by the declaration that clap is given, and what it asks for.
use Rattle.std.specs.Prelude.{ℕ, Bool, Option, Some, None, List, [], ◌∷◌, true, codes, if◌then◌else◌}
use Rattle.std.specs.Str.{bytes_eq}
use Rattle.clap.specs.Walk.{Row, Text}
use Rattle.clap.specs.Simple.{App, new_app, on_top, with_rule, with_subcommand, subcommand_of}
use Rattle.clap.specs.Faults.{fault_of}
use Rattle.clap.specs.Kinds.{Kinds}
use Rattle.clap.specs.declared.error.kind.ErrorKind.{ErrorKind}
use Rattle.clap.specs.declared.error.kind.ErrorKind.TheVariants as kind
use Rattle.rule_model.specs.declared.IpVersion.{IpVersion}
use Rattle.rule_model.specs.declared.IpVersion.TheVariants.{V4, V6}
use Rattle.slot_order.specs.Order.{most_slots}
use Rattle.report_lines.specs.Sizes.{sizes_by}
use Rattle.rule_store.specs.declared.Mode.{Mode}
use Rattle.batch_order.specs.declared.Placement.{Placement}
use Rattle.option_words.specs.Options.{is_large, is_traced, large_flag, mode_in, placed_by, placement_option, ranges_option, slots_given, slots_option, text_of, trace_flag}
use Rattle.router_cli.specs.OwnTexts.{router_help}

-- What words ask for: nothing, a text of the product, or a router's script of a version of IP from the source, with so many slots of
-- each device in use, port ranges tested as the mode says, each insertion aiming as the placement says, with a trace or
-- without, and with the large sizes or the usual ones.
pub data RouterJob : Type 0 where
  NoJob : RouterJob
  Tells : (text : List ℕ) → RouterJob
  Routes : (version : IpVersion) (slots : ℕ) (mode : Mode) (placement : Placement) (trace large : Bool) → RouterJob

-- a subcommand for a router's scripts, by its name, which tells it from tcam's others
unfoldable pub router_app : Text → App
router_app name = with_rule (with_rule (with_rule (with_rule (with_rule (new_app name) (slots_option most_slots)) ranges_option) placement_option) trace_flag) large_flag

-- tcam with a required subcommand; help is asked for by its flag alone
unfoldable pub router_top : App
router_top = on_top (λ top. record top { subcommand_required = true; disable_help_subcommand = true }) (new_app (codes "tcam"))

-- and with these two alone, for scripts of IPv4 and of IPv6
unfoldable pub router_line : App
router_line = with_subcommand (with_subcommand router_top (router_app (codes "router")).top) (router_app (codes "router6")).top

-- a router's script of this version over so many slots, where the words of --ranges and --placement name a mode and a placement
abbrev pub routes_at : IpVersion → Option ℕ → Option Mode → Option Placement → Bool → Bool → RouterJob
routes_at version None mode placement trace large = NoJob
routes_at version (Some slots) None placement trace large = NoJob
routes_at version (Some slots) (Some mode) None trace large = NoJob
routes_at version (Some slots) (Some mode) (Some placement) trace large = Routes version slots mode placement trace large

-- what its arguments ask for: the number of slots is one of the sizes that are wanted
abbrev pub routes_by : IpVersion → List Row → RouterJob
routes_by version rows =
    routes_at version (slots_given (sizes_by (is_large rows)).slots rows) (mode_in (text_of (codes "ranges") rows)) (placed_by rows) (is_traced rows) (is_large rows)

-- what a subcommand and its arguments do
abbrev pub router_job_of_rows : Text → List Row → RouterJob
router_job_of_rows name rows =
    if bytes_eq name (codes "router") then routes_by V4 rows
    else if bytes_eq name (codes "router6") then routes_by V6 rows
    else NoJob

abbrev pub router_job_of : Option (Text × List Row) → RouterJob
router_job_of None = NoJob
router_job_of (Some (name, rows)) = router_job_of_rows name rows

-- what words ask for that clap doesn't take, by the kind of error that it answers
abbrev pub router_job_of_fault : ErrorKind → RouterJob
router_job_of_fault kind.DisplayHelp = Tells router_help
router_job_of_fault k = NoJob

-- the same by the kinds that it may answer, and what the subcommand does where there is none
abbrev pub router_job_by_faults : Kinds → Option (Text × List Row) → RouterJob
router_job_by_faults [] subcommand = router_job_of subcommand
router_job_by_faults (k ∷ []) subcommand = router_job_of_fault k
router_job_by_faults (k ∷ l ∷ ks) subcommand = NoJob

-- how many slots of each device a job uses
abbrev pub wanted_router_slots : RouterJob → ℕ
wanted_router_slots NoJob = 0
wanted_router_slots (Tells text) = 0
wanted_router_slots (Routes version slots mode placement trace large) = slots

-- what words ask for, the program's name first
abbrev pub router_job : List Text → RouterJob
router_job words = router_job_by_faults (fault_of router_line words) (subcommand_of router_line words)
