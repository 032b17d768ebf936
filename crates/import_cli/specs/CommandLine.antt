-- The command line of importers, by the declaration that clap is given, and what it asks for.
use Rattle.std.specs.Prelude.{ℕ, Bool, ◌==◌, Option, Some, None, List, [], ◌∷◌, true, codes, length, if◌then◌else◌}
use Rattle.std.specs.Str.{bytes_eq}
use Rattle.clap.specs.Walk.{Row, Rule, Text}
use Rattle.clap.specs.Simple.{App, new_app, new_rule, on_top, with_rule, with_subcommand, subcommand_of}
use Rattle.clap.specs.Faults.{fault_of}
use Rattle.clap.specs.Kinds.{Kinds}
use Rattle.clap.specs.declared.builder.action.ArgAction.TheVariants.{Set, SetTrue}
use Rattle.clap.specs.declared.builder.value_parser.ValueParser.TheVariants.{NonEmptyString}
use Rattle.clap.specs.declared.error.kind.ErrorKind.{ErrorKind}
use Rattle.clap.specs.declared.error.kind.ErrorKind.TheVariants as kind
use Rattle.rule_model.specs.declared.IpVersion.{IpVersion}
use Rattle.iptables.specs.Faces.{face_in}
use Rattle.iptables.specs.declared.lines.Hook.{Hook}
use Rattle.iptables.specs.declared.lines.Hook.TheVariants.{Input, Forward, Output}
use Rattle.rule_model.specs.declared.IpVersion.TheVariants.{V4, V6}
use Rattle.option_words.specs.Options.{has_text, text_of}
use Rattle.import_cli.specs.declared.asked.Asked.{Asked}
use Rattle.import_cli.specs.declared.asked.Asked.TheVariants as asked
use Rattle.import_cli.specs.declared.asked.Format.{Format}
use Rattle.import_cli.specs.declared.asked.Format.TheVariants.{IpRoutes, IpMonitor, IpJson, Cisco, Fpm, Iptables, Nft}
use Rattle.import_cli.specs.declared.chain_name.ChainName.{ChainName}
use Rattle.import_cli.specs.ChainName.{chain_in, input_chain}
use Rattle.import_cli.specs.ListName.{name_in}
use Rattle.import_cli.specs.OwnTexts.{import_help}

-- What words ask for: nothing, a text of the product, or an import of a format and a version of IP, lines left out or not.
pub data ImportJob : Type 0 where
  NoJob : ImportJob
  Tells : (text : List ℕ) → ImportJob
  Imports : (format : Format) (version : IpVersion) (leave_out : Bool) → ImportJob

-- the format, a required word
unfoldable pub format_position : Rule
format_position = record (new_rule (codes "format")) { action = Some Set; required = true }

-- --version, a word, by default 4
unfoldable pub version_option : Rule
version_option = record (new_rule (codes "version")) { long = Some (codes "version"); action = Some Set; defaults = codes "4" ∷ [] }

-- --leave-out, a flag
unfoldable pub leave_out_flag : Rule
leave_out_flag = record (new_rule (codes "leave-out")) { long = Some (codes "leave-out"); action = Some SetTrue }

-- --list, a word
unfoldable pub list_option : Rule
list_option = record (new_rule (codes "list")) { long = Some (codes "list"); action = Some Set }

-- --chain, a word
unfoldable pub chain_option : Rule
chain_option = record (new_rule (codes "chain")) { long = Some (codes "chain"); action = Some Set }

-- --in, a word
unfoldable pub in_option : Rule
in_option = record (new_rule (codes "in")) { long = Some (codes "in"); action = Some Set }

-- --since, a word, and no empty one: no file has that name
unfoldable pub since_option : Rule
since_option = record (new_rule (codes "since")) { long = Some (codes "since"); action = Some Set; parser = Some NonEmptyString }

-- a subcommand for imports
unfoldable pub import_app : App
import_app =
    with_rule (with_rule (with_rule (with_rule (with_rule (with_rule (with_rule (new_app (codes "import")) format_position) version_option) leave_out_flag) list_option)
    chain_option) in_option) since_option

-- tcam with a required subcommand; help is asked for by its flag alone
unfoldable pub import_top : App
import_top = on_top (λ top. record top { subcommand_required = true; disable_help_subcommand = true }) (new_app (codes "tcam"))

-- and with this one alone
unfoldable pub import_line : App
import_line = with_subcommand import_top import_app.top

-- the format of a name, and the version of a digit
abbrev pub format_in : Text → Option Format
format_in name =
    if bytes_eq name (codes "ip-routes") then Some IpRoutes
    else if bytes_eq name (codes "ip-monitor") then Some IpMonitor
    else if bytes_eq name (codes "ip-json") then Some IpJson
    else if bytes_eq name (codes "cisco") then Some (Cisco [])
    else if bytes_eq name (codes "fpm") then Some Fpm
    else if bytes_eq name (codes "iptables") then Some (Iptables Input [])
    else if bytes_eq name (codes "nft") then Some (Nft input_chain)
    else None

-- a format, and the list of this name, where one is asked for: no other format has lists
abbrev pub with_name : Option (List ℕ) → Option Format
with_name None = None
with_name (Some name) = Some (Cisco name)

abbrev pub with_list : Format → Text → Option Format
with_list (Cisco name) list = with_name (name_in list)
with_list IpRoutes list = None
with_list IpMonitor list = None
with_list IpJson list = None
with_list Fpm list = None
with_list (Iptables hook face) list = None
with_list (Nft chain) list = None

abbrev pub list_at : Format → Text → Option Format
list_at format list = if length list == 0 then Some format else with_list format list

abbrev pub listed_at : Option Format → Text → Option Format
listed_at None list = None
listed_at (Some format) list = list_at format list

-- a format, and the chain of this name, where one is asked for: no other format has chains
abbrev pub hook_in : Text → Option Hook
hook_in name =
    if bytes_eq name (codes "INPUT") then Some Input
    else if bytes_eq name (codes "FORWARD") then Some Forward
    else if bytes_eq name (codes "OUTPUT") then Some Output
    else None

abbrev pub of_hook : Option Hook → List ℕ → Option Format
of_hook (Some hook) face = Some (Iptables hook face)
of_hook None face = None

abbrev pub of_chain : Option ChainName → Option Format
of_chain (Some chain) = Some (Nft chain)
of_chain None = None

abbrev pub with_chain : Format → Text → Option Format
with_chain (Iptables hook face) chain = of_hook (hook_in chain) face
with_chain (Nft input) chain = of_chain (chain_in chain)
with_chain IpRoutes chain = None
with_chain IpMonitor chain = None
with_chain IpJson chain = None
with_chain (Cisco name) chain = None
with_chain Fpm chain = None

abbrev pub chain_at : Format → Text → Option Format
chain_at format chain = if length chain == 0 then Some format else with_chain format chain

abbrev pub chained_at : Option Format → Text → Option Format
chained_at None chain = None
chained_at (Some format) chain = chain_at format chain

-- a format, and the interface of this name, where one is asked for: packets of the chain OUTPUT come in by none, and no other format has interfaces
abbrev pub hook_face : Hook → List ℕ → Option Format
hook_face Input face = Some (Iptables Input face)
hook_face Forward face = Some (Iptables Forward face)
hook_face Output face = None

abbrev pub of_face : Hook → Option (List ℕ) → Option Format
of_face hook (Some face) = hook_face hook face
of_face hook None = None

abbrev pub with_face : Format → Text → Option Format
with_face (Iptables hook face) name = of_face hook (face_in name)
with_face IpRoutes name = None
with_face IpMonitor name = None
with_face IpJson name = None
with_face (Cisco list) name = None
with_face Fpm name = None
with_face (Nft chain) name = None

abbrev pub face_at : Format → Text → Option Format
face_at format name = if length name == 0 then Some format else with_face format name

abbrev pub faced_at : Option Format → Text → Option Format
faced_at None name = None
faced_at (Some format) name = face_at format name

-- a format, and the file with the script of an older list, where one is asked for: no other format has lists whose numbers are ours
abbrev pub with_since : Format → Option Format
with_since (Iptables hook face) = Some (Iptables hook face)
with_since (Nft chain) = Some (Nft chain)
with_since IpRoutes = None
with_since IpMonitor = None
with_since IpJson = None
with_since (Cisco list) = None
with_since Fpm = None

abbrev pub since_at : Format → Text → Option Format
since_at format file = if length file == 0 then Some format else with_since format

abbrev pub dated_at : Option Format → Text → Option Format
dated_at None file = None
dated_at (Some format) file = since_at format file

abbrev pub version_in : Text → Option IpVersion
version_in digit =
    if bytes_eq digit (codes "4") then Some V4
    else if bytes_eq digit (codes "6") then Some V6
    else None

-- an import of a format and a version: lists of IPv6 aren't taken
abbrev pub import_of : Format → IpVersion → Bool → ImportJob
import_of (Cisco name) V4 leave_out = Imports (Cisco name) V4 leave_out
import_of (Cisco name) V6 leave_out = NoJob
import_of IpRoutes version leave_out = Imports IpRoutes version leave_out
import_of IpMonitor version leave_out = Imports IpMonitor version leave_out
import_of IpJson version leave_out = Imports IpJson version leave_out
import_of Fpm version leave_out = Imports Fpm version leave_out
import_of (Iptables hook face) version leave_out = Imports (Iptables hook face) version leave_out
import_of (Nft chain) version leave_out = Imports (Nft chain) version leave_out

-- where the words name a format and a version
abbrev pub imports_at : Option Format → Option IpVersion → Bool → ImportJob
imports_at None version leave_out = NoJob
imports_at (Some format) None leave_out = NoJob
imports_at (Some format) (Some version) leave_out = import_of format version leave_out

-- what its arguments ask for
abbrev pub imports_by : List Row → ImportJob
imports_by rows =
    imports_at
    (dated_at (faced_at (chained_at (listed_at (format_in (text_of (codes "format") rows)) (text_of (codes "list") rows)) (text_of (codes "chain") rows))
    (text_of (codes "in") rows)) (text_of (codes "since") rows))
    (version_in (text_of (codes "version") rows))
    (has_text (codes "leave-out") (codes "true") rows)

-- what a subcommand and its arguments do
abbrev pub import_job_of_rows : Text → List Row → ImportJob
import_job_of_rows name rows = if bytes_eq name (codes "import") then imports_by rows else NoJob

abbrev pub import_job_of : Option (Text × List Row) → ImportJob
import_job_of None = NoJob
import_job_of (Some (name, rows)) = import_job_of_rows name rows

-- what words ask for that clap doesn't take, by the kind of error that it answers
abbrev pub import_job_of_fault : ErrorKind → ImportJob
import_job_of_fault kind.DisplayHelp = Tells import_help
import_job_of_fault k = NoJob

-- the same by the kinds that it may answer, and what the subcommand does where there is none
abbrev pub import_job_by_faults : Kinds → Option (Text × List Row) → ImportJob
import_job_by_faults [] subcommand = import_job_of subcommand
import_job_by_faults (k ∷ []) subcommand = import_job_of_fault k
import_job_by_faults (k ∷ l ∷ ks) subcommand = NoJob

-- what words ask for, the program's name first
abbrev pub import_job : List Text → ImportJob
import_job words = import_job_by_faults (fault_of import_line words) (subcommand_of import_line words)

-- what an answer says that words ask for
abbrev pub asked_by : Asked → ImportJob
asked_by (asked.Import format version leave_out) = Imports format version leave_out
asked_by asked.Help = Tells import_help
