-- What a command line of imports comes to.
use Rattle.std.specs.Prelude.{◌≡◌, ℕ, Bool, not, ◌==◌, ◌&&◌, Result, Ok, Err, Option, Some, None, List, [], ◌∷◌, ◌++◌, codes, decimal, length}
use Rattle.rule_model.specs.declared.IpVersion.{IpVersion}
use Rattle.script_runs.specs.declared.Status.{Status}
use Rattle.script_runs.specs.declared.Status.TheVariants as status
use Rattle.import_lines.specs.Import.{telling}
use Rattle.import_lines.specs.Imported.{ImportsBy}
use Rattle.import_lines.specs.Writes.{LastBy}
use Rattle.ip_routes.specs.Telling as routes
use Rattle.ip_monitor.specs.Telling as events
use Rattle.json_routes.specs.Texts.{JsonBy}
use Rattle.cisco_lists.specs.Lines as lists
use Rattle.fpm_frames.specs.Imported as frames
use Rattle.fpm_routes.specs.Telling as messages
use Rattle.iptables.specs.Telling as chains
use Rattle.kept_numbers.specs.declared.words.OlderLine.{OlderLine}
use Rattle.kept_numbers.specs.Older.{older_lines}
use Rattle.nft_rulesets.specs.declared.asked.Asked.{Asked}
use Rattle.nft_rulesets.specs.Texts.{RulesetBy}
use Rattle.import_cli.specs.declared.chain_name.ChainName.{ChainName}
use Rattle.import_cli.specs.declared.asked.Format.TheVariants.{IpRoutes, IpMonitor, IpJson, Cisco, Fpm, Iptables, Nft}
use Rattle.import_cli.specs.CommandLine.{ImportJob, NoJob, Tells, Imports}

-- no line is read yet
abbrev pub no_routes : IpVersion → routes.Known
no_routes version = record { version = version; hops = []; last = None }

abbrev pub no_events : IpVersion → events.Known
no_events version = record { version = version; hops = []; standings = [] }

-- the list of this name, or the only one where it is empty; a second one may be left out
abbrev pub named_list : List ℕ → Option (List ℕ)
named_list [] = None
named_list (byte ∷ bytes) = Some (byte ∷ bytes)

abbrev pub no_lines : List ℕ → Bool → lists.Known
no_lines name leave_out = lists.first_known (named_list name) ((length name == 0) && not leave_out)

abbrev pub no_messages : IpVersion → messages.Known
no_messages version = record { version = version; hops = [] }

-- the chain of these names is asked for, and packets of this version, and lines of these older ones keep their numbers
abbrev pub AsksFor : Asked → ChainName → IpVersion → List OlderLine → Type 0
AsksFor asked chain version older =
    (asked.version ≡ version) × (asked.family.now ≡ chain.family) × (asked.table.now ≡ chain.table) × (asked.chain.now ≡ chain.name) × (asked.older.now ≡ older)

-- the line that names the one of an older script that no import writes
abbrev pub older_fault : ℕ → List ℕ
older_fault number = codes "--since line " ++ (decimal number ++ codes " no line of a list\n")

-- the lines of the older list are known, or its script has another line, and nothing is read
abbrev pub SinceBy : Result (List OlderLine) ℕ → (List OlderLine → Type 0) → List (List ℕ) → Status → Option (List ℕ) → Option (List ℕ) → Type 0
SinceBy (Ok older) By pieces answer old new = By older
SinceBy (Err number) By pieces answer old new = (pieces ≡ []) × LastBy (older_fault number) status.Script answer old new

-- A job is carried out: each line, or frame, of what the source gave is accounted for; or the whole of it is, a text of JSON; or nothing is read, and the text is written whole, or
-- a part of it where the sink failed, or nothing where memory was wanting. The text is that of an older script, whose lines keep their numbers.
abbrev pub CarriesOut : ImportJob → List ℕ → List (List ℕ) → Status → Option (List ℕ) → Option (List ℕ) → Type 0
CarriesOut NoJob older pieces answer old new = (pieces ≡ []) × LastBy (codes "usage\n") status.Usage answer old new
CarriesOut (Tells text) older pieces answer old new = (pieces ≡ []) × LastBy text status.Done answer old new
CarriesOut (Imports IpRoutes version leave_out) older pieces answer old new =
    ImportsBy (telling routes.route_told routes.route_after routes.route_closed) leave_out (no_routes version) pieces answer old new
CarriesOut (Imports IpMonitor version leave_out) older pieces answer old new =
    ImportsBy (telling events.monitor_told events.monitor_after events.monitor_closing) leave_out (no_events version) pieces answer old new
CarriesOut (Imports IpJson version leave_out) older pieces answer old new = JsonBy leave_out (no_routes version) pieces answer old new
CarriesOut (Imports (Cisco name) version leave_out) older pieces answer old new =
    ImportsBy (telling lists.cisco_told lists.cisco_after lists.cisco_closing) leave_out (no_lines name leave_out) pieces answer old new
CarriesOut (Imports Fpm version leave_out) older pieces answer old new =
    frames.ImportsBy (frames.telling messages.fpm_told messages.fpm_after) (frames.first_standing leave_out (no_messages version)) pieces answer old new
CarriesOut (Imports (Iptables hook face) version leave_out) older pieces answer old new =
    SinceBy (older_lines older)
    (λ lines. ImportsBy (telling chains.line_told chains.line_after chains.save_closing) leave_out (chains.nothing_known version hook face lines) pieces answer old new)
    pieces answer old new
CarriesOut (Imports (Nft chain) version leave_out) older pieces answer old new =
    SinceBy (older_lines older)
    (λ lines. (asked : Asked) × AsksFor asked chain version lines × RulesetBy asked leave_out pieces answer old new)
    pieces answer old new
