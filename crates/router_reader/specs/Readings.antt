-- The grammar of a router's scripts, which has the commands of both tables.
use Rattle.std.specs.Prelude.{ℕ, Bool, ◌||◌, Result, Ok, Err, Option, Some, None, List, [], ◌∷◌, codes, if◌then◌else◌}
use Rattle.std.specs.Str.{bytes_eq}
use Rattle.rule_model.specs.declared.IpVersion.{IpVersion}
use Rattle.rule_model.specs.Rank.{list_rank}
use Rattle.rule_model.specs.Rule.{route_rule}
use Rattle.rule_store.specs.declared.Command.TheVariants.{Add as Adds, Set as Sets, Del as Dels}
use Rattle.line_words.specs.declared.WordFault.{WordFault}
use Rattle.line_words.specs.declared.WordFault.TheVariants.{UnknownCommand}
use Rattle.line_words.specs.declared.commands.CommonCommand.{CommonCommand}
use Rattle.line_words.specs.declared.commands.CommonCommand.TheVariants as common
use Rattle.line_words.specs.Words.{◌>>=◌}
use Rattle.line_words.specs.Notations.{notation_for}
use Rattle.line_words.specs.Commands.{line_of}
use Rattle.line_words.specs.Texts.{word_fault_text}
use Rattle.route_reader.specs.declared.RouteCommand.{RouteCommand}
use Rattle.route_reader.specs.declared.RouteCommand.TheVariants as route
use Rattle.route_reader.specs.Grammar.{route_command}
use Rattle.route_reader.specs.Routes.{route_rank}
use Rattle.acl_reader.specs.declared.AclCommand.{AclCommand}
use Rattle.acl_reader.specs.declared.AclCommand.TheVariants as acl
use Rattle.acl_reader.specs.Grammar.{acl_command}
use Rattle.script_runs.specs.Script.{Reading}
use Rattle.router.specs.declared.Side.TheVariants.{List as ListSide, Routes}
use Rattle.router.specs.declared.RouterAct.{RouterAct}
use Rattle.router.specs.declared.RouterAct.TheVariants.{Change, Packet, Commit}

-- a command of both kinds of script: a router has packets and commits alone
abbrev pub common_act : CommonCommand → Result RouterAct WordFault
common_act (common.Probe key) = Err UnknownCommand
common_act (common.Packet key) = Ok (Packet key)
common_act common.Commit = Ok Commit
common_act (common.Trial most) = Err UnknownCommand
common_act (common.Crash after) = Err UnknownCommand

-- a route's rule has its prefix as its priority
abbrev pub route_act : IpVersion → RouteCommand → Result RouterAct WordFault
route_act version (route.Add block answer) = Ok (Change Routes (Adds (route_rule (route_rank version block) block answer)))
route_act version (route.Set block answer) = Ok (Change Routes (Sets (route_rank version block) answer))
route_act version (route.Del block) = Ok (Change Routes (Dels (route_rank version block)))
route_act version (route.Put block answer) = Err UnknownCommand
route_act version (route.Drop block) = Err UnknownCommand
route_act version route.All = Err UnknownCommand
route_act version (route.Common command) = common_act command

-- a rule of the list has its sequence number as its priority
abbrev pub acl_act : AclCommand → Result RouterAct WordFault
acl_act (acl.Add rule) = Ok (Change ListSide (Adds rule))
acl_act (acl.Set sequence answer) = Ok (Change ListSide (Sets (list_rank sequence) answer))
acl_act (acl.Del sequence) = Ok (Change ListSide (Dels (list_rank sequence)))
acl_act (acl.Put rule) = Err UnknownCommand
acl_act (acl.Drop sequence) = Err UnknownCommand
acl_act acl.All = Err UnknownCommand
acl_act (acl.Common command) = common_act command

-- the words that begin commands of a script of one table, and none of a router's
abbrev pub is_of_one_table : List ℕ → Bool
is_of_one_table first = bytes_eq first (codes "probe") || bytes_eq first (codes "trial") || bytes_eq first (codes "crash")

-- what the words of a line do, by the first: a command of the list's, or one of the routes' or of both
abbrev pub router_command : IpVersion → List (List ℕ) → Result RouterAct WordFault
router_command version [] = Err UnknownCommand
router_command version (first ∷ rest) =
    if is_of_one_table first then Err UnknownCommand
    else if bytes_eq first (codes "acl") then (acl_command (notation_for version) (first ∷ rest) >>= λ command. acl_act command)
    else (route_command (notation_for version) (first ∷ rest) >>= λ command. route_act version command)

-- what a line does by what a reader answers
abbrev pub read_by : {C : Type 0} → (C → Result RouterAct WordFault) → Result (Option C) WordFault → Result (Option RouterAct) WordFault
read_by act (Ok None) = Ok None
read_by act (Ok (Some command)) = act command >>= λ found. Ok (Some found)
read_by act (Err fault) = Err fault

-- a fault as its text
abbrev pub told : Result (Option RouterAct) WordFault → Result (Option RouterAct) (List ℕ)
told (Ok found) = Ok found
told (Err fault) = Err (word_fault_text fault)

-- How the lines of a router's script are read: nothing, an act, or a fault's text.
abbrev pub router_reading : IpVersion → Reading RouterAct
router_reading version line = told (line_of (router_command version) line)
