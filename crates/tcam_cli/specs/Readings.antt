-- How the lines of a script are read, by the kind of script.
use Rattle.std.specs.Prelude.{ℕ, Bool, true, false, Result, Ok, Err, Option, Some, None, List, codes, option_map}
use Rattle.rule_model.specs.declared.IpVersion.{IpVersion}
use Rattle.rule_model.specs.declared.IpVersion.TheVariants.{V4, V6}
use Rattle.rule_model.specs.Rank.{list_rank}
use Rattle.rule_model.specs.Rule.{route_rule}
use Rattle.rule_store.specs.declared.Command.TheVariants.{Add as Adds, Set as Sets, Del as Dels}
use Rattle.settled_changes.specs.declared.Request.TheVariants.{Put as Puts, Drop as Drops}
use Rattle.line_words.specs.declared.WordFault.{WordFault}
use Rattle.line_words.specs.Notations.{notation_for}
use Rattle.line_words.specs.Texts.{word_fault_text}
use Rattle.line_words.specs.declared.commands.CommonCommand.{CommonCommand}
use Rattle.line_words.specs.declared.commands.CommonCommand.TheVariants as common
use Rattle.route_reader.specs.declared.RouteCommand.{RouteCommand}
use Rattle.route_reader.specs.declared.RouteCommand.TheVariants as route
use Rattle.route_reader.specs.Grammar.{route_line}
use Rattle.route_reader.specs.Routes.{route_rank}
use Rattle.acl_reader.specs.declared.AclCommand.{AclCommand}
use Rattle.acl_reader.specs.declared.AclCommand.TheVariants as acl
use Rattle.acl_reader.specs.Grammar.{acl_line}
use Rattle.replay.specs.declared.Act.{Act}
use Rattle.replay.specs.declared.Act.TheVariants.{Command, Ask, All, Probe, Packet, Commit, Trial, Crash}
use Rattle.report_lines.specs.declared.Family.{Family}
use Rattle.report_lines.specs.declared.Family.TheVariants.{Route, Acl, Route6, Acl6}
use Rattle.replay.specs.Effects.{Setting}
use Rattle.replay.specs.Script.{Reading}

-- a command that both kinds of script have
abbrev pub common_act : CommonCommand → Act
common_act (common.Probe key) = Probe key
common_act (common.Packet key) = Packet key
common_act common.Commit = Commit
common_act (common.Trial most) = Trial most
common_act (common.Crash after) = Crash after

-- a route's rule has its prefix as its priority
abbrev pub route_act : IpVersion → RouteCommand → Act
route_act version (route.Add block answer) = Command (Adds (route_rule (route_rank version block) block answer))
route_act version (route.Set block answer) = Command (Sets (route_rank version block) answer)
route_act version (route.Del block) = Command (Dels (route_rank version block))
route_act version (route.Put block answer) = Ask (Puts (route_rule (route_rank version block) block answer))
route_act version (route.Drop block) = Ask (Drops (route_rank version block))
route_act version route.All = All
route_act version (route.Common command) = common_act command

-- a rule of an access list has its sequence number as its priority
abbrev pub acl_act : AclCommand → Act
acl_act (acl.Add rule) = Command (Adds rule)
acl_act (acl.Set sequence answer) = Command (Sets (list_rank sequence) answer)
acl_act (acl.Del sequence) = Command (Dels (list_rank sequence))
acl_act (acl.Put rule) = Ask (Puts rule)
acl_act (acl.Drop sequence) = Ask (Drops (list_rank sequence))
acl_act acl.All = All
acl_act (acl.Common command) = common_act command

-- a reader's answer as an act or a fault's text
abbrev pub reading_of : {C : Type 0} → (C → Act) → Result (Option C) WordFault → Result (Option Act) (List ℕ)
reading_of act (Ok found) = Ok (option_map act found)
reading_of act (Err fault) = Err (word_fault_text fault)

-- how the lines of a script of routes are read
abbrev pub route_reading : IpVersion → Reading
route_reading version line = reading_of (route_act version) (route_line (notation_for version) line)

-- how those of an access list are
abbrev pub acl_reading : IpVersion → Reading
acl_reading version line = reading_of acl_act (acl_line (notation_for version) line)

-- How a family's lines are read.
abbrev pub reading : Family → Reading
reading Route line = route_reading V4 line
reading Acl line = acl_reading V4 line
reading Route6 line = route_reading V6 line
reading Acl6 line = acl_reading V6 line

-- what an act that was read is: where the report is in JSON a trial and a crash are faults
abbrev pub told_by : Bool → Act → Result (Option Act) (List ℕ)
told_by json (Command change) = Ok (Some (Command change))
told_by json (Ask request) = Ok (Some (Ask request))
told_by json All = Ok (Some All)
told_by json (Probe key) = Ok (Some (Probe key))
told_by json (Packet key) = Ok (Some (Packet key))
told_by json Commit = Ok (Some Commit)
told_by json (Trial most) = elim json [ true ↦ Err (codes "not with json") | false ↦ Ok (Some (Trial most)) ]
told_by json (Crash after) = elim json [ true ↦ Err (codes "not with json") | false ↦ Ok (Some (Crash after)) ]

-- and a line
abbrev pub line_told_by : Bool → Result (Option Act) (List ℕ) → Result (Option Act) (List ℕ)
line_told_by json (Err text) = Err text
line_told_by json (Ok None) = Ok None
line_told_by json (Ok (Some act)) = told_by json act

-- How the lines of a script are read whose report is as a setting says.
abbrev pub reading_by : Setting → Reading
reading_by setting line = line_told_by setting.json (reading setting.family line)
