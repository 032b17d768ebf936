-- Which lines are at fault, by their reader, and which words are.
use Rattle.std.specs.Prelude.{◌≡◌, ◌≤◌, ◌||◌, ℕ, Bool, Result, Ok, Err, Option, Some, None, IsSome, List, [], ◌∷◌, codes, slice_get, if◌then◌else◌}
use Rattle.std.specs.Str.{bytes_eq}
use Rattle.std.specs.Result.{result_err}
use Rattle.rule_model.specs.declared.IpVersion.{IpVersion}
use Rattle.line_words.specs.declared.WordFault.{WordFault}
use Rattle.line_words.specs.declared.WordFault.TheVariants.{UnknownCommand, WordCount}
use Rattle.line_words.specs.Kinds.{Notation, action_of, address_of, count_of, frame_key, port_of, ports_of, proto_choice, proto_of, result_of, sequence_of, side_of}
use Rattle.line_words.specs.Notations.{notation_for}
use Rattle.line_words.specs.Words.{words_of}
use Rattle.route_reader.specs.declared.RouteCommand.{RouteCommand}
use Rattle.route_reader.specs.declared.RouteCommand.TheVariants as route
use Rattle.route_reader.specs.Grammar.{route_line}
use Rattle.acl_reader.specs.declared.AclCommand.{AclCommand}
use Rattle.acl_reader.specs.declared.AclCommand.TheVariants as acl
use Rattle.acl_reader.specs.Grammar.{acl_line}
use Rattle.script_faults.specs.declared.forms.Grammar.{Grammar}
use Rattle.script_faults.specs.declared.forms.Grammar.TheVariants as of_kind
use Rattle.script_faults.specs.declared.forms.Kind.{Kind}
use Rattle.script_faults.specs.declared.forms.Kind.TheVariants as kind
use Rattle.script_faults.specs.declared.search.Why.{Why}
use Rattle.script_faults.specs.declared.search.Why.TheVariants as why

-- whether a word begins a command of scripts of one table, and none of a router's
abbrev pub is_of_one_table : List ℕ → Bool
is_of_one_table first = bytes_eq first (codes "probe") || bytes_eq first (codes "trial") || bytes_eq first (codes "crash")

-- the fault of a command that its reader knows, where a router's scripts have none such
abbrev pub list_command_fault : AclCommand → Option WordFault
list_command_fault (acl.Add rule) = None
list_command_fault (acl.Set sequence answer) = None
list_command_fault (acl.Del sequence) = None
list_command_fault (acl.Put rule) = Some UnknownCommand
list_command_fault (acl.Drop sequence) = Some UnknownCommand
list_command_fault acl.All = Some UnknownCommand
list_command_fault (acl.Common command) = None

abbrev pub route_command_fault : RouteCommand → Option WordFault
route_command_fault (route.Add block answer) = None
route_command_fault (route.Set block answer) = None
route_command_fault (route.Del block) = None
route_command_fault (route.Put block answer) = Some UnknownCommand
route_command_fault (route.Drop block) = Some UnknownCommand
route_command_fault route.All = Some UnknownCommand
route_command_fault (route.Common command) = None

-- and what a reader answers of a line of one
abbrev pub fault_by : {C : Type 0} → (C → Option WordFault) → Result (Option C) WordFault → Option WordFault
fault_by of_command (Ok None) = None
fault_by of_command (Ok (Some command)) = of_command command
fault_by of_command (Err fault) = Some fault

-- the fault of a line of a router's script that begins with this word, which says which reader reads it
abbrev pub fault_from : IpVersion → List ℕ → List ℕ → Option WordFault
fault_from version first line =
    if is_of_one_table first then Some UnknownCommand
    else if bytes_eq first (codes "acl") then fault_by list_command_fault (acl_line (notation_for version) line)
    else fault_by route_command_fault (route_line (notation_for version) line)

-- the fault of one with these words
abbrev pub router_fault : IpVersion → List (List ℕ) → List ℕ → Option WordFault
router_fault version [] line = result_err (route_line (notation_for version) line)
router_fault version (first ∷ rest) line = fault_from version first line

-- The fault of a line of a script of this kind, if it has one: what its reader answers.
abbrev pub line_fault : Grammar → List ℕ → Option WordFault
line_fault (of_kind.Routes version) line = result_err (route_line (notation_for version) line)
line_fault (of_kind.List version) line = result_err (acl_line (notation_for version) line)
line_fault (of_kind.Router version) line = router_fault version (words_of line) line

-- the version of IP of a kind of script
abbrev pub grammar_version : Grammar → IpVersion
grammar_version (of_kind.Routes version) = version
grammar_version (of_kind.List version) = version
grammar_version (of_kind.Router version) = version

-- the fault of a word that is to be of this kind, if it has one
abbrev pub word_fault : Notation → Kind → List ℕ → Option WordFault
word_fault notation kind.Prefix word = result_err (notation.block word)
word_fault notation kind.Answer word = result_err (result_of word)
word_fault notation kind.Sequence word = result_err (sequence_of word)
word_fault notation kind.Action word = result_err (action_of word)
word_fault notation kind.Side word = result_err (side_of notation word)
word_fault notation kind.ProtocolSpec word = result_err (proto_choice word)
word_fault notation kind.PortSpec word = result_err (ports_of word)
word_fault notation kind.Address word = result_err (address_of notation word)
word_fault notation kind.Protocol word = result_err (proto_of word)
word_fault notation kind.Port word = result_err (port_of word)
word_fault notation kind.Count word = result_err (count_of word)
word_fault notation kind.Hex word = result_err (frame_key notation word)

-- The word of a line at a place, from 0, has this fault, for this reason: it begins no command; it is missing, and no word
-- stands there, or one that isn't of its kind; it is one too many, and stands there; or it stands there and, as a word of its
-- kind, has it.
abbrev pub IsAtFault : Notation → List (List ℕ) → WordFault → ℕ → Why → Type 0
IsAtFault notation words fault place why.Unknown = (fault ≡ UnknownCommand) × (place ≤ 1)
IsAtFault notation words fault place (why.Missing form) = (fault ≡ WordCount) × (slice_get words place ≡ None)
IsAtFault notation words fault place (why.Skipped form meant) =
    (word : List ℕ) × (fault ≡ WordCount) × (slice_get words place ≡ Some word) × IsSome (word_fault notation meant word)
IsAtFault notation words fault place (why.TooMany form) = (fault ≡ WordCount) × IsSome (slice_get words place)
IsAtFault notation words fault place (why.Bad meant) =
    (word : List ℕ) × (slice_get words place ≡ Some word) × (word_fault notation meant word ≡ Some fault)
IsAtFault notation words fault place why.Unexplained = Unit {0}
