-- What a line comes to in a script, by what is known of those before it.
use Rattle.std.specs.Prelude.{ℕ, ◌/◌, ◌%◌, ◌^◌, Bool, true, false, ◌==◌, ◌&&◌, Result, Ok, Err, Option, Some, None, List, [], ◌∷◌, ◌++◌, codes, decimal, take, if◌then◌else◌}
use Rattle.std.specs.Str.{bytes_eq}
use Rattle.rule_model.specs.declared.IpVersion.{IpVersion}
use Rattle.rule_model.specs.declared.IpVersion.TheVariants.{V4, V6}
use Rattle.rule_model.specs.AddressBlock.{AddressBlock}
use Rattle.rule_model.specs.PortRange.{PortRange}
use Rattle.line_words.specs.Shown.{ipv6_text}
use Rattle.line_words.specs.Words.{words_of}
use Rattle.kept_numbers.specs.declared.words.OlderLine.{OlderLine}
use Rattle.kept_numbers.specs.Numbered.{numbers_for}
use Rattle.kept_numbers.specs.Written.{numbered_text}
use Rattle.import_lines.specs.Import.{LineTold, SaidBy, UnsaidBy}
use Rattle.written_chains.specs.declared.meets.Tests.{Tests}
use Rattle.written_chains.specs.declared.writing.ChainRule.{ChainRule}
use Rattle.written_chains.specs.declared.writing.Line.{Line}
use Rattle.written_chains.specs.declared.writing.Refused.{Refused}
use Rattle.written_chains.specs.declared.writing.Refused.TheVariants.{TooDeep, TooMany}
use Rattle.written_chains.specs.declared.writing.Target.{Target}
use Rattle.written_chains.specs.Walks.{or_policy}
use Rattle.written_chains.specs.Written.{written_out}
use Rattle.iptables.specs.declared.lines.Change.{Change}
use Rattle.iptables.specs.declared.lines.Change.TheVariants as change
use Rattle.iptables.specs.declared.lines.Hook.{Hook}
use Rattle.iptables.specs.declared.lines.Table.{Table}
use Rattle.iptables.specs.declared.lines.Table.TheVariants as table
use Rattle.iptables.specs.declared.why.Why.{Why}
use Rattle.iptables.specs.declared.why.Why.TheVariants as why
use Rattle.iptables.specs.Lines.{Changed, change_of, hook_name}
use Rattle.iptables.specs.Names.{name_number, names_with}
use Rattle.iptables.specs.Reading.{Unsaid}
use Rattle.iptables.specs.Values.{any_tests}
use Rattle.iptables.specs.Words.{why_text}

-- ---- the lines of a script

-- an address of IPv4, of four numbers
abbrev pub dotted : ℕ → List ℕ
dotted address =
    decimal (address / 2 ^ 120 % 256) ++ (codes "." ++ (decimal (address / 2 ^ 112 % 256) ++ (codes "." ++ (decimal (address / 2 ^ 104 % 256)
    ++ (codes "." ++ decimal (address / 2 ^ 96 % 256))))))

abbrev pub address_text : IpVersion → ℕ → List ℕ
address_text V4 address = dotted address
address_text V6 address = ipv6_text address

-- a block of addresses
abbrev pub side_text : IpVersion → AddressBlock → List ℕ
side_text version block =
    if block.len == 0 then codes "any" else address_text version block.addr ++ (codes "/" ++ decimal block.len)

-- a protocol
abbrev pub proto_text : Option ℕ → List ℕ
proto_text None = codes "any"
proto_text (Some proto) =
    if proto == 1 then codes "icmp"
    else if proto == 6 then codes "tcp"
    else if proto == 17 then codes "udp"
    else decimal proto

-- a range of ports
abbrev pub ports_text : PortRange → List ℕ
ports_text range =
    if (range.lo == 0) && (range.hi == 65535) then codes "any"
    else if range.lo == range.hi then decimal range.lo
    else decimal range.lo ++ (codes "-" ++ decimal range.hi)

abbrev pub action_text : Bool → List ℕ
action_text permits = if permits then codes " permit " else codes " deny "

-- what a line says, with the blank before it
abbrev pub line_words : IpVersion → Bool → Tests → List ℕ
line_words version permits tests =
    action_text permits ++ (side_text version tests.src ++ (codes " " ++ (side_text version tests.dst
    ++ (codes " " ++ (proto_text tests.proto ++ (codes " " ++ (ports_text tests.sport ++ (codes " " ++ ports_text tests.dport))))))))

-- the lines of a list; the last one gives each packet the policy
abbrev pub list_words : IpVersion → Bool → Tests → List Line → List (List ℕ)
list_words version policy last [] = line_words version policy last ∷ []
list_words version policy last (line ∷ lines) =
    line_words version (or_policy policy line.action) line.tests ∷ list_words version policy last lines

-- where all of them are new ones, a comment says so
abbrev pub anew_note : Bool → List ℕ
anew_note anew = if anew then codes "# numbered anew: no number is left between\n" else codes ""

abbrev pub text_by : List (List ℕ) → Bool × List ℕ → List ℕ
text_by lines all = anew_note all.0 ++ numbered_text all.1 lines

-- A list, whose lines have the numbers of older ones of the same words, or numbers between those.
abbrev pub list_text : IpVersion → Bool → Tests → List OlderLine → List Line → List ℕ
list_text version policy last older lines =
    text_by (list_words version policy last lines) (numbers_for older (list_words version policy last lines))

-- the comments on a rule that decides nothing, on one that holds no packet, and on another table
abbrev pub note_line : List ℕ → List ℕ
note_line text = codes "# no verdict: " ++ (text ++ codes "\n")

abbrev pub empty_line : List ℕ → List ℕ
empty_line text = codes "# no packet: " ++ (text ++ codes "\n")

abbrev pub table_line : List ℕ → List ℕ
table_line text = codes "# another table: " ++ (text ++ codes "\n")

abbrev pub begun_text : Table → List ℕ → List ℕ
begun_text table.Other text = table_line text
begun_text table.Filter text = []
begun_text table.Outside text = []

-- why a line isn't said, and the word, of which a comment has 64 bytes
abbrev pub unsaid_text : Why → List ℕ → List ℕ
unsaid_text reason word = why_text reason ++ (codes ": " ++ take 64 word)

-- ---- what is known

-- the version of IP, the chain that is asked for, the interface by which packets come in, no name for any, the lines of an older list of it, the table in which the next line stands, the chains that
-- are declared, the rules of all of them, that chain's policy, and whether its list is written
pub record Known : Type 0 where
  pub version : IpVersion
  pub hook : Hook
  pub face : List ℕ
  pub older : List OlderLine
  pub table : Table
  pub names : List (List ℕ)
  pub rules : List ChainRule
  pub policy : Option Bool
  pub listed : Bool

abbrev pub nothing_known : IpVersion → Hook → List ℕ → List OlderLine → Known
nothing_known version hook face older =
    record { version = version; hook = hook; face = face; older = older; table = table.Outside; names = []; rules = []; policy = None; listed = false }

-- ---- a list

abbrev pub refused_why : Refused → Why
refused_why TooDeep = why.Deep
refused_why TooMany = why.Many

abbrev pub out_as : Bool → Result (List Line) Refused → Result (Bool × List Line) Why
out_as policy (Ok lines) = Ok (policy, lines)
out_as policy (Err refused) = Err (refused_why refused)

-- the policy and the lines of a chain, if it is declared with a policy
abbrev pub listed : List ChainRule → Option Bool → Option ℕ → Result (Bool × List Line) Why
listed rules (Some policy) (Some chain) = out_as policy (written_out 4095 rules 32 chain)
listed rules (Some policy) None = Err why.Chain
listed rules None chain = Err why.Chain

abbrev pub list_of : Known → Result (Bool × List Line) Why
list_of known =
    if known.listed then Err why.Second else listed known.rules known.policy (name_number known.names (hook_name known.hook))

abbrev pub listed_told : Known → Result (Bool × List Line) Why → LineTold
listed_told known (Ok (policy, lines)) = SaidBy (list_text known.version policy any_tests known.older lines)
listed_told known (Err reason) = UnsaidBy (unsaid_text reason (hook_name known.hook))

abbrev pub with_list : Known → Known
with_list known = record known { table = table.Outside; listed = true }

-- ---- a line

-- the name of a chain that is declared stands behind a colon
abbrev pub name_behind : List ℕ → List ℕ
name_behind [] = []
name_behind (byte ∷ bytes) = bytes

abbrev pub declared_name : List (List ℕ) → List ℕ
declared_name [] = []
declared_name (first ∷ words) = name_behind first

abbrev pub with_chain : Known → Option Bool → List ℕ → Known
with_chain known policy name =
    record known { names = names_with known.names name; policy = if bytes_eq name (hook_name known.hook) then policy else known.policy }

-- what a change comes to
abbrev pub change_told : Known → List ℕ → Change → LineTold
change_told known text change.Nothing = SaidBy []
change_told known text (change.Begins at) = SaidBy (begun_text at text)
change_told known text (change.Declares policy) = SaidBy []
change_told known text (change.Adds chain target) = SaidBy []
change_told known text change.Notes = SaidBy (note_line text)
change_told known text change.Empty = SaidBy (empty_line text)
change_told known text change.Lists = listed_told known (list_of known)

-- the rules of a chain that have one target, a rule for each of the tests
abbrev pub rules_of : ℕ → Target → List Tests → List ChainRule
rules_of chain target [] = []
rules_of chain target (tests ∷ more) = record { chain = chain; tests = tests; target = target } ∷ rules_of chain target more

-- and what is known behind it
abbrev pub change_after : Known → List ℕ → List Tests → Change → Known
change_after known text tests change.Nothing = known
change_after known text tests (change.Begins at) = record known { table = at }
change_after known text tests (change.Declares policy) = with_chain known policy (declared_name (words_of text))
change_after known text tests (change.Adds chain target) = record known { rules = known.rules ++ rules_of chain target tests }
change_after known text tests change.Notes = known
change_after known text tests change.Empty = known
change_after known text tests change.Lists = with_list known

abbrev pub told_of : Known → List ℕ → Result Changed Unsaid → LineTold
told_of known text (Ok changed) = change_told known text changed.change
told_of known text (Err unsaid) = UnsaidBy (unsaid_text unsaid.why unsaid.word)

abbrev pub after_of : Known → List ℕ → Result Changed Unsaid → Known
after_of known text (Ok changed) = change_after known text changed.tests changed.change
after_of known text (Err unsaid) = known

abbrev pub line_change : Known → List ℕ → Result Changed Unsaid
line_change known text = change_of known.table known.hook known.names known.version known.face (words_of text)

-- What a line comes to.
abbrev pub line_told : Known → List ℕ → LineTold
line_told known text = told_of known text (line_change known text)

-- what is known behind it, where it is said
abbrev pub line_after : Known → List ℕ → Known
line_after known text = after_of known text (line_change known text)

-- the list is written, and no other one is begun
abbrev pub is_whole : Table → Bool → Bool
is_whole table.Filter listed = false
is_whole table.Other listed = listed
is_whole table.Outside listed = listed

-- what stands behind all lines: the commit of the list, or that there is none
abbrev pub closing_by : Bool → LineTold
closing_by whole = if whole then SaidBy (codes "commit\n") else UnsaidBy (codes "no list")

abbrev pub save_closing : Known → LineTold
save_closing known = closing_by (is_whole known.table known.listed)
