-- What a line is, by the table in which it stands, and what it changes.
use Rattle.std.specs.Prelude.{ℕ, Bool, true, false, not, ◌==◌, ◌&&◌, ◌||◌, Result, Ok, Err, Option, Some, None, List, [], ◌∷◌, length, slice_index, codes, if◌then◌else◌}
use Rattle.std.specs.List.{list_any}
use Rattle.std.specs.Str.{bytes_eq}
use Rattle.rule_model.specs.declared.IpVersion.{IpVersion}
use Rattle.written_chains.specs.declared.meets.Tests.{Tests}
use Rattle.written_chains.specs.declared.writing.Target.{Target}
use Rattle.iptables.specs.declared.lines.Hook.{Hook}
use Rattle.iptables.specs.declared.lines.Hook.TheVariants.{Input, Forward, Output}
use Rattle.iptables.specs.declared.lines.Table.{Table}
use Rattle.iptables.specs.declared.lines.Table.TheVariants as table
use Rattle.iptables.specs.declared.lines.Kind.{Kind}
use Rattle.iptables.specs.declared.lines.Kind.TheVariants as kind
use Rattle.iptables.specs.declared.lines.Change.{Change}
use Rattle.iptables.specs.declared.lines.Change.TheVariants as change
use Rattle.iptables.specs.declared.why.Why.TheVariants as why
use Rattle.iptables.specs.Names.{name_number}
use Rattle.iptables.specs.Passing.{passes}
use Rattle.iptables.specs.Reading.{Read, Unsaid, nothing_read, read_words}

-- the chains that packets meet first
abbrev pub hook_name : Hook → List ℕ
hook_name Input = codes "INPUT"
hook_name Forward = codes "FORWARD"
hook_name Output = codes "OUTPUT"

abbrev pub is_other_hook : Hook → List ℕ → Bool
is_other_hook Input chain = bytes_eq chain (codes "FORWARD") || bytes_eq chain (codes "OUTPUT")
is_other_hook Forward chain = bytes_eq chain (codes "INPUT") || bytes_eq chain (codes "OUTPUT")
is_other_hook Output chain = bytes_eq chain (codes "INPUT") || bytes_eq chain (codes "FORWARD")

-- ---- the first word

abbrev pub begins_with : List ℕ → ℕ → Bool
begins_with word byte = not (length word == 0) && (slice_index word 0 == byte)

abbrev pub outside : List ℕ → Kind
outside first =
    if bytes_eq first (codes "*filter") then kind.Begins table.Filter
    else if begins_with first 42 then kind.Begins table.Other
    else kind.Unknown

abbrev pub in_other : List ℕ → Kind
in_other first = if bytes_eq first (codes "COMMIT") then kind.Begins table.Outside else kind.Nothing

abbrev pub in_filter : List ℕ → Kind
in_filter first =
    if bytes_eq first (codes "COMMIT") then kind.Lists
    else if bytes_eq first (codes "-A") then kind.Rule
    else if begins_with first 58 then kind.Declares
    else kind.Unknown

abbrev pub kind_in : Table → List ℕ → Kind
kind_in table.Outside first = outside first
kind_in table.Filter first = in_filter first
kind_in table.Other first = in_other first

abbrev pub kind_of : Table → List ℕ → Kind
kind_of at first = if begins_with first 35 then kind.Remark else kind_in at first

-- ---- what a line changes, and the tests of the rule that it adds
pub record Changed : Type 0 where
  pub change : Change
  pub tests : List Tests

abbrev pub plain : Change → Result Changed Unsaid
plain change = Ok (record { change = change; tests = [] })

-- ---- a chain

abbrev pub policy_of : List ℕ → Option (Option Bool)
policy_of word =
    if bytes_eq word (codes "ACCEPT") then Some (Some true)
    else if bytes_eq word (codes "DROP") then Some (Some false)
    else if bytes_eq word (codes "-") then Some None
    else None

abbrev pub declares : List ℕ → Option (Option Bool) → Result Changed Unsaid
declares word (Some policy) = plain (change.Declares policy)
declares word None = Err (record { why = why.Policy; word = word })

-- a quote stands in a text
abbrev pub has_quote : List ℕ → Bool
has_quote text = list_any (λ byte. byte == 34) text

-- a chain is declared that has the name of a target that decides
abbrev pub names_verdict : List ℕ → Bool
names_verdict first =
    bytes_eq first (codes ":ACCEPT") || bytes_eq first (codes ":DROP") || bytes_eq first (codes ":REJECT") || bytes_eq first (codes ":RETURN")

-- a chain is declared that has the name of a target behind which a packet goes on
abbrev pub names_passing : List ℕ → Bool
names_passing first =
    bytes_eq first (codes ":LOG") || bytes_eq first (codes ":NFLOG") || bytes_eq first (codes ":AUDIT") || bytes_eq first (codes ":TRACE")

-- A chain of the name of a target, as `nft` makes them, but `iptables` doesn't, since jumps to it look like that target, or with a quote in
-- its name, which looks like the end of a text.
abbrev pub is_ambiguous : List ℕ → Bool
is_ambiguous first = has_quote first || names_verdict first || names_passing first

abbrev pub declared : List ℕ → List (List ℕ) → Result Changed Unsaid
declared first [] = Err (record { why = why.Value; word = first })
declared first (word ∷ words) =
    if is_ambiguous first then Err (record { why = why.Target; word = first }) else declares word (policy_of word)

-- ---- a rule

-- one that no packet can have changes nothing
abbrev pub added : ℕ → Target → List Tests → Change
added number target [] = change.Empty
added number target (tests ∷ more) = change.Adds number target

abbrev pub target_change : ℕ → Option Target → List Tests → List ℕ → Result Change Unsaid
target_change number (Some target) tests chain = Ok (added number target tests)
target_change number None tests chain = Err (record { why = why.Target; word = chain })

abbrev pub with_tests : List Tests → Result Change Unsaid → Result Changed Unsaid
with_tests tests (Ok change) = Ok (record { change = change; tests = tests })
with_tests tests (Err unsaid) = Err unsaid

abbrev pub read_change : ℕ → List ℕ → Result Read Unsaid → Result Changed Unsaid
read_change number chain (Ok read) = with_tests read.tests (target_change number read.seen.target read.tests chain)
read_change number chain (Err unsaid) = Err unsaid

abbrev pub chain_change : ℕ → List (List ℕ) → IpVersion → List ℕ → List ℕ → List (List ℕ) → Result Changed Unsaid
chain_change number names version face chain words =
    if passes false words then plain change.Notes else read_change number chain (read_words version face names nothing_read [] words)

abbrev pub numbered_change : Option ℕ → List (List ℕ) → IpVersion → List ℕ → List ℕ → List (List ℕ) → Result Changed Unsaid
numbered_change None names version face chain words = Err (record { why = why.Chain; word = chain })
numbered_change (Some number) names version face chain words = chain_change number names version face chain words

abbrev pub rule_change : Hook → List (List ℕ) → IpVersion → List ℕ → List ℕ → List (List ℕ) → Result Changed Unsaid
rule_change hook names version face first [] = Err (record { why = why.Value; word = first })
rule_change hook names version face first (chain ∷ words) =
    if is_other_hook hook chain then plain change.Nothing else numbered_change (name_number names chain) names version face chain words

-- ---- a comment

-- by one that begins so `iptables-save` says that it doesn't print all chains of a table
abbrev pub remark_change : List (List ℕ) → Result Changed Unsaid
remark_change [] = plain change.Nothing
remark_change (word ∷ words) = if bytes_eq word (codes "Table") then Err (record { why = why.Beside; word = word }) else plain change.Nothing

-- ---- a line

abbrev pub word_change : Kind → Hook → List (List ℕ) → IpVersion → List ℕ → List ℕ → List (List ℕ) → Result Changed Unsaid
word_change kind.Nothing hook names version face first words = plain change.Nothing
word_change kind.Remark hook names version face first words = remark_change words
word_change (kind.Begins at) hook names version face first words = plain (change.Begins at)
word_change kind.Declares hook names version face first words = declared first words
word_change kind.Rule hook names version face first words = rule_change hook names version face first words
word_change kind.Lists hook names version face first words = plain change.Lists
word_change kind.Unknown hook names version face first words = Err (record { why = why.Word; word = first })

-- What a line changes, by its words.
abbrev pub change_of : Table → Hook → List (List ℕ) → IpVersion → List ℕ → List (List ℕ) → Result Changed Unsaid
change_of at hook names version face [] = plain change.Nothing
change_of at hook names version face (first ∷ words) = word_change (kind_of at first) hook names version face first words
