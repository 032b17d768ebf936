-- Which line of a trace a text is, by the version of IP of the trace.
use Rattle.std.specs.Prelude.{◌≡◌, ◌&&◌, ℕ, Bool, true, false, nat_le, Option, Some, None, List, [], ◌∷◌, codes, IsUtf8, option_map, if◌then◌else◌}
use Rattle.std.specs.Str.{bytes_eq}
use Rattle.slot_order.specs.Order.{script_slots}
use Rattle.serde_json.specs.Data.{Data, Members, no_members, member}
use Rattle.serde_json.specs.Find.{as_bool, as_str, as_object}
use Rattle.serde_json.specs.Read.{read}
use Rattle.rule_model.specs.declared.IpVersion.{IpVersion}
use Rattle.rule_model.specs.declared.IpVersion.TheVariants.{V4, V6}
use Rattle.rule_model.specs.declared.Rule.{Rule}
use Rattle.rule_model.specs.declared.words.Entry.{Entry}
use Rattle.rule_model.specs.declared.Field.{Field}
use Rattle.rule_model.specs.declared.Field.TheVariants.{Src, Dst}
use Rattle.trace_file.specs.declared.TraceLine.{TraceLine}
use Rattle.trace_file.specs.declared.TraceLine.TheVariants.{Head, Commit, Add, Set, Del, Put, Erase, Table, Drain, Done, Refused, End, Fault}
use Rattle.trace_file.specs.Values.{◌>>=◌, most, number_to, rank_in, rule_in, entry_in, values_in}
use Rattle.trace_file.specs.Ipv6Values as ipv6

-- one of two words: true where it is the second
abbrev pub choice_in : List ℕ → List ℕ → Data → Option Bool
choice_in first second value =
    as_str value >>= λ s. if bytes_eq s first then Some false else if bytes_eq s second then Some true else None

-- the name of a table
abbrev pub field_in : Data → Option Field
field_in value = option_map (λ second. if second then Dst else Src) (choice_in (codes "src") (codes "dst") value)

-- the number of slots in use, from 1 to 4,096
abbrev pub slots_in : Data → Option ℕ
slots_in value = number_to script_slots value >>= λ n. if nat_le 1 n then Some n else None

-- a priority and the result that it gets
abbrev pub change_in : List Data → Option TraceLine
change_in (p ∷ r ∷ []) = do
  priority ← rank_in p
  answer ← number_to (most 32) r
  Some (Set priority answer)
change_in values = None

-- the rule that is added, by the version
abbrev pub added_in : IpVersion → Data → Option Rule
added_in V4 value = rule_in (values_in value)
added_in V6 value = ipv6.rule_in (values_in value)

-- a change of a result
abbrev pub changed_in : IpVersion → Data → Option TraceLine
changed_in V4 value = change_in (values_in value)
changed_in V6 value = option_map (λ found. Set found.0 found.1) (ipv6.change_in (values_in value))

-- the priority of the rule that is removed
abbrev pub removed_in : IpVersion → Data → Option ℕ
removed_in V4 value = rank_in value
removed_in V6 value = ipv6.rank_in (values_in value)

-- the entry that is put
abbrev pub entry_by : IpVersion → Data → Option Entry
entry_by V4 value = entry_in (values_in value)
entry_by V6 value = ipv6.entry_in (values_in value)

-- true, and no other value
abbrev pub drain_in : Data → Option TraceLine
drain_in value = as_bool value >>= λ b. if b then Some Drain else None

-- a line of one member
abbrev pub one_member : IpVersion → List ℕ → Data → Option TraceLine
one_member version key value =
    if bytes_eq key (codes "commit") then option_map Commit (number_to (most 32) value)
    else if bytes_eq key (codes "add") then option_map Add (added_in version value)
    else if bytes_eq key (codes "set") then changed_in version value
    else if bytes_eq key (codes "del") then option_map Del (removed_in version value)
    else if bytes_eq key (codes "erase") then option_map Erase (number_to (most 32) value)
    else if bytes_eq key (codes "drain") then drain_in value
    else if bytes_eq key (codes "done") then option_map Done (number_to (most 32) value)
    else if bytes_eq key (codes "refused") then option_map Refused (number_to (most 32) value)
    else if bytes_eq key (codes "end") then option_map End (number_to (most 64) value)
    else None

-- an entry and its slot
abbrev pub put_in : IpVersion → Data → Data → Option TraceLine
put_in version put slot = do
  entry ← entry_by version put
  place ← number_to (most 32) slot
  Some (Put place entry)

-- a fault's text, which isn't kept, and its line
abbrev pub fault_in : Data → Data → Option TraceLine
fault_in text line = as_str text >>= λ s. option_map Fault (number_to (most 32) line)

-- a line of two members
abbrev pub two_members : IpVersion → List ℕ → Data → List ℕ → Data → Option TraceLine
two_members version first value second other =
    if bytes_eq first (codes "put") && bytes_eq second (codes "slot") then put_in version value other
    else if bytes_eq first (codes "fault") && bytes_eq second (codes "line") then fault_in value other
    else None

-- a port, its table and the word
abbrev pub table_in : Data → Data → Data → Option TraceLine
table_in port table word = do
  place ← number_to (most 16) port
  field ← field_in table
  bits ← number_to (most 16) word
  Some (Table field place bits)

-- the name of a family: its version, and whether it is an access list
abbrev pub family_named : List ℕ → Option (IpVersion × Bool)
family_named name =
    if bytes_eq name (codes "route") then Some (V4, false)
    else if bytes_eq name (codes "acl") then Some (V4, true)
    else if bytes_eq name (codes "route6") then Some (V6, false)
    else if bytes_eq name (codes "acl6") then Some (V6, true)
    else None

abbrev pub family_in : Data → Option (IpVersion × Bool)
family_in value = as_str value >>= family_named

-- the family, the encoding of ranges and the slots in use
abbrev pub head_in : Data → Data → Data → Option TraceLine
head_in family mode slots = do
  kind ← family_in family
  bits ← choice_in (codes "cover") (codes "bits") mode
  count ← slots_in slots
  Some (Head kind.0 kind.1 bits count)

-- a line of three members
abbrev pub three_members : List ℕ → Data → List ℕ → Data → List ℕ → Data → Option TraceLine
three_members first value second other third last =
    if bytes_eq first (codes "family") && bytes_eq second (codes "mode") && bytes_eq third (codes "slots") then head_in value other last
    else if bytes_eq first (codes "port") && bytes_eq second (codes "table") && bytes_eq third (codes "word") then table_in value other last
    else None

-- a line of some members, which an object has by rising keys
abbrev pub members_line : IpVersion → Members → Option TraceLine
members_line version (member a x no_members) = one_member version a x
members_line version (member a x (member b y no_members)) = two_members version a x b y
members_line version (member a x (member b y (member c z no_members))) = three_members a x b y c z
members_line version ms = None

-- The line that a value is, if it has one of the forms.
abbrev pub line_in : IpVersion → Data → Option TraceLine
line_in version value = as_object value >>= members_line version

-- The line of a trace of this version that a text is, if it is one.
abbrev pub trace_line : IpVersion → List ℕ → Option TraceLine
trace_line version text = read text >>= line_in version

-- The bytes are a text of JSON, which is UTF-8, and it is this line of a trace of the version.
abbrev pub IsLineOf : IpVersion → List ℕ → TraceLine → Type 0
IsLineOf version text line = IsUtf8 text × (trace_line version text ≡ Some line)
