-- The line that `ip -o route show` prints of the route that a value of `ip -j route show` is.
use Rattle.std.specs.Prelude.{ℕ, Bool, not, ◌==◌, ◌&&◌, ◌||◌, length, nat_lt, Option, Some, None, List, [], ◌∷◌, ◌++◌, codes, take, if◌then◌else◌}
use Rattle.std.specs.List.{list_any}
use Rattle.std.specs.Str.{bytes_eq}
use Rattle.json.specs.Json.{Json, null, boolean, number, string, array, object, Items, no_items, item, Members, no_members, member}
use Rattle.import_lines.specs.Import.{LineTold, SaidBy, UnsaidBy}
use Rattle.json_routes.specs.declared.parts.Part.{Part}
use Rattle.json_routes.specs.declared.parts.Part.TheVariants as part

-- bytes, and then what comes behind them: the line isn't said where either isn't
abbrev pub onto : List ℕ → LineTold → LineTold
onto front (SaidBy bytes) = SaidBy (front ++ bytes)
onto front (UnsaidBy why) = UnsaidBy why

abbrev pub then_told : LineTold → LineTold → LineTold
then_told (SaidBy front) told = onto front told
then_told (UnsaidBy why) told = UnsaidBy why

-- a byte that no word of a line has: it parts words, or can't be printed
abbrev pub is_odd : ℕ → Bool
is_odd byte = nat_lt byte 33 || nat_lt 126 byte || (byte == 92)

-- a text that is one word of a line
abbrev pub has_odd : List ℕ → Bool
has_odd text = list_any is_odd text

abbrev pub is_one_word : List ℕ → Bool
is_one_word text = not (length text == 0) && not (has_odd text)

-- why a value isn't said, with a key, of which a comment has 64 bytes, and none that no line may have
abbrev pub named_key : List ℕ → List ℕ
named_key key = if is_one_word key then take 64 key else codes "?"

abbrev pub unknown_key : List ℕ → LineTold
unknown_key key = UnsaidBy (codes "unknown key: " ++ named_key key)

abbrev pub bad_value : List ℕ → LineTold
bad_value key = UnsaidBy (codes "bad value: " ++ named_key key)

abbrev pub encapsulated : LineTold
encapsulated = UnsaidBy (codes "encapsulation: encap")

-- a word of a line, behind a space
abbrev pub word_line : List ℕ → List ℕ
word_line word = 32 ∷ word

-- the word that a value is: a text, or a number as it is written
abbrev pub text_of : Json → Option (List ℕ)
text_of null = None
text_of (boolean b) = None
text_of (number text) = Some text
text_of (string text) = Some text
text_of (array items) = None
text_of (object ms) = None

abbrev pub text_line : List ℕ → Option (List ℕ) → LineTold
text_line key None = bad_value key
text_line key (Some text) = if is_one_word text then SaidBy (word_line text) else bad_value key

abbrev pub value_line : List ℕ → Json → LineTold
value_line key value = text_line key (text_of value)

-- ---- what some items come to, one behind the other, and some members

abbrev pub each_item : (Json → LineTold) → Items → LineTold
each_item told no_items = SaidBy []
each_item told (item value items) = then_told (told value) (each_item told items)

abbrev pub each_member : (List ℕ → Json → LineTold) → Members → LineTold
each_member told no_members = SaidBy []
each_member told (member key value members) = then_told (told key value) (each_member told members)

-- ---- an address of the other version of IP

abbrev pub is_of_address : List ℕ → Bool
is_of_address key = bytes_eq key (codes "family") || bytes_eq key (codes "host")

abbrev pub address_member : List ℕ → Json → LineTold
address_member key value = if is_of_address key then value_line key value else unknown_key key

abbrev pub address_line : List ℕ → Json → LineTold
address_line key null = bad_value key
address_line key (boolean b) = bad_value key
address_line key (number text) = bad_value key
address_line key (string text) = bad_value key
address_line key (array items) = bad_value key
address_line key (object members) = onto (word_line (codes "via")) (each_member address_member members)

-- ---- flags

abbrev pub flags_line : List ℕ → Json → LineTold
flags_line key null = bad_value key
flags_line key (boolean b) = bad_value key
flags_line key (number text) = bad_value key
flags_line key (string text) = bad_value key
flags_line key (array items) = each_item (value_line key) items
flags_line key (object ms) = bad_value key

-- ---- a member of a route, or of a next hop

-- a key whose value is a word that no name stands before
abbrev pub is_bare : List ℕ → Bool
is_bare key = bytes_eq key (codes "type") || bytes_eq key (codes "dst")

-- one whose value is a word behind the name of the key
abbrev pub is_named_so : List ℕ → Bool
is_named_so key =
    bytes_eq key (codes "dev") || bytes_eq key (codes "weight") || bytes_eq key (codes "metric") || bytes_eq key (codes "table")
    || bytes_eq key (codes "pref") || bytes_eq key (codes "from") || bytes_eq key (codes "tos")

-- one that says where a route comes from, or what it is to this machine, or how packets are sent, and not where to
abbrev pub is_passed : List ℕ → Bool
is_passed key =
    bytes_eq key (codes "protocol") || bytes_eq key (codes "scope") || bytes_eq key (codes "prefsrc") || bytes_eq key (codes "nhid")
    || bytes_eq key (codes "metrics") || bytes_eq key (codes "expires") || bytes_eq key (codes "error")

abbrev pub other_part : List ℕ → Part
other_part key =
    if bytes_eq key (codes "via") then part.Address
    else if bytes_eq key (codes "flags") then part.Flags
    else if bytes_eq key (codes "encap") then part.Encap
    else if is_passed key then part.Passed
    else part.Unknown

abbrev pub part_of : List ℕ → Part
part_of key =
    if is_bare key then part.Bare
    else if bytes_eq key (codes "gateway") then part.Gateway
    else if is_named_so key then part.Named
    else other_part key

abbrev pub line_of_part : Part → List ℕ → Json → LineTold
line_of_part part.Bare key value = value_line key value
line_of_part part.Gateway key value = onto (word_line (codes "via")) (value_line key value)
line_of_part part.Named key value = onto (word_line key) (value_line key value)
line_of_part part.Address key value = address_line key value
line_of_part part.Flags key value = flags_line key value
line_of_part part.Passed key value = SaidBy []
line_of_part part.Encap key value = encapsulated
line_of_part part.Unknown key value = unknown_key key

abbrev pub member_line : List ℕ → Json → LineTold
member_line key value = line_of_part (part_of key) key value

-- ---- a set of next hops

abbrev pub hop_line : List ℕ → Json → LineTold
hop_line key null = bad_value key
hop_line key (boolean b) = bad_value key
hop_line key (number text) = bad_value key
hop_line key (string text) = bad_value key
hop_line key (array items) = bad_value key
hop_line key (object members) = onto (word_line (codes "nexthop")) (each_member member_line members)

abbrev pub hops_line : List ℕ → Json → LineTold
hops_line key null = bad_value key
hops_line key (boolean b) = bad_value key
hops_line key (number text) = bad_value key
hops_line key (string text) = bad_value key
hops_line key (array items) = each_item (hop_line key) items
hops_line key (object ms) = bad_value key

-- ---- a route

abbrev pub route_member : List ℕ → Json → LineTold
route_member key value = if bytes_eq key (codes "nexthops") then hops_line key value else member_line key value

abbrev pub route_line : Json → LineTold
route_line null = UnsaidBy (codes "no object")
route_line (boolean b) = UnsaidBy (codes "no object")
route_line (number text) = UnsaidBy (codes "no object")
route_line (string text) = UnsaidBy (codes "no object")
route_line (array items) = UnsaidBy (codes "no object")
route_line (object members) = each_member route_member members
