-- The chains, sets and maps of a table, among all items.
use Rattle.std.specs.Prelude.{ℕ, ◌+◌, Bool, true, false, ◌&&◌, ◌||◌, is_some, Option, Some, None, List, codes, if◌then◌else◌}
use Rattle.std.specs.Str.{bytes_eq}
use Rattle.json.specs.Find.{as_array, get, get_item}
use Rattle.json.specs.Json.{Json, null, boolean, number, string, array, object, Items, no_items, item, Members, no_members, member}
use Rattle.nft_rulesets.specs.declared.asked.Asked.{Asked}
use Rattle.nft_rulesets.specs.Looks.{sole, text_is}

-- the table that is asked for, where this member names a table
abbrev pub is_ours : Asked → List ℕ → Json → Bool
is_ours asked key body = text_is (codes "family") body asked.family.now && text_is key body asked.table.now

-- a definition of this name in it
abbrev pub is_named : Asked → List ℕ → Option Json → Bool
is_named asked name None = false
is_named asked name (Some body) = is_ours asked (codes "table") body && text_is (codes "name") body name

abbrev pub defines : Asked → List ℕ → List ℕ → Json → Bool
defines asked kind name value = is_named asked name (get kind value)

-- the place of the first one among some items, of which the first has this place
abbrev pub place_from : Asked → List ℕ → List ℕ → ℕ → Items → Option ℕ
place_from asked kind name place no_items = None
place_from asked kind name place (item value items) =
    if defines asked kind name value then Some place else place_from asked kind name (place + 1) items

-- A chain's number is its place among all items.
abbrev pub place_of : Asked → List ℕ → List ℕ → Items → Option ℕ
place_of asked kind name all = place_from asked kind name 0 all

-- packets meet it without a jump
abbrev pub has_hook : Option Json → Bool
has_hook None = false
has_hook (Some body) = is_some (get (codes "hook") body)

abbrev pub is_hooked : Option Json → Bool
is_hooked None = false
is_hooked (Some value) = has_hook (get (codes "chain") value)

abbrev pub is_base : Items → ℕ → Bool
is_base all place = is_hooked (get_item place all)

-- ---- the elements of a set or a map

-- what a set says that has no part in what it holds
abbrev pub is_set_key : List ℕ → Bool
is_set_key key =
    bytes_eq key (codes "family") || bytes_eq key (codes "name") || bytes_eq key (codes "table") || bytes_eq key (codes "type")
    || bytes_eq key (codes "handle") || bytes_eq key (codes "flags") || bytes_eq key (codes "elem") || bytes_eq key (codes "map")
    || bytes_eq key (codes "comment") || bytes_eq key (codes "auto-merge") || bytes_eq key (codes "stmt")

abbrev pub set_keys : Members → Bool
set_keys no_members = true
set_keys (member key value members) = is_set_key key && set_keys members

abbrev pub is_set : Json → Bool
is_set null = false
is_set (boolean b) = false
is_set (number text) = false
is_set (string text) = false
is_set (array items) = false
is_set (object members) = set_keys members

-- a set that doesn't change by itself
abbrev pub is_flag : Json → Bool
is_flag null = false
is_flag (boolean b) = false
is_flag (number text) = false
is_flag (string text) = bytes_eq text (codes "interval") || bytes_eq text (codes "constant")
is_flag (array items) = false
is_flag (object _) = false

abbrev pub all_flags : Items → Bool
all_flags no_items = true
all_flags (item value items) = is_flag value && all_flags items

abbrev pub listed_flags : Option Items → Bool
listed_flags None = false
listed_flags (Some items) = all_flags items

abbrev pub are_flags : Option Json → Bool
are_flags None = true
are_flags (Some value) = listed_flags (as_array value)

-- what a set does with a packet that it has: it counts it, and nothing else
abbrev pub is_counter : Option (List ℕ × Json) → Bool
is_counter None = false
is_counter (Some (key, body)) = bytes_eq key (codes "counter")

abbrev pub all_counters : Items → Bool
all_counters no_items = true
all_counters (item value items) = is_counter (sole value) && all_counters items

abbrev pub listed_counters : Option Items → Bool
listed_counters None = false
listed_counters (Some items) = all_counters items

abbrev pub are_counters : Option Json → Bool
are_counters None = true
are_counters (Some value) = listed_counters (as_array value)

abbrev pub listed_elements : Option Json → Option Items
listed_elements None = Some no_items
listed_elements (Some value) = as_array value

abbrev pub elements_in : Json → Option Items
elements_in body =
    if is_set body && are_flags (get (codes "flags") body) && are_counters (get (codes "stmt") body) then listed_elements (get (codes "elem") body) else None

abbrev pub elements_of : Option Json → Option Items
elements_of None = None
elements_of (Some body) = elements_in body

abbrev pub elements_at : List ℕ → Option Json → Option Items
elements_at kind None = None
elements_at kind (Some value) = elements_of (get kind value)

abbrev pub elements_by : List ℕ → Items → Option ℕ → Option Items
elements_by kind all None = None
elements_by kind all (Some place) = elements_at kind (get_item place all)

-- The elements of the set, or of the map, of a name; none where it isn't there, or holds what isn't known.
abbrev pub elements : Asked → List ℕ → List ℕ → Items → Option Items
elements asked kind name all = elements_by kind all (place_of asked kind name all)
