-- Looking into values of JSON, and what a comment names of them.
use Rattle.std.specs.Prelude.{ℕ, ◌+◌, Bool, false, ◌==◌, Option, Some, None, List, codes}
use Rattle.std.specs.Str.{bytes_eq}
use Rattle.json.specs.Find.{as_str, get}
use Rattle.json.specs.Json.{Json, null, boolean, number, string, array, object, Items, no_items, item, Members, no_members, member}
use Rattle.json_routes.specs.Lines.{named_key, text_of}

-- how many members an object has
abbrev pub member_count : Members → ℕ
member_count no_members = 0
member_count (member key value members) = member_count members + 1

abbrev pub has_members : ℕ → Json → Bool
has_members count null = false
has_members count (boolean b) = false
has_members count (number text) = false
has_members count (string text) = false
has_members count (array items) = false
has_members count (object members) = member_count members == count

-- the key and the value of an object that has no others
abbrev pub only_member : Members → Option (List ℕ × Json)
only_member no_members = None
only_member (member key value no_members) = Some (key, value)
only_member (member key value (member other_key other _)) = None

abbrev pub sole : Json → Option (List ℕ × Json)
sole null = None
sole (boolean b) = None
sole (number text) = None
sole (string text) = None
sole (array items) = None
sole (object members) = only_member members

-- the two items of an array that has no others
abbrev pub only_pair : Items → Option (Json × Json)
only_pair no_items = None
only_pair (item first no_items) = None
only_pair (item first (item second no_items)) = Some (first, second)
only_pair (item first (item second (item third items))) = None

abbrev pub pair_in : Json → Option (Json × Json)
pair_in null = None
pair_in (boolean b) = None
pair_in (number text) = None
pair_in (string text) = None
pair_in (array items) = only_pair items
pair_in (object _) = None

-- the text of a member
abbrev pub text_in : Option Json → Option (List ℕ)
text_in None = None
text_in (Some value) = as_str value

abbrev pub text_at : List ℕ → Json → Option (List ℕ)
text_at key value = text_in (get key value)

abbrev pub is_text : Option (List ℕ) → List ℕ → Bool
is_text None name = false
is_text (Some text) name = bytes_eq text name

-- it is this one
abbrev pub text_is : List ℕ → Json → List ℕ → Bool
text_is key value name = is_text (text_at key value) name

-- what a comment names a text by
abbrev pub named_text : Option (List ℕ) → List ℕ
named_text None = codes "?"
named_text (Some text) = named_key text

abbrev pub word_in : Option Json → Option (List ℕ)
word_in None = None
word_in (Some value) = text_of value

-- and the text, or the number, of a member
abbrev pub word_at : List ℕ → Json → List ℕ
word_at key value = named_text (word_in (get key value))
