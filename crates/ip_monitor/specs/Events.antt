-- What a line of the monitor is, by its words.
use Rattle.std.specs.Prelude.{ℕ, Bool, true, false, not, ◌||◌, Result, Ok, Err, Option, Some, None, is_some, List, [], ◌∷◌, codes, if◌then◌else◌}
use Rattle.std.specs.Str.{bytes_eq}
use Rattle.rule_model.specs.declared.IpVersion.{IpVersion}
use Rattle.rule_model.specs.declared.IpVersion.TheVariants.{V4, V6}
use Rattle.ip_routes.specs.declared.attributes.Why.{Why}
use Rattle.ip_routes.specs.Words.{kind_of, is_another_kind}
use Rattle.ip_routes.specs.Reading.{RouteReading, first_reading, read_prefix}
use Rattle.ip_monitor.specs.declared.events.Passed.{Passed}
use Rattle.ip_monitor.specs.declared.events.Passed.TheVariants as passed

-- the word behind one of this name: not where that is the name of a device, and of none behind an encapsulation
abbrev pub value_of : List ℕ → List (List ℕ) → Option (List ℕ)
value_of name [] = None
value_of name (word ∷ []) = None
value_of name (word ∷ next ∷ words) =
    if bytes_eq word (codes "encap") then None
    else if bytes_eq word name then Some next
    else if bytes_eq word (codes "dev") then value_of name words
    else value_of name (next ∷ words)

-- the word that is to be the prefix: the first one, or the one behind a kind of route
abbrev pub is_kind : List ℕ → Bool
is_kind word = is_some (kind_of word) || is_another_kind word

abbrev pub first_or_none : List (List ℕ) → List ℕ
first_or_none [] = []
first_or_none (word ∷ words) = word

abbrev pub prefix_word : List (List ℕ) → List ℕ
prefix_word [] = []
prefix_word (word ∷ words) = if is_kind word then first_or_none words else word

-- a word is a prefix of a version
abbrev pub was_read : Result RouteReading Why → Bool
was_read (Ok seen) = true
was_read (Err reason) = false

abbrev pub is_prefix : IpVersion → List ℕ → Bool
is_prefix version word = was_read (read_prefix version first_reading word)

-- a route of every address is one of IPv6 if it has a preference
abbrev pub is_preferred : List (List ℕ) → Bool
is_preferred words = is_some (value_of (codes "pref") words)

-- a line is of the version that this one isn't
abbrev pub is_of_other : IpVersion → List (List ℕ) → List ℕ → Bool
is_of_other V4 words prefix = if bytes_eq prefix (codes "default") then is_preferred words else is_prefix V6 prefix
is_of_other V6 words prefix = if bytes_eq prefix (codes "default") then not (is_preferred words) else is_prefix V4 prefix

-- the table that a script is of
abbrev pub is_main : List ℕ → Bool
is_main table = bytes_eq table (codes "main") || bytes_eq table (codes "254")

-- why an event doesn't change that table, and the word
pub record PassedBy : Type 0 where
  pub by : Passed
  pub word : List ℕ

abbrev pub by_table : List ℕ → Option PassedBy
by_table table = if is_main table then None else Some (record { by = passed.Table; word = table })

abbrev pub by_version : IpVersion → List (List ℕ) → Option PassedBy
by_version version words =
    if is_of_other version words (prefix_word words)
    then Some (record { by = passed.Version; word = prefix_word words })
    else None

abbrev pub passed_by : IpVersion → List (List ℕ) → Option (List ℕ) → Option PassedBy
passed_by version words (Some table) = by_table table
passed_by version words None = by_version version words

abbrev pub passed_of : IpVersion → List (List ℕ) → Option PassedBy
passed_of version words = passed_by version words (value_of (codes "table") words)

-- a router advertised the route
abbrev pub is_ra : Option (List ℕ) → Bool
is_ra None = false
is_ra (Some origin) = bytes_eq origin (codes "ra")

abbrev pub is_advertised : List (List ℕ) → Bool
is_advertised words = is_ra (value_of (codes "proto") words)
