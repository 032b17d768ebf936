-- The name of a chain of a ruleset, as a command line has it.
use Rattle.std.specs.Prelude.{ℕ, Bool, ◌==◌, nat_lt, Option, Some, None, List, codes, length, if◌then◌else◌}
use Rattle.std.specs.List.{after_first, before_first, position_or_len}
use Rattle.import_cli.specs.declared.chain_name.ChainName.{ChainName}
use Rattle.import_cli.specs.ListName.{name_in}

-- what stands before the first blank of a word, and what stands behind it
abbrev pub is_blank : ℕ → Bool
is_blank byte = byte == 32

abbrev pub cut : List ℕ → Option (List ℕ × List ℕ)
cut word =
    if nat_lt (position_or_len is_blank word) (length word) then Some (before_first is_blank word, after_first is_blank word) else None

-- three names, each of which has its room
abbrev pub with_names : Option (List ℕ) → Option (List ℕ) → Option (List ℕ) → Option ChainName
with_names None table name = None
with_names (Some family) None name = None
with_names (Some family) (Some table) None = None
with_names (Some family) (Some table) (Some name) = Some (record { family = family; table = table; name = name })

-- behind the family
abbrev pub in_table : List ℕ → Option (List ℕ × List ℕ) → Option ChainName
in_table family None = None
in_table family (Some (table, name)) = with_names (name_in family) (name_in table) (name_in name)

abbrev pub in_family : Option (List ℕ × List ℕ) → Option ChainName
in_family None = None
in_family (Some (family, rest)) = in_table family (cut rest)

-- a word is the family and the name of a table and the name of a chain there
abbrev pub chain_in : List ℕ → Option ChainName
chain_in word = in_family (cut word)

-- the one where none is asked for
abbrev pub input_chain : ChainName
input_chain = record { family = codes "inet"; table = codes "filter"; name = codes "input" }
