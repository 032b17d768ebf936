-- How IPv6 addresses are printed (RFC 5952): lower case, no leading zeros, and the longest run of two or more zero groups,
-- the first of equals, as two colons.
use Rattle.std.specs.Prelude.{◌≡◌, ℕ, ◌+◌, ◌/◌, ◌%◌, ◌^◌, ◌<◌, ◌≤◌, ◌==◌, nat_lt, Some, List, [], ◌∷◌, ◌++◌, length, take, drop, replicate, decimal, if◌then◌else◌}
use Rattle.rule_model.specs.Rank.{high_of, low_of}
use Rattle.line_words.specs.declared.printed.ZeroRun.{ZeroRun}
use Rattle.line_words.specs.Ipv6.{ipv6_number}

-- the eight groups of 16 bits of an address, the most significant first
abbrev pub groups_of_number : ℕ → List ℕ
groups_of_number address =
    address / 2 ^ 112 % 65536 ∷ address / 2 ^ 96 % 65536 ∷ address / 2 ^ 80 % 65536 ∷ address / 2 ^ 64 % 65536
    ∷ address / 2 ^ 48 % 65536 ∷ address / 2 ^ 32 % 65536 ∷ address / 2 ^ 16 % 65536 ∷ address % 65536 ∷ []

-- the code of a lower hexadecimal digit
abbrev pub hex_digit : ℕ → ℕ
hex_digit digit = if nat_lt digit 10 then digit + 48 else digit + 87

-- a group in lower hexadecimal digits, without leading zeros
abbrev pub group_text : ℕ → List ℕ
group_text group =
    if nat_lt group 16 then hex_digit group ∷ []
    else if nat_lt group 256 then hex_digit (group / 16) ∷ hex_digit (group % 16) ∷ []
    else if nat_lt group 4096 then hex_digit (group / 256) ∷ hex_digit (group / 16 % 16) ∷ hex_digit (group % 16) ∷ []
    else hex_digit (group / 4096) ∷ hex_digit (group / 256 % 16) ∷ hex_digit (group / 16 % 16) ∷ hex_digit (group % 16) ∷ []

-- groups with a colon between them
abbrev pub joined_text : List ℕ → List ℕ
joined_text [] = []
joined_text (group ∷ []) = group_text group
joined_text (group ∷ next ∷ groups) = group_text group ++ 58 ∷ joined_text (next ∷ groups)

-- how many zero groups stand first
abbrev pub zeros_first : List ℕ → ℕ
zeros_first [] = 0
zeros_first (group ∷ groups) = if group == 0 then zeros_first groups + 1 else 0

-- of a run here and the longest one later, the longer, the first of equals
abbrev pub longer_run : ZeroRun → ZeroRun → ZeroRun
longer_run here later = if nat_lt here.len later.len then later else here

-- the longest run of zero groups from a place on, the first of equals
abbrev pub longest_run : ℕ → List ℕ → ZeroRun
longest_run place [] = record { before = place; len = 0 }
longest_run place (group ∷ groups) =
    longer_run (record { before = place; len = zeros_first (group ∷ groups) }) (longest_run (place + 1) groups)

-- the text of eight groups, of which this is the longest run of zeros
abbrev pub shortened_text : List ℕ → ZeroRun → List ℕ
shortened_text groups run =
    if nat_lt run.len 2 then joined_text groups
    else joined_text (take run.before groups) ++ 58 ∷ 58 ∷ joined_text (drop (run.before + run.len) groups)

-- An IPv6 address in its shortest form.
abbrev pub ipv6_text : ℕ → List ℕ
ipv6_text address = shortened_text (groups_of_number address) (longest_run 0 (groups_of_number address))

-- the name of an IPv6 route: its address and its length
abbrev pub ipv6_prefix_text : ℕ → List ℕ
ipv6_prefix_text rank = ipv6_text (low_of rank) ++ 47 ∷ decimal (high_of rank)

-- some groups from a place on are zeros
abbrev pub AreZeros : List ℕ → ZeroRun → Type 0
AreZeros groups run = take run.len (drop run.before groups) ≡ replicate run.len 0

-- in words: a run of zeros, longer than each that stands before it, and no shorter than any other
pub record IsFirstLongest (groups : List ℕ) (run : ZeroRun) : Type 0 where
  pub inside : run.before + run.len ≤ length groups
  pub zeros : AreZeros groups run
  pub longest : (other : ZeroRun) → other.before + other.len ≤ length groups → AreZeros groups other → other.len ≤ run.len
  pub first : (other : ZeroRun) → other.before < run.before → other.before + other.len ≤ length groups → AreZeros groups other → other.len < run.len

-- an address as it is printed is read as that address
abbrev pub PrintedIsReadBack : Type 0
PrintedIsReadBack = (address : ℕ) → address < 2 ^ 128 → ipv6_number (ipv6_text address) ≡ Some address

-- what is shortened of an address's groups is such a run
abbrev pub ShortensTheLongest : Type 0
ShortensTheLongest = (groups : List ℕ) → IsFirstLongest groups (longest_run 0 groups)
