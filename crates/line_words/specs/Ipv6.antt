-- How IPv6 addresses and prefixes are written (RFC 4291, section 2.2, without a dotted IPv4 part).
use Rattle.std.specs.Prelude.{ℕ, ◌+◌, ◌-◌, ◌*◌, ◌==◌, ◌&&◌, nat_le, Result, Err, Option, Some, None, List, [], ◌∷◌, ◌++◌, length, fold, replicate, option_and_then, option_map, ok_or, if◌then◌else◌}
use Rattle.hex.specs.Hex.{hex_digit_value}
use Rattle.rule_model.specs.AddressBlock.{AddressBlock}
use Rattle.packet_keys.specs.Frame6.{key6_of_frame}
use Rattle.line_words.specs.declared.ipv6.Groups.{Groups}
use Rattle.line_words.specs.declared.WordFault.{WordFault}
use Rattle.line_words.specs.declared.WordFault.TheVariants.{BadPrefix}
use Rattle.line_words.specs.Words.{◌>>=◌}
use Rattle.line_words.specs.Kinds.{Notation, number_up_to, parts_at, block_of}

-- the value of some hexadecimal digits, after those before them
abbrev pub hex_value : ℕ → List ℕ → Option ℕ
hex_value before [] = Some before
hex_value before (digit ∷ digits) =
    option_and_then (λ value. hex_value (before * 16 + value) digits) (hex_digit_value digit)

-- a group: one to four hexadecimal digits
abbrev pub group_value : List ℕ → Option ℕ
group_value digits = if nat_le 1 (length digits) && nat_le (length digits) 4 then hex_value 0 digits else None

-- the values of some groups
abbrev pub group_values : List (List ℕ) → Option (List ℕ)
group_values [] = Some []
group_values (group ∷ groups) =
    option_and_then (λ value. option_map (λ values. value ∷ values) (group_values groups)) (group_value group)

-- groups parted by colons, or no text and no group
abbrev pub groups_of : List ℕ → Option (List ℕ)
groups_of [] = Some []
groups_of (byte ∷ bytes) = group_values (parts_at 58 (byte ∷ bytes))

-- what stands before and behind the first two colons that stand together
abbrev pub at_double_colon : List ℕ → Option (List ℕ × List ℕ)
at_double_colon [] = None
at_double_colon (byte ∷ []) = None
at_double_colon (first ∷ second ∷ rest) =
    if (first == 58) && (second == 58) then Some ([], rest)
    else option_map (λ parts. (first ∷ parts.0, parts.1)) (at_double_colon (second ∷ rest))

-- the number that groups of 16 bits are, the most significant first
abbrev pub address_value : List ℕ → ℕ
address_value groups = fold (λ value group. value * 65536 + group) 0 groups

-- how many groups some values are, and the number that they are, where they are no more than an address has
abbrev pub few_groups : List ℕ → Option Groups
few_groups values =
    if nat_le (length values) 8 then Some (record { count = length values; value = address_value values }) else None

-- the address of exactly eight groups
abbrev pub eight_groups : List ℕ → Option ℕ
eight_groups groups = if length groups == 8 then Some (address_value groups) else None

-- at most seven groups, with zero groups between the two parts
abbrev pub joined_groups : List ℕ → List ℕ → Option ℕ
joined_groups front back =
    if nat_le (length front + length back) 7
    then Some (address_value (front ++ replicate (8 - (length front + length back)) 0 ++ back))
    else None

-- the address with a double colon between two parts
abbrev pub shortened_number : List ℕ → List ℕ → Option ℕ
shortened_number front back =
    option_and_then (λ before. option_and_then (joined_groups before) (groups_of back)) (groups_of front)

-- the address of a word, by its double colon where it has one
abbrev pub number_by_parts : List ℕ → Option (List ℕ × List ℕ) → Option ℕ
number_by_parts word None = option_and_then eight_groups (groups_of word)
number_by_parts word (Some (front, back)) = shortened_number front back

-- An IPv6 address: eight groups, or at most seven with one double colon for the missing zero groups.
abbrev pub ipv6_number : List ℕ → Option ℕ
ipv6_number word = number_by_parts word (at_double_colon word)

-- an IPv6 prefix: an address and a length up to 128
abbrev pub ipv6_prefix : List (List ℕ) → Result AddressBlock WordFault
ipv6_prefix (address ∷ len ∷ []) = do
  number ← ok_or (ipv6_number address) BadPrefix
  bits ← ok_or (number_up_to 128 len) BadPrefix
  block_of (record { addr = number; len = bits })
ipv6_prefix parts = Err BadPrefix

-- how IPv6 is written
abbrev pub ipv6_notation : Notation
ipv6_notation =
    record { address = ipv6_number; block = λ word. ipv6_prefix (parts_at 47 word); frame = key6_of_frame }
