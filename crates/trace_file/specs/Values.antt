-- What the values in a line of a trace stand for (JSON, RFC 8259): numbers, prefixes, ranges of ports, rules and entries.
use Rattle.std.specs.Prelude.{ℕ, ◌-◌, ◌/◌, ◌%◌, ◌^◌, ◌==◌, nat_le, Option, Some, None, List, [], ◌∷◌, is_some, option_map, option_and_then, if◌then◌else◌}
use Rattle.std.specs.Option.{option_map_or}
use Rattle.serde_json.specs.Data.{Data, Items, no_items, item}
use Rattle.serde_json.specs.Find.{as_null, as_number, as_array, as_u64}
use Rattle.rule_model.specs.declared.Rule.{Rule}
use Rattle.rule_model.specs.AddressBlock.{AddressBlock, ipv4_block}
use Rattle.rule_model.specs.PortRange.{PortRange}
use Rattle.rule_model.specs.Rank.{rank_of}
use Rattle.rule_model.specs.declared.words.Word.{Word}
use Rattle.rule_model.specs.declared.words.Entry.{Entry}

-- the ? of options: the second step, if the first gave a value
infixl 10 ◌>>=◌
abbrev pub ◌>>=◌ : {A B : Type 0} → Option A → (A → Option B) → Option B
Some x >>= f = f x
None >>= f = None

-- the greatest number of so many bits
abbrev pub most : ℕ → ℕ
most bits = 2 ^ bits - 1

-- a number, if it isn't above a bound
abbrev pub within : ℕ → ℕ → Option ℕ
within bound n = if nat_le n bound then Some n else None

-- a whole number of a JSON value: it is written without sign, point and exponent
abbrev pub whole : Data → Option ℕ
whole value = option_and_then as_u64 (as_number value)

-- a whole number up to a bound
abbrev pub number_to : ℕ → Data → Option ℕ
number_to bound value = whole value >>= within bound

-- a priority or a tag, written as one number below 2 ^ 40: its upper 8 bits are the high part, the others the low part
abbrev pub rank_in : Data → Option ℕ
rank_in value = number_to (most 40) value >>= λ p. Some (rank_of (p / 2 ^ 32) (p % 2 ^ 32))

-- the block of an IPv4 address and a length up to 32, where no bit past the length is set
abbrev pub block_from : ℕ → ℕ → Option AddressBlock
block_from address len = if address % 2 ^ (32 - len) == 0 then Some (ipv4_block address len) else None

-- a prefix of two values
abbrev pub block_in : Data → Data → Option AddressBlock
block_in address len = do
  numeral ← number_to (most 32) address
  bits ← number_to 32 len
  block_from numeral bits

-- a protocol, or null for any
abbrev pub proto_in : Data → Option (Option ℕ)
proto_in value =
    if is_some (as_null value) then Some None else option_map Some (number_to (most 8) value)

-- the ports from the first to the last, the first not above the last
abbrev pub ports_from : ℕ → ℕ → Option PortRange
ports_from lo hi = if nat_le lo hi then Some (record { lo = lo; hi = hi }) else None

-- a range of ports of two values
abbrev pub ports_in : Data → Data → Option PortRange
ports_in lo hi = do
  first ← number_to (most 16) lo
  last ← number_to (most 16) hi
  ports_from first last

-- a rule: priority, source, destination, protocol, source ports, destination ports, result
abbrev pub rule_in : List Data → Option Rule
rule_in (p ∷ sa ∷ sl ∷ da ∷ dl ∷ pr ∷ a ∷ b ∷ c ∷ d ∷ r ∷ []) = do
  priority ← rank_in p
  src ← block_in sa sl
  dst ← block_in da dl
  proto ← proto_in pr
  sport ← ports_in a b
  dport ← ports_in c d
  answer ← number_to (most 32) r
  Some (record {
    priority = priority;
    src = src;
    dst = dst;
    proto = proto;
    sport = sport;
    dport = dport;
    result = answer;
  })
rule_in values = None

-- the five lanes that IPv4 has, in a word: the first of each address, ports, protocol and bits
abbrev pub ipv4_word : ℕ → ℕ → ℕ → ℕ → ℕ → Word
ipv4_word src dst ports proto bits =
    record { lane = src ∷ 0 ∷ 0 ∷ 0 ∷ dst ∷ 0 ∷ 0 ∷ 0 ∷ ports ∷ proto ∷ bits ∷ [] }

-- a word of five values
abbrev pub word_in : Data → Data → Data → Data → Data → Option Word
word_in a b c d e = do
  src ← number_to (most 32) a
  dst ← number_to (most 32) b
  ports ← number_to (most 32) c
  proto ← number_to (most 32) d
  bits ← number_to (most 32) e
  Some (ipv4_word src dst ports proto bits)

-- an entry: five lanes of its value, five of its mask, tag, result
abbrev pub entry_in : List Data → Option Entry
entry_in (a ∷ b ∷ c ∷ d ∷ e ∷ f ∷ g ∷ h ∷ i ∷ j ∷ t ∷ r ∷ []) = do
  value ← word_in a b c d e
  mask ← word_in f g h i j
  tag ← rank_in t
  answer ← number_to (most 32) r
  Some (record { value = value; mask = mask; tag = tag; result = answer })
entry_in values = None

-- the values of an array's items
abbrev pub listed : Items → List Data
listed no_items = []
listed (item value items) = value ∷ listed items

-- the values in an array, none in another value
abbrev pub values_in : Data → List Data
values_in value = option_map_or listed (as_array value) []
