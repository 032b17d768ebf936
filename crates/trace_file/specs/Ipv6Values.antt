-- What the values in a line of a trace of IPv6 stand for: a rank has five numbers and an address four, words of 32 bits
-- with the highest first.
use Rattle.std.specs.Prelude.{ℕ, ◌+◌, ◌-◌, ◌*◌, ◌%◌, ◌^◌, ◌==◌, Option, Some, None, List, [], ◌∷◌, length, slice_get, if◌then◌else◌}
use Rattle.serde_json.specs.Data.{Data}
use Rattle.rule_model.specs.declared.Rule.{Rule}
use Rattle.rule_model.specs.AddressBlock.{AddressBlock}
use Rattle.rule_model.specs.PortRange.{PortRange}
use Rattle.rule_model.specs.Rank.{rank_of}
use Rattle.rule_model.specs.declared.words.Word.{Word}
use Rattle.rule_model.specs.declared.words.Entry.{Entry}
use Rattle.trace_file.specs.Values.{◌>>=◌, most, number_to, proto_in, ports_in}

-- the whole number at a place, up to a bound
abbrev pub number_at : ℕ → List Data → ℕ → Option ℕ
number_at bound values at = slice_get values at >>= number_to bound

-- the word of 32 bits at a place
abbrev pub part_at : List Data → ℕ → Option ℕ
part_at values at = number_at (most 32) values at

-- the number of 128 bits of four words
abbrev pub of_parts : ℕ → ℕ → ℕ → ℕ → ℕ
of_parts first second third fourth = first * 2 ^ 96 + second * 2 ^ 64 + third * 2 ^ 32 + fourth

-- the number of four words from a place on
abbrev pub wide_number_at : List Data → ℕ → Option ℕ
wide_number_at values at = do
  first ← part_at values at
  second ← part_at values (at + 1)
  third ← part_at values (at + 2)
  fourth ← part_at values (at + 3)
  Some (of_parts first second third fourth)

-- a priority or a tag from a place on: its high part of 8 bits, and the four words of its low part
abbrev pub rank_at : List Data → ℕ → Option ℕ
rank_at values at = do
  high ← number_at (most 8) values at
  low ← wide_number_at values (at + 1)
  Some (rank_of high low)

-- the block of an address and a length up to 128, where no bit past the length is set
abbrev pub block_from : ℕ → ℕ → Option AddressBlock
block_from address len = if address % 2 ^ (128 - len) == 0 then Some (record { addr = address; len = len }) else None

-- a prefix: an address from a place on, and the length behind it
abbrev pub block_at : List Data → ℕ → Option AddressBlock
block_at values at = do
  address ← wide_number_at values at
  len ← number_at 128 values (at + 4)
  block_from address len

-- the protocol at a place, or null for any
abbrev pub proto_at : List Data → ℕ → Option (Option ℕ)
proto_at values at = slice_get values at >>= proto_in

-- a range of ports of two values
abbrev pub ports_at : List Data → ℕ → Option PortRange
ports_at values at = do
  lo ← slice_get values at
  hi ← slice_get values (at + 1)
  ports_in lo hi

-- a rule: priority, source, destination, protocol, source ports, destination ports, result
abbrev pub rule_at : List Data → Option Rule
rule_at values = do
  priority ← rank_at values 0
  src ← block_at values 5
  dst ← block_at values 10
  proto ← proto_at values 15
  sport ← ports_at values 16
  dport ← ports_at values 18
  answer ← part_at values 20
  Some (record {
    priority = priority;
    src = src;
    dst = dst;
    proto = proto;
    sport = sport;
    dport = dport;
    result = answer;
  })

-- a word of these lanes
abbrev pub ipv6_word : List ℕ → Word
ipv6_word lanes = record { lane = lanes }

-- the word from a place on
abbrev pub word_at : List Data → ℕ → Option Word
word_at values at = do
  a ← part_at values at
  b ← part_at values (at + 1)
  c ← part_at values (at + 2)
  d ← part_at values (at + 3)
  e ← part_at values (at + 4)
  f ← part_at values (at + 5)
  g ← part_at values (at + 6)
  h ← part_at values (at + 7)
  i ← part_at values (at + 8)
  j ← part_at values (at + 9)
  k ← part_at values (at + 10)
  Some (ipv6_word (a ∷ b ∷ c ∷ d ∷ e ∷ f ∷ g ∷ h ∷ i ∷ j ∷ k ∷ []))

-- an entry: eleven lanes of its value, eleven of its mask, tag, result
abbrev pub entry_at : List Data → Option Entry
entry_at values = do
  value ← word_at values 0
  mask ← word_at values 11
  tag ← rank_at values 22
  answer ← part_at values 27
  Some (record { value = value; mask = mask; tag = tag; result = answer })

-- what so many values are, and no other number of them
abbrev pub only_of : {A : Type 0} → ℕ → List Data → Option A → Option A
only_of count values found = if length values == count then found else None

-- the priority that an array's values are
abbrev pub rank_in : List Data → Option ℕ
rank_in values = only_of 5 values (rank_at values 0)

-- a priority and the result that it gets
abbrev pub change_in : List Data → Option (ℕ × ℕ)
change_in values = only_of 6 values (rank_at values 0 >>= λ rank. part_at values 5 >>= λ answer. Some (rank, answer))

-- a rule
abbrev pub rule_in : List Data → Option Rule
rule_in values = only_of 21 values (rule_at values)

-- an entry
abbrev pub entry_in : List Data → Option Entry
entry_in values = only_of 28 values (entry_at values)
