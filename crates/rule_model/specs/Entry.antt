-- Entries of the memory: which words they hit, and which entry stands for a piece of a rule.
use Rattle.std.specs.Prelude.{◌≡◌, ℕ, ◌-◌, ◌^◌, ◌<◌, Bool, true, false, ◌==◌, ◌&&◌, IsTrue, Option, Some, None, IfSome, IfNone, List, ◌∷◌, bit_and, bit_xor, nat_eq, position}
use Rattle.std.specs.Str.{bytes_eq}
use Rattle.rule_model.specs.declared.Key.{Key}
use Rattle.rule_model.specs.declared.Piece.{Piece}
use Rattle.rule_model.specs.AddressBlock.{block_holds}
use Rattle.rule_model.specs.Key.{IsKey}
use Rattle.rule_model.specs.PortRange.{PortRange, is_bit_set, range_holds, range_size, is_block}
use Rattle.rule_model.specs.Rule.{proto_holds}
use Rattle.rule_model.specs.declared.words.Word.{Word}
use Rattle.rule_model.specs.declared.words.Entry.{Entry}
use Rattle.rule_model.specs.Word.{lanes_of, word_of}

-- a ternary match, lane by lane: (word xor value) and mask is 0
abbrev pub lanes_match : List ℕ → List ℕ → List ℕ → Bool
lanes_match (word ∷ words) (value ∷ values) (mask ∷ masks) =
    (bit_and (bit_xor word value) mask == 0) && lanes_match words values masks
lanes_match words values masks = true

-- the entry hits the word
abbrev pub hits : Entry → Word → Bool
hits entry word = lanes_match word.lane entry.value.lane entry.mask.lane

-- the mask of an address block: as many leading ones as its length
abbrev pub leading_ones : ℕ → ℕ
leading_ones len = 2 ^ 128 - 2 ^ (128 - len)

-- the value of a range's ports: its first one, or none where the range has a bit
abbrev pub port_value : PortRange → Option ℕ → ℕ
port_value range None = range.lo
port_value range (Some bit) = 0

-- the mask of a range's ports, which tests none where the range has a bit
abbrev pub port_mask : PortRange → Option ℕ → ℕ
port_mask range None = 2 ^ 16 - range_size range
port_mask range (Some bit) = 0

-- the bit of the table's word by which a range is tested, if it has one
abbrev pub bit_mask : Option ℕ → ℕ
bit_mask None = 0
bit_mask (Some bit) = 2 ^ bit

-- the value of a protocol, 0 for any
abbrev pub proto_value : Option ℕ → ℕ
proto_value None = 0
proto_value (Some proto) = proto

-- the mask of a protocol, all eight bits or none
abbrev pub proto_mask : Option ℕ → ℕ
proto_mask None = 0
proto_mask (Some proto) = 2 ^ 8 - 1

-- the value that a piece is compared with
abbrev pub value_of : Piece → Word
value_of piece =
    record {
      lane = lanes_of piece.src.addr piece.dst.addr (port_value piece.sport piece.srcbit)
          (port_value piece.dport piece.dstbit) (proto_value piece.proto) (bit_mask piece.srcbit)
          (bit_mask piece.dstbit);
    }

-- the bits of a word that a piece tests
abbrev pub mask_of : Piece → Word
mask_of piece =
    record {
      lane = lanes_of (leading_ones piece.src.len) (leading_ones piece.dst.len) (port_mask piece.sport piece.srcbit)
          (port_mask piece.dport piece.dstbit) (proto_mask piece.proto) (bit_mask piece.srcbit)
          (bit_mask piece.dstbit);
    }

-- the entry that stands for a piece, with a rule's priority as its tag and the rule's result
abbrev pub entry_of : Piece → ℕ → ℕ → Entry
entry_of piece tag answer =
    record { value = value_of piece; mask = mask_of piece; tag = tag; result = answer }

-- A piece that has an entry: a range without a bit is one block of ports, and a bit is one of 16.
pub record IsEncodable (piece : Piece) : Type 0 where
  pub sport : IfNone piece.srcbit (IsTrue (is_block piece.sport))
  pub dport : IfNone piece.dstbit (IsTrue (is_block piece.dport))
  pub srcbit : IfSome piece.srcbit (λ bit. bit < 16)
  pub dstbit : IfSome piece.dstbit (λ bit. bit < 16)

-- one port of a key, and the word of its table, by the piece's block or by its bit
abbrev pub port_tested : PortRange → Option ℕ → ℕ → ℕ → Bool
port_tested range None port bits = range_holds range port
port_tested range (Some bit) port bits = is_bit_set bits bit

-- which words a piece's entry hits: its prefixes, its protocol and its blocks match, and its bits are set
abbrev pub piece_hits : Piece → Key → ℕ → ℕ → Bool
piece_hits piece key srcbits dstbits =
    block_holds piece.src key.src && block_holds piece.dst key.dst && proto_holds piece.proto key.proto
    && port_tested piece.sport piece.srcbit key.sport srcbits
    && port_tested piece.dport piece.dstbit key.dport dstbits

-- the entry hits exactly the words of the keys that the piece is to match, whatever the two tables hold
abbrev pub HitsExactly : Piece → Entry → Type 0
HitsExactly piece entry =
    (key : Key) → IsKey key → (srcbits dstbits : ℕ) → srcbits < 2 ^ 16 → dstbits < 2 ^ 16
    → hits entry (word_of key srcbits dstbits) ≡ piece_hits piece key srcbits dstbits

-- the same lanes
abbrev pub same_word : Word → Word → Bool
same_word a b = bytes_eq a.lane b.lane

-- the same value, mask and tag, whatever the result
abbrev pub same_match : Entry → Entry → Bool
same_match a b =
    same_word a.value b.value && same_word a.mask b.mask && nat_eq a.tag b.tag

-- no bit of the value is set outside the mask
abbrev pub IsMasked : List ℕ → List ℕ → Type 0
IsMasked (value ∷ values) (mask ∷ masks) = (bit_and value mask ≡ value) × IsMasked values masks
IsMasked values masks = Unit {0}

-- A piece with the priority and the result of its rule.
pub record RankedPiece : Type 0 where
  pub piece : Piece
  pub rank : ℕ
  pub result : ℕ

-- the entry of a piece with its priority and its result
abbrev pub entry_for : RankedPiece → Entry
entry_for ranked = entry_of ranked.piece ranked.rank ranked.result

-- whether a slot holds an entry that hits the word
abbrev pub slot_hits : Word → Option Entry → Bool
slot_hits word None = false
slot_hits word (Some entry) = hits entry word

-- the least slot that hits the word
abbrev pub first_hitting : List (Option Entry) → Word → Option ℕ
first_hitting slots word = position (slot_hits word) slots
