-- Search words: what is compared with each slot of the memory.
use Rattle.std.specs.Prelude.{ℕ, ◌+◌, ◌*◌, ◌/◌, ◌%◌, ◌^◌, List, [], ◌∷◌, ◌++◌}
use Rattle.rule_model.specs.declared.Key.{Key}
use Rattle.rule_model.specs.declared.words.Word.{Word}

-- the four lanes of an address, the most significant first
abbrev pub address_lanes : ℕ → List ℕ
address_lanes address =
    address / 2 ^ 96 % 2 ^ 32 ∷ address / 2 ^ 64 % 2 ^ 32 ∷ address / 2 ^ 32 % 2 ^ 32 ∷ address % 2 ^ 32 ∷ []

-- two numbers of 16 bits in a lane
abbrev pub pair_lane : ℕ → ℕ → ℕ
pair_lane upper lower = upper * 2 ^ 16 + lower

-- the lanes, from both addresses, both ports, the protocol's lane and the words of the two translation tables
abbrev pub lanes_of : ℕ → ℕ → ℕ → ℕ → ℕ → ℕ → ℕ → List ℕ
lanes_of src dst sport dport proto srcbits dstbits =
    address_lanes src ++ address_lanes dst
    ++ (pair_lane sport dport ∷ proto * 2 ^ 24 ∷ pair_lane srcbits dstbits ∷ [])

-- the search word of a key, by the words that the source and the destination table have at its ports
abbrev pub word_of : Key → ℕ → ℕ → Word
word_of key srcbits dstbits =
    record { lane = lanes_of key.src key.dst key.sport key.dport key.proto srcbits dstbits }
