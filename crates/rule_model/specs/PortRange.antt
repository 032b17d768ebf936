-- Ranges of ports (RFC 9293, section 3.1, and RFC 768), and the blocks that cover them. Ports is seen as a range.
use Rattle.std.specs.Prelude.{ℕ, zero, suc, ◌+◌, ◌-◌, ◌*◌, ◌/◌, ◌%◌, ◌^◌, ◌<◌, ◌≤◌, Bool, true, false, ◌==◌, ◌&&◌, ◌||◌, ◌≡◌, ◌⊎◌, IsTrue, IsFalse, nat_lt, nat_le, List, [], ◌∷◌, ◌++◌, length}
use Rattle.std.specs.List.{list_any, range_with_len}

-- the ports from lo to hi
pub record PortRange : Type 0 where
  pub lo : ℕ
  pub hi : ℕ

-- the first port isn't above the last, and both have 16 bits
pub record IsPortRange (range : PortRange) : Type 0 where
  pub ordered : range.lo ≤ range.hi
  pub fits : range.hi < 2 ^ 16

-- the port is in the range
abbrev pub range_holds : PortRange → ℕ → Bool
range_holds range port = nat_le range.lo port && nat_le port range.hi

-- some port is in both ranges
abbrev pub RangesOverlap : PortRange → PortRange → Type 0
RangesOverlap a b = (port : ℕ) × (port < 2 ^ 16) × IsTrue (range_holds a port) × IsTrue (range_holds b port)

-- the same first and last port
abbrev pub same_range : PortRange → PortRange → Bool
same_range a b = (a.lo == b.lo) && (a.hi == b.hi)

-- every port
abbrev pub any_port : PortRange
any_port = record { lo = 0; hi = 65535 }

-- how many ports the range has
abbrev pub range_size : PortRange → ℕ
range_size range = range.hi + 1 - range.lo

-- the block of 2 ^ k ports from a first port on
abbrev pub block_at : ℕ → ℕ → PortRange
block_at k first = record { lo = first; hi = first + 2 ^ k - 1 }

-- the range is a block: 2 ^ k ports, the first of which is a multiple of 2 ^ k
abbrev pub is_block : PortRange → Bool
is_block range = list_any (λ k. (range_size range == 2 ^ k) && (range.lo % 2 ^ k == 0)) (range_with_len 0 17)

-- the inner range is a part of the outer one
abbrev pub lies_within : PortRange → PortRange → Bool
lies_within inner outer = nat_le outer.lo inner.lo && nat_le inner.hi outer.hi

-- no port is in both ranges
abbrev pub is_disjoint : PortRange → PortRange → Bool
is_disjoint a b = nat_lt a.hi b.lo || nat_lt b.hi a.lo

-- the largest blocks inside the range, of the block of 2 ^ k ports from first on, rising
abbrev pub cover_within : PortRange → ℕ → ℕ → List PortRange
cover_within range zero first =
    elim (lies_within (block_at 0 first) range) [ true ↦ block_at 0 first ∷ [] | false ↦ [] ]
cover_within range (suc k) first =
    elim (lies_within (block_at (suc k) first) range) [
      | true ↦ block_at (suc k) first ∷ []
      | false ↦ elim (is_disjoint (block_at (suc k) first) range) [
        | true ↦ []
        | false ↦ cover_within range k first ++ cover_within range k (first + 2 ^ k)
      ]
    ]

-- the cover of a range: all blocks inside it whose parent isn't, rising
abbrev pub cover : PortRange → List PortRange
cover range = cover_within range 16 0

-- how many blocks the cover has
abbrev pub cover_size : PortRange → ℕ
cover_size range = length (cover range)

-- the cover in words: blocks inside the range whose parent, the block of twice the size that they are half of, isn't inside
abbrev pub IsCoverBlock : PortRange → PortRange → Type 0
IsCoverBlock range block =
    (k : ℕ) × (k ≤ 16) × (range_size block ≡ 2 ^ k) × (block.lo % 2 ^ k ≡ 0) × IsTrue (lies_within block range)
    × ((k ≡ 16) ⊎ IsFalse (lies_within (block_at (k + 1) (block.lo / 2 ^ (k + 1) * 2 ^ (k + 1))) range))

-- whether a bit of a word is set, as of a table's word at a port
abbrev pub is_bit_set : ℕ → ℕ → Bool
is_bit_set word bit = word / 2 ^ bit % 2 == 1
