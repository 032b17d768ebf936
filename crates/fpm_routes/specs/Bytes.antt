-- Numbers in messages, and the parts that a message is of.
use Rattle.std.specs.Prelude.{ℕ, ◌+◌, ◌*◌, ◌/◌, Bool, ◌==◌, nat_le, nat_lt, ◌&&◌, Option, Some, None, List, length, take, drop, slice_index, if◌then◌else◌}

-- a number of two bytes, and of four, the low one first; bytes that aren't there count 0
abbrev pub two_at : ℕ → List ℕ → ℕ
two_at place bytes = slice_index bytes place + 256 * slice_index bytes (place + 1)

abbrev pub four_at : ℕ → List ℕ → ℕ
four_at place bytes = two_at place bytes + 65536 * two_at (place + 2) bytes

-- there are none, or fewer than so many
abbrev pub is_done : List ℕ → Bool
is_done bytes = length bytes == 0

abbrev pub is_short : List ℕ → ℕ → Bool
is_short bytes count = nat_lt (length bytes) count

-- what a part has behind its head, and what stands behind the part, which begins at a multiple of four bytes
pub record Part : Type 0 where
  pub inside : List ℕ
  pub rest : List ℕ

abbrev pub aligned : ℕ → ℕ
aligned size = (size + 3) / 4 * 4

abbrev pub is_there : ℕ → ℕ → ℕ → Bool
is_there head whole held = nat_le head whole && nat_le whole held

-- the first part, of so many bytes, the head among them, if it is there as a whole
abbrev pub part_of : ℕ → ℕ → List ℕ → Option Part
part_of head size bytes =
    if is_there head size (length bytes)
    then Some (record { inside = drop head (take size bytes); rest = drop (aligned size) bytes })
    else None
