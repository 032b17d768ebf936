-- Interfaces, by their names.
use Rattle.std.specs.Prelude.{ℕ, ◌-◌, Bool, not, ◌==◌, ◌&&◌, ◌||◌, nat_lt, Option, Some, None, List, length, slice_index, take, if◌then◌else◌}
use Rattle.std.specs.List.{list_any}
use Rattle.std.specs.Str.{bytes_eq}

-- a byte that no name has: a blank, one that isn't printable, a slash and a colon
abbrev pub has_odd : List ℕ → Bool
has_odd name = list_any (λ byte. nat_lt byte 33 || (nat_lt 126 byte || ((byte == 47) || (byte == 58)))) name

-- a name has 15 bytes at most
abbrev pub face_in : List ℕ → Option (List ℕ)
face_in name = if nat_lt 15 (length name) || has_odd name then None else Some name

-- a rule's word with a `+` at its end names each interface whose name begins with what stands before it, any other word the one of this name
abbrev pub has_plus : List ℕ → Bool
has_plus word = not (length word == 0) && (slice_index word (length word - 1) == 43)

abbrev pub begins_so : List ℕ → List ℕ → Bool
begins_so front name = bytes_eq front (take (length front) name)

abbrev pub names_face : List ℕ → List ℕ → Bool
names_face word name = if has_plus word then begins_so (take (length word - 1) word) name else bytes_eq word name
