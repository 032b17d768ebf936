-- The name of a list, as a command line has it.
use Rattle.std.specs.Prelude.{ℕ, nat_le, Option, Some, None, List, length, if◌then◌else◌}

-- a name has 64 bytes at most
abbrev pub name_in : List ℕ → Option (List ℕ)
name_in name = if nat_le (length name) 64 then Some name else None
