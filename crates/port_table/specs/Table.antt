-- A translation table in memory, and what words that are written leave in one.
use Rattle.std.specs.Prelude.{ℕ, ◌≡◌, ◌^◌, ◌≤◌, Bool, true, false, IsTrue, IsFalse, List, [], ◌∷◌, length, nat_eq, slice_set, if◌then◌else◌}
use Rattle.tcam_device.specs.State.{blank_table}

-- The word of each port, and how many writes of a word have their room.
pub record RoomyTable : Type 0 where
  pub words : List ℕ
  pub spare : ℕ

-- a table after some words were written, each at its port
abbrev pub after_words : List ℕ → List (ℕ × ℕ) → List ℕ
after_words table [] = table
after_words table (one ∷ more) = after_words (slice_set table one.0 one.1) more

-- the words of a table: its own where it is whole, and else those that some words leave of a blank one
abbrev pub words_by : Bool → List ℕ → List (ℕ × ℕ) → List ℕ
words_by true words written = words
words_by false words written = after_words blank_table written

-- the word that a port has after one more is written
abbrev pub word_after : ℕ → ℕ → ℕ × ℕ → ℕ
word_after port word one = if nat_eq one.0 port then one.1 else word

-- A whole table has a word for each port. Where it isn't whole, so many words more have their room.
pub record IsKept (is_whole : Bool) (words : List ℕ) (room free : ℕ) : Type 0 where
  pub size : IsTrue is_whole → length words ≡ 2 ^ 16
  pub enough : IsFalse is_whole → room ≤ free
