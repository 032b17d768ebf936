-- Sources and sinks in memory, as contracts see them.
use Rattle.std.specs.Prelude.{ℕ, ◌-◌, max, List, ◌++◌, length}
use Rattle.call_history.specs.Calls.{CallCount}
use Rattle.call_history.specs.Cause.{raised}

-- what a sink in memory has: its bytes, the room that is made for more, and how often a write failed
pub record Kept : Type 0 where
  pub bytes : List ℕ
  pub room : ℕ
  pub failed : ℕ

-- room for so many bytes more, or what was made before
abbrev pub with_room : Kept → ℕ → Kept
with_room kept n = record kept { room = max kept.room n }

-- the whole piece is taken
abbrev pub with_piece : Kept → List ℕ → Kept
with_piece kept piece = record kept { bytes = kept.bytes ++ piece; room = kept.room - length piece }

-- a failed write that took nothing
abbrev pub with_fault : Kept → Kept
with_fault kept = record kept { failed = raised kept.failed }

-- what a failing sink has
pub record FailingKept : Type 0 where
  pub kept : Kept
  pub calls : CallCount

-- what a source in memory has: the bytes left, and the pieces that it gave
pub record Left : Type 0 where
  pub bytes : List ℕ
  pub given : List (List ℕ)

-- what a failing source has: the bytes left, the pieces that it gave, the most bytes of a read, how often a read failed, and
-- its calls
pub record FailingLeft : Type 0 where
  pub bytes : List ℕ
  pub given : List (List ℕ)
  pub piece : ℕ
  pub failed : ℕ
  pub calls : CallCount

-- what an adapter has: the reader or writer, the pieces of its calls that answered Ok, and how often it failed
pub record Counted (Inner : Type 0) : Type 0 where
  pub inner : Inner
  pub pieces : List (List ℕ)
  pub failed : ℕ
