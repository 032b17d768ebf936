-- What puts back what moves replace.
use Rattle.std.specs.Prelude.{◌≡◌, ℕ, ◌<◌, Option, None, Some, List, [], ◌∷◌, ◌++◌, length, Contains}
use Rattle.std.specs.List.{AllByRecursion}
use Rattle.slot_order.specs.Order.{slot}
use Rattle.slot_pool.specs.Arrangement.{Slots}
use Rattle.placement.specs.declared.Move.{Move}
use Rattle.placement.specs.declared.Move.TheVariants.{Put, Erase}
use Rattle.placement.specs.Placement.{after_move, after_moves}

-- the slot of a move, and what it holds
abbrev pub slot_of : Move → ℕ
slot_of (Put at id) = at
slot_of (Erase at) = at

abbrev pub held_at : Slots → Move → Option ℕ
held_at slots move = slot slots (slot_of move)

-- the move that puts into a slot what is held there
abbrev pub as_held : ℕ → Option ℕ → Move
as_held at None = Erase at
as_held at (Some id) = Put at id

-- the move that puts back what a move's slot holds before it
abbrev pub back_of : Slots → Move → Move
back_of slots (Put at id) = as_held at (slot slots at)
back_of slots (Erase at) = as_held at (slot slots at)

-- and those that put back what some moves replace, each what its slot holds before it, in the order of the moves
abbrev pub backs_of : Slots → List Move → List Move
backs_of slots [] = []
backs_of slots (move ∷ moves) = back_of slots move ∷ backs_of (after_move slots move) moves

-- a move is to one of so many slots
abbrev pub IsInside : ℕ → Move → Type 0
IsInside slots (Put at id) = at < slots
IsInside slots (Erase at) = at < slots

-- some moves put the id somewhere
abbrev pub IsNamed : List Move → ℕ → Type 0
IsNamed moves id = (at : ℕ) × Contains moves (Put at id)

-- an arrangement once some moves are made in it, the last one first
abbrev pub taken_back : Slots → List Move → Slots
taken_back slots [] = slots
taken_back slots (move ∷ moves) = after_move (taken_back slots moves) move

-- the undo moves of a plan take an arrangement back to where the plan began
abbrev pub LeadBack : Type 0
LeadBack = (slots : Slots) (moves : List Move) → taken_back (after_moves slots moves) (backs_of slots moves) ≡ slots

-- Some moves were added to a plan and made in an arrangement, and what puts back each of them was added to the undo moves.
pub record AreNoted (slots slots' : Slots) (plan plan' undo undo' : List Move) : Type 0 where
  pub moves : List Move
  pub gained : plan' ≡ plan ++ moves
  pub after : slots' ≡ after_moves slots moves
  pub inside : AllByRecursion (IsInside (length slots)) moves
  pub noted : undo' ≡ undo ++ backs_of slots moves
