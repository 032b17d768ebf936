-- The entries that are live, each under an id.
use Rattle.std.specs.Prelude.{◌≡◌, ℕ, ◌+◌, ◌<◌, ◌≤◌, IsTrue, IsFalse, if◌then◌else◌, Option, Some, None, List, [], ◌∷◌, Contains, ◌++◌, ◌-◌, length, map, drop, nat_eq, ◌⊎◌}
use Rattle.std.specs.List.{AllByRecursion, IsDistinct}
use Rattle.slot_order.specs.Order.{most_slots}
use Rattle.rule_model.specs.declared.words.Entry.{Entry}
use Rattle.rule_model.specs.Entry.{RankedPiece}
use Rattle.placement.specs.declared.LivePiece.{LivePiece}
use Rattle.slot_pool.specs.Arrangement.{Slots}
use Rattle.placement.specs.Live.{AreApart, Homes, is_live}
use Rattle.placement.specs.declared.Move.{Move}
use Rattle.move_planner.specs.Noted.{IsNamed}
use Rattle.placement.specs.Ready.{AreToldBut}
use Rattle.commit_writes.specs.Planned.{entry_at}

-- the live ids with their pieces, the number that ids are below, and the entry of each id; and where the ids stand, by what was
-- told of them, where that is kept
pub record Entries : Type 0 where
  pub slots : ℕ
  pub live : List LivePiece
  pub entries : List (Option Entry)
  pub told : Option Homes

-- where that is kept each live id stands where that was told
abbrev pub AreTold : Entries → Slots → Type 0
AreTold kept slots = AreToldBut (λ id. ⊥) kept.live kept.told slots

-- what is told stays right where ids come or go, whatever they stand in
abbrev pub StayTold : Entries → Entries → Type 0
StayTold old new = (slots : Slots) → AreTold old slots → AreTold new slots

-- of the ids that some moves name it is told where they stand, and of others nothing
abbrev pub AreFollowed : Entries → Entries → Slots → List Move → Type 0
AreFollowed old new slots moves =
    (others : List Move) → AreToldBut (λ id. IsNamed others id ⊎ IsNamed moves id) old.live old.told slots → AreToldBut (IsNamed others) new.live new.told slots

-- the entries of the ids from one on that are live, by what is kept at each of them
abbrev pub entries_from : List LivePiece → ℕ → List Entry → List (Option Entry)
entries_from live id [] = []
entries_from live id (entry ∷ kept) = (if is_live live id then Some entry else None) ∷ entries_from live (id + 1) kept

-- the entry of each live id
abbrev pub live_entries : List LivePiece → List Entry → List (Option Entry)
live_entries live kept = entries_from live 0 kept

-- each id has a place, and the ids that aren't live are the spare ones
pub record AreKept (slots : ℕ) (live : List LivePiece) (entries : List (Option Entry)) (spare : List ℕ) : Type 0 where
  pub places : length entries ≡ slots
  pub few : slots ≤ most_slots
  pub count : length spare + length live ≡ slots
  pub small : AllByRecursion (λ id. id < slots) spare
  pub absent : AllByRecursion (λ id. IsFalse (is_live live id)) spare
  pub once : IsDistinct nat_eq spare
  pub apart : AreApart slots live

-- the ids below a number, each once
pub record AreAll (slots : ℕ) (ids : List ℕ) : Type 0 where
  pub count : length ids ≡ slots
  pub small : AllByRecursion (λ id. id < slots) ids
  pub once : IsDistinct nat_eq ids

-- some entries became live, under these ids and in this order
pub record AddsIds (old new : Entries) (ids : List ℕ) : Type 0 where
  pub made : List LivePiece
  pub live : new.live ≡ old.live ++ made
  pub ids_are : map (λ one. one.id) made ≡ ids
  pub slots : new.slots ≡ old.slots

-- these are the ids that became live last
abbrev pub AreLast : List LivePiece → List ℕ → Type 0
AreLast live ids = (length ids ≤ length live) × (map (λ one. one.id) (drop (length live - length ids) live) ≡ ids)

-- each of these live ids has the entry that it had before
abbrev pub KeepEntries : List LivePiece → List (Option Entry) → List (Option Entry) → Type 0
KeepEntries live before now = (id : ℕ) → IsTrue (is_live live id) → entry_at now id ≡ entry_at before id

-- a live piece is this one, with its rank
abbrev pub HasId : List LivePiece → RankedPiece → Type 0
HasId live ranked = (one : LivePiece) × Contains live one × (one.piece ≡ ranked.piece) × (one.rank ≡ ranked.rank)

-- one is each of these pieces
abbrev pub HaveIds : List LivePiece → List RankedPiece → Type 0
HaveIds live pieces = AllByRecursion (HasId live) pieces
