-- The pieces that stand in a device, and what is left of its commit.
use Rattle.std.specs.Prelude.{◌≡◌, ℕ, ◌<◌, ◌≤◌, IfSome, Option, Some, None, List, [], ◌∷◌, Contains, length, option_map, slice_set}
use Rattle.slot_order.specs.Order.{slot}
use Rattle.slot_pool.specs.Arrangement.{Slots}
use Rattle.rule_model.specs.Entry.{RankedPiece, IsEncodable, entry_for}
use Rattle.placement.specs.declared.LivePiece.{LivePiece}
use Rattle.commit_writes.specs.Planned.{entry_at}
use Rattle.commit_writes.specs.PlannedBatch.{IsIdOf}
use Rattle.placement.specs.declared.Move.TheVariants.{Erase}
use Rattle.batch_order.specs.declared.planned_writes.PlannedWrite.{PlannedWrite}
use Rattle.batch_order.specs.declared.planned_writes.PlannedWrite.TheVariants.{Moved}
use Rattle.batch_order.specs.declared.Placement.{Placement}
use Rattle.batch_order.specs.declared.held.Held.{Held}
use Rattle.batch_order.specs.declared.translation.Translation.{Translation}
use Rattle.batch_order.specs.Entries.{Entries, HasId}
use Rattle.batch_order.specs.Kept.{bits_of, held_of, mode_of, state_of}
use Rattle.batch_order.specs.Managed.{Managed}
use Rattle.rule_store.specs.Store.{StoredRules}

-- the pieces in the slots, without the one in the twin's
abbrev pub without_twin : Option ℕ → List (Option RankedPiece) → List (Option RankedPiece)
without_twin None places = places
without_twin (Some at) places = slice_set places at None

-- each piece in a slot has an entry
abbrev pub AreEncodable : List (Option RankedPiece) → Type 0
AreEncodable places = (at : ℕ) (ranked : RankedPiece) → slot places at ≡ Some ranked → IsEncodable ranked.piece

-- the id is live for a piece, and has its entry
pub record StandsFor (kept : Entries) (id : ℕ) (ranked : RankedPiece) : Type 0 where
  pub one : LivePiece
  pub live : Contains kept.live one
  pub id_is : one.id ≡ id
  pub piece : one.piece ≡ ranked.piece
  pub rank : one.rank ≡ ranked.rank
  pub entry : entry_at kept.entries id ≡ Some (entry_for ranked)

-- Of the first so many slots each that has a piece has an id for it, its own, and no other slot has one.
pub record AreStanding (count : ℕ) (places : List (Option RankedPiece)) (kept : Entries) (slots : Slots) : Type 0 where
  pub size : length slots ≡ kept.slots
  pub few : length kept.live ≤ count
  pub stands : (at id : ℕ) → slot slots at ≡ Some id → (below : at < count) × (ranked : RankedPiece) × (slot places at ≡ Some ranked) × StandsFor kept id ranked
  pub placed : (at : ℕ) (ranked : RankedPiece) → at < count → slot places at ≡ Some ranked → (id : ℕ) × (slot slots at ≡ Some id)
  pub of_live : (one : LivePiece) → Contains kept.live one → (at : ℕ) × (slot slots at ≡ Some one.id)
  pub once : (i j id : ℕ) → slot slots i ≡ Some id → slot slots j ≡ Some id → i ≡ j

-- the twin's slot is one of those in use and has no id yet, and its piece has one
pub record HasPieceOf (twin : Option ℕ) (places : List (Option RankedPiece)) (kept : Entries) (slots : Slots) : Type 0 where
  pub size : length slots ≤ length places
  pub inside : IfSome twin (λ at. at < length slots)
  pub free : IfSome twin (λ at. slot slots at ≡ None)
  pub has_id : IfSome twin (λ at. IfSome (slot places at) (HasId kept.live))

-- the twin's slot has the id of the piece there, and the other slots are as they were
abbrev pub IsWithTwin : Option ℕ → List (Option RankedPiece) → List LivePiece → Slots → Slots → Type 0
IsWithTwin None places live slots slots' = slots' ≡ slots
IsWithTwin (Some at) places live slots slots' =
    elim (slot places at) [
      | None ↦ slots' ≡ slots
      | Some ranked ↦ (id : ℕ) × IsIdOf live ranked id × (slots' ≡ slice_set slots at (Some id))
    ]

-- the erase of the twin, as it is planned
abbrev pub planned_twin : Option ℕ → List PlannedWrite
planned_twin None = []
planned_twin (Some at) = Moved (Erase at) ∷ []

-- a manager, as callers see it, by what it keeps
abbrev pub managed_by : Placement → Option Translation → StoredRules → Entries → Slots → Option Held → Managed
managed_by placement translation rules kept slots held =
    record {
      slots = length slots;
      mode = mode_of translation;
      placement = placement;
      rules = rules.rules;
      bits = bits_of translation;
      state = state_of translation kept.entries slots held;
      held = option_map (held_of translation slots rules.rules kept.entries) held;
    }
