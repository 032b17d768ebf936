-- Insertions as they are planned, over ids in slots, and what they mean on the device.
use Rattle.std.specs.Prelude.{◌≡◌, ℕ, ◌<◌, ◌≤◌, IsFalse, Option, Some, None, List, [], ◌∷◌, ◌++◌, Contains, AllPairs, length, map, flat_map, fold, max, slice_index_or}
use Rattle.std.specs.List.{AllByRecursion}
use Rattle.slot_order.specs.Order.{most_slots}
use Rattle.slot_order.specs.Chains.{BoundsMemberChains}
use Rattle.slot_pool.specs.Arrangement.{Slots}
use Rattle.rule_model.specs.Rule.{AreConditions}
use Rattle.rule_model.specs.Piece.{PiecesOverlap}
use Rattle.rule_model.specs.declared.words.Entry.{Entry}
use Rattle.rule_model.specs.Entry.{RankedPiece, IsEncodable, entry_for}
use Rattle.placement.specs.declared.LivePiece.{LivePiece}
use Rattle.placement.specs.Live.{AreApart, is_live, is_above, rank_in}
use Rattle.placement.specs.declared.Move.{Move}
use Rattle.placement.specs.declared.Move.TheVariants.{Put, Erase}
use Rattle.placement.specs.Placement.{Aiming, IsPlacement, IsInOrder, after_moves, span_of}
use Rattle.placement.specs.Insertion.{IsLive, StandOnce}
use Rattle.tcam_device.specs.declared.Write.{Write}
use Rattle.tcam_device.specs.declared.Write.TheVariants.{Slot}
use Rattle.tcam_device.specs.State.{State, IsState}
use Rattle.tcam_device.specs.Order.{IsTranslated}

-- the entry of each id, if it has one
abbrev pub IdEntries : Type 0
IdEntries = List (Option Entry)

-- the entry of an id
abbrev pub entry_at : IdEntries → ℕ → Option Entry
entry_at entries id = slice_index_or entries id None

-- what stands in a slot that holds an id, or none
abbrev pub held_entry : IdEntries → Option ℕ → Option Entry
held_entry entries None = None
held_entry entries (Some id) = entry_at entries id

-- what the slots hold where an arrangement of ids stands in them
abbrev pub contents : IdEntries → Slots → List (Option Entry)
contents entries slots = map (held_entry entries) slots

-- a state whose slots hold this, with its tables as they are
abbrev pub with_slots : State → List (Option Entry) → State
with_slots state slots = record state { slots = slots }

-- the device write that a move is
abbrev pub write_for : IdEntries → Move → Write
write_for entries (Put slot id) = Slot slot (entry_at entries id)
write_for entries (Erase slot) = Slot slot None

-- one insertion as it was planned: the entry's id with its piece and priority, its result, its aim with the priorities
-- that come later, its moves and its crossing span
pub record Planned : Type 0 where
  pub one : LivePiece
  pub result : ℕ
  pub aiming : Aiming
  pub moves : List Move
  pub span : ℕ

-- its piece with priority and result
abbrev pub ranked_of : Planned → RankedPiece
ranked_of planned = record { piece = planned.one.piece; rank = planned.one.rank; result = planned.result }

-- insertions planned one after the other, with these ids live and this arrangement before them: each new id goes in by
-- the moves of a placement with its aim
abbrev pub ArePlanned : List LivePiece → Slots → List Planned → Type 0
ArePlanned live slots [] = Unit {0}
ArePlanned live slots (planned ∷ rest) =
    IsFalse (is_live live planned.one.id)
    × IsPlacement (is_above (live ++ planned.one ∷ [])) (rank_in (live ++ planned.one ∷ [])) planned.aiming planned.one.id slots planned.moves
    × (planned.span ≡ span_of (is_above (live ++ planned.one ∷ [])) slots planned.one.id)
    × ArePlanned (live ++ planned.one ∷ []) (after_moves slots planned.moves) rest

-- the ids that are live after them
abbrev pub live_after : List LivePiece → List Planned → List LivePiece
live_after live planned = live ++ map (λ insertion. insertion.one) planned

-- the arrangement after them
abbrev pub slots_after : Slots → List Planned → Slots
slots_after slots planned = fold (λ now insertion. after_moves now insertion.moves) slots planned

-- all their device writes
abbrev pub planned_writes : IdEntries → List Planned → List Write
planned_writes entries planned = flat_map (λ insertion. map (write_for entries) insertion.moves) planned

-- the writes of the longest of them, and their greatest span
abbrev pub longest_planned : List Planned → ℕ
longest_planned planned = fold max 0 (map (λ insertion. length insertion.moves) planned)

abbrev pub greatest_planned : List Planned → ℕ
greatest_planned planned = fold max 0 (map (λ insertion. insertion.span) planned)

-- The live ids are those of some pieces, each once, and each has its piece's entry.
pub record AreEntriesOf (pieces : List RankedPiece) (live : List LivePiece) (entries : IdEntries) : Type 0 where
  pub of_piece : (one : LivePiece) → Contains live one → (ranked : RankedPiece) × Contains pieces ranked
      × (ranked.piece ≡ one.piece) × (ranked.rank ≡ one.rank) × (entry_at entries one.id ≡ Some (entry_for ranked))
  pub has_id : (ranked : RankedPiece) → Contains pieces ranked → (one : LivePiece) × Contains live one
      × (ranked.piece ≡ one.piece) × (ranked.rank ≡ one.rank) × (entry_at entries one.id ≡ Some (entry_for ranked))
  pub once : (a b : LivePiece) → Contains live a → Contains live b → a.rank ≡ b.rank → a.piece ≡ b.piece → a.id ≡ b.id

-- each live id stands in one slot of so many, in order
pub record AreArranged (live : List LivePiece) (slots : Slots) : Type 0 where
  pub few : length slots ≤ most_slots
  pub apart : AreApart (length slots) live
  pub standing : StandOnce (IsLive live) slots
  pub order : IsInOrder (is_above live) slots

-- a piece as it may stand in an entry under the tables of a state: its conditions are right, it has an entry, and each bit
-- that it tests is set exactly at the ports of its range
pub record IsServedBy (state : State) (ranked : RankedPiece) : Type 0 where
  pub right : AreConditions ranked.piece.src ranked.piece.dst ranked.piece.proto ranked.piece.sport ranked.piece.dport
  pub encodable : IsEncodable ranked.piece
  pub srcbits : (bit : ℕ) → ranked.piece.srcbit ≡ Some bit → IsTranslated state.src bit ranked.piece.sport
  pub dstbits : (bit : ℕ) → ranked.piece.dstbit ≡ Some bit → IsTranslated state.dst bit ranked.piece.dport

-- no chain of these pieces, of falling rank and each overlapping the next, is longer
abbrev pub BoundsPieceChains : List RankedPiece → ℕ → Type 0
BoundsPieceChains pieces bound = BoundsMemberChains (λ a b. PiecesOverlap a.piece b.piece) (λ ranked. ranked.rank) (Contains pieces) bound

-- two pieces that overlap a third, one of higher rank and one of lower, overlap too, as of routes
abbrev pub AreNested : List RankedPiece → Type 0
AreNested pieces =
    (upper one lower : RankedPiece) → Contains pieces upper → Contains pieces one → Contains pieces lower
    → one.rank < upper.rank → lower.rank < one.rank → PiecesOverlap one.piece upper.piece → PiecesOverlap one.piece lower.piece
    → PiecesOverlap lower.piece upper.piece

-- Insertions of some pieces beside others that stand, as they were planned from a state on: before them those that stand
-- have their entries in order, the state shows these, and its tables serve all of the pieces; each new piece is one
-- insertion, in their order, and each new id has its piece's entry.
pub record IsPlannedRow (state : State) (standing inserted : List RankedPiece) (live : List LivePiece) (slots : Slots) (entries : IdEntries) (planned : List Planned) : Type 0 where
  pub is_state : IsState (length state.slots) state
  pub mirrors : state.slots ≡ contents entries slots
  pub served : AllByRecursion (IsServedBy state) (standing ++ inserted)
  -- of one rank no two are the same piece
  pub once : AllPairs (λ a b. a.rank ≡ b.rank → a.piece ≡ b.piece → ⊥) (standing ++ inserted)
  pub arranged : AreArranged live slots
  pub entries_are : AreEntriesOf standing live entries
  pub inserted_are : map ranked_of planned ≡ inserted
  pub have_entries : AllByRecursion (λ insertion. entry_at entries insertion.one.id ≡ Some (entry_for (ranked_of insertion))) planned
  pub are_planned : ArePlanned live slots planned
