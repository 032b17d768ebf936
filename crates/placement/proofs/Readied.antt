-- An arrangement in which an id is to be placed, in slot_order's words.
use Rattle.std.proofs.Common.{◌≡◌, ℕ, zero, suc, ◌+◌, ◌<◌, ◌≤◌, Option, None, Some, List, [], ◌∷◌, length, inl, inr, arith, le_refl, refl}
use Rattle.std.specs.Prelude.{slice_index_or, IsTrue}
use Rattle.std.proofs.lemmas.Bool.{false_from_ne_true, both_ways}
use Rattle.slot_order.specs.Order.{slot, Ordered, most_slots}
use Rattle.slot_moves.specs.Moves.{Way, Downwards, Upwards, IsBefore, IsNoLater, IsMoveChain}
use Rattle.slot_moves.proofs.Ways.{no_later_self, no_later, no_later_all, before_then, apart}
use Rattle.slot_pool.specs.Arrangement.{Slots}
use Rattle.placement.specs.Live.{LivePieces, AreApart, is_live, is_above, rank_in}
use Rattle.std.specs.Option.{unwrap_or}
use Rattle.slot_pool.proofs.Places.{first_slot_is}
use Rattle.slot_pool.proofs.Scan.{last_slot_is}
use Rattle.placement.specs.Placement.{Above, first_lower, last_upper, next_slot, gap_start, gap_end, IsInOrder}
use Rattle.placement.specs.Insertion.{IsOther, StandOnce, free_slots}
use Rattle.placement.specs.Ready.{IsTaken, CanShift, IsReady}
use Rattle.placement.proofs.Planner.{IsRanked, Related}
use Rattle.placement.proofs.Orders.{ranked}

pub ready_from : (index : LivePieces) (id : ℕ) (slots : Slots) → length slots ≤ most_slots → 0 < free_slots slots → IsTrue (is_live index.live id) → AreApart index.slots index.live
    → StandOnce (IsOther index.live id) slots → IsInOrder (is_above index.live) slots → IsReady index id slots
ready_from index id slots few free live apart standing order = record { few = few; free = free; live = live; apart = apart; standing = standing; order = order }

pub ready_ordered : (index : LivePieces) (id : ℕ) (slots : Slots) → IsReady index id slots
    → Ordered (Related (is_above index.live)) (rank_in index.live) (IsOther index.live id) slots
ready_ordered index id slots ready = record {
  within = ready.standing.within;
  placed = ready.standing.placed;
  sorted = λ i j a b l s t v. elim v [
    | inl e ↦ let k = ranked index ready.apart a b e in omega arith
    | inr e ↦ absurd (both_ways (is_above index.live b a) (ready.order i j a b l s t) e)
  ];
}

-- and back
pub order_from : (above : Above) (rank : ℕ → ℕ) (P : ℕ → Type 0) (slots : Slots) → IsRanked above rank → Ordered (Related above) rank P slots → IsInOrder above slots
order_from above rank P slots ranked o i j a b l s t = false_from_ne_true (above b a) (λ e.
    let k = ranked b a e in
    let m = o.sorted i j a b l s t (inr e) in
    absurd (omega arith))

-- the slots of a chain rise, so there are no more than there are slots before the free one
pub down_size : (over : ℕ → ℕ → Type 0) (tag : ℕ → ℕ) (slots : Slots) (free first : ℕ) (rest : List ℕ) → IsMoveChain Downwards over tag slots free first rest
    → length rest + 1 + first ≤ free
down_size over tag slots free first [] c = let l = c.2 in omega arith
down_size over tag slots free first (next ∷ rest) c = let h = down_size over tag slots free next rest c.1 in let l = c.0.2 in omega arith

pub up_size : (over : ℕ → ℕ → Type 0) (tag : ℕ → ℕ) (slots : Slots) (free first : ℕ) (rest : List ℕ) → IsMoveChain Upwards over tag slots free first rest
    → length rest + 1 + free ≤ first
up_size over tag slots free first [] c = let l = c.2 in omega arith
up_size over tag slots free first (next ∷ rest) c = let h = up_size over tag slots free next rest c.1 in let l = c.0.2 in omega arith

none_before : (way : Way) (over : ℕ → ℕ → Type 0) (tag : ℕ → ℕ) (slots : Slots) (free first : ℕ) (rest : List ℕ) → IsMoveChain way over tag slots free first rest
    → (k : ℕ) → k < length (first ∷ rest) → IsNoLater way first (slice_index_or (first ∷ rest) k free)
none_before way over tag slots free first rest c zero l = no_later_self way first
none_before way over tag slots free first [] c (suc k) l = absurd (omega arith)
none_before way over tag slots free first (next ∷ rest) c (suc k) l =
    no_later_all way first next _ (no_later way first next c.0.2) (none_before way over tag slots free next rest c.1 k (omega arith))

all_taken : (way : Way) (over : ℕ → ℕ → Type 0) (tag : ℕ → ℕ) (slots : Slots) (free first : ℕ) (rest : List ℕ) → IsMoveChain way over tag slots free first rest
    → (k : ℕ) → k < length (first ∷ rest) → IsTaken slots (slice_index_or (first ∷ rest) k free)
all_taken way over tag slots free first [] c zero l = (c.0, c.1)
all_taken way over tag slots free first (next ∷ rest) c zero l = (c.0.0, c.0.1)
all_taken way over tag slots free first [] c (suc k) l = absurd (omega arith)
all_taken way over tag slots free first (next ∷ rest) c (suc k) l = all_taken way over tag slots free next rest c.1 k (omega arith)

in_turn : (way : Way) (over : ℕ → ℕ → Type 0) (tag : ℕ → ℕ) (slots : Slots) (free first : ℕ) (rest : List ℕ) → IsMoveChain way over tag slots free first rest
    → (j k : ℕ) → j < k → k < length (first ∷ rest) → IsBefore way (slice_index_or (first ∷ rest) j free) (slice_index_or (first ∷ rest) k free)
in_turn way over tag slots free first rest c j zero l m = absurd (omega arith)
in_turn way over tag slots free first [] c j (suc k) l m = absurd (omega arith)
in_turn way over tag slots free first (next ∷ rest) c zero (suc k) l m =
    before_then way first next _ c.0.2 (none_before way over tag slots free next rest c.1 k (omega arith))
in_turn way over tag slots free first (next ∷ rest) c (suc j) (suc k) l m = in_turn way over tag slots free next rest c.1 j k (omega arith) (omega arith)

-- so they can move
pub can_shift : (way : Way) (over : ℕ → ℕ → Type 0) (tag : ℕ → ℕ) (slots : Slots) (free first : ℕ) (rest : List ℕ) → IsMoveChain way over tag slots free first rest
    → free < length slots → slot slots free ≡ None → CanShift slots free (first ∷ rest)
can_shift way over tag slots free first rest c room empty = record {
  some = omega arith;
  room = room;
  empty = empty;
  taken = all_taken way over tag slots free first rest c;
  apart = λ j k l m. apart way _ _ (in_turn way over tag slots free first rest c j k l m);
}

-- the gap begins with a slot, or past the last one
pub start_inside : (above : Above) (slots : Slots) (id : ℕ) → gap_start above slots id ≤ length slots
start_inside above slots id = go (last_upper above slots id) refl
  where
    go : (found : Option ℕ) → last_upper above slots id ≡ found → next_slot found ≤ length slots
    go None e = omega arith
    go (Some at) e = let h = (last_slot_is (λ other. above other id) slots at e).inside in let k : at < 0 + length slots = h in omega arith

pub end_inside : (above : Above) (slots : Slots) (id : ℕ) → gap_end above slots id ≤ length slots
end_inside above slots id = go (first_lower above slots id) refl
  where
    go : (found : Option ℕ) → first_lower above slots id ≡ found → unwrap_or found (length slots) ≤ length slots
    go None e = le_refl (length slots)
    go (Some at) e = let h = (first_slot_is (λ other. above id other) slots at e).inside in let k : at < 0 + length slots = h in omega arith
