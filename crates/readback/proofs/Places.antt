-- What the walks over slots find, as stages and faults have it.
use Rattle.std.proofs.Common.{◌≡◌, ℕ, ◌<◌, true, false, Option, Some, None, List, IsTrue, Contains, inl, inr, ◌⊎◌, refl, sym, ◌∙◌, subst, arith}
use Rattle.std.proofs.lemmas.Bool.{both_ways}
use Rattle.slot_order.specs.Order.{slot}
use Rattle.rule_model.specs.Piece.{PiecesOverlap}
use Rattle.rule_model.specs.declared.words.Entry.{Entry}
use Rattle.rule_model.specs.Entry.{RankedPiece, entry_for, same_match}
use Rattle.tcam_device.specs.State.{State}
use Rattle.tcam_device.specs.Order.{StandsAt}
use Rattle.tcam_device.proofs.One.{same_match-same}
use Rattle.readback.specs.Tasks.{CommitPieces, known_pieces, tasks_of, stands_in}
use Rattle.readback.specs.Fault.{IsForeign, IsCrossed, IsMissing, IsEarly}
use Rattle.readback.specs.Places.{AreIn, AreInOrder, IsBehindLower}
use Rattle.readback.specs.Progress.{IsOutOfTurn}
use Rattle.readback.proofs.Facts.{ArePieces, IsSame, old_known}
use Rattle.readback.proofs.Tests.{stands_is, stands_from, done_is, left_is}

module _ (p : CommitPieces) (state : State) (places : List (Option RankedPiece)) (are : AreIn state.slots (known_pieces p) places) where
  -- a slot that holds the entry of a known piece has such a piece
  place_of : (at : ℕ) (x : RankedPiece) → Contains (known_pieces p) x → StandsAt state at x → (y : RankedPiece) × (slot places at ≡ Some y)
  place_of at x member stands = go (slot places at) refl
    where
      go : (place : Option RankedPiece) → slot places at ≡ place → (y : RankedPiece) × (slot places at ≡ Some y)
      go None is = absurd (are.strange at (entry_for x) stands is x member refl)
      go (Some y) is = (y, is)

  -- which is the same
  same_there : ArePieces p → (at : ℕ) (x : RankedPiece) → Contains (known_pieces p) x → StandsAt state at x → (y : RankedPiece) → slot places at ≡ Some y → IsSame x y
  same_there facts at x member stands y is =
      let k = are.known at y is in
      let e : Some (entry_for x) ≡ Some (entry_for y) = sym stands ∙ k.1 in
      let one : entry_for x ≡ entry_for y = cc in
      facts.apart x y member k.0 (subst (λ entry. IsTrue (same_match (entry_for x) entry)) one (same_match-same (entry_for x)))

  -- a slot in use that has a piece isn't foreign,
  pub none_foreign : (slots : ℕ) → ((at : ℕ) (entry : Entry) → slot state.slots at ≡ Some entry → (at < slots) × ((x : RankedPiece) × (slot places at ≡ Some x))) → (at : ℕ) → IsForeign slots p state at → ⊥
  none_foreign slots each at (entry, held, inl past) = let w = each at entry held in let inside = w.0 in omega arith
  none_foreign slots each at (entry, held, inr none) =
      let w = each at entry held in
      let k = are.known at w.1.0 w.1.1 in
      let e : Some (entry_for w.1.0) ≡ Some entry = sym k.1 ∙ held in
      none w.1.0 k.0 (let one : entry_for w.1.0 ≡ entry = cc in one)

  -- pieces that are in order aren't crossed,
  pub none_crossed : ArePieces p → AreInOrder places → (at : ℕ) → IsCrossed p state at → ⊥
  none_crossed facts ordered at c =
      let low = place_of c.lesser c.low c.low_known c.holds_low in
      let high = place_of at c.high c.high_known c.holds_high in
      let a = same_there facts c.lesser c.low c.low_known c.holds_low low.0 low.1 in
      let b = same_there facts at c.high c.high_known c.holds_high high.0 high.1 in
      let least = ordered c.lesser at low.0 high.0 c.less low.1 high.1 (subst (λ piece. PiecesOverlap piece high.0.piece) a.0 (subst (PiecesOverlap c.low.piece) b.0 c.overlap)) in
      let same_low = a.1 in
      let same_high = b.1 in
      let lower = c.lower in
      omega arith

  -- and a piece behind a lower one is
  pub crossed_at : (at : ℕ) → IsBehindLower places at → IsCrossed p state at
  crossed_at at b =
      let low = are.known b.lesser b.low b.here in
      let high = are.known at b.high b.there in
      record {
        lesser = b.lesser;
        less = b.less;
        low = b.low;
        high = b.high;
        low_known = low.0;
        high_known = high.0;
        holds_low = low.1;
        holds_high = high.1;
        overlap = b.overlap;
        lower = b.lower;
      }

-- an erased piece is told by its entry
pub erased_by_entry : (p : CommitPieces) (x y : RankedPiece) → ArePieces p → Contains p.old x → Contains p.erased y → entry_for y ≡ entry_for x → Contains p.erased x
erased_by_entry p x y facts old goes same =
    let e : IsSame y x = facts.apart y x (old_known p y (facts.goes y goes)) (old_known p x old) (subst (λ entry. IsTrue (same_match (entry_for y) entry)) same (same_match-same (entry_for y))) in
    subst (Contains p.erased) (facts.old_once y x (facts.goes y goes) old e) goes

-- so a piece that is missing by the tests is missing,
pub missing_is : (p : CommitPieces) (state : State) (priority : ℕ) (x : RankedPiece) → Contains p.old x → ((y : RankedPiece) → Contains p.erased y → entry_for y ≡ entry_for x → ⊥)
    → stands_in state.slots x ≡ false → x.rank ≡ priority → IsMissing p state priority
missing_is p state priority x old stays fails rank =
    (x, old, (λ goes. stays x goes refl), (λ stands. both_ways (stands_in state.slots x) fails (stands_from state x stands)), rank)

-- and none is where the tests find none
pub none_missing : (p : CommitPieces) (state : State) → ArePieces p
    → ((x : RankedPiece) → Contains p.old x → ((y : RankedPiece) × Contains p.erased y × (entry_for y ≡ entry_for x)) ⊎ (stands_in state.slots x ≡ true))
    → (priority : ℕ) → IsMissing p state priority → ⊥
none_missing p state facts each priority (x, old, stays, gone, rank) = elim (each x old) [
  | inl w ↦ stays (erased_by_entry p x w.0 facts old w.1 w.2)
  | inr is ↦ gone (stands_is state x is)
]

-- a task that is done out of its turn by the tests is early
pub early_is : (p : CommitPieces) (state : State) (priority : ℕ) → IsOutOfTurn state.slots (tasks_of p) priority → IsEarly p state priority
early_is p state priority out = record {
  front = out.front;
  first = out.first;
  between = out.between;
  second = out.second;
  back = out.back;
  parts = out.parts;
  not_done = left_is state out.first out.not_done;
  done = done_is state out.second out.done;
  rank = out.rank;
}
