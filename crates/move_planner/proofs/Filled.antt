-- A table of eight slots that fills up, id by id.
use Rattle.std.proofs.Common.{◌≡◌, ℕ, ◌+◌, ◌<◌, ◌≤◌, true, false, List, [], ◌∷◌, ◌++◌, length, take, Contains, inl, inr, arith, le_refl, sym, ◌∙◌, subst, ap}
use Rattle.std.proofs.lemmas.Bool.{false_from_ne_true}
use Rattle.std.proofs.lemmas.List.{take_all}
use Rattle.std.proofs.lemmas.List.Elements.{Contains-push, Contains-push_cases}
use Rattle.slot_order.specs.Order.{most_slots}
use Rattle.slot_pool.specs.Arrangement.{Slots}
use Rattle.placement.specs.declared.LivePiece.{LivePiece}
use Rattle.placement.specs.Live.{LivePieces, is_live, is_above}
use Rattle.placement.proofs.Above.{live_is, is_live_from}
use Rattle.placement.specs.declared.Move.{Move}
use Rattle.placement.specs.Placement.{after_moves, IsInOrder}
use Rattle.placement.specs.Insertion.{IsLive, IsOther, StandOnce, free_slots}
use Rattle.placement.proofs.Settled.{length-after_moves, add_standing, add_order}

-- the ids below a count are live, stand in one slot each, and in order
pub record IsFilled (index : LivePieces) (slots : Slots) (count : ℕ) : Type 0 where
  pub ids : index.slots ≡ 8
  pub size : length slots ≡ 8
  pub free : free_slots slots + count ≡ 8
  pub small : (one : LivePiece) → Contains index.live one → one.id < count
  pub standing : StandOnce (IsLive index.live) slots
  pub order : IsInOrder (is_above index.live) slots

-- the next id isn't live
pub next_absent : (index : LivePieces) (slots : Slots) (count : ℕ) → IsFilled index slots count → is_live index.live count ≡ false
next_absent index slots count w = false_from_ne_true (is_live index.live count) (λ e.
    let k = live_is index.live count e in
    let l = w.small k.0 k.1 in let s = k.2 in absurd (omega arith))

-- what the next insertion needs
pub record IsNext (index : LivePieces) (slots : Slots) (count : ℕ) : Type 0 where
  pub few : length slots ≤ most_slots
  pub live : is_live index.live count ≡ true
  pub standing : StandOnce (IsOther index.live count) slots
  pub order : IsInOrder (is_above index.live) slots

pub next_of : (index more : LivePieces) (slots : Slots) (one : LivePiece) → IsFilled index slots one.id → more.live ≡ index.live ++ one ∷ [] → IsNext more slots one.id
next_of index more slots one w added =
    let absent = next_absent index slots one.id w in
    let size = w.size in
    record {
      few = omega arith;
      live = subst (λ live. is_live live one.id ≡ true) (sym added) (is_live_from (index.live ++ one ∷ []) one (Contains-push index.live one));
      standing = subst (λ live. StandOnce (IsOther live one.id) slots) (sym added) (add_standing index.live one slots absent w.standing);
      order = subst (λ live. IsInOrder (is_above live) slots) (sym added) (add_order index.live one slots absent w.standing w.order);
    }

-- and what it leaves
pub filled_more : (index more : LivePieces) (slots slots' : Slots) (one : LivePiece) (moves : List Move) → IsFilled index slots one.id → more.live ≡ index.live ++ one ∷ [] → more.slots ≡ index.slots
    → slots' ≡ after_moves slots moves → ((n : ℕ) → n ≤ length moves → IsInOrder (is_above more.live) (after_moves slots (take n moves))) → StandOnce (IsLive more.live) slots'
    → free_slots slots' + 1 ≡ free_slots slots → IsFilled more slots' (one.id + 1)
filled_more index more slots slots' one moves w added ids after order standing fewer = record {
  ids = ids ∙ w.ids;
  size = ap length after ∙ (length-after_moves slots moves ∙ w.size);
  free = let f = w.free in omega arith;
  small = λ other c. elim (Contains-push_cases index.live one other (subst (λ live. Contains live other) added c)) [
    | inl old ↦ let l = w.small other old in omega arith
    | inr same ↦ let k : one.id ≡ other.id = ap (λ x. x.id) same in omega arith
  ];
  standing = standing;
  order = subst (IsInOrder (is_above more.live)) (ap (after_moves slots) (take_all (length moves) moves (le_refl (length moves))) ∙ sym after) (order (length moves) (le_refl (length moves)));
}
