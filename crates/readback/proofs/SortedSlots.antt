-- What the walks over the slots found, put together.
use Rattle.std.proofs.Common.{◌≡◌, ◌⊎◌, ℕ, ◌<◌, true, false, Option, Some, Result, Ok, Err, List, IfOk, Contains, sym, subst}
use Rattle.slot_order.specs.Order.{slot}
use Rattle.rule_model.specs.declared.words.Entry.{Entry}
use Rattle.rule_model.specs.Entry.{RankedPiece, entry_for}
use Rattle.tcam_device.specs.State.{State}
use Rattle.tcam_device.specs.Order.{HasOneTwin}
use Rattle.readback.specs.declared.Stage.{Stage}
use Rattle.readback.specs.declared.StageFault.{StageFault}
use Rattle.readback.specs.Fault.{IsCrossed, IsMissing, IsEarly}
use Rattle.readback.specs.Places.{AreIn, AreInOrder, IsBehindLower}
use Rattle.readback.specs.Progress.{AreParted, IsOutOfTurn}
use Rattle.readback.specs.Sorted.{AreSorted}
use Rattle.readback.specs.Stage.{IsTwinSlot}
use Rattle.readback.specs.Tasks.{CommitPieces, known_pieces, tasks_of, stands_in}
use Rattle.readback.proofs.Places.{crossed_at, missing_is, early_is}

-- a fault of the slots is one of each state that has them
module _ (pieces : CommitPieces) (held : List (Option Entry)) (state : State) (same : state.slots ≡ held) where
  are_there : (places : List (Option RankedPiece)) → AreIn held (known_pieces pieces) places → AreIn state.slots (known_pieces pieces) places
  are_there places are = subst (λ slots. AreIn slots (known_pieces pieces) places) (sym same) are

  pub crossed_there : (at : ℕ) (places : List (Option RankedPiece)) → AreIn held (known_pieces pieces) places → IsBehindLower places at → IsCrossed pieces state at
  crossed_there at places are behind = crossed_at pieces state places (are_there places are) at behind

  pub missing_there : (priority : ℕ) → ((ranked : RankedPiece) × Contains pieces.old ranked × ((other : RankedPiece) → Contains pieces.erased other → entry_for other ≡ entry_for ranked → ⊥)
      × (stands_in held ranked ≡ false) × (ranked.rank ≡ priority)) → IsMissing pieces state priority
  missing_there priority (ranked, old, stays, fails, rank) = missing_is pieces state priority ranked old stays (subst (λ slots. stands_in slots ranked ≡ false) (sym same) fails) rank

  pub early_there : (priority : ℕ) → IsOutOfTurn held (tasks_of pieces) priority → IsEarly pieces state priority
  early_there priority early = early_is pieces state priority (subst (λ slots. IsOutOfTurn slots (tasks_of pieces) priority) (sym same) early)

-- where nothing is wrong
pub sorted : (slots : ℕ) (held : List (Option Entry)) (pieces : CommitPieces) (places : List (Option RankedPiece)) (done left : ℕ) (twin : Option ℕ) (result : Result Stage StageFault)
    → AreIn held (known_pieces pieces) places
    → ((at : ℕ) (entry : Entry) → slot held at ≡ Some entry → (at < slots) × ((ranked : RankedPiece) × (slot places at ≡ Some ranked)))
    → AreInOrder places → HasOneTwin held → IsTwinSlot held twin
    → ((ranked : RankedPiece) → Contains pieces.old ranked → ((other : RankedPiece) × Contains pieces.erased other × (entry_for other ≡ entry_for ranked)) ⊎ (stands_in held ranked ≡ true))
    → AreParted held (tasks_of pieces) done left
    → IfOk result (λ found. found.done ≡ done) → IfOk result (λ found. found.left ≡ left) → IfOk result (λ found. found.twin ≡ twin)
    → IfOk result (λ found. AreSorted slots held pieces found)
sorted slots held pieces places done left twin (Err fault) are in_use ordered twins is_twin stand parted done_is left_is twin_is = tt
sorted slots held pieces places done left twin (Ok found) are in_use ordered twins is_twin stand parted done_is left_is twin_is = record {
  places = places;
  are = are;
  in_use = in_use;
  ordered = ordered;
  twins = twins;
  twin = subst (IsTwinSlot held) (sym twin_is) is_twin;
  stand = stand;
  parted = subst (λ n. AreParted held (tasks_of pieces) n found.left) (sym done_is) (subst (AreParted held (tasks_of pieces) done) (sym left_is) parted);
}
