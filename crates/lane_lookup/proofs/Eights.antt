-- What one step over eight slots tells of a look-up.
use Rattle.std.proofs.Common.{◌≡◌, ℕ, ◌+◌, ◌<◌, ◌≤◌, true, false, List, Option, Some, None, length, sym, ◌∙◌, arith}
use Rattle.slot_order.specs.Order.{slot}
use Rattle.rule_model.specs.declared.words.Word.{Word}
use Rattle.rule_model.specs.declared.words.Entry.{Entry}
use Rattle.rule_model.specs.Entry.{slot_hits, first_hitting}
use Rattle.lane_lookup.specs.Columns.{Lane, row_hits, AreColumns}
use Rattle.lane_lookup.proofs.Rows.{rows_hit}
use Rattle.eight_lanes.proofs.Lanes.{none_further}
use Rattle.slot_order.proofs.Lists.{position_found}

-- none of the slots so far hits
pub eight_passed : (slots : List (Option Entry)) (lanes : List Lane) (vacant : List ℕ) (word : Word) (start before : ℕ) → AreColumns slots lanes vacant
    → start + before ≤ length slots → ((k : ℕ) → k < start → slot_hits word (slot slots k) ≡ false)
    → ((k : ℕ) → k < before → row_hits lanes vacant word (start + k) ≡ false) → (k : ℕ) → k < start + before → slot_hits word (slot slots k) ≡ false
eight_passed slots lanes vacant word start before are room passed fails k =
    none_further (λ k. slot_hits word (slot slots k)) 0 start before (λ k from. passed k)
    (λ k below. sym (rows_hit slots lanes vacant word (start + k) are (omega arith)) ∙ fails k below) k (omega arith)

-- or the least one that does is found
pub eight_found : (slots : List (Option Entry)) (lanes : List Lane) (vacant : List ℕ) (word : Word) (start before : ℕ) → AreColumns slots lanes vacant
    → start + before < length slots → ((k : ℕ) → k < start → slot_hits word (slot slots k) ≡ false)
    → ((k : ℕ) → k < before → row_hits lanes vacant word (start + k) ≡ false) → row_hits lanes vacant word (start + before) ≡ true
    → first_hitting slots word ≡ Some (start + before)
eight_found slots lanes vacant word start before are below passed fails hit =
    position_found (slot_hits word) slots (start + before) None below (eight_passed slots lanes vacant word start before are (omega arith) passed fails)
    (sym (rows_hit slots lanes vacant word (start + before) are below) ∙ hit)
