use Rattle.std.proofs.Common.{◌≡◌, ℕ, ◌≤◌, None, length}
use Rattle.slot_order.specs.Order.{slot}
use Rattle.batch_order.specs.Entries.{AreTold}
use Rattle.batch_order.specs.Standing.{AreStanding, without_twin}
use Rattle.batch_order.proofs.restarting.standing.standing_in.Given as goal

-- the first slots have ids for their pieces, and the others are empty; where these stand is told
abbrev pub invariant-loop-slot : goal.invariant-loop-slot
invariant-loop-slot l = AreStanding l.slot (without_twin l.twin l.places) l.live l.arrangement
    × (l.live.slots ≡ l.slots) × (length l.arrangement ≡ l.slots) × ((at : ℕ) → l.slot ≤ at → slot l.arrangement at ≡ None)
    × AreTold l.live l.arrangement
