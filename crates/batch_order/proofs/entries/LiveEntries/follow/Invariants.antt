use Rattle.std.proofs.Common.{◌≡◌, ◌⊎◌, List, drop}
use Rattle.placement.specs.declared.Move.{Move}
use Rattle.placement.specs.Ready.{AreToldBut}
use Rattle.move_planner.specs.Noted.{IsNamed}
use Rattle.batch_order.proofs.entries.LiveEntries.follow.Given as goal

-- of the ids that the first moves name it is told where they stand
abbrev pub invariant-loop-place : goal.invariant-loop-place
invariant-loop-place l = record {
  live : l.self.live ≡ l.fn.self.live;
  entries : l.self.entries ≡ l.fn.self.entries;
  slots : l.self.slots ≡ l.fn.self.slots;
  told : (others : List Move) → AreToldBut (λ id. IsNamed others id ⊎ IsNamed (drop l.from l.moves) id) l.fn.self.live l.fn.self.told l.arrangement
      → AreToldBut (λ id. IsNamed others id ⊎ IsNamed (drop l.place l.moves) id) l.self.live l.self.told l.arrangement;
}
