use Rattle.std.proofs.Common.{◌≡◌, drop}
use Rattle.move_planner.specs.Noted.{taken_back}
use Rattle.batch_order.specs.Entries.{AreTold}
use Rattle.batch_order.proofs.undoing.put_back.Given as goal

-- the moves from a place on are made, the last one first, and told
abbrev pub invariant-loop-place : goal.invariant-loop-place
invariant-loop-place l = record {
  exact : l.arrangement ≡ taken_back l.fn.arrangement (drop l.place l.moves);
  live : l.live.live ≡ l.fn.live.live;
  entries : l.live.entries ≡ l.fn.live.entries;
  slots : l.live.slots ≡ l.fn.live.slots;
  told : AreTold l.fn.live l.fn.arrangement → AreTold l.live l.arrangement;
}
