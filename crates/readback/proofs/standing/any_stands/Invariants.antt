use Rattle.std.proofs.Common.{◌≡◌, false, take}
use Rattle.std.specs.List.{list_any}
use Rattle.readback.specs.Tasks.{stands_in}
use Rattle.readback.proofs.standing.any_stands.Given as goal

-- none of the first pieces does
abbrev pub invariant-loop-piece : goal.invariant-loop-piece
invariant-loop-piece l = list_any (stands_in l.held) (take l.piece-index l.pieces) ≡ false
