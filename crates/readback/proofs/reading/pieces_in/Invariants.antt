use Rattle.std.proofs.Common.{take}
use Rattle.readback.specs.Places.{AreIn}
use Rattle.readback.specs.Tasks.{known_pieces}
use Rattle.readback.proofs.reading.pieces_in.Given as goal

-- the pieces of the first slots
abbrev pub invariant-loop-slot : goal.invariant-loop-slot
invariant-loop-slot l = AreIn (take l.slot-index l.held) (known_pieces l.commit) l.places.items
