-- How far a plan has come.
use Rattle.std.specs.Prelude.{List}
use Rattle.slot_pool.specs.Arrangement.{Slots}
use Rattle.placement.specs.declared.Move.{Move}

-- the slots as they stand, and the moves so far
pub record MovesMade : Type 0 where
  pub slots : Slots
  pub plan : List Move

abbrev pub moves_made : Slots → List Move → MovesMade
moves_made slots plan = record { slots = slots; plan = plan }
