-- No more entries are put than there are moves.
use Rattle.std.proofs.Common.{◌≤◌, List, [], ◌∷◌, length, arith}
use Rattle.placement.specs.declared.Move.{Move}
use Rattle.placement.specs.declared.Move.TheVariants.{Put, Erase}
use Rattle.batch_order.specs.ByParts.{moves_put}

pub puts_few : (moves : List Move) → moves_put moves ≤ length moves
puts_few [] = omega arith
puts_few (Put at id ∷ moves) = let rest = puts_few moves in omega arith
puts_few (Erase at ∷ moves) = let rest = puts_few moves in omega arith
