use Rattle.std.proofs.Common.{◌≡◌, ◌+◌, ◌∙◌, List, [], ◌∷◌, drop, arith, sym, ap}
use Rattle.std.proofs.lemmas.List.{drop_all, drop_more}
use Rattle.placement.specs.declared.Move.{Move}
use Rattle.placement.specs.declared.Move.TheVariants.{Put, Erase}
use Rattle.batch_order.specs.ByParts.{moves_put}
use Rattle.batch_order.proofs.insertions.puts_from.Goals as goal

-- a move and those behind it
first_put : (step : Move) (moves : List Move) → moves_put (step ∷ moves) ≡ moves_put (step ∷ []) + moves_put moves
first_put (Put at id) moves = omega arith
first_put (Erase at) moves = omega arith

pub loop-place-preserved : goal.loop-place-preserved
loop-place-preserved c =
    let moves = c.args.moves.now in
    let place = c.loop-place.place in
    let step = c.at.result in
    let more : moves_put (drop place moves) ≡ moves_put (step ∷ []) + moves_put (drop (place + 1) moves) =
    ap moves_put (drop_more moves place step (omega arith))
    ∙ (ap (λ (first : Move). moves_put (first ∷ drop (place + 1) moves)) (sym c.at.ensures) ∙ first_put step (drop (place + 1) moves)) in
    let one = c.puts_by-puts.ensures.puts in
    let small = c.puts_by-puts.ensures.few in
    let so_far = c.loop-place.invariant.counted in
    let few = c.loop-place.invariant.few in
    record { counted = omega arith; few = omega arith }

pub returns : goal.returns
returns c =
    let moves = c.args.moves.now in
    let place = c.loop-place.place in
    let none : moves_put (drop place moves) ≡ 0 = ap moves_put (drop_all place moves (omega arith)) in
    let so_far = c.loop-place.invariant.counted in
    omega arith
