-- After each write of an insertion at most one entry stands in two slots, and none in three.
use Rattle.std.proofs.Common.{◌≡◌, ℕ, ◌<◌, ◌++◌, Bool, Option, None, Some, List, [], ◌∷◌, length, inl, inr, ◌⊎◌, sym, ◌∙◌, subst, ap}
use Rattle.slot_order.specs.Order.{slot, Ordered}
use Rattle.slot_order.specs.Chains.{applied, Along}
use Rattle.slot_moves.specs.Moves.{Way, Downwards, Upwards, IsMoveChain, chain_moves, Turn, Down, Up, turn_moves, turns_moves}
use Rattle.slot_moves.proofs.Chains.{Along_push, applied_push}
use Rattle.slot_moves.proofs.End.{IsEnd, onto_free, over_down, over_up}
use Rattle.slot_moves.proofs.Once.{AllOnce, OneTwice, moved_once}
use Rattle.slot_moves.proofs.Passes.{passes_keep}
use Rattle.slot_moves.proofs.Passing.{IsPass, ArePasses, HasSides, pass_keeps}
use Rattle.slot_order.proofs.Walks.{Along_append}
use Rattle.slot_moves.proofs.Whole.{IsWhole, whole_once}

-- each entry stands in one slot, or one stands in two
abbrev pub AtMostOneTwice : {E : Type 0} → List (Option E) → Type 0
AtMostOneTwice {E} d = AllOnce d ⊎ ((s : ℕ) × (e : E) × OneTwice d s e)

moved_few : {E : Type 0} (way : Way) (over : E → E → Type 0) (tag : E → ℕ) (P : E → Type 0) (d : List (Option E)) (f s : ℕ) (rest : List ℕ) (e : E)
    → ((x y : E) → over x y → over y x) → Ordered over tag P d → AllOnce d → f < length d → slot d f ≡ None → slot d s ≡ Some e → IsMoveChain way over tag d f s rest
    → Along AtMostOneTwice d (chain_moves d f s rest)
moved_few way over tag P d f s [] e mirror o once room free stands c = (inl once, inr (s, e, moved_once way over tag P d f s [] e mirror o once room free stands c))
moved_few way over tag P d f s (t ∷ rest) e mirror o once room free stands c =
    let g = c.0.4.0 in
    Along_push AtMostOneTwice d (chain_moves d f t rest) (t, slot d s) (moved_few way over tag P d f t rest g mirror o once room free c.0.4.1 c.1)
    (subst AtMostOneTwice (applied_push d (chain_moves d f t rest) (t, slot d s)) (inr (s, e, moved_once way over tag P d f s (t ∷ rest) e mirror o once room free stands c)))

-- while a turn is made, whose last write erases the one that stands twice,
pass_few : {E : Type 0} (over : E → E → Type 0) (tag : E → ℕ) (P Q : E → Type 0) (behind before : E → Bool) (cut : ℕ) (d : List (Option E)) (t : Turn)
    → HasSides over tag P Q behind before → Ordered over tag P d → AllOnce d → IsPass over tag behind before cut d t → Along AtMostOneTwice d (turn_moves d t)
pass_few over tag P Q behind before cut d (Down f s rest) w o once is =
    Along_push AtMostOneTwice d (chain_moves d f s rest) (s, None) (moved_few Downwards over tag P d f s rest is.4.0 w.mirror o once is.2 is.3 is.4.1 is.5)
    (inl (subst AllOnce (applied_push d (chain_moves d f s rest) (s, None)) ((pass_keeps over tag P Q behind before cut d (Down f s rest) w o is).once once)))
pass_few over tag P Q behind before cut d (Up f s rest) w o once is =
    Along_push AtMostOneTwice d (chain_moves d f s rest) (s, None) (moved_few Upwards over tag P d f s rest is.4.0 w.mirror o once is.2 is.3 is.4.1 is.5)
    (inl (subst AllOnce (applied_push d (chain_moves d f s rest) (s, None)) ((pass_keeps over tag P Q behind before cut d (Up f s rest) w o is).once once)))

-- while turns are made one after the other,
passes_few : {E : Type 0} (over : E → E → Type 0) (tag : E → ℕ) (P Q : E → Type 0) (behind before : E → Bool) (cut : ℕ) (d : List (Option E)) (ts : List Turn)
    → HasSides over tag P Q behind before → Ordered over tag P d → AllOnce d → ArePasses over tag behind before cut d ts → Along AtMostOneTwice d (turns_moves d ts)
passes_few over tag P Q behind before cut d [] w o once are = inl once
passes_few over tag P Q behind before cut d (t ∷ ts) w o once are =
    let b = applied d (turn_moves d t) in
    let k = pass_keeps over tag P Q behind before cut d t w o are.0 in
    Along_append AtMostOneTwice d (turn_moves d t) (turns_moves b ts) (pass_few over tag P Q behind before cut d t w o once are.0)
    (passes_few over tag P Q behind before cut b ts w k.ordered (k.once once) are.1)

-- and while the last chain moves
end_few : {E : Type 0} (over : E → E → Type 0) (tag : E → ℕ) (P : E → Type 0) (d : List (Option E)) (e : E) (front : List (ℕ × Option E)) (place : ℕ)
    → ((x y : E) → over x y → over y x) → Ordered over tag P d → AllOnce d → IsEnd over tag d e front place → Along AtMostOneTwice d front
end_few over tag P d e front place mirror o once (onto_free l u at floor ceiling a b inside free) = inl once
end_few over tag P d e front place mirror o once (over_down l u free rest lower floor ceiling a stands meets less inside empty chain) =
    moved_few Downwards over tag P d free u rest lower mirror o once inside empty stands chain
end_few over tag P d e front place mirror o once (over_up l u free rest upper floor ceiling a stands meets more inside empty chain) =
    moved_few Upwards over tag P d free l rest upper mirror o once inside empty stands chain

-- The new entry, which stands nowhere, is written in one slot, and each other one stands in one slot again then.
pub whole_copies : {E : Type 0} (over : E → E → Type 0) (tag : E → ℕ) (P Q : E → Type 0) (d : List (Option E)) (e : E) (writes : List (ℕ × Option E))
    → ((x y : E) → over x y → over y x) → Ordered over tag P d → AllOnce d → (P e → ⊥) → IsWhole over tag P Q d e writes → Along AtMostOneTwice d writes
whole_copies {E} over tag P Q d e writes mirror o once new w =
    let t = passes_keep over tag P Q w.behind w.before w.cut d w.turns w.sides o w.inside w.are in
    let b = applied d (turns_moves d w.turns) in
    subst (Along AtMostOneTwice d) (sym w.parts)
    (Along_push AtMostOneTwice d (turns_moves d w.turns ++ w.front) (w.place, Some e)
    (Along_append AtMostOneTwice d (turns_moves d w.turns) w.front (passes_few over tag P Q w.behind w.before w.cut d w.turns w.sides o once w.are)
    (end_few over tag P b e w.front w.place mirror t.ordered (t.once once) w.ends))
    (inl (subst AllOnce (ap (applied d) w.parts ∙ applied_push d (turns_moves d w.turns ++ w.front) (w.place, Some e)) (whole_once over tag P Q d e writes mirror o once new w))))
