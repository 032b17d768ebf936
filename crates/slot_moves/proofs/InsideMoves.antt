-- Each write of an insertion is of a slot that there is.
use Rattle.std.proofs.Common.{ℕ, ◌<◌, Bool, Option, Some, List, [], ◌∷◌, ◌++◌, length, sym, ◌∙◌, subst, append_assoc}
use Rattle.slot_order.specs.Chains.{applied}
use Rattle.slot_moves.specs.Moves.{Way, Downwards, Upwards, IsMoveChain, chain_moves, Turn, Down, Up, turn_moves, turns_moves}
use Rattle.slot_moves.proofs.Passing.{ArePasses}
use Rattle.slot_order.proofs.Lists.{all_append}
use Rattle.slot_order.proofs.Writes.{slot_inside}
use Rattle.slot_moves.proofs.End.{IsEnd, onto_free, over_down, over_up}
use Rattle.slot_moves.proofs.Whole.{IsWhole}
use Rattle.slot_order.proofs.Inside.{length-applied, AllInside}

moved_inside : {E : Type 0} (way : Way) (over : E → E → Type 0) (tag : E → ℕ) (d : List (Option E)) (f s : ℕ) (rest : List ℕ)
    → f < length d → IsMoveChain way over tag d f s rest → AllInside (length d) (chain_moves d f s rest)
moved_inside way over tag d f s [] room c = (room, tt)
moved_inside {E} way over tag d f s (t ∷ rest) room c =
    all_append {A = ℕ × Option E} (λ w. w.0 < length d) (chain_moves d f t rest) _ (moved_inside way over tag d f t rest room c.1) (slot_inside d t _ c.0.4.1, tt)

first_inside : {E : Type 0} (way : Way) (over : E → E → Type 0) (tag : E → ℕ) (d : List (Option E)) (f s : ℕ) (rest : List ℕ) → IsMoveChain way over tag d f s rest → s < length d
first_inside way over tag d f s [] c = slot_inside d s _ c.1
first_inside way over tag d f s (t ∷ rest) c = slot_inside d s _ c.0.1

turns_inside : {E : Type 0} (over : E → E → Type 0) (tag : E → ℕ) (behind before : E → Bool) (cut : ℕ) (d : List (Option E)) (ts : List Turn)
    → ArePasses over tag behind before cut d ts → AllInside (length d) (turns_moves d ts)
turns_inside over tag behind before cut d [] w = tt
turns_inside {E} over tag behind before cut d (Down f s rest ∷ ts) w =
    let m = w.0 in
    all_append {A = ℕ × Option E} (λ w. w.0 < length d) (turn_moves d (Down f s rest)) _
    (all_append {A = ℕ × Option E} (λ w. w.0 < length d) (chain_moves d f s rest) _ (moved_inside Downwards over tag d f s rest m.2 m.5) (first_inside Downwards over tag d f s rest m.5, tt))
    (subst (λ n. AllInside n (turns_moves (applied d (turn_moves d (Down f s rest))) ts)) (length-applied d (turn_moves d (Down f s rest))) (turns_inside over tag behind before cut (applied d (turn_moves d (Down f s rest))) ts w.1))
turns_inside {E} over tag behind before cut d (Up f s rest ∷ ts) w =
    let m = w.0 in
    all_append {A = ℕ × Option E} (λ w. w.0 < length d) (turn_moves d (Up f s rest)) _
    (all_append {A = ℕ × Option E} (λ w. w.0 < length d) (chain_moves d f s rest) _ (moved_inside Upwards over tag d f s rest m.2 m.5) (first_inside Upwards over tag d f s rest m.5, tt))
    (subst (λ n. AllInside n (turns_moves (applied d (turn_moves d (Up f s rest))) ts)) (length-applied d (turn_moves d (Up f s rest))) (turns_inside over tag behind before cut (applied d (turn_moves d (Up f s rest))) ts w.1))

end_inside : {E : Type 0} (over : E → E → Type 0) (tag : E → ℕ) (d : List (Option E)) (e : E) (front : List (ℕ × Option E)) (place : ℕ)
    → IsEnd over tag d e front place → AllInside (length d) (front ++ (place, Some e) ∷ [])
end_inside over tag d e front place (onto_free l u at floor ceiling a b inside free) = (inside, tt)
end_inside {E} over tag d e front place (over_down l u free rest lower floor ceiling a stands meets less inside empty chain) =
    all_append {A = ℕ × Option E} (λ w. w.0 < length d) (chain_moves d free u rest) _ (moved_inside Downwards over tag d free u rest inside chain) (slot_inside d u lower stands, tt)
end_inside {E} over tag d e front place (over_up l u free rest upper floor ceiling a stands meets more inside empty chain) =
    all_append {A = ℕ × Option E} (λ w. w.0 < length d) (chain_moves d free l rest) _ (moved_inside Upwards over tag d free l rest inside chain) (slot_inside d l upper stands, tt)

pub whole_inside : {E : Type 0} (over : E → E → Type 0) (tag : E → ℕ) (P Q : E → Type 0) (d : List (Option E)) (e : E) (writes : List (ℕ × Option E))
    → IsWhole over tag P Q d e writes → AllInside (length d) writes
whole_inside {E} over tag P Q d e writes w =
    let b = applied d (turns_moves d w.turns) in
    let h : AllInside (length d) (w.front ++ (w.place, Some e) ∷ []) =
    subst (λ n. AllInside n (w.front ++ (w.place, Some e) ∷ [])) (length-applied d (turns_moves d w.turns)) (end_inside over tag b e w.front w.place w.ends) in
    let a = all_append {A = ℕ × Option E} (λ w. w.0 < length d) (turns_moves d w.turns) (w.front ++ (w.place, Some e) ∷ []) (turns_inside over tag w.behind w.before w.cut d w.turns w.are) h in
    subst (AllInside (length d)) (sym (w.parts ∙ append_assoc (turns_moves d w.turns) w.front ((w.place, Some e) ∷ []))) a
