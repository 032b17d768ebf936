-- How many writes by parts an insertion takes: two for the new entry, and three for each entry that moves.
use Rattle.std.proofs.Common.{◌≡◌, ℕ, suc, ◌+◌, ◌-◌, ◌*◌, ◌≤◌, Bool, Option, None, Some, List, [], ◌∷◌, ◌++◌, length, arith, set, sym, ◌∙◌, subst, ap, length-append, mul-le-mul_left, append_assoc}
use Rattle.slot_order.specs.Order.{slot, Ordered}
use Rattle.slot_order.specs.Chains.{applied, BoundsMemberChains}
use Rattle.slot_moves.specs.Moves.{chain_moves, IsFloor, IsCeiling, Turn, Down, Up, turn_moves, turns_moves}
use Rattle.slot_moves.proofs.End.{IsEnd, onto_free, over_down, over_up, EndKeeps, end_keeps}
use Rattle.slot_moves.proofs.Passes.{AllPassed, passes_keep}
use Rattle.slot_moves.proofs.Passing.{IsPass, ArePasses}
use Rattle.slot_moves.proofs.Whole.{IsWhole}

-- a put takes two writes into an empty slot, and three over what stands
abbrev pub put_cost : {E : Type 0} → Option E → ℕ
put_cost None = 2
put_cost (Some standing) = 3

-- the most writes by parts that some undivided writes take
abbrev pub cost : {E : Type 0} → List (Option E) → List (ℕ × Option E) → ℕ
cost slots [] = 0
cost slots ((at, None) ∷ writes) = 1 + cost (set slots at None) writes
cost slots ((at, Some entry) ∷ writes) = put_cost (slot slots at) + cost (set slots at (Some entry)) writes

pub cost_append : {E : Type 0} (d : List (Option E)) (xs ys : List (ℕ × Option E)) → cost d (xs ++ ys) ≡ cost d xs + cost (applied d xs) ys
cost_append d [] ys = omega arith
cost_append d ((at, None) ∷ xs) ys = let h = cost_append (set d at None) xs ys in omega arith
cost_append d ((at, Some e) ∷ xs) ys = let h = cost_append (set d at (Some e)) xs ys in omega arith

put_most : {E : Type 0} (held : Option E) → put_cost held ≤ 3
put_most None = omega arith
put_most (Some e) = omega arith

one_most : {E : Type 0} (d : List (Option E)) (at : ℕ) (x : Option E) → cost d ((at, x) ∷ []) ≤ 3
one_most d at None = omega arith
one_most d at (Some e) = let h = put_most (slot d at) in omega arith

-- into an empty slot
one_free : {E : Type 0} (d : List (Option E)) (at : ℕ) (x : Option E) → slot d at ≡ None → cost d ((at, x) ∷ []) ≤ 2
one_free d at None free = omega arith
one_free d at (Some e) free = let h : put_cost (slot d at) ≡ 2 = ap put_cost free in omega arith

-- the members of a chain: the last goes to a free slot, and the others each over another one
pub chain_cost : {E : Type 0} (d : List (Option E)) (free first : ℕ) (rest : List ℕ) → slot d free ≡ None → cost d (chain_moves d free first rest) + 1 ≤ 3 * length (chain_moves d free first rest)
chain_cost d free first [] empty = let h = one_free d free (slot d first) empty in omega arith
chain_cost d free first (next ∷ rest) empty =
    let h = chain_cost d free next rest empty in
    let a = cost_append d (chain_moves d free next rest) ((next, slot d first) ∷ []) in
    let b = one_most (applied d (chain_moves d free next rest)) next (slot d first) in
    let c = length-append (chain_moves d free next rest) ((next, slot d first) ∷ []) in omega arith

-- a turn takes three for each of its writes but the erase
pass_cost : {E : Type 0} (over : E → E → Type 0) (tag : E → ℕ) (behind before : E → Bool) (cut : ℕ) (d : List (Option E)) (turn : Turn) → IsPass over tag behind before cut d turn
    → cost d (turn_moves d turn) + 3 ≤ 3 * length (turn_moves d turn)
pass_cost over tag behind before cut d (Down free first rest) is =
    let h = chain_cost d free first rest is.3 in
    let a = cost_append d (chain_moves d free first rest) ((first, None) ∷ []) in
    let b = length-append (chain_moves d free first rest) ((first, None) ∷ []) in omega arith
pass_cost over tag behind before cut d (Up free first rest) is =
    let h = chain_cost d free first rest is.3 in
    let a = cost_append d (chain_moves d free first rest) ((first, None) ∷ []) in
    let b = length-append (chain_moves d free first rest) ((first, None) ∷ []) in omega arith

-- all turns
passes_cost : {E : Type 0} (over : E → E → Type 0) (tag : E → ℕ) (behind before : E → Bool) (cut : ℕ) (d : List (Option E)) (turns : List Turn) → ArePasses over tag behind before cut d turns
    → cost d (turns_moves d turns) + 3 * length turns ≤ 3 * length (turns_moves d turns)
passes_cost over tag behind before cut d [] are = omega arith
passes_cost over tag behind before cut d (turn ∷ turns) are =
    let b = applied d (turn_moves d turn) in
    let x = pass_cost over tag behind before cut d turn are.0 in
    let y = passes_cost over tag behind before cut b turns are.1 in
    let a = cost_append d (turn_moves d turn) (turns_moves b turns) in
    let l = length-append (turn_moves d turn) (turns_moves b turns) in omega arith

-- the new entry's own put, behind a chain that makes way for it
end_cost : {E : Type 0} (over : E → E → Type 0) (tag : E → ℕ) (d : List (Option E)) (e : E) (front : List (ℕ × Option E)) (place : ℕ) → IsEnd over tag d e front place
    → cost d (front ++ (place, Some e) ∷ []) ≤ 3 * length front + 2
end_cost over tag d e front place (onto_free l u at floor ceiling a b inside free) = let h = one_free d place (Some e) free in omega arith
end_cost over tag d e front place (over_down l u free rest lower floor ceiling a stands meets less inside empty chain) =
    let h = chain_cost d free u rest empty in
    let c = cost_append d (chain_moves d free u rest) ((u, Some e) ∷ []) in
    let b = one_most (applied d (chain_moves d free u rest)) u (Some e) in omega arith
end_cost over tag d e front place (over_up l u free rest upper floor ceiling a stands meets more inside empty chain) =
    let h = chain_cost d free l rest empty in
    let c = cost_append d (chain_moves d free l rest) ((l, Some e) ∷ []) in
    let b = one_most (applied d (chain_moves d free l rest)) l (Some e) in omega arith

total : (k n c w f a b : ℕ) → a + 3 * n ≤ 3 * w → w ≤ suc k * n → n ≤ c → f + 1 ≤ suc k → b ≤ 3 * f + 2 → a + b ≤ 2 + 3 * k * (1 + c)
total k n c w f a b turns few short chain last =
    let p = mul-le-mul_left (3 * k) short in
    let q : 3 * k * (1 + c) ≡ 3 * k + 3 * k * c = grind arith in
    let r : 3 * (suc k * n) ≡ 3 * k * n + 3 * n = grind arith in
    omega arith

-- An insertion takes at most 2 + 3 (m - 1) (1 + c) writes by parts, c the span and m a bound on chains.
pub whole_cost : {E : Type 0} (over : E → E → Type 0) (tag : E → ℕ) (P Q : E → Type 0) (d : List (Option E)) (e : E) (l u m : ℕ) (writes : List (ℕ × Option E))
    → ((x y : E) → over x y → over y x) → Ordered over tag P d → ((x : E) → P x → Q x) → Q e → IsFloor over tag d e l → IsCeiling over tag d e u → BoundsMemberChains over tag Q m
    → IsWhole over tag P Q d e writes → cost d writes ≤ 2 + 3 * (m - 1) * (1 + ((l - 1) - u))
whole_cost over tag P Q d e l u m writes mirror o up here floor ceiling bound is =
    let moves = turns_moves d is.turns in
    let b = applied d moves in
    let last = (is.place, Some e) ∷ [] in
    let t : AllPassed over tag P Q is.behind is.before is.cut d is.turns = passes_keep over tag P Q is.behind is.before is.cut d is.turns is.sides o is.inside is.are in
    let k : EndKeeps over tag P Q b e is.front is.place = end_keeps over tag P Q b e is.front is.place mirror t.ordered up here is.ends in
    let small = k.small m bound in
    let one : m ≡ suc (m - 1) = omega arith in
    let whole : cost d writes ≡ cost d moves + cost b (is.front ++ last) =
    ap (cost d) (is.parts ∙ append_assoc moves is.front last) ∙ cost_append d moves (is.front ++ last) in
    let few : length moves ≤ suc (m - 1) * length is.turns = subst (λ n. length moves ≤ n * length is.turns) one (t.few m bound) in
    let all = total (m - 1) (length is.turns) ((l - 1) - u) (length moves) (length is.front) (cost d moves) (cost b (is.front ++ last))
    (passes_cost over tag is.behind is.before is.cut d is.turns is.are) few (is.short l u floor ceiling) (subst (λ n. length is.front + 1 ≤ n) one small)
    (end_cost over tag b e is.front is.place is.ends) in
    subst (λ n. n ≤ 2 + 3 * (m - 1) * (1 + ((l - 1) - u))) (sym whole) all
