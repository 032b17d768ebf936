-- How many writes by parts an insertion takes exactly: three of each entry that it puts, but one.
use Rattle.std.proofs.Common.{◌≡◌, ℕ, suc, ◌+◌, ◌*◌, ◌<◌, Bool, Option, None, Some, List, [], ◌∷◌, ◌++◌, length, arith, set, sym, ◌∙◌, subst, ap, le_refl, append_assoc}
use Rattle.slot_order.specs.Order.{slot, Ordered}
use Rattle.slot_order.specs.Chains.{applied}
use Rattle.slot_moves.specs.Moves.{Way, Downwards, Upwards, IsBefore, IsMoveChain, chain_moves, Turn, Down, Up, turn_moves, turns_moves}
use Rattle.slot_moves.proofs.Chains.{chain_keeps}
use Rattle.slot_moves.proofs.Ways.{no_later_self, apart}
use Rattle.slot_moves.proofs.End.{IsEnd, onto_free, over_down, over_up}
use Rattle.slot_moves.proofs.Passes.{AllPassed, passes_keep}
use Rattle.slot_moves.proofs.Passing.{IsPass, ArePasses, HasSides, pass_keeps}
use Rattle.slot_moves.proofs.Whole.{IsWhole}

-- a put costs two into an empty slot, and over an entry of another tag three
pub record IsPutCost {E : Type 0} (tag : E → ℕ) (Cost : Option E → E → ℕ) : Type 0 where
  pub empty : (entry : E) → Cost None entry ≡ 2
  pub other : (standing entry : E) → (tag standing ≡ tag entry → ⊥) → Cost (Some standing) entry ≡ 3

-- what some undivided writes cost by parts, an erase one
abbrev pub exact_cost : {E : Type 0} → (Option E → E → ℕ) → List (Option E) → List (ℕ × Option E) → ℕ
exact_cost Cost slots [] = 0
exact_cost Cost slots ((at, None) ∷ writes) = 1 + exact_cost Cost (set slots at None) writes
exact_cost Cost slots ((at, Some entry) ∷ writes) = Cost (slot slots at) entry + exact_cost Cost (set slots at (Some entry)) writes

-- how many of them put an entry
abbrev pub puts : {E : Type 0} → List (ℕ × Option E) → ℕ
puts [] = 0
puts ((at, None) ∷ writes) = puts writes
puts ((at, Some entry) ∷ writes) = suc (puts writes)

pub exact_append : {E : Type 0} (Cost : Option E → E → ℕ) (d : List (Option E)) (xs ys : List (ℕ × Option E)) → exact_cost Cost d (xs ++ ys) ≡ exact_cost Cost d xs + exact_cost Cost (applied d xs) ys
exact_append Cost d [] ys = omega arith
exact_append Cost d ((at, None) ∷ xs) ys = let h = exact_append Cost (set d at None) xs ys in omega arith
exact_append Cost d ((at, Some e) ∷ xs) ys = let h = exact_append Cost (set d at (Some e)) xs ys in omega arith

pub puts_append : {E : Type 0} (xs ys : List (ℕ × Option E)) → puts (xs ++ ys) ≡ puts xs + puts ys
puts_append [] ys = omega arith
puts_append ((at, None) ∷ xs) ys = puts_append xs ys
puts_append ((at, Some e) ∷ xs) ys = let h = puts_append xs ys in omega arith

-- into an empty slot
onto_none : {E : Type 0} (tag : E → ℕ) (Cost : Option E → E → ℕ) (d : List (Option E)) (at : ℕ) (e : E) → IsPutCost tag Cost → slot d at ≡ None → exact_cost Cost d ((at, Some e) ∷ []) ≡ 2
onto_none tag Cost d at e costs free = let h : Cost (slot d at) e ≡ 2 = ap (λ held. Cost held e) free ∙ costs.empty e in omega arith

-- over an entry of another tag
onto_other : {E : Type 0} (tag : E → ℕ) (Cost : Option E → E → ℕ) (d : List (Option E)) (at : ℕ) (g e : E) → IsPutCost tag Cost → slot d at ≡ Some g → (tag g ≡ tag e → ⊥) → exact_cost Cost d ((at, Some e) ∷ []) ≡ 3
onto_other tag Cost d at g e costs stands other = let h : Cost (slot d at) e ≡ 3 = ap (λ held. Cost held e) stands ∙ costs.other g e other in omega arith

-- The members of a chain: the last goes to a free slot, and each other over the next one, which is of another tag.
pub chain_exact : {E : Type 0} (way : Way) (over : E → E → Type 0) (tag : E → ℕ) (Cost : Option E → E → ℕ) (costs : IsPutCost tag Cost) (P : E → Type 0) (d : List (Option E)) (f s : ℕ) (rest : List ℕ) (e : E)
    → ((x y : E) → over x y → over y x) → Ordered over tag P d → f < length d → slot d f ≡ None → slot d s ≡ Some e → IsMoveChain way over tag d f s rest
    → exact_cost Cost d (chain_moves d f s rest) + 1 ≡ 3 * puts (chain_moves d f s rest)
chain_exact way over tag Cost costs P d f s [] e mirror o room free stands c =
    subst (λ held. exact_cost Cost d ((f, held) ∷ []) + 1 ≡ 3 * puts ((f, held) ∷ [])) (sym stands) (let h = onto_none tag Cost d f e costs free in omega arith)
chain_exact way over tag Cost costs P d f s (t ∷ rest) e mirror o room free stands c =
    let a = c.0 in
    let g = a.4.0 in
    let same : a.0 ≡ e = let k : Some a.0 ≡ Some e = sym a.1 ∙ stands in cc in
    let further : IsBefore way (tag g) (tag e) = subst (λ z. IsBefore way (tag g) (tag z)) same a.4.3 in
    let front = chain_moves d f t rest in
    let h = chain_exact way over tag Cost costs P d f t rest g mirror o room free a.4.1 c.1 in
    let m = (chain_keeps way over tag P d f t rest g mirror o room free a.4.1 c.1).1 in
    let still : slot (applied d front) t ≡ Some g = m.before t (no_later_self way t) ∙ a.4.1 in
    let last = onto_other tag Cost (applied d front) t g e costs still (apart way _ _ further) in
    let all = exact_append Cost d front ((t, Some e) ∷ []) in
    let count = puts_append front ((t, Some e) ∷ []) in
    subst (λ held. exact_cost Cost d (front ++ (t, held) ∷ []) + 1 ≡ 3 * puts (front ++ (t, held) ∷ [])) (sym stands) (omega arith)

-- a turn takes three for each entry that it puts: its erase makes up for the free slot
pass_exact : {E : Type 0} (over : E → E → Type 0) (tag : E → ℕ) (Cost : Option E → E → ℕ) (costs : IsPutCost tag Cost) (P Q : E → Type 0) (behind before : E → Bool) (cut : ℕ) (d : List (Option E)) (turn : Turn) → HasSides over tag P Q behind before
    → Ordered over tag P d → IsPass over tag behind before cut d turn → exact_cost Cost d (turn_moves d turn) ≡ 3 * puts (turn_moves d turn)
pass_exact over tag Cost costs P Q behind before cut d (Down free first rest) sides o is =
    let h = chain_exact Downwards over tag Cost costs P d free first rest is.4.0 sides.mirror o is.2 is.3 is.4.1 is.5 in
    let a = exact_append Cost d (chain_moves d free first rest) ((first, None) ∷ []) in
    let b = puts_append (chain_moves d free first rest) ((first, None) ∷ []) in omega arith
pass_exact over tag Cost costs P Q behind before cut d (Up free first rest) sides o is =
    let h = chain_exact Upwards over tag Cost costs P d free first rest is.4.0 sides.mirror o is.2 is.3 is.4.1 is.5 in
    let a = exact_append Cost d (chain_moves d free first rest) ((first, None) ∷ []) in
    let b = puts_append (chain_moves d free first rest) ((first, None) ∷ []) in omega arith

passes_exact : {E : Type 0} (over : E → E → Type 0) (tag : E → ℕ) (Cost : Option E → E → ℕ) (costs : IsPutCost tag Cost) (P Q : E → Type 0) (behind before : E → Bool) (cut : ℕ) (d : List (Option E)) (turns : List Turn) → HasSides over tag P Q behind before
    → Ordered over tag P d → ArePasses over tag behind before cut d turns → exact_cost Cost d (turns_moves d turns) ≡ 3 * puts (turns_moves d turns)
passes_exact over tag Cost costs P Q behind before cut d [] sides o are = omega arith
passes_exact over tag Cost costs P Q behind before cut d (turn ∷ turns) sides o are =
    let b = applied d (turn_moves d turn) in
    let k = pass_keeps over tag P Q behind before cut d turn sides o are.0 in
    let x = pass_exact over tag Cost costs P Q behind before cut d turn sides o are.0 in
    let y = passes_exact over tag Cost costs P Q behind before cut b turns sides k.ordered are.1 in
    let a = exact_append Cost d (turn_moves d turn) (turns_moves b turns) in
    let c = puts_append (turn_moves d turn) (turns_moves b turns) in omega arith

-- the new entry's own put, behind a chain that makes way for it
end_exact : {E : Type 0} (over : E → E → Type 0) (tag : E → ℕ) (Cost : Option E → E → ℕ) (costs : IsPutCost tag Cost) (P : E → Type 0) (d : List (Option E)) (e : E) (front : List (ℕ × Option E)) (place : ℕ) → ((x y : E) → over x y → over y x)
    → Ordered over tag P d → IsEnd over tag d e front place → exact_cost Cost d (front ++ (place, Some e) ∷ []) + 1 ≡ 3 * puts (front ++ (place, Some e) ∷ [])
end_exact over tag Cost costs P d e front place mirror o (onto_free l u at floor ceiling a b inside free) = let h = onto_none tag Cost d place e costs free in omega arith
end_exact over tag Cost costs P d e front place mirror o (over_down l u free rest lower floor ceiling a stands meets less inside empty chain) =
    let h = chain_exact Downwards over tag Cost costs P d free u rest lower mirror o inside empty stands chain in
    let m = (chain_keeps Downwards over tag P d free u rest lower mirror o inside empty stands chain).1 in
    let still : slot (applied d (chain_moves d free u rest)) u ≡ Some lower = m.before u (le_refl u) ∙ stands in
    let last = onto_other tag Cost (applied d (chain_moves d free u rest)) u lower e costs still (λ is. omega arith) in
    let c = exact_append Cost d (chain_moves d free u rest) ((u, Some e) ∷ []) in
    let b = puts_append (chain_moves d free u rest) ((u, Some e) ∷ []) in omega arith
end_exact over tag Cost costs P d e front place mirror o (over_up l u free rest upper floor ceiling a stands meets more inside empty chain) =
    let h = chain_exact Upwards over tag Cost costs P d free l rest upper mirror o inside empty stands chain in
    let m = (chain_keeps Upwards over tag P d free l rest upper mirror o inside empty stands chain).1 in
    let still : slot (applied d (chain_moves d free l rest)) l ≡ Some upper = m.before l (le_refl l) ∙ stands in
    let last = onto_other tag Cost (applied d (chain_moves d free l rest)) l upper e costs still (λ is. omega arith) in
    let c = exact_append Cost d (chain_moves d free l rest) ((l, Some e) ∷ []) in
    let b = puts_append (chain_moves d free l rest) ((l, Some e) ∷ []) in omega arith

-- An insertion that puts so many entries takes three writes by parts of each, but one.
pub whole_exact : {E : Type 0} (over : E → E → Type 0) (tag : E → ℕ) (Cost : Option E → E → ℕ) (costs : IsPutCost tag Cost) (P Q : E → Type 0) (d : List (Option E)) (e : E) (writes : List (ℕ × Option E)) → ((x y : E) → over x y → over y x) → Ordered over tag P d
    → IsWhole over tag P Q d e writes → exact_cost Cost d writes + 1 ≡ 3 * puts writes
whole_exact {E} over tag Cost costs P Q d e writes mirror o is =
    let moves = turns_moves d is.turns in
    let b = applied d moves in
    let last : List (ℕ × Option E) = (is.place, Some e) ∷ [] in
    let t : AllPassed over tag P Q is.behind is.before is.cut d is.turns = passes_keep over tag P Q is.behind is.before is.cut d is.turns is.sides o is.inside is.are in
    let x = passes_exact over tag Cost costs P Q is.behind is.before is.cut d is.turns is.sides o is.are in
    let y = end_exact over tag Cost costs P b e is.front is.place mirror t.ordered is.ends in
    let cut : writes ≡ moves ++ (is.front ++ last) = is.parts ∙ append_assoc moves is.front last in
    let all : exact_cost Cost d writes ≡ exact_cost Cost d moves + exact_cost Cost b (is.front ++ last) = ap (exact_cost Cost d) cut ∙ exact_append Cost d moves (is.front ++ last) in
    let count : puts writes ≡ puts moves + puts (is.front ++ last) = ap puts cut ∙ puts_append moves (is.front ++ last) in
    omega arith
