-- The whole of an insertion: turns past a boundary, the last chain's moves, and the new entry's own write.
use Rattle.std.proofs.Common.{◌≡◌, ℕ, ◌+◌, ◌-◌, ◌*◌, ◌≤◌, Bool, Option, Some, List, [], ◌∷◌, ◌++◌, length, arith, sym, ◌∙◌, subst, ap, set, length-append, mul-le-mul_left}
use Rattle.slot_order.specs.Order.{Ordered}
use Rattle.slot_order.specs.Chains.{applied, Along, BoundsMemberChains}
use Rattle.slot_moves.specs.Moves.{IsFloor, IsCeiling, Turn, turns_moves}
use Rattle.slot_moves.proofs.Turns.{Plus}
use Rattle.slot_order.proofs.Walks.{Along_append, applied_append}
use Rattle.slot_moves.proofs.Passing.{ArePasses, HasSides}
use Rattle.slot_moves.proofs.Passes.{passes_keep}
use Rattle.slot_moves.proofs.End.{IsEnd, end_keeps}
use Rattle.slot_moves.proofs.Once.{AllOnce, end_once}

-- the writes of an insertion: no more turns past a boundary than the crossing's span, and the end of it
pub record IsWhole {E : Type 0} (over : E → E → Type 0) (tag : E → ℕ) (P Q : E → Type 0) (slots : List (Option E)) (entry : E) (writes : List (ℕ × Option E)) : Type 0 where
  pub behind : E → Bool
  pub before : E → Bool
  pub sides : HasSides over tag P Q behind before
  pub cut : ℕ
  pub inside : cut ≤ length slots
  pub turns : List Turn
  pub are : ArePasses over tag behind before cut slots turns
  -- no more than the span
  pub short : (l u : ℕ) → IsFloor over tag slots entry l → IsCeiling over tag slots entry u → length turns ≤ (l - 1) - u
  pub front : List (ℕ × Option E)
  pub place : ℕ
  pub ends : IsEnd over tag (applied slots (turns_moves slots turns)) entry front place
  pub parts : writes ≡ (turns_moves slots turns ++ front) ++ (place, Some entry) ∷ []

-- what they leave: order after each but the last, the new entry among the others after the last, and few
pub record WholeKeeps {E : Type 0} (over : E → E → Type 0) (tag : E → ℕ) (P Q : E → Type 0) (slots : List (Option E)) (entry : E) (writes : List (ℕ × Option E)) : Type 0 where
  pub before : List (ℕ × Option E)
  pub place : ℕ
  pub parts : writes ≡ before ++ (place, Some entry) ∷ []
  pub along : Along (Ordered over tag P) slots before
  pub done : Ordered over tag (Plus P entry) (set (applied slots before) place (Some entry))
  pub few : (l u m : ℕ) → IsFloor over tag slots entry l → IsCeiling over tag slots entry u → BoundsMemberChains over tag Q m → length writes ≤ m * (1 + ((l - 1) - u))

-- m writes for each turn and m more
bounded : (m n c w last : ℕ) → w ≤ m * n → n ≤ c → last ≤ m → w + last ≤ m * (1 + c)
bounded m n c w last a b l = let p = mul-le-mul_left m b in grind arith

pub whole_few : {E : Type 0} (over : E → E → Type 0) (tag : E → ℕ) (P Q : E → Type 0) (slots : List (Option E)) (entry : E) (writes : List (ℕ × Option E)) (m c : ℕ)
    → ((x y : E) → over x y → over y x) → Ordered over tag P slots → ((x : E) → P x → Q x) → Q entry → (w : IsWhole over tag P Q slots entry writes)
    → BoundsMemberChains over tag Q m → length w.turns ≤ c → length writes ≤ m * (1 + c)
whole_few {E} over tag P Q slots entry writes m c mirror o up here w bound less =
    let t = passes_keep over tag P Q w.behind w.before w.cut slots w.turns w.sides o w.inside w.are in
    let k = end_keeps over tag P Q (applied slots (turns_moves slots w.turns)) entry w.front w.place mirror t.ordered up here w.ends in
    let n = bounded m (length w.turns) c (length (turns_moves slots w.turns)) (length w.front + 1) (t.few m bound) less (k.small m bound) in
    let e = ap length w.parts in
    let x = length-append (turns_moves slots w.turns ++ w.front) ((w.place, Some entry) ∷ []) in
    let y = length-append (turns_moves slots w.turns) w.front in
    omega arith

pub whole_keeps : {E : Type 0} (over : E → E → Type 0) (tag : E → ℕ) (P Q : E → Type 0) (slots : List (Option E)) (entry : E) (writes : List (ℕ × Option E))
    → ((x y : E) → over x y → over y x) → Ordered over tag P slots → ((x : E) → P x → Q x) → Q entry → IsWhole over tag P Q slots entry writes
    → WholeKeeps over tag P Q slots entry writes
whole_keeps {E} over tag P Q slots entry writes mirror o up here w =
    let t = passes_keep over tag P Q w.behind w.before w.cut slots w.turns w.sides o w.inside w.are in
    let b = applied slots (turns_moves slots w.turns) in
    let k = end_keeps over tag P Q b entry w.front w.place mirror t.ordered up here w.ends in
    let same : applied slots (turns_moves slots w.turns ++ w.front) ≡ applied b w.front = applied_append slots (turns_moves slots w.turns) w.front in
    record {
      before = turns_moves slots w.turns ++ w.front;
      place = w.place;
      parts = w.parts;
      along = Along_append (Ordered over tag P) slots (turns_moves slots w.turns) w.front t.along k.along;
      done = subst (λ z. Ordered over tag (Plus P entry) (set z w.place (Some entry))) (sym same) k.done;
      few = λ l u m floor ceiling bound. whole_few over tag P Q slots entry writes m ((l - 1) - u) mirror o up here w bound (w.short l u floor ceiling);
    }

-- after an insertion each entry stands in one slot again; the new one is not of P
pub whole_once : {E : Type 0} (over : E → E → Type 0) (tag : E → ℕ) (P Q : E → Type 0) (d : List (Option E)) (e : E) (writes : List (ℕ × Option E))
    → ((x y : E) → over x y → over y x) → Ordered over tag P d → AllOnce d → (P e → ⊥) → IsWhole over tag P Q d e writes → AllOnce (applied d writes)
whole_once {E} over tag P Q d e writes mirror o once new w =
    let t = passes_keep over tag P Q w.behind w.before w.cut d w.turns w.sides o w.inside w.are in
    let b = applied d (turns_moves d w.turns) in
    let h = end_once over tag P b e w.front w.place mirror t.ordered (t.once once) new w.ends in
    let same : applied d writes ≡ set (applied b w.front) w.place (Some e) =
    ap (applied d) w.parts ∙ (applied_append d (turns_moves d w.turns ++ w.front) ((w.place, Some e) ∷ []) ∙ ap (λ z. set z w.place (Some e)) (applied_append d (turns_moves d w.turns) w.front)) in
    subst AllOnce (sym same) h
