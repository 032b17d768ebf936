-- Chains as they are walked, slot by slot.
use Rattle.std.proofs.Common.{◌≡◌, ℕ, ◌+◌, ◌<◌, ◌≤◌, Option, None, Some, List, [], ◌∷◌, ◌++◌, length, append_assoc, length-append, arith, refl, sym, ◌∙◌, subst, ap}
use Rattle.slot_order.proofs.Writes.{slot_inside}
use Rattle.slot_pool.specs.Arrangement.{Slots}
use Rattle.move_planner.specs.declared.shorter.Ends.{Ends}
use Rattle.placement.specs.Placement.{Above, IsDownChain, IsUpChain, StopsBelow, StopsAbove, step_down, step_up}
use Rattle.placement.specs.Ready.{StepsDown, StepsUp}
use Rattle.move_planner.specs.Steps.{CanGoDown, CanGoUp}

-- the members so far, the last of which is known, are the first part of whatever chain goes on from it, and each chain
-- begins with them
pub record IsWalkedDown (above : Above) (slots : Slots) (ends : Ends) (last : ℕ) (members : List ℕ) : Type 0 where
  pub front : List ℕ
  pub are : members ≡ front ++ last ∷ []
  pub joins : (rest : List ℕ) → IsDownChain above slots ends.free (last ∷ rest)
      → (all : List ℕ) × (front ++ last ∷ rest ≡ ends.from ∷ all) × IsDownChain above slots ends.free (ends.from ∷ all)
  pub begins : (all : List ℕ) → IsDownChain above slots ends.free (ends.from ∷ all)
      → (rest : List ℕ) × (ends.from ∷ all ≡ front ++ last ∷ rest) × IsDownChain above slots ends.free (last ∷ rest)
  pub before : last < ends.free

pub walked_down_none : (above : Above) (slots : Slots) (ends : Ends) (last : ℕ) (members : List ℕ) → CanGoDown slots ends
    → last ≡ ends.from → members ≡ ends.from ∷ [] → IsWalkedDown above slots ends last members
walked_down_none above slots ends last members can same are =
    subst (λ l. IsWalkedDown above slots ends l members) (sym same)
    (record { front = []; are = are; joins = λ rest c. (rest, refl, c); begins = λ all c. (all, refl, c); before = can.0 })

-- a chain goes on as its step says
down_goes_on : (above : Above) (slots : Slots) (free last next : ℕ) (rest : List ℕ) → step_down above slots last ≡ Some next → next < free
    → IsDownChain above slots free (last ∷ rest) → (more : List ℕ) × (rest ≡ next ∷ more) × IsDownChain above slots free (next ∷ more)
down_goes_on above slots free last next [] s l c = let stops : free ≤ next = subst (StopsBelow free) s c.1 in absurd (omega arith)
down_goes_on above slots free last next (other ∷ more) s l c =
    let same : other ≡ next = (let k : Some other ≡ Some next = sym c.1 ∙ s in cc) in
    (more, ap (λ x. x ∷ more) same, subst (λ x. IsDownChain above slots free (x ∷ more)) same c.2)

pub walked_down_on : (above : Above) (slots : Slots) (ends : Ends) (last next last' : ℕ) (members members' : List ℕ) → IsWalkedDown above slots ends last members
    → StepsDown above slots ends.free last (Some next) → last' ≡ next → members' ≡ members ++ next ∷ [] → IsWalkedDown above slots ends last' members'
walked_down_on above slots ends last next last' members members' w s is are =
    subst (λ l. IsWalkedDown above slots ends l members') (sym is) (record {
      front = w.front ++ last ∷ [];
      are = are ∙ ap (λ xs. xs ++ next ∷ []) w.are;
      joins = λ rest c. let h = w.joins (next ∷ rest) (w.before, s.0, c) in (h.0, append_assoc w.front (last ∷ []) (next ∷ rest) ∙ h.1, h.2);
      begins = λ all c.
          let h = w.begins all c in
          let g = down_goes_on above slots ends.free last next h.0 s.0 s.2 h.2 in
          (g.0, h.1 ∙ (ap (λ r. w.front ++ last ∷ r) g.1 ∙ sym (append_assoc w.front (last ∷ []) (next ∷ g.0))), g.2);
      before = s.2;
    })

pub record DownFrom (above : Above) (slots : Slots) (ends : Ends) (members : List ℕ) : Type 0 where
  pub rest : List ℕ
  pub are : members ≡ ends.from ∷ rest
  pub follows : IsDownChain above slots ends.free (ends.from ∷ rest)

pub walked_down_end : (above : Above) (slots : Slots) (ends : Ends) (last : ℕ) (members : List ℕ) → IsWalkedDown above slots ends last members
    → (found : Option ℕ) → ((next : ℕ) → found ≡ Some next → ⊥) → StepsDown above slots ends.free last found → DownFrom above slots ends members
walked_down_end above slots ends last members w (Some next) none s = absurd (none next refl)
walked_down_end above slots ends last members w None none s =
    let h = w.joins [] (w.before, s) in record { rest = h.0; are = w.are ∙ h.1; follows = h.2 }

-- no chain has fewer members
pub walked_down_least : (above : Above) (slots : Slots) (ends other : Ends) (last : ℕ) (members : List ℕ) → IsWalkedDown above slots ends last members
    → Some ends ≡ Some other → (rest : List ℕ) → IsDownChain above slots other.free (other.from ∷ rest) → length members ≤ length rest + 1
walked_down_least above slots ends other last members w same rest c =
    let z : ends ≡ other = cc in
    let h = w.begins rest (subst (λ e. IsDownChain above slots e.free (e.from ∷ rest)) (sym z) c) in
    let a = ap length w.are in
    let b = ap length h.1 in
    let d = length-append w.front (last ∷ []) in
    let e = length-append w.front (last ∷ h.0) in
    omega arith

-- the mirror
pub record IsWalkedUp (above : Above) (slots : Slots) (ends : Ends) (last : ℕ) (members : List ℕ) : Type 0 where
  pub front : List ℕ
  pub are : members ≡ front ++ last ∷ []
  pub joins : (rest : List ℕ) → IsUpChain above slots ends.free (last ∷ rest)
      → (all : List ℕ) × (front ++ last ∷ rest ≡ ends.from ∷ all) × IsUpChain above slots ends.free (ends.from ∷ all)
  pub begins : (all : List ℕ) → IsUpChain above slots ends.free (ends.from ∷ all)
      → (rest : List ℕ) × (ends.from ∷ all ≡ front ++ last ∷ rest) × IsUpChain above slots ends.free (last ∷ rest)
  pub after : ends.free < last
  pub inside : last < length slots

pub walked_up_none : (above : Above) (slots : Slots) (ends : Ends) (last : ℕ) (members : List ℕ) → CanGoUp slots ends
    → last ≡ ends.from → members ≡ ends.from ∷ [] → IsWalkedUp above slots ends last members
walked_up_none above slots ends last members can same are =
    subst (λ l. IsWalkedUp above slots ends l members) (sym same)
    (record { front = []; are = are; joins = λ rest c. (rest, refl, c); begins = λ all c. (all, refl, c); after = can.0; inside = slot_inside slots ends.from can.1.0 can.1.1 })

up_goes_on : (above : Above) (slots : Slots) (free last next : ℕ) (rest : List ℕ) → step_up above slots last ≡ Some next → free < next
    → IsUpChain above slots free (last ∷ rest) → (more : List ℕ) × (rest ≡ next ∷ more) × IsUpChain above slots free (next ∷ more)
up_goes_on above slots free last next [] s l c = let stops : next ≤ free = subst (StopsAbove free) s c.1 in absurd (omega arith)
up_goes_on above slots free last next (other ∷ more) s l c =
    let same : other ≡ next = (let k : Some other ≡ Some next = sym c.1 ∙ s in cc) in
    (more, ap (λ x. x ∷ more) same, subst (λ x. IsUpChain above slots free (x ∷ more)) same c.2)

pub walked_up_on : (above : Above) (slots : Slots) (ends : Ends) (last next last' : ℕ) (members members' : List ℕ) → IsWalkedUp above slots ends last members
    → StepsUp above slots ends.free last (Some next) → last' ≡ next → members' ≡ members ++ next ∷ [] → IsWalkedUp above slots ends last' members'
walked_up_on above slots ends last next last' members members' w s is are =
    subst (λ l. IsWalkedUp above slots ends l members') (sym is) (record {
      front = w.front ++ last ∷ [];
      are = are ∙ ap (λ xs. xs ++ next ∷ []) w.are;
      joins = λ rest c. let h = w.joins (next ∷ rest) (w.after, s.0, c) in (h.0, append_assoc w.front (last ∷ []) (next ∷ rest) ∙ h.1, h.2);
      begins = λ all c.
          let h = w.begins all c in
          let g = up_goes_on above slots ends.free last next h.0 s.0 s.2 h.2 in
          (g.0, h.1 ∙ (ap (λ r. w.front ++ last ∷ r) g.1 ∙ sym (append_assoc w.front (last ∷ []) (next ∷ g.0))), g.2);
      after = s.2;
      inside = slot_inside slots next s.3.0 s.3.1;
    })

pub record UpFrom (above : Above) (slots : Slots) (ends : Ends) (members : List ℕ) : Type 0 where
  pub rest : List ℕ
  pub are : members ≡ ends.from ∷ rest
  pub follows : IsUpChain above slots ends.free (ends.from ∷ rest)

pub walked_up_end : (above : Above) (slots : Slots) (ends : Ends) (last : ℕ) (members : List ℕ) → IsWalkedUp above slots ends last members
    → (found : Option ℕ) → ((next : ℕ) → found ≡ Some next → ⊥) → StepsUp above slots ends.free last found → UpFrom above slots ends members
walked_up_end above slots ends last members w (Some next) none s = absurd (none next refl)
walked_up_end above slots ends last members w None none s =
    let h = w.joins [] (w.after, s) in record { rest = h.0; are = w.are ∙ h.1; follows = h.2 }

pub walked_up_least : (above : Above) (slots : Slots) (ends other : Ends) (last : ℕ) (members : List ℕ) → IsWalkedUp above slots ends last members
    → Some ends ≡ Some other → (rest : List ℕ) → IsUpChain above slots other.free (other.from ∷ rest) → length members ≤ length rest + 1
walked_up_least above slots ends other last members w same rest c =
    let z : ends ≡ other = cc in
    let h = w.begins rest (subst (λ e. IsUpChain above slots e.free (e.from ∷ rest)) (sym z) c) in
    let a = ap length w.are in
    let b = ap length h.1 in
    let d = length-append w.front (last ∷ []) in
    let e = length-append w.front (last ∷ h.0) in
    omega arith
