-- The last part of an insertion, over any entries.
use Rattle.std.proofs.Common.{◌≡◌, ℕ, suc, ◌+◌, ◌<◌, ◌≤◌, Option, None, Some, List, [], ◌∷◌, length, arith, inl, inr, subst, set}
use Rattle.slot_order.specs.Order.{slot, Ordered}
use Rattle.slot_order.specs.Chains.{applied, Along, BoundsMemberChains}
use Rattle.slot_moves.specs.Moves.{Downwards, Upwards, IsMoveChain, chain_moves, IsFloor, IsCeiling}
use Rattle.slot_moves.proofs.Chains.{chain_keeps}
use Rattle.slot_moves.proofs.Turns.{Plus, new_keeps, new_over_keeps, new_over_keeps_up}
use Rattle.slot_order.proofs.Lists.{contains_cases, contains_none}
use Rattle.slot_moves.proofs.Count.{chain_bound, length-chain_moves, up_chain_bound}

-- the new entry's own write, to a free slot of the gap, or over the first of a chain that moves before it
pub data IsEnd {E : Type 0} (over : E → E → Type 0) (tag : E → ℕ) (slots : List (Option E)) (entry : E) : List (ℕ × Option E) → ℕ → Type 0 where
  onto_free : (floor ceiling at : ℕ) → IsFloor over tag slots entry floor → IsCeiling over tag slots entry ceiling
      → floor ≤ at → at < ceiling → at < length slots → slot slots at ≡ None → IsEnd over tag slots entry [] at
  over_down : (floor ceiling free : ℕ) (rest : List ℕ) (lower : E) → IsFloor over tag slots entry floor → IsCeiling over tag slots entry ceiling
      → floor ≤ ceiling → slot slots ceiling ≡ Some lower → over entry lower → tag lower < tag entry
      → free < length slots → slot slots free ≡ None → IsMoveChain Downwards over tag slots free ceiling rest
      → IsEnd over tag slots entry (chain_moves slots free ceiling rest) ceiling
  over_up : (last ceiling free : ℕ) (rest : List ℕ) (upper : E) → IsFloor over tag slots entry (suc last) → IsCeiling over tag slots entry ceiling
      → last < ceiling → slot slots last ≡ Some upper → over entry upper → tag entry < tag upper
      → free < length slots → slot slots free ≡ None → IsMoveChain Upwards over tag slots free last rest
      → IsEnd over tag slots entry (chain_moves slots free last rest) last

pub record EndKeeps {E : Type 0} (over : E → E → Type 0) (tag : E → ℕ) (P Q : E → Type 0) (slots : List (Option E)) (entry : E) (front : List (ℕ × Option E)) (place : ℕ) : Type 0 where
  pub along : Along (Ordered over tag P) slots front
  pub done : Ordered over tag (Plus P entry) (set (applied slots front) place (Some entry))
  pub small : (m : ℕ) → BoundsMemberChains over tag Q m → length front + 1 ≤ m

pub end_keeps : {E : Type 0} (over : E → E → Type 0) (tag : E → ℕ) (P Q : E → Type 0) (slots : List (Option E)) (entry : E) (front : List (ℕ × Option E)) (place : ℕ)
    → ((x y : E) → over x y → over y x) → Ordered over tag P slots → ((x : E) → P x → Q x) → Q entry → IsEnd over tag slots entry front place
    → EndKeeps over tag P Q slots entry front place
end_keeps {E} over tag P Q slots entry front place mirror o up here (onto_free l u at floor ceiling a b inside free) = record {
  along = o;
  done = new_keeps over tag P slots entry l u at mirror o floor ceiling a b inside free;
  small = λ m bound. bound (entry ∷ []) (λ x i. elim (contains_cases entry x [] i) [ inl k ↦ subst Q k here | inr n ↦ absurd (contains_none x n) ]) tt;
}
end_keeps {E} over tag P Q slots entry front place mirror o up here (over_down l u free rest lower floor ceiling a stands meets less inside empty chain) =
    let c = chain_keeps Downwards over tag P slots free u rest lower mirror o inside empty stands chain in
    record {
      along = c.0;
      done = new_over_keeps over tag P slots (applied slots (chain_moves slots free u rest)) entry lower l u mirror floor ceiling a c.1 less;
      small = λ m bound. chain_bound over tag P Q slots free u m rest entry lower o stands chain meets less up here bound;
    }
end_keeps {E} over tag P Q slots entry front place mirror o up here (over_up l u free rest upper floor ceiling a stands meets more inside empty chain) =
    let c = chain_keeps Upwards over tag P slots free l rest upper mirror o inside empty stands chain in
    record {
      along = c.0;
      done = new_over_keeps_up over tag P slots (applied slots (chain_moves slots free l rest)) entry upper l u mirror floor ceiling a c.1 more;
      small = λ m bound.
          let b : length rest + length (upper ∷ entry ∷ []) ≤ m =
          up_chain_bound over tag P Q slots free l m rest upper (entry ∷ []) mirror o stands chain (mirror entry upper meets, more, tt)
          (λ z i. elim (contains_cases upper z (entry ∷ []) i) [
            | inl k ↦ subst Q k (up upper (o.within l upper stands))
            | inr y ↦ elim (contains_cases entry z [] y) [ inl k ↦ subst Q k here | inr y2 ↦ absurd (contains_none z y2) ]
          ]) up bound in
          let n = length-chain_moves slots free l rest in omega arith;
    }
