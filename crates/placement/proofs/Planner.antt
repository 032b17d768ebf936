-- What the planner's own proof needs: one chain, one slot next to a boundary, and slot_order's words from its test alone.
use Rattle.std.proofs.Common.{◌≡◌, ℕ, ◌<◌, ◌≤◌, Bool, IsTrue, Option, Some, List, [], ◌∷◌, arith, inl, inr, ◌⊎◌, refl, sym, ◌∙◌, subst}
use Rattle.std.proofs.lemmas.Bool.{cases_lt, both_ways}
use Rattle.slot_pool.specs.Arrangement.{Slots}
use Rattle.placement.specs.Placement.{Above, StopsBelow, StopsAbove, IsDownChain, IsUpChain, DownChain, UpChain, IsLastBefore, IsFirstFrom}
use Rattle.placement.proofs.Chain.{Reads}

-- the first slot of a chain is on this side of the free one
pub starts_below : (above : Above) (slots : Slots) (free from : ℕ) (rest : List ℕ) → IsDownChain above slots free (from ∷ rest) → from < free
starts_below above slots free from [] chain = chain.0
starts_below above slots free from (next ∷ rest) chain = chain.0

pub starts_above : (above : Above) (slots : Slots) (free from : ℕ) (rest : List ℕ) → IsUpChain above slots free (from ∷ rest) → free < from
starts_above above slots free from [] chain = chain.0
starts_above above slots free from (next ∷ rest) chain = chain.0

-- a chain that ends doesn't go on
ends_below : (above : Above) (slots : Slots) (free from next : ℕ) (rest : List ℕ) → IsDownChain above slots free (from ∷ []) → IsDownChain above slots free (from ∷ next ∷ rest) → ⊥
ends_below above slots free from next rest short long =
    let a : free ≤ next = subst (StopsBelow free) long.1 short.1 in
    let b = starts_below above slots free next rest long.2 in omega arith

ends_above : (above : Above) (slots : Slots) (free from next : ℕ) (rest : List ℕ) → IsUpChain above slots free (from ∷ []) → IsUpChain above slots free (from ∷ next ∷ rest) → ⊥
ends_above above slots free from next rest short long =
    let a : next ≤ free = subst (StopsAbove free) long.1 short.1 in
    let b = starts_above above slots free next rest long.2 in omega arith

-- where a chain starts and where it goes determine it
pub down_alone : (above : Above) (slots : Slots) (free from : ℕ) (a b : List ℕ) → IsDownChain above slots free (from ∷ a) → IsDownChain above slots free (from ∷ b) → a ≡ b
down_alone above slots free from [] [] x y = refl
down_alone above slots free from [] (next ∷ b) x y = absurd (ends_below above slots free from next b x y)
down_alone above slots free from (next ∷ a) [] x y = absurd (ends_below above slots free from next a y x)
down_alone above slots free from (next ∷ a) (other ∷ b) x y =
    let same : next ≡ other = (let k : Some next ≡ Some other = sym x.1 ∙ y.1 in cc) in
    let k = down_alone above slots free next a b x.2 (subst (λ z. IsDownChain above slots free (z ∷ b)) (sym same) y.2) in
    cc

pub up_alone : (above : Above) (slots : Slots) (free from : ℕ) (a b : List ℕ) → IsUpChain above slots free (from ∷ a) → IsUpChain above slots free (from ∷ b) → a ≡ b
up_alone above slots free from [] [] x y = refl
up_alone above slots free from [] (next ∷ b) x y = absurd (ends_above above slots free from next b x y)
up_alone above slots free from (next ∷ a) [] x y = absurd (ends_above above slots free from next a y x)
up_alone above slots free from (next ∷ a) (other ∷ b) x y =
    let same : next ≡ other = (let k : Some next ≡ Some other = sym x.1 ∙ y.1 in cc) in
    let k = up_alone above slots free next a b x.2 (subst (λ z. IsUpChain above slots free (z ∷ b)) (sym same) y.2) in
    cc

-- so do the slot and the target
pub down_one : (above : Above) (slots : Slots) (from : ℕ) (target : Option ℕ) (a b : DownChain above slots from target) → a.rest ≡ b.rest
down_one above slots from target a b =
    let same : a.free ≡ b.free = (let k : Some a.free ≡ Some b.free = sym a.to ∙ b.to in cc) in
    down_alone above slots b.free from a.rest b.rest (subst (λ f. IsDownChain above slots f (from ∷ a.rest)) same a.chain) b.chain

pub up_one : (above : Above) (slots : Slots) (from : ℕ) (target : Option ℕ) (a b : UpChain above slots from target) → a.rest ≡ b.rest
up_one above slots from target a b =
    let same : a.free ≡ b.free = (let k : Some a.free ≡ Some b.free = sym a.to ∙ b.to in cc) in
    up_alone above slots b.free from a.rest b.rest (subst (λ f. IsUpChain above slots f (from ∷ a.rest)) same a.chain) b.chain

-- one slot is the last before a boundary, and one the first from it on
pub last_alone : (test : ℕ → Bool) (cut : ℕ) (slots : Slots) (a b : ℕ) → IsLastBefore test cut slots a → IsLastBefore test cut slots b → a ≡ b
last_alone test cut slots a b x y = elim (cases_lt a b) [
  | inl l ↦ absurd (both_ways _ (x.nearest b l y.inside) y.passing)
  | inr l ↦ elim (cases_lt b a) [ inl m ↦ absurd (both_ways _ (y.nearest a m x.inside) x.passing) | inr m ↦ omega arith ]
]

pub first_alone : (test : ℕ → Bool) (cut : ℕ) (slots : Slots) (a b : ℕ) → IsFirstFrom test cut slots a → IsFirstFrom test cut slots b → a ≡ b
first_alone test cut slots a b x y = elim (cases_lt a b) [
  | inl l ↦ absurd (both_ways _ (y.nearest a x.inside l) x.passing)
  | inr l ↦ elim (cases_lt b a) [ inl m ↦ absurd (both_ways _ (x.nearest b y.inside m) y.passing) | inr m ↦ omega arith ]
]

-- some ranks fall wherever an id is above another
abbrev pub IsRanked : Above → (ℕ → ℕ) → Type 0
IsRanked above rank = (a b : ℕ) → IsTrue (above a b) → rank b < rank a

-- one of the two is above the other
abbrev pub Related : Above → ℕ → ℕ → Type 0
Related above a b = IsTrue (above a b) ⊎ IsTrue (above b a)

pub ranked_reads : (above : Above) (rank : ℕ → ℕ) (Known : ℕ → Type 0) → IsRanked above rank → Reads (Related above) rank Known above
ranked_reads above rank Known ranked = record {
  says = λ a b ka kb e. (inl e, ranked a b e);
  told = λ a b ka kb v l. elim v [ inl e ↦ e | inr e ↦ absurd (let k = ranked b a e in omega arith) ];
  mirror = λ a b v. elim v [ inl e ↦ inr e | inr e ↦ inl e ];
}
