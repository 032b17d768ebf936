-- What a turn changes for a test of what stands in a slot, where all entries of its chain are alike.
use Rattle.std.proofs.Common.{◌≡◌, ◌≢◌, ℕ, ◌<◌, Bool, true, false, Option, None, List, [], ◌∷◌, length, set, arith, inl, inr, sym, ◌∙◌, subst, ap, length-set}
use Rattle.std.proofs.lemmas.Bool.{cases_eq}
use Rattle.slot_order.specs.Order.{slot}
use Rattle.slot_order.specs.Chains.{applied}
use Rattle.slot_moves.specs.Moves.{chain_moves}
use Rattle.slot_order.proofs.Writes.{slot_same, slot_other}
use Rattle.slot_moves.proofs.Chains.{applied_push}
use Rattle.slot_moves.proofs.Tally.{Moved}

-- a fact of the first slot and of each later one
abbrev pub Each : (ℕ → Type 0) → ℕ → List ℕ → Type 0
Each Fact s [] = Fact s
Each Fact s (t ∷ rest) = Fact s × Each Fact t rest

pub each_first : (Fact : ℕ → Type 0) (s : ℕ) (rest : List ℕ) → Each Fact s rest → Fact s
each_first Fact s [] c = c
each_first Fact s (t ∷ rest) c = c.0

-- the slot of a member, which isn't the free one, and what the test says of what stands there
pub record IsAlike {E : Type 0} (p : Option E → Bool) (v : Bool) (d : List (Option E)) (f m : ℕ) : Type 0 where
  pub apart : m ≢ f
  pub inside : m < length d
  pub says : p (slot d m) ≡ v

-- the test says the same of each slot but the free one
pub record IsShown {E : Type 0} (p : Option E → Bool) (v : Bool) (d b : List (Option E)) (f : ℕ) : Type 0 where
  pub size : length b ≡ length d
  pub there : p (slot b f) ≡ v
  pub others : (i : ℕ) → i ≢ f → p (slot b i) ≡ p (slot d i)

pub chain_shown : {E : Type 0} (p : Option E → Bool) (v : Bool) (d : List (Option E)) (f s : ℕ) (rest : List ℕ) → f < length d
    → Each (IsAlike p v d f) s rest → IsShown p v d (applied d (chain_moves d f s rest)) f
chain_shown p v d f s [] room c = record {
  size = length-set d f (slot d s);
  there = ap p (slot_same d f (slot d s) room) ∙ c.says;
  others = λ i n. ap p (slot_other d f (slot d s) i n);
}
chain_shown {E} p v d f s (t ∷ rest) room c =
    let h = chain_shown p v d f t rest room c.1 in
    let b = applied d (chain_moves d f t rest) in
    let q = each_first (IsAlike p v d f) t rest c.1 in
    let w = c.0 in
    let size = h.size in
    let within = q.inside in
    let inside : t < length b = omega arith in
    subst (λ z. IsShown p v d z f) (sym (applied_push d (chain_moves d f t rest) (t, slot d s))) record {
      size = length-set b t (slot d s) ∙ h.size;
      there = ap p (slot_other b t (slot d s) f (λ k. q.apart (sym k))) ∙ h.there;
      others = λ i n. elim (cases_eq i t) [
        | inl k ↦ ap (λ z. p (slot (set b t (slot d s)) z)) k ∙ (ap p (slot_same b t (slot d s) inside) ∙ (w.says ∙ (sym q.says ∙ ap (λ z. p (slot d z)) (sym k))))
        | inr k ↦ ap p (slot_other b t (slot d s) i k) ∙ h.others i n
      ];
    }

-- the chain's first slot is erased: the test's entries stand at the free slot in its place
pub turn_moves_one : {E : Type 0} (p : Option E → Bool) (d : List (Option E)) (f s : ℕ) (rest : List ℕ) → f < length d → slot d f ≡ None → p None ≡ false
    → Each (IsAlike p true d f) s rest → Moved p d (set (applied d (chain_moves d f s rest)) s None) s f
turn_moves_one p d f s rest room free none c =
    let h = chain_shown p true d f s rest room c in
    let b = applied d (chain_moves d f s rest) in
    let q = each_first (IsAlike p true d f) s rest c in
    let size = h.size in
    let within = q.inside in
    let inside : s < length b = omega arith in
    record {
      size = length-set b s None ∙ h.size;
      here = q.says;
      gone = ap p (slot_same b s None inside) ∙ none;
      empty = ap p free ∙ none;
      there = ap p (slot_other b s None f (λ k. q.apart (sym k))) ∙ h.there;
      others = λ i n m. sym (ap p (slot_other b s None i n) ∙ h.others i m);
    }

-- and what tells empty slots has the first one in place of the free one
pub turn_frees_one : {E : Type 0} (p : Option E → Bool) (d : List (Option E)) (f s : ℕ) (rest : List ℕ) → f < length d → slot d f ≡ None → p None ≡ true
    → Each (IsAlike p false d f) s rest → Moved p (set (applied d (chain_moves d f s rest)) s None) d s f
turn_frees_one p d f s rest room free none c =
    let h = chain_shown p false d f s rest room c in
    let b = applied d (chain_moves d f s rest) in
    let q = each_first (IsAlike p false d f) s rest c in
    let size = h.size in
    let within = q.inside in
    let inside : s < length b = omega arith in
    record {
      size = sym (length-set b s None ∙ h.size);
      here = ap p (slot_same b s None inside) ∙ none;
      gone = q.says;
      empty = ap p (slot_other b s None f (λ k. q.apart (sym k))) ∙ h.there;
      there = ap p free ∙ none;
      others = λ i n m. ap p (slot_other b s None i n) ∙ h.others i m;
    }

-- and a test that is of no entry of the chain sees no difference
pub turn_keeps_others : {E : Type 0} (p : Option E → Bool) (d : List (Option E)) (f s : ℕ) (rest : List ℕ) → f < length d → slot d f ≡ None → p None ≡ false
    → Each (IsAlike p false d f) s rest → (i : ℕ) → p (slot d i) ≡ p (slot (set (applied d (chain_moves d f s rest)) s None) i)
turn_keeps_others p d f s rest room free none c i =
    let h = chain_shown p false d f s rest room c in
    let b = applied d (chain_moves d f s rest) in
    let q = each_first (IsAlike p false d f) s rest c in
    let size = h.size in
    let within = q.inside in
    let inside : s < length b = omega arith in
    elim (cases_eq i s) [
      | inl k ↦ ap (λ z. p (slot d z)) k ∙ (q.says ∙ (sym none ∙ (sym (ap p (slot_same b s None inside)) ∙ ap (λ z. p (slot (set b s None) z)) (sym k))))
      | inr k ↦ elim (cases_eq i f) [
        | inl e ↦ ap (λ z. p (slot d z)) e ∙ (ap p free ∙ (none ∙ (sym h.there ∙ (ap (λ z. p (slot b z)) (sym e) ∙ sym (ap p (slot_other b s None i k))))))
        | inr e ↦ sym (ap p (slot_other b s None i k) ∙ h.others i e)
      ]
    ]
