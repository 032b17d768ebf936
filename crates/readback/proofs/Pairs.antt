-- Twins among the first slots of a list.
use Rattle.std.proofs.Common.{◌≡◌, ℕ, ◌+◌, ◌<◌, ◌≤◌, Bool, true, false, Option, Some, None, List, IsTrue, IsFalse, nat_eq, is_some, length, inl, inr, refl, sym, ◌∙◌, ap, subst, arith}
use Rattle.std.proofs.lemmas.Bool.{cases_eq, cases_order, eqb-true, eq-eqb}
use Rattle.slot_order.specs.Order.{slot}
use Rattle.slot_order.proofs.Writes.{slot_inside}
use Rattle.rule_model.specs.declared.words.Entry.{Entry}
use Rattle.rule_model.specs.Entry.{same_match}
use Rattle.tcam_device.specs.Order.{AreAlike, IsTwin, HasOneTwin}
use Rattle.readback.specs.Fault.{IsOneTooMany}
use Rattle.readback.specs.Stage.{IsTwinSlot}
use Rattle.readback.proofs.Matches.{match_sym, match_trans}

-- what holds below a place and there holds below the next one
pub below_next : (P : ℕ → Type 0) (n : ℕ) → ((k : ℕ) → k < n → P k) → P n → (k : ℕ) → k < n + 1 → P k
below_next P n below here k less = elim (cases_eq k n) [
  | inl same ↦ subst P (sym same) here
  | inr other ↦ below k (omega arith)
]

-- of the slots before a place this one alone is a twin, or none is
abbrev pub AreTwinsBelow : List (Option Entry) → ℕ → Option ℕ → Type 0
AreTwinsBelow held n None = (k : ℕ) → k < n → IsTwin held k → ⊥
AreTwinsBelow held n (Some twin) = (twin < n) × IsTwin held twin × ((k : ℕ) → k < n → IsTwin held k → k ≡ twin)

-- and its result is the other's
pub record IsWalked (held : List (Option Entry)) (n : ℕ) (twin : Option ℕ) : Type 0 where
  pub twins : AreTwinsBelow held n twin
  pub equal : (k : ℕ) → k < n → (lesser : ℕ) (alike : AreAlike held lesser k) → alike.first.result ≡ alike.second.result

-- a slot that is no twin
pub walked_on : (held : List (Option Entry)) (n : ℕ) (twin : Option ℕ) → IsWalked held n twin → ((lesser : ℕ) → AreAlike held lesser n → ⊥) → IsWalked held (n + 1) twin
walked_on held n twin walked none = record {
  twins = go twin walked.twins;
  equal = below_next (λ k. (lesser : ℕ) (alike : AreAlike held lesser k) → alike.first.result ≡ alike.second.result) n walked.equal (λ lesser alike. absurd (none lesser alike));
}
  where
    go : (twin : Option ℕ) → AreTwinsBelow held n twin → AreTwinsBelow held (n + 1) twin
    go None below = below_next (λ k. IsTwin held k → ⊥) n below (λ is. none is.0 is.1)
    go (Some at) (less, is, one) = (omega arith, is, below_next (λ k. IsTwin held k → k ≡ at) n one (λ is. absurd (none is.0 is.1)))

-- two slots that hold the entry of one slot behind them hold one entry: the greater is a twin
lesser_twin : (held : List (Option Entry)) (a b n : ℕ) → a < b → AreAlike held a n → AreAlike held b n → IsTwin held b
lesser_twin held a b n less x y = (
  a,
  record {
    less = less;
    first = x.first;
    second = y.first;
    here = x.here;
    there = y.here;
    same = joined x.second y.second (let e : Some x.second ≡ Some y.second = sym x.there ∙ y.there in cc) x.same y.same;
  },
)
  where
    joined : (u v : Entry) → u ≡ v → IsTrue (same_match x.first u) → IsTrue (same_match y.first v) → IsTrue (same_match x.first y.first)
    joined u v same p q = match_trans x.first u y.first p (match_sym y.first u (subst (λ z. IsTrue (same_match y.first z)) (sym same) q))

-- the first slot that is a twin, whose result is the other's
pub walked_first : (held : List (Option Entry)) (n lesser : ℕ) → IsWalked held n None → (alike : AreAlike held lesser n) → alike.first.result ≡ alike.second.result → IsWalked held (n + 1) (Some n)
walked_first held n lesser walked alike same = record {
  twins = (omega arith, (lesser, alike), below_next (λ k. IsTwin held k → k ≡ n) n (λ k less is. absurd (walked.twins k less is)) (λ is. refl));
  equal = below_next (λ k. (low : ℕ) (other : AreAlike held low k) → other.first.result ≡ other.second.result) n walked.equal one;
}
  where
    one : (low : ℕ) (other : AreAlike held low n) → other.first.result ≡ other.second.result
    one low other = elim (cases_order low lesser) [
      | inl k ↦
          let first : Some other.first ≡ Some alike.first = sym other.here ∙ (ap (slot held) k ∙ alike.here) in
          let second : Some other.second ≡ Some alike.second = sym other.there ∙ alike.there in
          let a : other.first ≡ alike.first = cc in
          let b : other.second ≡ alike.second = cc in
          ap (λ (e : Entry). e.result) a ∙ (same ∙ ap (λ (e : Entry). e.result) (sym b))
      | inr o ↦ absurd (elim o [
        | inl less ↦ let in_range = alike.less in walked.twins lesser (omega arith) (lesser_twin held low lesser n less other alike)
        | inr more ↦ let in_range = other.less in walked.twins low (omega arith) (lesser_twin held lesser low n more alike other)
      ])
    ]

-- once all slots are looked at
pub walked_all : (held : List (Option Entry)) (n : ℕ) (twin : Option ℕ) → length held ≤ n → IsWalked held n twin → HasOneTwin held × IsTwinSlot held twin
walked_all held n twin all walked = (
  record { one = λ a b is_a is_b. one twin walked.twins a b is_a is_b; equal = λ lesser at alike. walked.equal at (inside at (lesser, alike)) lesser alike },
  slot_of twin walked.twins,
)
  where
    inside : (at : ℕ) → IsTwin held at → at < n
    inside at is = let w = is.1 in let within = slot_inside held at w.second w.there in omega arith

    one : (twin : Option ℕ) → AreTwinsBelow held n twin → (a b : ℕ) → IsTwin held a → IsTwin held b → a ≡ b
    one None none a b is_a is_b = absurd (none a (inside a is_a) is_a)
    one (Some at) (less, is, only) a b is_a is_b = only a (inside a is_a) is_a ∙ sym (only b (inside b is_b) is_b)

    slot_of : (twin : Option ℕ) → AreTwinsBelow held n twin → IsTwinSlot held twin
    slot_of None none = λ at is. none at (inside at is) is
    slot_of (Some at) (less, is, only) = is

-- a second twin is one too many, and so is one with another result
pub second_twin : (held : List (Option Entry)) (n lesser at : ℕ) → IsWalked held n (Some at) → AreAlike held lesser n → IsOneTooMany held n
second_twin held n lesser at walked alike = inr ((lesser, alike), (at, walked.twins.1, walked.twins.0))

pub too_many : (held : List (Option Entry)) (n lesser : ℕ) (twin : Option ℕ) → IsWalked held n twin → IsTrue (is_some twin) → AreAlike held lesser n → IsOneTooMany held n
too_many held n lesser None walked bad alike = absurd (let wrong : false ≡ true = bad in cc)
too_many held n lesser (Some at) walked is alike = second_twin held n lesser at walked alike

pub other_result : (held : List (Option Entry)) (n lesser : ℕ) (alike : AreAlike held lesser n) (equal : Bool) → equal ≡ nat_eq alike.first.result alike.second.result → IsFalse equal → IsOneTooMany held n
other_result held n lesser alike equal is fails =
    inl (lesser, alike, λ same. let found : nat_eq alike.first.result alike.second.result ≡ true = eq-eqb alike.first.result alike.second.result same in let wrong : false ≡ true = sym fails ∙ (is ∙ found) in absurd (cc))

-- the first twin
pub first_twin : (held : List (Option Entry)) (n lesser : ℕ) (twin : Option ℕ) (alike : AreAlike held lesser n) (equal : Bool) → IsWalked held n twin → IsFalse (is_some twin)
    → equal ≡ nat_eq alike.first.result alike.second.result → IsTrue equal → IsWalked held (n + 1) (Some n)
first_twin held n lesser None alike equal walked none is same = walked_first held n lesser walked alike (eqb-true alike.first.result alike.second.result (sym is ∙ same))
first_twin held n lesser (Some at) alike equal walked bad is same = absurd (let wrong : true ≡ false = bad in cc)
