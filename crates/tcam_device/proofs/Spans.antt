-- Insertions one after the other: what they make, their greatest span, and the wide bound from the tight one.
use Rattle.std.proofs.Common.{◌≡◌, ℕ, ◌+◌, ◌*◌, ◌≤◌, max, List, [], ◌∷◌, ◌++◌, length, Contains, arith, inl, inr, refl, sym, ◌∙◌, subst, ap, append_assoc}
use Rattle.std.proofs.lemmas.Bool.{cases_lt}
use Rattle.std.specs.List.{AllByRecursion}
use Rattle.slot_order.proofs.Lists.{contains_head, contains_tail, contains_cases, contains_none}
use Rattle.tcam_device.specs.declared.Write.{Write}
use Rattle.tcam_device.specs.State.{State, apply, state_after}
use Rattle.tcam_device.specs.Insertion.{Insertion, insertions, IsCrossingSpan, IsGreatestSpan, IsWithinBound, IsWithinTightBound}

-- these writes are those of these insertions, whatever comes after them
abbrev pub Makes : State → List Write → List Insertion → Type 0
Makes state writes made = (more : List Write) → insertions state (writes ++ more) ≡ made ++ insertions (state_after state writes) more

pub state_after-append : (state : State) (a b : List Write) → state_after state (a ++ b) ≡ state_after (state_after state a) b
state_after-append state [] b = refl
state_after-append state (w ∷ a) b = state_after-append (apply state w) a b

pub Makes-append : (state : State) (a b : List Write) (xs ys : List Insertion) → Makes state a xs → Makes (state_after state a) b ys → Makes state (a ++ b) (xs ++ ys)
Makes-append state a b xs ys f g more =
    ap (insertions state) (append_assoc a b more) ∙ (f (b ++ more) ∙ (ap (λ zs. xs ++ zs) (g more) ∙ (sym (append_assoc xs ys (insertions (state_after (state_after state a) b) more))
    ∙ ap (λ s. (xs ++ ys) ++ insertions s more) (sym (state_after-append state a b)))))

all_wider : {X : Type 0} (P Q : X → Type 0) (xs : List X) → ((x : X) → P x → Q x) → AllByRecursion P xs → AllByRecursion Q xs
all_wider P Q [] f a = tt
all_wider P Q (x ∷ xs) f a = (f x a.0, all_wider P Q xs f a.1)

all_push : {X : Type 0} (P : X → Type 0) (xs : List X) (x : X) → AllByRecursion P xs → P x → AllByRecursion P (xs ++ x ∷ [])
all_push P [] x a p = (p, tt)
all_push P (y ∷ xs) x a p = (a.0, all_push P xs x a.1 p)

contains_front : {X : Type 0} (xs ys : List X) (x : X) → Contains xs x → Contains (xs ++ ys) x
contains_front [] ys x c = absurd (contains_none x c)
contains_front (y ∷ xs) ys x c = elim (contains_cases y x xs c) [
  | inl k ↦ subst (λ z. Contains (y ∷ (xs ++ ys)) z) k (contains_head y (xs ++ ys))
  | inr k ↦ contains_tail y x (xs ++ ys) (contains_front xs ys x k)
]

contains_last : {X : Type 0} (xs : List X) (x : X) → Contains (xs ++ x ∷ []) x
contains_last [] x = contains_head x []
contains_last (y ∷ xs) x = contains_tail y x (xs ++ x ∷ []) (contains_last xs x)

-- one insertion more
pub greatest_push : (made : List Insertion) (one : Insertion) (span own : ℕ) → IsGreatestSpan made span → IsCrossingSpan one.before one.entry own
    → IsGreatestSpan (made ++ one ∷ []) (max span own)
greatest_push made one span own g c = record {
  no_less = all_push (λ i. (own : ℕ) × IsCrossingSpan i.before i.entry own × (own ≤ max span own')) made one
      (all_wider (λ i. (own : ℕ) × IsCrossingSpan i.before i.entry own × (own ≤ span)) (λ i. (own : ℕ) × IsCrossingSpan i.before i.entry own × (own ≤ max span own')) made
      (λ i w. (w.0, w.1, (let l = w.2 in omega arith))) g.no_less)
      (own, c, omega arith);
  no_more = elim (cases_lt span own) [
    | inl l ↦ let e : own ≡ max span own = omega arith in
        inr (one, contains_last made one, subst (IsCrossingSpan one.before one.entry) e c)
    | inr l ↦ let e : span ≡ max span own = omega arith in
        elim g.no_more [
          | inl z ↦ inl (omega arith)
          | inr w ↦ inr (w.0, contains_front made (one ∷ []) w.0 w.1, subst (IsCrossingSpan w.0.before w.0.entry) e w.2)
        ]
  ];
}
  where
    own' : ℕ
    own' = own

pub wide_from_tight : (m : ℕ) (made : List Insertion) → IsWithinTightBound m made → IsWithinBound m made
wide_from_tight m made all =
    all_wider (λ i. (span : ℕ) × IsCrossingSpan i.before i.entry span × (length i.writes ≤ m * (1 + span)))
    (λ i. (span : ℕ) × IsCrossingSpan i.before i.entry span × (length i.writes ≤ 1 + 2 * m * (1 + span))) made
    (λ i w. (w.0, w.1, (let l = w.2 in wider m (1 + w.0) (length i.writes) l))) all
  where
    wider : (m c n : ℕ) → n ≤ m * c → n ≤ 1 + 2 * m * c
    wider m c n l = grind arith
