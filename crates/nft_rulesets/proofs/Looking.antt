-- How many members and items there are.
use Rattle.std.proofs.Common.{◌≡◌, ℕ, suc, ◌+◌, ◌==◌, None, List, [], ◌∷◌, length, refl, sym, ap, ◌∙◌, arith, Vec}
use Rattle.std.specs.Borrow.{Bor}
use Rattle.json.specs.Value.{value_view, items_view, members_view}
use Rattle.json.specs.declared.value.Value.{Value, Array, Object}
use Rattle.json.proofs.Trees.{view-Array, view-Object}
use Rattle.nft_rulesets.specs.Looks.{has_members, member_count, only_member, only_pair, pair_in, sole}

one-more : (n : ℕ) → n + 1 ≡ suc n
one-more n = omega arith

count-is : {A : Type 0} → (ms : List (Bor (List ℕ) × Value A)) → member_count (members_view ms) ≡ length ms
count-is [] = refl
count-is (m ∷ ms) = ap (λ (n : ℕ). n + 1) (count-is ms) ∙ one-more (length ms)

pub has-of : {A : Type 0} → (value : Value A) (members : Vec (Bor (List ℕ) × Value A) A) (n count : ℕ) → value ≡ Object members → n ≡ length members.items
    → (n == count) ≡ has_members count (value_view value)
has-of value members n count is all =
    ap (λ (k : ℕ). k == count) (all ∙ sym (count-is members.items))
    ∙ sym (ap (λ v. has_members count (value_view v)) is ∙ ap (has_members count) (view-Object members))

not-one : {A : Type 0} → (ms : List (Bor (List ℕ) × Value A)) → (length ms ≡ 1 → ⊥) → only_member (members_view ms) ≡ None
not-one [] other = refl
not-one (m ∷ []) other = absurd (other refl)
not-one (m ∷ (k ∷ ms)) other = refl

pub not-sole : {A : Type 0} → (value : Value A) (members : Vec (Bor (List ℕ) × Value A) A) (n : ℕ) → value ≡ Object members → n ≡ length members.items → (n ≡ 1 → ⊥)
    → sole (value_view value) ≡ None
not-sole value members n is all other =
    ap (λ v. sole (value_view v)) is
    ∙ ap sole (view-Object members)
    ∙ not-one members.items (λ one. other (all ∙ one))

not-two : {A : Type 0} → (vs : List (Value A)) → (length vs ≡ 2 → ⊥) → only_pair (items_view vs) ≡ None
not-two [] other = refl
not-two (a ∷ []) other = refl
not-two (a ∷ (b ∷ [])) other = absurd (other refl)
not-two (a ∷ (b ∷ (c ∷ vs))) other = refl

pub not-pair : {A : Type 0} → (value : Value A) (items : Vec (Value A) A) (n : ℕ) → value ≡ Array items → n ≡ length items.items → (n ≡ 2 → ⊥)
    → pair_in (value_view value) ≡ None
not-pair value items n is all other =
    ap (λ v. pair_in (value_view v)) is
    ∙ ap pair_in (view-Array items)
    ∙ not-two items.items (λ two. other (all ∙ two))
