-- The pairs that a block's nodes stand for, as one node gets other ends.
use Rattle.std.proofs.Common.{◌≡◌, ◌≢◌, ℕ, suc, ◌+◌, ◌*◌, ◌<◌, ◌≤◌, cond, eqb, List, [], ◌∷◌, ◌++◌, length, get_or, set, map, replicate, Option, Some, None, refl, sym, ap, ◌∙◌, subst, inl, inr, Contains, arith, ne_eqb, get_or-set_same, get_or-set_other, length-set, ext_get_or}
use Rattle.std.specs.Prelude.{is_none, is_some, count_by}
use Rattle.std.proofs.lemmas.Bool.{cases_Bool, cases_eq, cond-true, cond-false, eqb-false}
use Rattle.std.proofs.lemmas.List.{length-map, get_or-map}
use Rattle.std.proofs.lemmas.List.Elements.{Contains-get_or}
use Rattle.std.proofs.lemmas.List.Sums.{sum_by-set, sum_by-append, sum_by-cons}
use Rattle.std.proofs.lemmas.List.Folds.{sum_by-replicate}
use Rattle.order_chains.specs.declared.node.Node.{Node}
use Rattle.order_chains.specs.Nodes.{no_node}
use Rattle.order_chains.specs.Pairs.{Pair, pair_of, upper_at, lower_at}

-- the pair of two ends
abbrev pub pair : ℕ → ℕ → ℕ → Option Pair
pair ids u l = cond (eqb u ids) None (Some (u, l))

pub at_place : (ids : ℕ) (ns : List Node) (k : ℕ) → k < length ns → get_or (map (pair_of ids) ns) k None ≡ pair ids (upper_at ns k) (lower_at ns k)
at_place ids ns k l = get_or-map (pair_of ids) ns k no_node None l

pub pair_free : (ids u l : ℕ) → u ≡ ids → pair ids u l ≡ None
pair_free ids u l e = elim (cases_Bool (eqb u ids)) [ inl t ↦ cond-true _ _ _ t | inr f ↦ absurd (eqb-false _ _ f e) ]

pub pair_taken : (ids u l : ℕ) → u ≢ ids → pair ids u l ≡ Some (u, l)
pair_taken ids u l n = cond-false _ _ _ (ne_eqb _ _ n)

pub free_of : (ids u l : ℕ) → pair ids u l ≡ None → u ≡ ids
free_of ids u l e = elim (cases_eq u ids) [ inl f ↦ f | inr n ↦ absurd (let k : Some (u, l) ≡ None = sym (pair_taken ids u l n) ∙ e in cc) ]

-- a pair that no place holds isn't that of any node
pub other_pair : (ids : ℕ) (ns : List Node) (k u l : ℕ) → k < length ns → (Contains (map (pair_of ids) ns) (Some (u, l)) → ⊥) → u < ids → upper_at ns k ≡ u → lower_at ns k ≡ l → ⊥
other_pair ids ns k u l inside absent small e f =
    let m = length-map ns (pair_of ids) in
    absent (subst (Contains (map (pair_of ids) ns)) (at_place ids ns k inside ∙ ap (λ z. pair ids z (lower_at ns k)) e ∙ ap (pair ids u) f ∙ pair_taken ids u l (λ z. absurd (omega arith)))
    (Contains-get_or (map (pair_of ids) ns) k None (omega arith)))

-- all nodes but one keep their ends
pub one_changed : (ids : ℕ) (ns ms : List Node) (at : ℕ) (held : Option Pair) → length ms ≡ length ns → at < length ns → pair ids (upper_at ms at) (lower_at ms at) ≡ held
    → ((k : ℕ) → k ≢ at → upper_at ms k ≡ upper_at ns k) → ((k : ℕ) → k ≢ at → lower_at ms k ≡ lower_at ns k) → map (pair_of ids) ms ≡ set (map (pair_of ids) ns) at held
one_changed ids ns ms at held same inside here uppers lowers =
    let a = length-map ms (pair_of ids) in
    let b = length-map ns (pair_of ids) in
    let c = length-set (map (pair_of ids) ns) at held in
    ext_get_or None (map (pair_of ids) ms) (set (map (pair_of ids) ns) at held) (omega arith) (λ k l. let lm : k < length ms = omega arith in elim (cases_eq k at) [
      | inl e ↦ ap (λ z. get_or (map (pair_of ids) ms) z None) e ∙ at_place ids ms at (omega arith) ∙ here ∙ sym (ap (λ z. get_or (set (map (pair_of ids) ns) at held) z None) e ∙ get_or-set_same (map (pair_of ids) ns) at held None (omega arith))
      | inr n ↦ at_place ids ms k lm ∙ ap (λ z. pair ids z (lower_at ms k)) (uppers k n) ∙ ap (pair ids (upper_at ns k)) (lowers k n) ∙ sym (get_or-set_other (map (pair_of ids) ns) at k held None n ∙ at_place ids ns k (omega arith))
    ])

pub none_changed : (ids : ℕ) (ns ms : List Node) → length ms ≡ length ns → ((k : ℕ) → upper_at ms k ≡ upper_at ns k) → ((k : ℕ) → lower_at ms k ≡ lower_at ns k) → map (pair_of ids) ms ≡ map (pair_of ids) ns
none_changed ids ns ms same uppers lowers =
    let a = length-map ms (pair_of ids) in
    let b = length-map ns (pair_of ids) in
    ext_get_or None (map (pair_of ids) ms) (map (pair_of ids) ns) (omega arith)
    (λ k l. at_place ids ms k (omega arith) ∙ ap (λ z. pair ids z (lower_at ms k)) (uppers k) ∙ ap (pair ids (upper_at ns k)) (lowers k) ∙ sym (at_place ids ns k (omega arith)))

abbrev one : Option Pair → ℕ
one c = cond (is_none c) 1 0

count_none : (xs : List (Option Pair)) → count_by is_none (None ∷ xs) ≡ 1 + count_by is_none xs
count_none xs = sum_by-cons one None xs

count_some : (p : Pair) (xs : List (Option Pair)) → count_by is_none (Some p ∷ xs) ≡ 0 + count_by is_none xs
count_some p xs = sum_by-cons one (Some p) xs

-- where some place is empty
pub empty_place : (xs : List (Option Pair)) → 1 ≤ count_by is_none xs → (k : ℕ) × (k < length xs) × (get_or xs k None ≡ None)
empty_place [] l = absurd (omega arith)
empty_place (None ∷ xs) l = (0, omega arith, refl)
empty_place (Some x ∷ xs) l = let r = empty_place xs (let e = count_some x xs in omega arith) in (suc r.0, (let i = r.1 in omega arith), r.2)

-- a write counts
pub count_filled : (xs : List (Option Pair)) (k : ℕ) (p : Pair) → k < length xs → get_or xs k None ≡ None → count_by is_none (set xs k (Some p)) + 1 ≡ count_by is_none xs
count_filled xs k p l e =
    let s : count_by is_none (set xs k (Some p)) + one (get_or xs k None) ≡ count_by is_none xs + 0 = sum_by-set one xs k (Some p) None l in
    let g : one (get_or xs k None) ≡ 1 = ap one e in
    omega arith

pub count_emptied : (xs : List (Option Pair)) (k : ℕ) (p : Pair) → k < length xs → get_or xs k None ≡ Some p → count_by is_none (set xs k None) ≡ count_by is_none xs + 1
count_emptied xs k p l e =
    let s : count_by is_none (set xs k None) + one (get_or xs k None) ≡ count_by is_none xs + 1 = sum_by-set one xs k None None l in
    let g : one (get_or xs k None) ≡ 0 = ap one e in
    omega arith

pub count_more : (xs : List (Option Pair)) (n : ℕ) → count_by is_none (xs ++ replicate n None) ≡ count_by is_none xs + n
count_more xs n =
    let s : count_by is_none (xs ++ replicate n None) ≡ count_by is_none xs + count_by is_none (replicate {A = Option Pair} n None) = sum_by-append one xs (replicate n None) in
    let r : count_by is_none (replicate {A = Option Pair} n None) ≡ n * 1 = sum_by-replicate one n None in
    omega arith

abbrev other : Option Pair → ℕ
other c = cond (is_some c) 1 0

-- each place is empty or holds a pair
pub count_both : (xs : List (Option Pair)) → count_by is_some xs + count_by is_none xs ≡ length xs
count_both [] = refl
count_both (None ∷ xs) = let r = count_both xs in let e = count_none xs in let f : count_by is_some (None ∷ xs) ≡ 0 + count_by is_some xs = sum_by-cons other None xs in omega arith
count_both (Some x ∷ xs) = let r = count_both xs in let e = count_some x xs in let f : count_by is_some (Some x ∷ xs) ≡ 1 + count_by is_some xs = sum_by-cons other (Some x) xs in omega arith
