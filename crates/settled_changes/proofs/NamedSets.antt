-- Sets of the priorities that requests name.
use Rattle.std.proofs.Common.{◌≡◌, ℕ, Bool, true, false, ◌||◌, cond, Equal, Greater, List, [], ◌∷◌, ◌++◌, refl, sym, ap, ◌∙◌, arith, inl, inr, ltb-true}
use Rattle.std.specs.Prelude.{nat_eq, nat_lt}
use Rattle.std.specs.List.{list_any}
use Rattle.std.specs.Ordering.{nat_cmp, is_eq}
use Rattle.std.specs.BTreeSet.{BTreeSet, Updates, contains}
use Rattle.std.proofs.lemmas.Bool.{cases_Bool, cond-true, cond-false, ne_eqb}
use Rattle.std.proofs.lemmas.List.Elements.{filter-append}
use Rattle.std.proofs.lemmas.List.Folds.{list_any-append}
use Rattle.settled_changes.specs.declared.Request.{Request}
use Rattle.settled_changes.specs.Requests.{asked_priority, requests_naming}

-- two numbers compare equal exactly where they are
compares : (a b : ℕ) → is_eq (nat_cmp a b) ≡ nat_eq a b
compares a b = elim (cases_Bool (nat_lt a b)) [
  | inl lower ↦
      let below = ltb-true a b lower in
      ap is_eq (cond-true _ _ _ lower) ∙ sym (ne_eqb a b (λ same. absurd (omega arith)))
  | inr other ↦ ap is_eq (cond-false _ _ _ other) ∙ either (nat_eq a b)
]
  where
    either : (test : Bool) → is_eq (cond test Equal Greater) ≡ test
    either true = refl
    either false = refl

-- what a set has with one priority more
pub with-named : (old new : BTreeSet ℕ) (named priority : ℕ) → Updates nat_cmp old new named true → contains nat_cmp new priority ≡ cond (nat_eq named priority) true (contains nat_cmp old priority)
with-named old new named priority updates = updates.0 priority ∙ ap (λ test. cond test true (contains nat_cmp old priority)) (compares named priority)

-- an empty one has none
pub none-in : (set : BTreeSet ℕ) (priority : ℕ) → set.keys ≡ [] → contains nat_cmp set priority ≡ false
none-in set priority empty = rw empty refl

-- whether some request at a priority passes a test, with one request more
asked-more : (test : Request → Bool) (done : List Request) (request : Request) (priority : ℕ)
    → list_any test (requests_naming priority (done ++ request ∷ [])) ≡ (list_any test (requests_naming priority done) || cond (nat_eq (asked_priority request) priority) (test request) false)
asked-more test done request priority =
    ap (list_any test) (filter-append (λ (one : Request). nat_eq (asked_priority one) priority) done (request ∷ []))
    ∙ list_any-append test (requests_naming priority done) (requests_naming priority (request ∷ []))
    ∙ ap (λ last. list_any test (requests_naming priority done) || last) (one (nat_eq (asked_priority request) priority) (test request) refl)
  where
    or_none : (passes : Bool) → (passes || false) ≡ passes
    or_none true = refl
    or_none false = refl

    one : (names passes : Bool) → test request ≡ passes → list_any test (cond names (request ∷ []) []) ≡ cond names (test request) false
    one true passes is = or_none (test request)
    one false passes is = refl

-- one more that passes stands in the set,
pub asked-passes : (test : Request → Bool) (done : List Request) (request : Request) (priority : ℕ) (old new : BTreeSet ℕ) → test request ≡ true
    → ((some : ℕ) → contains nat_cmp old some ≡ list_any test (requests_naming some done)) → Updates nat_cmp old new (asked_priority request) true
    → contains nat_cmp new priority ≡ list_any test (requests_naming priority (done ++ request ∷ []))
asked-passes test done request priority old new passes were updates =
    with-named old new (asked_priority request) priority updates
    ∙ ap (cond (nat_eq (asked_priority request) priority) true) (were priority)
    ∙ either (nat_eq (asked_priority request) priority) (list_any test (requests_naming priority done))
    ∙ ap (λ one. list_any test (requests_naming priority done) || cond (nat_eq (asked_priority request) priority) one false) (sym passes)
    ∙ sym (asked-more test done request priority)
  where
    either : (names before : Bool) → cond names true before ≡ (before || cond names true false)
    either true true = refl
    either true false = refl
    either false true = refl
    either false false = refl

-- and one that doesn't leaves it as it was
pub asked-fails : (test : Request → Bool) (done : List Request) (request : Request) (priority : ℕ) (set : BTreeSet ℕ) → test request ≡ false
    → ((some : ℕ) → contains nat_cmp set some ≡ list_any test (requests_naming some done))
    → contains nat_cmp set priority ≡ list_any test (requests_naming priority (done ++ request ∷ []))
asked-fails test done request priority set fails were =
    were priority
    ∙ sym (asked-more test done request priority
    ∙ ap (λ one. list_any test (requests_naming priority done) || cond (nat_eq (asked_priority request) priority) one false) fails
    ∙ either (nat_eq (asked_priority request) priority) (list_any test (requests_naming priority done)))
  where
    either : (names before : Bool) → (before || cond names false false) ≡ before
    either true true = refl
    either true false = refl
    either false true = refl
    either false false = refl
