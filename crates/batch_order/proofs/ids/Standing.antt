-- Ids that stand in slots: where each is, also once others are erased, and the writes that go there.
use Rattle.std.proofs.Common.{◌≡◌, ◌≢◌, ℕ, ◌+◌, ◌<◌, true, false, Option, Some, None, IsSome, List, [], ◌∷◌, ◌++◌, Contains, length, map, take, set, get_or, arith, refl, ap, subst, sym, ◌∙◌, append_assoc, eqb-true, eq-eqb}
use Rattle.std.specs.Prelude.{unwrap_or, ◌==◌, nat_eq}
use Rattle.std.specs.List.{AllByRecursion, IsDistinct}
use Rattle.std.proofs.lemmas.List.Sums.{fold-append}
use Rattle.slot_order.specs.Order.{slot}
use Rattle.slot_order.proofs.Lists.{contains_head, contains_tail}
use Rattle.slot_order.proofs.Writes.{slot_other, slot_inside}
use Rattle.slot_pool.specs.Arrangement.{Slots, home_of, passes}
use Rattle.slot_pool.proofs.Places.{find_range_none, first_slot_is}
use Rattle.placement.proofs.Live.{all_apart}
use Rattle.tcam_device.specs.declared.Write.{Write}
use Rattle.commit_writes.specs.PlannedBatch.{home_slot, erased_slots}
use Rattle.batch_order.specs.Planning.{IsStanding}
use Rattle.batch_order.proofs.arranged.Walked.{map_next}

-- an id's slot is one of the arrangement's
pub home_inside : (slots : Slots) (id at : ℕ) → home_of slots id ≡ Some at → at < length slots
home_inside slots id at is = let inside : at < 0 + length slots = (first_slot_is (λ held. held == id) slots at is).inside in omega arith

pub home_is : (slots : Slots) (id at : ℕ) → home_of slots id ≡ Some at → home_slot slots id ≡ at
home_is slots id at is = ap (λ found. unwrap_or found 0) is

-- there it stands
pub home_at : (slots : Slots) (id at : ℕ) → home_of slots id ≡ Some at → slot slots at ≡ Some id
home_at slots id at is = go (slot slots at) (first_slot_is (λ held. held == id) slots at is).passing
  where
    go : (found : Option ℕ) → passes (λ held. held == id) found ≡ true → found ≡ Some id
    go None bad = absurd (cc)
    go (Some held) same = ap Some (eqb-true held id same)

-- what stands in some slot has a home
pub stands_at : (slots : Slots) (id at : ℕ) → slot slots at ≡ Some id → IsStanding slots id
stands_at slots id at is = go (home_of slots id) refl
  where
    go : (found : Option ℕ) → home_of slots id ≡ found → IsSome (home_of slots id)
    go (Some first) e = subst IsSome (sym e) refl
    go None e =
        let inside : at < length slots = slot_inside slots at id is in
        let test = λ (place : ℕ). passes (λ held. held == id) (slot slots place) in
        let miss : test at ≡ false = find_range_none test 0 (length slots) e at (omega arith) (omega arith) in
        let hit : test at ≡ true = ap (passes (λ held. held == id)) is ∙ eq-eqb id id refl in
        absurd (let bad : true ≡ false = sym hit ∙ miss in cc)

has_home : (slots : Slots) (id : ℕ) → IsStanding slots id → (at : ℕ) × (home_of slots id ≡ Some at)
has_home slots id stands = go (home_of slots id) refl stands
  where
    go : (found : Option ℕ) → home_of slots id ≡ found → IsSome found → (at : ℕ) × (home_of slots id ≡ Some at)
    go (Some at) e some = (at, e)
    go None e some = absurd (cc)

-- with another id erased an id stands still
still_one : (slots : Slots) (other id : ℕ) → IsStanding slots other → (other ≡ id → ⊥) → IsStanding slots id → IsStanding (set slots (home_slot slots other) None) id
still_one slots other id other_stands apart stands =
    let (at, is) = has_home slots id stands in
    let (erased, was) = has_home slots other other_stands in
    let away : at ≢ erased = λ same.
    let there : slot slots erased ≡ Some other = home_at slots other erased was in
    let here : slot slots erased ≡ Some id = subst (λ n. slot slots n ≡ Some id) same (home_at slots id at is) in
    let both : Some other ≡ Some id = sym there ∙ here in
    apart (cc) in
    subst (λ n. IsStanding (set slots n None) id) (sym (home_is slots other erased was))
    (stands_at (set slots erased None) id at (slot_other slots erased None at away ∙ home_at slots id at is))

-- and with some others erased
pub stands_still : (slots : Slots) (ids : List ℕ) (id : ℕ) → AllByRecursion (IsStanding slots) ids → IsDistinct nat_eq ids → (Contains ids id → ⊥) → IsStanding slots id
    → IsStanding (erased_slots slots ids) id
unfolding IsDistinct
stands_still slots [] id all apart out stands = stands
stands_still slots (other ∷ ids) id all apart out stands =
    stands_still (set slots (home_slot slots other) None) ids id (each ids all.1 (λ one member same. all_apart other ids apart.0 (subst (Contains ids) (sym same) member))) apart.1
    (λ member. out (contains_tail other id ids member)) (still_one slots other id all.0 (λ same. out (subst (Contains (other ∷ ids)) same (contains_head other ids))) stands)
  where
    each : (some : List ℕ) → AllByRecursion (IsStanding slots) some → ((one : ℕ) → Contains some one → other ≡ one → ⊥) → AllByRecursion (IsStanding (set slots (home_slot slots other) None)) some
    each [] standing differs = tt
    each (one ∷ some) standing differs =
        (still_one slots other one all.0 (differs one (contains_head one some)) standing.0, each some standing.1 (λ last member. differs last (contains_tail one last some member)))

-- one more is erased
pub erased_next : (slots : Slots) (ids : List ℕ) (id : ℕ) → erased_slots slots (ids ++ id ∷ []) ≡ set (erased_slots slots ids) (home_slot (erased_slots slots ids) id) None
erased_next slots ids id = fold-append (λ now other. set now (home_slot now other) None) slots ids (id ∷ [])

-- the writes of the first items, and one more
pub write_next : {A : Type 0} (f : A → Write) (xs : List A) (place : ℕ) (x : A) (write : Write) (before now now' : List Write) → place < length xs → get_or xs place x ≡ x → f x ≡ write
    → now ≡ before ++ map f (take place xs) → now' ≡ now ++ write ∷ [] → now' ≡ before ++ map f (take (place + 1) xs)
write_next f xs place x write before now now' within is one was more =
    more ∙ ap (λ some. some ++ write ∷ []) was ∙ append_assoc before (map f (take place xs)) (write ∷ [])
    ∙ ap (λ last. before ++ (map f (take place xs) ++ last ∷ [])) (sym one)
    ∙ ap (λ some. before ++ some) (sym (map_next f xs place x within is))
