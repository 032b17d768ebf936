-- Which slots are free, as marks kept beside the slots, and what a search of these marks finds.
use Rattle.std.proofs.Common.{◌≡◌, ℕ, zero, suc, ◌+◌, ◌<◌, ◌≤◌, ◌&&◌, Bool, true, false, List, ◌∷◌, Option, None, Some, length, map, replicate, arith, refl, sym, ◌∙◌, subst, ap}
use Rattle.std.specs.Prelude.{cond, slice_set, slice_index_or, is_none, nat_le, nat_lt}
use Rattle.std.specs.List.{count_by}
use Rattle.std.proofs.lemmas.Bool.{and_from, and_parts, lt-ltb, le-leb, ltb-true, leb-true, false_from_ne_true}
use Rattle.std.proofs.lemmas.List.{get_or-map, map-set}
use Rattle.std.proofs.lemmas.List.Folds.{fold-map}
use Rattle.word_tree.specs.Marks.{IsNextSet, IsLastSet, IsNearestSet}
use Rattle.slot_pool.specs.Arrangement.{Slots, is_free, is_free_within, IsFirstFree, nearest_free, next_free_above, last_free_below}
use Rattle.slot_pool.proofs.Finds.{found_nearest, nearest_none}
use Rattle.slot_pool.proofs.Searches.{next_found, next_none, last_found, last_none}

-- the marks of the free slots
abbrev pub free_marks : Slots → List Bool
free_marks slots = map (λ held. is_none held) slots

mark_is : (slots : Slots) (k : ℕ) → k < length slots → slice_index_or (free_marks slots) k false ≡ is_free slots k
mark_is slots k inside = get_or-map (λ held. is_none held) slots k None false inside

free_from : (slots : Slots) (k : ℕ) → k < length slots → slice_index_or (free_marks slots) k false ≡ true → is_free slots k ≡ true
free_from slots k inside marked = sym (mark_is slots k inside) ∙ marked

taken_from : (slots : Slots) (k : ℕ) → k < length slots → slice_index_or (free_marks slots) k false ≡ false → is_free slots k ≡ false
taken_from slots k inside unmarked = sym (mark_is slots k inside) ∙ unmarked

pub next_is : (slots : Slots) (place : ℕ) (found : Option ℕ) → IsNextSet (free_marks slots) (place + 1) (length slots) found → next_free_above slots place ≡ found
next_is slots place None none = next_none slots place (λ k low high. taken_from slots k high (none k (omega arith) high))
next_is slots place (Some at) is =
    let low : place + 1 ≤ at = is.0 in
    let high : at < length slots = is.1 in
    next_found slots place at (omega arith) high (free_from slots at high is.2) (λ k above below. taken_from slots k (omega arith) (is.3 k (omega arith) below))

pub first_is : (slots : Slots) (from to : ℕ) (found : Option ℕ) → to ≤ length slots → IsNextSet (free_marks slots) from to found → IsFirstFree slots from to found
first_is slots from to None inside none = λ k low high. taken_from slots k (omega arith) (none k low high)
first_is slots from to (Some at) inside is =
    let high : at < to = is.1 in
    (is.0, high, free_from slots at (omega arith) is.2, λ k above below. taken_from slots k (omega arith) (is.3 k above below))

pub last_is : (slots : Slots) (place : ℕ) (found : Option ℕ) → place < length slots → IsLastSet (free_marks slots) 0 place found → last_free_below slots place ≡ found
last_is slots place None inside none = last_none slots place (λ k high. taken_from slots k (omega arith) (none k (omega arith) high))
last_is slots place (Some at) inside is =
    let high : at < place = is.1 in
    last_found slots place at high inside (free_from slots at (omega arith) is.2) (λ k above below. taken_from slots k (omega arith) (is.3 k above below))

-- a slot is free within the range exactly where it lies there and is marked
pub record IsWithin (slots : Slots) (from to k : ℕ) : Type 0 where
  pub low : from ≤ k
  pub high : k < to
  pub free : is_free slots k ≡ true

within_is : (slots : Slots) (from to k : ℕ) → is_free_within slots from to k ≡ true → IsWithin slots from to k
within_is slots from to k all =
    let p = and_parts (nat_le from k && nat_lt k to) (is_free slots k) all in
    let q = and_parts (nat_le from k) (nat_lt k to) p.0 in
    record { low = leb-true from k q.0; high = ltb-true k to q.1; free = p.1 }

within_true : (slots : Slots) (from to k : ℕ) → from ≤ k → k < to → is_free slots k ≡ true → is_free_within slots from to k ≡ true
within_true slots from to k low high free = and_from (nat_le from k && nat_lt k to) (is_free slots k) (and_from (nat_le from k) (nat_lt k to) (le-leb from k low) (lt-ltb k to high)) free

pub nearest_is : (slots : Slots) (from to mid : ℕ) (found : Option ℕ) → to ≤ length slots → IsNearestSet (free_marks slots) from to mid found → nearest_free slots from to mid ≡ found
nearest_is slots from to mid None room none =
    nearest_none mid (λ place. is_free_within slots from to place) 0 (length slots) (λ j a b. false_from_ne_true (is_free_within slots from to j) (λ all.
    let h = within_is slots from to j all in
    let no : is_free slots j ≡ false = taken_from slots j (omega arith) (none j h.low h.high) in
    let yes : is_free slots j ≡ true = h.free in
    absurd (cc)))
nearest_is slots from to mid (Some at) room is =
    let low : from ≤ at = is.0 in
    let high : at < to = is.1 in
    found_nearest mid (λ place. is_free_within slots from to place) 0 (length slots) at record {
      low = omega arith;
      inside = omega arith;
      passing = within_true slots from to at low high (free_from slots at (omega arith) is.2);
      least = λ j a b all.
          let h = within_is slots from to j all in
          is.3 j h.low h.high (mark_is slots j (omega arith) ∙ h.free);
    }

-- at first every slot is empty
pub all_free : (size : ℕ) → free_marks (replicate size None) ≡ replicate size true
all_free zero = refl
all_free (suc size) = ap (λ marks. true ∷ marks) (all_free size)

-- the marks of the free slots, where one slot is taken or left
pub one_marked : (slots : Slots) {after : Slots} {free free' : List Bool} (at : ℕ) (held : Option ℕ) → free ≡ free_marks slots → after ≡ slice_set slots at held → free' ≡ slice_set free at (is_none held)
    → free' ≡ free_marks after
one_marked slots at held are is marked =
    marked ∙ (ap (λ marks. slice_set marks at (is_none held)) are ∙ (sym (map-set (λ held. is_none held) slots at held) ∙ sym (ap free_marks is)))

-- what holds of two lists holds of their equals
pub of_equals : {A B : Type 0} (R : A → B → Type 0) {a a' : A} {b b' : B} → a' ≡ a → b' ≡ b → R a b → R a' b'
of_equals R {a} {a'} {b} {b'} first second holds = subst (λ x. R x b') (sym first) (subst (λ y. R a y) (sym second) holds)

-- as many are marked as are free
pub many_free : (slots : Slots) → count_by (λ mark. mark) (free_marks slots) ≡ count_by (λ held. is_none held) slots
many_free slots = fold-map (λ (count : ℕ) (mark : Bool). count + cond {A = ℕ} mark 1 0) (λ held. is_none held) 0 slots
