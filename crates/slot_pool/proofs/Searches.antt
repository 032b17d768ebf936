-- What each search of an arrangement answers, from what its walk has seen.
use Rattle.std.proofs.Common.{◌≡◌, ℕ, ◌<◌, ◌==◌, ◌&&◌, Bool, true, false, None, Some, length, arith}
use Rattle.std.specs.Prelude.{nat_lt}
use Rattle.std.proofs.lemmas.Bool.{and_parts, and_from, lt-ltb, ltb-true, false_from_ne_true}
use Rattle.slot_order.specs.Order.{slot}
use Rattle.slot_pool.specs.Arrangement.{Slots, passes, is_free, home_of, next_free_above, last_free_below}
use Rattle.slot_pool.proofs.Finds.{found_first, found_none, found_last, found_none_back}

-- a place that passes isn't one that doesn't
never : (test : Bool) (other : Bool) → (test ≡ true → other ≡ false) → test && other ≡ false
never test other is = false_from_ne_true (test && other) (λ both. let p = and_parts test other both in let k : other ≡ false = is p.0 in let w = p.1 in cc)

pub home_found : (slots : Slots) (id at : ℕ) → at < length slots → passes (λ held. held == id) (slot slots at) ≡ true
    → ((k : ℕ) → k < at → passes (λ held. held == id) (slot slots k) ≡ false) → home_of slots id ≡ Some at
home_found slots id at inside holds none =
    found_first (λ place. passes (λ held. held == id) (slot slots place)) 0 (length slots) at
    record { low = omega arith; inside = omega arith; passing = holds; none_before = λ j a b. none j b }

pub home_none : (slots : Slots) (id : ℕ) → ((k : ℕ) → k < length slots → passes (λ held. held == id) (slot slots k) ≡ false) → home_of slots id ≡ None
home_none slots id none = found_none (λ place. passes (λ held. held == id) (slot slots place)) 0 (length slots) (λ j a b. none j (omega arith))

pub next_found : (slots : Slots) (place at : ℕ) → place < at → at < length slots → is_free slots at ≡ true
    → ((k : ℕ) → place < k → k < at → is_free slots k ≡ false) → next_free_above slots place ≡ Some at
next_found slots place at above inside free none =
    found_first (λ other. nat_lt place other && is_free slots other) 0 (length slots) at record {
      low = omega arith;
      inside = omega arith;
      passing = and_from (nat_lt place at) (is_free slots at) (lt-ltb place at above) free;
      none_before = λ j a b. never (nat_lt place j) (is_free slots j) (λ k. none j (ltb-true place j k) b);
    }

pub next_none : (slots : Slots) (place : ℕ) → ((k : ℕ) → place < k → k < length slots → is_free slots k ≡ false) → next_free_above slots place ≡ None
next_none slots place none =
    found_none (λ other. nat_lt place other && is_free slots other) 0 (length slots)
    (λ j a b. never (nat_lt place j) (is_free slots j) (λ k. none j (ltb-true place j k) (omega arith)))

pub last_found : (slots : Slots) (place at : ℕ) → at < place → place < length slots → is_free slots at ≡ true
    → ((k : ℕ) → at < k → k < place → is_free slots k ≡ false) → last_free_below slots place ≡ Some at
last_found slots place at below inside free none =
    found_last (λ other. nat_lt other place && is_free slots other) 0 (length slots) at record {
      low = omega arith;
      inside = omega arith;
      passing = and_from (nat_lt at place) (is_free slots at) (lt-ltb at place below) free;
      none_after = λ j a b. never (nat_lt j place) (is_free slots j) (λ k. none j a (ltb-true j place k));
    }

pub last_none : (slots : Slots) (place : ℕ) → ((k : ℕ) → k < place → is_free slots k ≡ false) → last_free_below slots place ≡ None
last_none slots place none =
    found_none_back (λ other. nat_lt other place && is_free slots other) 0 (length slots)
    (λ j a b. never (nat_lt j place) (is_free slots j) (λ k. none j (ltb-true j place k)))
