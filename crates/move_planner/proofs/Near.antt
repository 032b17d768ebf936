-- The free slots on either side of a place, of which two at most are counted.
use Rattle.std.proofs.Common.{◌≡◌, ℕ, zero, suc, ◌+◌, ◌-◌, ◌<◌, ◌≤◌, ◌&&◌, Bool, true, false, Option, None, Some, length, arith, ap}
use Rattle.std.specs.Prelude.{min, is_none, is_some, nat_lt}
use Rattle.std.proofs.lemmas.Bool.{false_from_ne_true, and_parts, and_from, lt-ltb, both_ways}
use Rattle.slot_moves.specs.Cuts.{free_before, free_behind}
use Rattle.slot_moves.proofs.BestCut.{take_none, drop_none, behind_falls}
use Rattle.slot_pool.specs.Arrangement.{Slots, is_free, next_free_above, last_free_below}
use Rattle.slot_pool.proofs.Places.{find_range, find_range_none}
use Rattle.slot_pool.proofs.Scan.{find_back, find_back_none, next_free_is, last_free_is}
use Rattle.move_planner.specs.Boundary.{one}
use Rattle.move_planner.proofs.Tallied.{free_step, free_parts}

-- a search that passes a slot found it taken
not_free : (near : Bool) (slots : Slots) (at : ℕ) → near && is_free slots at ≡ false → near ≡ true → is_free slots at ≡ false
not_free near slots at none is = false_from_ne_true (is_free slots at) (λ e. both_ways _ none (and_from near (is_free slots at) is e))

-- no slot on one side is free
pub none_before : (slots : Slots) (place : ℕ) → place ≤ length slots → last_free_below slots place ≡ None → free_before place slots ≡ 0
none_before slots place inside none = take_none (λ (held : Option ℕ). is_none held) slots place inside (λ at less.
    not_free (nat_lt at place) slots at (find_back_none (λ other. nat_lt other place && is_free slots other) 0 (length slots) none at (omega arith) (omega arith))
    (lt-ltb at place less))

pub none_behind : (slots : Slots) (from place : ℕ) → from ≡ place + 1 → place < length slots → next_free_above slots place ≡ None → free_behind from slots ≡ 0
none_behind slots from place on inside none = drop_none (λ (held : Option ℕ). is_none held) slots from (omega arith) (λ at low high.
    not_free (nat_lt place at) slots at (find_range_none (λ other. nat_lt place other && is_free slots other) 0 (length slots) none at (omega arith) (omega arith))
    (lt-ltb place at (omega arith)))

-- taken slots change no count
taken_between : (slots : Slots) (from more : ℕ) → from + more ≤ length slots → ((k : ℕ) → from ≤ k → k < from + more → is_free slots k ≡ false) → free_behind from slots ≡ free_behind (from + more) slots
taken_between slots from zero inside taken = ap (λ n. free_behind n slots) (let z : from ≡ from + 0 = omega arith in z)
taken_between slots from (suc more) inside taken =
    let rest = taken_between slots (from + 1) more (omega arith) (λ k low high. taken k (omega arith) (omega arith)) in
    let here = free_step slots from (omega arith) in
    let none : one (is_free slots from) ≡ 0 = ap one (taken from (omega arith) (omega arith)) in
    let same : free_behind (from + 1 + more) slots ≡ free_behind (from + suc more) slots = ap (λ n. free_behind n slots) (let z : from + 1 + more ≡ from + suc more = omega arith in z) in
    omega arith

-- one free slot more
pub one_before : (slots : Slots) (place at : ℕ) → place ≤ length slots → last_free_below slots place ≡ Some at → free_before place slots ≡ free_before at slots + 1
one_before slots place at inside is =
    let found = find_back (λ other. nat_lt other place && is_free slots other) 0 (length slots) at is in
    let less = (last_free_is slots place at is).0 in
    let free : one (is_free slots at) ≡ 1 = ap one (and_parts (nat_lt at place) (is_free slots at) found.passing).1 in
    let taken = taken_between slots (at + 1) (place - (at + 1)) (omega arith) (λ k low high.
    not_free (nat_lt k place) slots k (found.none_after k (omega arith) (omega arith)) (lt-ltb k place (omega arith))) in
    let same : free_behind (at + 1 + (place - (at + 1))) slots ≡ free_behind place slots = ap (λ n. free_behind n slots) (let z : at + 1 + (place - (at + 1)) ≡ place = omega arith in z) in
    let here = free_step slots at (omega arith) in
    let a = free_parts slots place in let b = free_parts slots at in omega arith

pub one_behind : (slots : Slots) (from place at : ℕ) → from ≡ place + 1 → next_free_above slots place ≡ Some at → free_behind from slots ≡ free_behind (at + 1) slots + 1
one_behind slots from place at on is =
    let found = find_range (λ other. nat_lt place other && is_free slots other) 0 (length slots) at is in
    let f = next_free_is slots place at is in
    let less = f.0 in let inside = f.1.inside in
    let free : one (is_free slots at) ≡ 1 = ap one (and_parts (nat_lt place at) (is_free slots at) found.passing).1 in
    let taken = taken_between slots from (at - from) (omega arith) (λ k low high.
    not_free (nat_lt place k) slots k (found.none_before k (omega arith) (omega arith)) (lt-ltb place k (omega arith))) in
    let same : free_behind (from + (at - from)) slots ≡ free_behind at slots = ap (λ n. free_behind n slots) (let z : from + (at - from) ≡ at = omega arith in z) in
    let here = free_step slots at inside in omega arith

-- none before another slot
pub none_up_to : (slots : Slots) (place end : ℕ) → place < end → end ≤ length slots → next_free_above slots place ≡ None → free_behind (place + 1) slots ≡ free_behind end slots
none_up_to slots place end less inside none =
    let a = none_behind slots (place + 1) place (omega arith) (omega arith) none in
    let b = behind_falls slots (place + 1) end (omega arith) inside in omega arith

pub next_past : (slots : Slots) (place end at : ℕ) → place < end → end ≤ at → next_free_above slots place ≡ Some at → free_behind (place + 1) slots ≡ free_behind end slots
next_past slots place end at less past is =
    let found = find_range (λ other. nat_lt place other && is_free slots other) 0 (length slots) at is in
    let inside = (next_free_is slots place at is).1.inside in
    let taken = taken_between slots (place + 1) (end - (place + 1)) (omega arith) (λ k low high.
    not_free (nat_lt place k) slots k (found.none_before k (omega arith) (omega arith)) (lt-ltb place k (omega arith))) in
    let same : free_behind (place + 1 + (end - (place + 1))) slots ≡ free_behind end slots = ap (λ n. free_behind n slots) (let z : place + 1 + (end - (place + 1)) ≡ end = omega arith in z) in
    omega arith

-- two at most
pub two_before : (slots : Slots) (place at : ℕ) (found : Option ℕ) → place ≤ length slots → last_free_below slots place ≡ Some at → last_free_below slots at ≡ found
    → 1 + one (is_some found) ≡ min 2 (free_before place slots)
two_before slots place at None inside is none =
    let less = (last_free_is slots place at is).0 in
    let a = one_before slots place at inside is in let b = none_before slots at (omega arith) none in omega arith
two_before slots place at (Some other) inside is more =
    let less = (last_free_is slots place at is).0 in
    let a = one_before slots place at inside is in let b = one_before slots at other (omega arith) more in omega arith

pub two_behind : (slots : Slots) (from place at : ℕ) (found : Option ℕ) → from ≡ place + 1 → next_free_above slots place ≡ Some at → next_free_above slots at ≡ found
    → 1 + one (is_some found) ≡ min 2 (free_behind from slots)
two_behind slots from place at None on is none =
    let inside = (next_free_is slots place at is).1.inside in
    let a = one_behind slots from place at on is in
    let b = none_behind slots (at + 1) at (omega arith) inside none in omega arith
two_behind slots from place at (Some other) on is more =
    let a = one_behind slots from place at on is in
    let b = one_behind slots (at + 1) at other (omega arith) more in omega arith
