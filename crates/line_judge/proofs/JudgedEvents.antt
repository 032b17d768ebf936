-- Events whose cubes are right leave every key the old or the new answer.
use Rattle.std.proofs.Common.{◌≡◌, ℕ, zero, suc, ◌+◌, ◌<◌, ◌≤◌, List, [], ◌∷◌, ◌++◌, Option, Some, None, Contains, take, drop, replicate, length, slice_set, inl, inr, ◌⊎◌, sym, ◌∙◌, subst, ap, arith, get_or-set_same, get_or-set_other, length-drop}
use Rattle.std.proofs.lemmas.Bool.{cases_eq}
use Rattle.std.proofs.lemmas.List.{get_or-drop, get_or-replicate, get_or-take, length-take, length-replicate}
use Rattle.slot_order.specs.Order.{slot}
use Rattle.slot_order.proofs.Lists.{contains_cases, contains_head, contains_none, contains_tail}
use Rattle.rule_model.specs.declared.Rule.{Rule}
use Rattle.rule_model.specs.declared.words.Entry.{Entry}
use Rattle.tcam_device.specs.declared.Write.TheVariants.{Slot}
use Rattle.tcam_device.specs.State.{State, apply}
use Rattle.word_cubes.specs.declared.Cube.{Cube}
use Rattle.driver_trace.specs.declared.Compared.{Compared}
use Rattle.driver_trace.specs.declared.Asked.TheVariants.{OldOrNew}
use Rattle.driver_trace.specs.Compared.{ShowsOldOrNewBy}
use Rattle.driver_trace.specs.Known.{moved_slots, with_block}
use Rattle.write_judge.specs.Events.{CoversChanges, IsInCubes}
use Rattle.write_judge.specs.Judging.{StateBetween}
use Rattle.write_judge.proofs.Events.{slots_by_cubes}
use Rattle.line_judge.specs.Tracked.{AreRightWhereHit, IsRightWhereHit}
use Rattle.line_judge.proofs.Blocks.{before_block, behind_block, block_cubes, block_size, cases_block, cubes_right, held_in, in_block}

-- what stands in a block is in its cubes
in_cubes : (block : List (Option Entry)) (at : ℕ) (held : Option Entry) → slot block at ≡ held → IsInCubes (block_cubes block) held
in_cubes block at None is = tt
in_cubes block at (Some entry) is = held_in block at entry is

module _ (by : Compared) (state : State) (old new : List Rule) (before : ShowsOldOrNewBy by state old new) where
  -- behind a write of a slot
  module _ (at : ℕ) (content stood : Option Entry) (inside : at < length state.slots) (is : stood ≡ slot state.slots at) where
    abbrev pub after : StateBetween
    after = record { state = apply state (Slot at content); old = old; new = new }

    both_right : IsRightWhereHit by OldOrNew after stood → IsRightWhereHit by OldOrNew after content → AreRightWhereHit by after (stood ∷ content ∷ [])
    both_right one other zero = one
    both_right one other (suc zero) = other
    both_right one other (suc (suc n)) = tt

    covered : CoversChanges (block_cubes (stood ∷ content ∷ [])) state.slots (slice_set state.slots at content)
    covered i = elim (cases_eq i at) [
      | inl same ↦ inr (
        in_cubes (stood ∷ content ∷ []) zero (slot state.slots i) (is ∙ ap (slot state.slots) (sym same)),
        in_cubes (stood ∷ content ∷ []) (suc zero) (slot (slice_set state.slots at content) i)
            (sym (ap (slot (slice_set state.slots at content)) same ∙ get_or-set_same state.slots at content None inside)),
      )
      | inr other ↦ inl (get_or-set_other state.slots at i content None other)
    ]

    pub slot_shows : IsRightWhereHit by OldOrNew after stood → IsRightWhereHit by OldOrNew after content → ShowsOldOrNewBy by (apply state (Slot at content)) old new
    slot_shows one other =
        slots_by_cubes by state (slice_set state.slots at content) old new (block_cubes (stood ∷ content ∷ [])) before covered
        (cubes_right by after (stood ∷ content ∷ []) (both_right one other))

append_cases : (xs ys : List Cube) (x : Cube) → Contains (xs ++ ys) x → Contains xs x ⊎ Contains ys x
append_cases [] ys x member = inr member
append_cases (y ∷ xs) ys x member = elim (contains_cases y x (xs ++ ys) member) [
  | inl same ↦ inl (subst (Contains (y ∷ xs)) same (contains_head y xs))
  | inr later ↦ elim (append_cases xs ys x later) [ inl first ↦ inl (contains_tail y x xs first) | inr second ↦ inr second ]
]

append_left : (xs ys : List Cube) (x : Cube) → Contains xs x → Contains (xs ++ ys) x
append_left [] ys x member = absurd (contains_none x member)
append_left (y ∷ xs) ys x member = elim (contains_cases y x xs member) [
  | inl same ↦ subst (Contains (y ∷ (xs ++ ys))) same (contains_head y (xs ++ ys))
  | inr later ↦ contains_tail y x (xs ++ ys) (append_left xs ys x later)
]

append_right : (xs ys : List Cube) (x : Cube) → Contains ys x → Contains (xs ++ ys) x
append_right [] ys x member = member
append_right (y ∷ xs) ys x member = contains_tail y x (xs ++ ys) (append_right xs ys x member)

in_left : (xs ys : List Cube) (held : Option Entry) → IsInCubes xs held → IsInCubes (xs ++ ys) held
in_left xs ys None is = tt
in_left xs ys (Some entry) is = λ word hit. let found = is word hit in (found.0, append_left xs ys found.0 found.1, found.2)

in_right : (xs ys : List Cube) (held : Option Entry) → IsInCubes ys held → IsInCubes (xs ++ ys) held
in_right xs ys None is = tt
in_right xs ys (Some entry) is = λ word hit. let found = is word hit in (found.0, append_right xs ys found.0 found.1, found.2)

-- behind a block move
module _ (by : Compared) (state : State) (old new : List Rule) (before : ShowsOldOrNewBy by state old new) (from to count : ℕ)
    (within_from : from + count ≤ length state.slots) (within_to : to + count ≤ length state.slots) where
  abbrev pub slots : List (Option Entry)
  slots = state.slots

  abbrev pub moved : List (Option Entry)
  moved = take count (drop from slots)

  abbrev pub gone : List (Option Entry)
  gone = take count (drop to slots)

  abbrev pub empties : List (Option Entry)
  empties = replicate count None

  abbrev pub cubes : List Cube
  cubes = block_cubes moved ++ block_cubes gone

  abbrev pub behind : StateBetween
  behind = record { state = record state { slots = moved_slots slots from to count }; old = old; new = new }

  part_size : (at : ℕ) → at + count ≤ length slots → length (take count (drop at slots)) ≡ count
  part_size at within = simp (length-take, length-drop) (omega arith)

  empties_within : from + length empties ≤ length slots
  empties_within = let size = length-replicate count (let none : Option Entry = None in none) in omega arith

  cleared_size : length (with_block slots from empties) ≡ length slots
  cleared_size = block_size slots from empties empties_within

  moved_within : to + length moved ≤ length (with_block slots from empties)
  moved_within = let size = part_size from within_from in let all = cleared_size in omega arith

  part_at : (at k : ℕ) → k < count → slot (take count (drop at slots)) k ≡ slot slots (at + k)
  part_at at k less = get_or-take count (drop at slots) k None less ∙ get_or-drop at slots k None

  -- where nothing came to
  kept : (i : ℕ) → slot (moved_slots slots from to count) i ≡ slot (with_block slots from empties) i
      → (slot (moved_slots slots from to count) i ≡ slot slots i) ⊎ (IsInCubes cubes (slot slots i) × IsInCubes cubes (slot (moved_slots slots from to count) i))
  kept i same = elim (cases_block slots from empties empties_within i) [
    | inl less ↦ inl (same ∙ before_block slots from empties empties_within i less)
    | inr (inl inside) ↦
        let size = length-replicate count (let none : Option Entry = None in none) in
        let small : inside.0 < count = let less = inside.2 in omega arith in
        let empty : slot (moved_slots slots from to count) i ≡ None =
        same ∙ in_block slots from empties empties_within i inside.0 inside.1 inside.2 ∙ get_or-replicate count inside.0 (let none : Option Entry = None in none) None small in
        let stood : slot moved inside.0 ≡ slot slots i = part_at from inside.0 small ∙ ap (slot slots) (sym inside.1) in
        inr (in_left (block_cubes moved) (block_cubes gone) (slot slots i) (in_cubes moved inside.0 (slot slots i) stood), subst (IsInCubes cubes) (sym empty) tt)
    | inr (inr past) ↦ inl (same ∙ behind_block slots from empties empties_within i past.0 past.1)
  ]

  covered_move : CoversChanges cubes slots (moved_slots slots from to count)
  covered_move i = elim (cases_block (with_block slots from empties) to moved moved_within i) [
    | inl less ↦ kept i (before_block (with_block slots from empties) to moved moved_within i less)
    | inr (inl inside) ↦
        let size = part_size from within_from in
        let small : inside.0 < count = let less = inside.2 in omega arith in
        inr (
          in_right (block_cubes moved) (block_cubes gone) (slot slots i) (in_cubes gone inside.0 (slot slots i) (part_at to inside.0 small ∙ ap (slot slots) (sym inside.1))),
          in_left (block_cubes moved) (block_cubes gone) (slot (moved_slots slots from to count) i)
              (in_cubes moved inside.0 (slot (moved_slots slots from to count) i) (sym (in_block (with_block slots from empties) to moved moved_within i inside.0 inside.1 inside.2))),
        )
    | inr (inr past) ↦ kept i (behind_block (with_block slots from empties) to moved moved_within i past.0 past.1)
  ]

  pub move_shows : AreRightWhereHit by behind moved → AreRightWhereHit by behind gone → ShowsOldOrNewBy by (record state { slots = moved_slots slots from to count }) old new
  move_shows one other =
      slots_by_cubes by state (moved_slots slots from to count) old new cubes before covered_move (λ cube member. elim (append_cases (block_cubes moved) (block_cubes gone) cube member) [
        | inl first ↦ cubes_right by behind moved one cube first
        | inr second ↦ cubes_right by behind gone other cube second
      ])

  pub moved_size : length (moved_slots slots from to count) ≡ length slots
  moved_size = block_size (with_block slots from empties) to moved moved_within ∙ cleared_size
