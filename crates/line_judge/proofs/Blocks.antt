-- Blocks of slots that are judged, and that move.
use Rattle.std.proofs.Common.{◌≡◌, ℕ, zero, suc, ◌+◌, ◌-◌, ◌<◌, ◌≤◌, min, IsTrue, List, [], ◌∷◌, ◌++◌, Option, Some, None, Contains, take, drop, length, get_or, inl, inr, ◌⊎◌, sym, ◌∙◌, subst, ap, arith, length-append, length-drop}
use Rattle.std.proofs.lemmas.Bool.{cases_eq, cases_lt}
use Rattle.std.proofs.lemmas.List.{get_or_append_left, get_or-append-add, get_or_default, get_or-drop, get_or_past, get_or-take, length-take}
use Rattle.slot_order.proofs.Lists.{contains_cases, contains_head, contains_none, contains_tail}
use Rattle.slot_order.specs.Order.{slot}
use Rattle.rule_model.specs.declared.words.Word.{Word}
use Rattle.rule_model.specs.declared.words.Entry.{Entry}
use Rattle.rule_model.specs.Entry.{hits}
use Rattle.word_cubes.specs.declared.Cube.{Cube}
use Rattle.word_cubes.specs.Cube.{cube_holds}
use Rattle.driver_trace.specs.declared.Compared.{Compared}
use Rattle.driver_trace.specs.declared.Asked.TheVariants.{OldOrNew}
use Rattle.driver_trace.specs.Known.{with_block}
use Rattle.write_judge.specs.Judging.{IsRightIn, StateBetween}
use Rattle.line_judge.specs.Tracked.{AreRightWhereHit, IsRightWhereHit, entry_cube}

module _ (by : Compared) (now : StateBetween) (block : List (Option Entry)) where
  abbrev pub IsRight : Option Entry → Type 0
  IsRight held = IsRightWhereHit by OldOrNew now held

  pub block_more : (i : ℕ) (held : Option Entry) → i < length block → held ≡ get_or block i held → IsRight held → ((at : ℕ) → at < i → IsRight (slot block at))
      → (at : ℕ) → at < i + 1 → IsRight (slot block at)
  block_more i held less is right before at below = elim (cases_eq at i) [
    | inl same ↦ subst (λ n. IsRight (slot block n)) (sym same) (subst IsRight (sym (get_or_default block i None held less ∙ sym is)) right)
    | inr other ↦ before at (omega arith)
  ]

  pub block_all : (n : ℕ) → length block ≤ n → ((at : ℕ) → at < n → IsRight (slot block at)) → AreRightWhereHit by now block
  block_all n past all at = elim (cases_lt at n) [
    | inl below ↦ all at below
    | inr beyond ↦ subst IsRight (sym (get_or_past block at None (omega arith))) tt
  ]

-- Slots behind a block that is written over: those of the block, and the others as before.
module _ (slots : List (Option Entry)) (at : ℕ) (block : List (Option Entry)) (within : at + length block ≤ length slots) where
  front : length (take at slots) ≡ at
  front = length-take at slots ∙ least at (length slots) (omega arith)
    where
      least : (a b : ℕ) → a ≤ b → min a b ≡ a
      least a b less = omega arith

  pub before_block : (i : ℕ) → i < at → slot (with_block slots at block) i ≡ slot slots i
  before_block i less =
      get_or_append_left (take at slots) (block ++ drop (at + length block) slots) None i (let size = front in omega arith) ∙ get_or-take at slots i None less

  pub in_block : (i k : ℕ) → i ≡ at + k → k < length block → slot (with_block slots at block) i ≡ slot block k
  in_block i k is less =
      ap (λ n. slot (with_block slots at block) n) (is ∙ ap (λ n. n + k) (sym front))
      ∙ get_or-append-add (take at slots) (block ++ drop (at + length block) slots) k None ∙ get_or_append_left block (drop (at + length block) slots) None k less

  pub behind_block : (i k : ℕ) → i ≡ at + length block + k → slot (with_block slots at block) i ≡ slot slots i
  behind_block i k is =
      ap (λ n. slot (with_block slots at block) n) (there i k is)
      ∙ get_or-append-add (take at slots) (block ++ drop (at + length block) slots) (length block + k) None
      ∙ get_or-append-add block (drop (at + length block) slots) k None ∙ get_or-drop (at + length block) slots k None ∙ ap (λ n. slot slots n) (sym is)
    where
      there : (i k : ℕ) → i ≡ at + length block + k → i ≡ length (take at slots) + (length block + k)
      there i k is = let size = front in omega arith

  -- each slot is one of these
  pub cases_block : (i : ℕ) → (i < at) ⊎ (((k : ℕ) × (i ≡ at + k) × (k < length block)) ⊎ ((k : ℕ) × (i ≡ at + length block + k)))
  cases_block i = elim (cases_lt i at) [
    | inl less ↦ inl less
    | inr past ↦ elim (cases_lt i (at + length block)) [
      | inl inside ↦ inr (inl (i - at, omega arith, omega arith))
      | inr behind ↦ inr (inr (i - (at + length block), omega arith))
    ]
  ]

  pub block_size : length (with_block slots at block) ≡ length slots
  block_size = simp (length-append, length-take, length-drop) (omega arith)

-- the cubes of a block's entries
abbrev pub block_cubes : List (Option Entry) → List Cube
block_cubes [] = []
block_cubes (None ∷ block) = block_cubes block
block_cubes (Some entry ∷ block) = entry_cube entry ∷ block_cubes block

abbrev pub IsHeldIn : List Cube → Entry → Type 0
IsHeldIn cubes entry = (word : Word) → IsTrue (hits entry word) → (cube : Cube) × Contains cubes cube × IsTrue (cube_holds cube word)

-- hold what one of them hits,
pub held_in : (block : List (Option Entry)) (at : ℕ) (entry : Entry) → slot block at ≡ Some entry → IsHeldIn (block_cubes block) entry
held_in [] at entry is = absurd (cc)
held_in (None ∷ block) zero entry is = absurd (cc)
held_in (None ∷ block) (suc at) entry is = held_in block at entry is
held_in (Some one ∷ block) zero entry is = λ word hit.
    let same : one ≡ entry = cc in
    (entry_cube one, contains_head (entry_cube one) (block_cubes block), subst (λ (e : Entry). IsTrue (hits e word)) (sym same) hit)
held_in (Some one ∷ block) (suc at) entry is = λ word hit.
    let found = held_in block at entry is word hit in (found.0, contains_tail (entry_cube one) found.0 (block_cubes block) found.1, found.2)

-- and are right where those are
pub cubes_right : (by : Compared) (now : StateBetween) (block : List (Option Entry)) → AreRightWhereHit by now block → (cube : Cube) → Contains (block_cubes block) cube → IsRightIn by OldOrNew now cube
cubes_right by now [] right cube member = absurd (contains_none cube member)
cubes_right by now (None ∷ block) right cube member = cubes_right by now block (λ at. right (suc at)) cube member
cubes_right by now (Some entry ∷ block) right cube member = elim (contains_cases (entry_cube entry) cube (block_cubes block) member) [
  | inl same ↦ subst (IsRightIn by OldOrNew now) same (right zero)
  | inr later ↦ cubes_right by now block (λ at. right (suc at)) cube later
]
