-- New results: the entries of the ids after some rewrites, and the device after their writes.
use Rattle.std.proofs.Common.{◌≡◌, ◌≢◌, ℕ, zero, suc, ◌<◌, length, set, Option, None, Some, List, [], ◌∷◌, map, Contains, inl, inr, ◌⊎◌, refl, sym, ◌∙◌, subst, ap, ap₂, arith, get_or-set_same, get_or-set_other}
use Rattle.std.specs.Prelude.{unwrap_or}
use Rattle.std.proofs.lemmas.Bool.{cases_eq}
use Rattle.std.proofs.lemmas.List.{length-set}
use Rattle.slot_order.specs.Order.{slot}
use Rattle.slot_moves.proofs.Once.{AllOnce}
use Rattle.slot_order.proofs.Lists.{contains_head, contains_tail, contains_cases, contains_none}
use Rattle.slot_pool.specs.Arrangement.{Slots}
use Rattle.slot_pool.proofs.LeastSlots.{home_first}
use Rattle.rule_model.specs.declared.words.Entry.{Entry}
use Rattle.tcam_device.specs.State.{State, state_after}
use Rattle.commit_writes.specs.declared.Rewrite.{Rewrite}
use Rattle.commit_writes.specs.Planned.{IdEntries, entry_at, held_entry, contents, with_slots}
use Rattle.commit_writes.specs.PlannedBatch.{home_slot, rewrite_write, rewritten_entries}

-- the home of an id that stands once is where it stands
pub home_is : (slots : Slots) (id at : ℕ) → AllOnce slots → slot slots at ≡ Some id → home_slot slots id ≡ at
home_is slots id at once stands =
    ap (λ found. unwrap_or found 0) (home_first slots id (Some at) (
      omega arith,
      stands,
      λ k low before e. let same : k ≡ at = once k at id e stands in absurd (omega arith),
    ))

-- an id's entry is the one of a rewrite of it, or its own where there is none
pub rewritten_at : (entries : IdEntries) (rewrites : List Rewrite) (id : ℕ) → id < length entries
    → ((rewrite : Rewrite) × Contains rewrites rewrite × (rewrite.id ≡ id) × (entry_at (rewritten_entries entries rewrites) id ≡ Some rewrite.entry))
    ⊎ (((rewrite : Rewrite) → Contains rewrites rewrite → rewrite.id ≡ id → ⊥) × (entry_at (rewritten_entries entries rewrites) id ≡ entry_at entries id))
rewritten_at entries [] id inside = inr ((λ rewrite none is. contains_none rewrite none), refl)
rewritten_at entries (first ∷ rewrites) id inside =
    elim (rewritten_at (set entries first.id (Some first.entry)) rewrites id (let l = length-set entries first.id (Some first.entry) in omega arith)) [
      | inl later ↦ inl (later.0, contains_tail first later.0 rewrites later.1, later.2, later.3)
      | inr none ↦ elim (cases_eq id first.id) [
        | inl same ↦ inl (
          first,
          contains_head first rewrites,
          sym same,
          none.1 ∙ (ap (entry_at (set entries first.id (Some first.entry))) same ∙ get_or-set_same entries first.id (Some first.entry) None (subst (λ n. n < length entries) same inside)),
        )
        | inr other ↦ inr (
          λ rewrite member is. elim (contains_cases first rewrite rewrites member) [
            | inl here ↦ other (sym is ∙ ap (λ (r : Rewrite). r.id) (sym here))
            | inr later ↦ none.0 rewrite later is
          ],
          none.1 ∙ get_or-set_other entries first.id id (Some first.entry) None other,
        )
      ]
    ]

-- where an id doesn't stand its entry doesn't tell
other_held : (entries : IdEntries) (held : Option ℕ) (id : ℕ) (entry : Option Entry) → held ≢ Some id → held_entry entries held ≡ held_entry (set entries id entry) held
other_held entries None id entry other = refl
other_held entries (Some at) id entry other = sym (get_or-set_other entries id at entry None (λ same. other (ap Some same)))

other_contents : (entries : IdEntries) (slots : Slots) (id : ℕ) (entry : Option Entry) → ((at : ℕ) → slot slots at ≢ Some id) → contents entries slots ≡ contents (set entries id entry) slots
other_contents entries [] id entry none = refl
other_contents entries (held ∷ slots) id entry none =
    ap₂ (λ first rest. first ∷ rest) (other_held entries held id entry (none 0)) (other_contents entries slots id entry (λ at. none (suc at)))

-- where it stands once, that slot is what changes with its entry
changed_contents : (entries : IdEntries) (slots : Slots) (at id : ℕ) (entry : Option Entry) → slot slots at ≡ Some id → ((other : ℕ) → slot slots other ≡ Some id → other ≡ at)
    → id < length entries → set (contents entries slots) at entry ≡ contents (set entries id entry) slots
changed_contents entries [] at id entry here alone inside = absurd (cc)
changed_contents entries (held ∷ slots) zero id entry here alone inside =
    ap₂ (λ first rest. first ∷ rest) (sym (ap (held_entry (set entries id entry)) here ∙ get_or-set_same entries id entry None inside))
    (other_contents entries slots id entry (λ other e. let k : suc other ≡ 0 = alone (suc other) e in omega arith))
changed_contents entries (held ∷ slots) (suc at) id entry here alone inside =
    ap₂ (λ first rest. first ∷ rest) (other_held entries held id entry (λ e. let k : 0 ≡ suc at = alone 0 e in omega arith))
    (changed_contents entries slots at id entry here (λ other e. let k : suc other ≡ suc at = alone (suc other) e in omega arith) inside)

-- the writes of some rewrites change the entries of their ids
pub rewritten_state : (state : State) (entries : IdEntries) (slots : Slots) (rewrites : List Rewrite) → AllOnce slots
    → ((rewrite : Rewrite) → Contains rewrites rewrite → (rewrite.id < length entries) × ((at : ℕ) × (slot slots at ≡ Some rewrite.id)))
    → state_after (with_slots state (contents entries slots)) (map (rewrite_write slots) rewrites) ≡ with_slots state (contents (rewritten_entries entries rewrites) slots)
rewritten_state state entries slots [] once stand = refl
rewritten_state state entries slots (first ∷ rewrites) once stand =
    ap (λ now. state_after (with_slots state now) (map (rewrite_write slots) rewrites)) here
    ∙ rewritten_state state (set entries first.id (Some first.entry)) slots rewrites once (λ rewrite member.
    let w = stand rewrite (contains_tail first rewrite rewrites member) in
    (let l = length-set entries first.id (Some first.entry) in let k = w.0 in omega arith, w.1))
  where
    here : set (contents entries slots) (home_slot slots first.id) (Some first.entry) ≡ contents (set entries first.id (Some first.entry)) slots
    here = let w = stand first (contains_head first rewrites) in
        ap (λ at. set (contents entries slots) at (Some first.entry)) (home_is slots first.id w.1.0 once w.1.1)
        ∙ changed_contents entries slots w.1.0 first.id (Some first.entry) w.1.1 (λ other e. once other w.1.0 first.id e w.1.1) w.0
