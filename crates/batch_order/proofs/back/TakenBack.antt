-- What is noted of a plan takes the arrangement back to where the plan began.
use Rattle.std.proofs.Common.{◌≡◌, ◌≢◌, ℕ, ◌<◌, Option, None, Some, List, [], ◌∷◌, ◌++◌, Contains, length, map, set, inl, inr, refl, sym, ap, subst, ◌∙◌}
use Rattle.std.specs.Prelude.{nat_eq}
use Rattle.std.specs.List.{AllByRecursion, IsDistinct}
use Rattle.std.proofs.lemmas.Bool.{cases_eq}
use Rattle.std.proofs.lemmas.List.{set-get_or, set-set}
use Rattle.slot_order.specs.Order.{slot}
use Rattle.slot_order.proofs.Lists.{all_append, contains_head, contains_tail}
use Rattle.slot_order.proofs.Writes.{slot_inside, slot_other, slot_same}
use Rattle.slot_moves.proofs.Once.{AllOnce}
use Rattle.slot_pool.specs.Arrangement.{Slots}
use Rattle.placement.specs.declared.Move.{Move}
use Rattle.placement.specs.declared.Move.TheVariants.{Put, Erase}
use Rattle.placement.specs.Placement.{after_move, after_moves}
use Rattle.placement.proofs.Live.{all_apart}
use Rattle.move_planner.specs.Noted.{AreNoted, IsInside, as_held, backs_of, taken_back}
use Rattle.move_planner.proofs.Noted.{back_again, back_append, length_after}
use Rattle.commit_writes.specs.declared.Rewrite.{Rewrite}
use Rattle.commit_writes.specs.PlannedBatch.{erased_slots, home_slot}
use Rattle.commit_writes.proofs.Rewrites.{home_is}
use Rattle.batch_order.specs.Noting.{changes_back, put_at_home}

-- an id stands where it stood once another is erased, and ids stand once still
still_there : (now : Slots) (at place id other : ℕ) → slot now at ≡ Some id → slot now place ≡ Some other → id ≢ other → slot (set now at None) place ≡ Some other
still_there now at place id other here there apart =
    slot_other now at None place (λ same.
    let both : Some other ≡ Some id = sym there ∙ (ap (slot now) same ∙ here) in
    let one : other ≡ id = cc in apart (sym one)) ∙ there

once_still : (now : Slots) (at id : ℕ) → slot now at ≡ Some id → AllOnce now → AllOnce (set now at None)
once_still now at id here once i j other first second = once i j other (was i first) (was j second)
  where
    was : (place : ℕ) → slot (set now at None) place ≡ Some other → slot now place ≡ Some other
    was place stands = elim (cases_eq place at) [
      | inl same ↦ absurd (let none : None ≡ Some other = sym (slot_same now at None (slot_inside now at id here)) ∙ (ap (slot (set now at None)) (sym same) ∙ stands) in cc)
      | inr apart ↦ sym (slot_other now at None place apart) ∙ stands
    ]

-- ids that were erased are put again where they stood,
erases_back : (was now : Slots) (ids : List ℕ) → IsDistinct nat_eq ids → AllOnce now → ((id : ℕ) → Contains ids id → slot now (home_slot was id) ≡ Some id)
    → taken_back (erased_slots now ids) (map (put_at_home was) ids) ≡ now
unfolding IsDistinct
erases_back was now [] distinct once stand = refl
erases_back was now (id ∷ ids) distinct once stand =
    ap (λ (h : ℕ). set (taken_back (erased_slots (set now h None) ids) (map (put_at_home was) ids)) at (Some id)) (home_is now id at once here)
    ∙ (ap (λ (s : Slots). set s at (Some id)) (erases_back was (set now at None) ids distinct.1 (once_still now at id here once) (λ other member.
    still_there now at (home_slot was other) id other here (stand other (contains_tail id other ids member)) (λ same. all_apart id ids distinct.0 (subst (Contains ids) (sym same) member))))
    ∙ (set-set now at None (Some id) ∙ (ap (set now at) (sym here) ∙ set-get_or now at None)))
  where
    at : ℕ
    at = home_slot was id

    here : slot now at ≡ Some id
    here = stand id (contains_head id ids)

-- and those that got a new entry are put where they stand
rewrites_back : (slots : Slots) (rewrites : List Rewrite) → ((rewrite : Rewrite) → Contains rewrites rewrite → slot slots (home_slot slots rewrite.id) ≡ Some rewrite.id)
    → taken_back slots (map (λ rewrite. put_at_home slots rewrite.id) rewrites) ≡ slots
rewrites_back slots [] stand = refl
rewrites_back slots (rewrite ∷ rewrites) stand =
    let at = home_slot slots rewrite.id in
    ap (λ (s : Slots). set s at (Some rewrite.id)) (rewrites_back slots rewrites (λ other member. stand other (contains_tail rewrite other rewrites member)))
    ∙ (ap (set slots at) (sym (stand rewrite (contains_head rewrite rewrites))) ∙ set-get_or slots at None)

pub changes_taken_back : (slots : Slots) (rewrites : List Rewrite) (erased : List ℕ) → IsDistinct nat_eq erased → AllOnce slots
    → ((rewrite : Rewrite) → Contains rewrites rewrite → slot slots (home_slot slots rewrite.id) ≡ Some rewrite.id) → ((id : ℕ) → Contains erased id → slot slots (home_slot slots id) ≡ Some id)
    → taken_back (erased_slots slots erased) (changes_back slots rewrites erased) ≡ slots
changes_taken_back slots rewrites erased distinct once rewritten gone =
    back_append (erased_slots slots erased) (map (λ rewrite. put_at_home slots rewrite.id) rewrites) (map (put_at_home slots) erased)
    ∙ (ap (λ (s : Slots). taken_back s (map (λ rewrite. put_at_home slots rewrite.id) rewrites)) (erases_back slots slots erased distinct once gone)
    ∙ rewrites_back slots rewrites rewritten)

-- so all that is noted leads back
pub all_taken_back : (before slots : Slots) (moves : List Move) (rewrites : List Rewrite) (erased : List ℕ) → slots ≡ after_moves before moves → IsDistinct nat_eq erased → AllOnce slots
    → ((rewrite : Rewrite) → Contains rewrites rewrite → slot slots (home_slot slots rewrite.id) ≡ Some rewrite.id) → ((id : ℕ) → Contains erased id → slot slots (home_slot slots id) ≡ Some id)
    → taken_back (taken_back (erased_slots slots erased) (changes_back slots rewrites erased)) (backs_of before moves) ≡ before
all_taken_back before slots moves rewrites erased after distinct once rewritten gone =
    ap (λ (s : Slots). taken_back s (backs_of before moves)) (changes_taken_back slots rewrites erased distinct once rewritten gone ∙ after) ∙ back_again before moves

-- it is to slots that there are
held_inside : (count at : ℕ) (held : Option ℕ) → at < count → IsInside count (as_held at held)
held_inside count at None inside = inside
held_inside count at (Some id) inside = inside

pub backs_inside : (count : ℕ) (slots : Slots) (moves : List Move) → AllByRecursion (IsInside count) moves → AllByRecursion (IsInside count) (backs_of slots moves)
backs_inside count slots [] all = tt
backs_inside count slots (Put at id ∷ moves) all = (held_inside count at (slot slots at) all.0, backs_inside count (after_move slots (Put at id)) moves all.1)
backs_inside count slots (Erase at ∷ moves) all = (held_inside count at (slot slots at) all.0, backs_inside count (after_move slots (Erase at)) moves all.1)

-- of insertions too, wherever they ended
pub noted_inside : (slots slots' : Slots) (plan plan' undo undo' : List Move) → AreNoted slots slots' plan plan' undo undo' → undo ≡ [] → AllByRecursion (IsInside (length slots')) undo'
noted_inside slots slots' plan plan' undo undo' noted none =
    subst (AllByRecursion (IsInside (length slots'))) (sym (noted.noted ∙ ap (λ (some : List Move). some ++ backs_of slots noted.moves) none))
    (subst (λ (count : ℕ). AllByRecursion (IsInside count) (backs_of slots noted.moves)) (sym (ap length noted.after ∙ length_after slots noted.moves))
    (backs_inside (length slots) slots noted.moves noted.inside))

puts_inside : (slots : Slots) (ids : List ℕ) → ((id : ℕ) → Contains ids id → slot slots (home_slot slots id) ≡ Some id) → AllByRecursion (IsInside (length slots)) (map (put_at_home slots) ids)
puts_inside slots [] stand = tt
puts_inside slots (id ∷ ids) stand = (slot_inside slots (home_slot slots id) id (stand id (contains_head id ids)), puts_inside slots ids (λ other member. stand other (contains_tail id other ids member)))

rewritten_inside : (slots : Slots) (rewrites : List Rewrite) → ((rewrite : Rewrite) → Contains rewrites rewrite → slot slots (home_slot slots rewrite.id) ≡ Some rewrite.id)
    → AllByRecursion (IsInside (length slots)) (map (λ rewrite. put_at_home slots rewrite.id) rewrites)
rewritten_inside slots [] stand = tt
rewritten_inside slots (rewrite ∷ rewrites) stand =
    (slot_inside slots (home_slot slots rewrite.id) rewrite.id (stand rewrite (contains_head rewrite rewrites)), rewritten_inside slots rewrites (λ other member. stand other (contains_tail rewrite other rewrites member)))

pub changes_inside : (slots : Slots) (rewrites : List Rewrite) (erased : List ℕ)
    → ((rewrite : Rewrite) → Contains rewrites rewrite → slot slots (home_slot slots rewrite.id) ≡ Some rewrite.id) → ((id : ℕ) → Contains erased id → slot slots (home_slot slots id) ≡ Some id)
    → AllByRecursion (IsInside (length slots)) (changes_back slots rewrites erased)
changes_inside slots rewrites erased rewritten gone =
    all_append (IsInside (length slots)) (map (λ rewrite. put_at_home slots rewrite.id) rewrites) (map (put_at_home slots) erased) (rewritten_inside slots rewrites rewritten) (puts_inside slots erased gone)
