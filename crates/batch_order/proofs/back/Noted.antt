-- All that is noted of a plan restores what its writes replace, and takes its arrangement back.
use Rattle.std.proofs.Common.{◌≡◌, ℕ, Option, Some, List, [], ◌∷◌, ◌++◌, Contains, length, map, IsTrue, inl, inr, sym, ap, ap₂, subst, ◌∙◌}
use Rattle.std.specs.Prelude.{nat_eq}
use Rattle.std.specs.List.{AllByRecursion, IsDistinct}
use Rattle.slot_order.specs.Order.{slot}
use Rattle.slot_order.proofs.Lists.{contains_cases, contains_head, contains_none, contains_tail, map_in}
use Rattle.slot_pool.specs.Arrangement.{Slots}
use Rattle.rule_model.specs.declared.words.Entry.{Entry}
use Rattle.placement.specs.declared.Move.{Move}
use Rattle.placement.specs.Live.{is_live}
use Rattle.move_planner.specs.Noted.{IsInside, backs_of, taken_back}
use Rattle.move_planner.proofs.Noted.{length_after}
use Rattle.tcam_device.specs.declared.Write.{Write}
use Rattle.tcam_device.specs.State.{State, state_after}
use Rattle.tcam_device.specs.Insertion.{is_table_write}
use Rattle.commit_writes.specs.declared.Rewrite.{Rewrite}
use Rattle.commit_writes.specs.Planned.{IdEntries, contents, held_entry, write_for}
use Rattle.commit_writes.specs.PlannedBatch.{erased_slots, home_slot}
use Rattle.commit_writes.specs.Undo.{restorings}
use Rattle.commit_writes.proofs.Rewrites.{home_is}
use Rattle.readback.proofs.PlannedRests.{slot_contents}
use Rattle.batch_order.specs.declared.plan.Plan.{Plan}
use Rattle.batch_order.specs.declared.planned_writes.PlannedWrite.{PlannedWrite}
use Rattle.batch_order.specs.declared.planned_writes.PlannedWrite.TheVariants.{Tabled, Moved}
use Rattle.batch_order.specs.declared.translation.Translation.{Translation}
use Rattle.batch_order.specs.Entries.{Entries}
use Rattle.batch_order.specs.Kept.{mode_of, settled_state, tables_of}
use Rattle.batch_order.specs.Noting.{AreNotedIn, AreChangesPlanned, BeginsWithWords, all_undo, changed_ids, changes_back, put_at_home}
use Rattle.batch_order.specs.Planning.{IsSettled, all_writes, as_writes}
use Rattle.batch_order.specs.Undoing.{AreRestoring, HasNotedWords, TakesBack}
use Rattle.batch_order.proofs.back.Changes.{IsKnown, changes_restored, moves_restored, moves_slots, restorings-append, words_restored, words_slots}
use Rattle.batch_order.proofs.arranged.Cleared.{settled_erased}
use Rattle.batch_order.proofs.back.Gained.{ids_back}
use Rattle.batch_order.proofs.back.TakenBack.{all_taken_back, backs_inside, changes_inside}
use Rattle.batch_order.proofs.planning.Meant.{as_append, as_moved, as_words}

-- a live id stands at its home
pub stands_home : (kept : Entries) (slots : Slots) (id : ℕ) → IsSettled kept slots → IsTrue (is_live kept.live id) → slot slots (home_slot slots id) ≡ Some id
stands_home kept slots id settled now =
    let stands = settled.standing.placed id now in
    ap (slot slots) (home_is slots id stands.0 settled.standing.once stands.1) ∙ stands.1

-- what holds of all ids
pub ids_all : (P : ℕ → Type 0) (rewrites : List Rewrite) → AllByRecursion (λ rewrite. P rewrite.id) rewrites → AllByRecursion P (map (λ (rewrite : Rewrite). rewrite.id) rewrites)
ids_all P [] all = tt
ids_all P (rewrite ∷ rewrites) all = (all.0, ids_all P rewrites all.1)

-- of distinct numbers the last are distinct, and are among all as the first are
distinct_behind : (first second : List ℕ) → IsDistinct nat_eq (first ++ second) → IsDistinct nat_eq second
unfolding IsDistinct
distinct_behind [] second distinct = distinct
distinct_behind (id ∷ first) second distinct = distinct_behind first second distinct.1

contains_behind : (first second : List ℕ) (id : ℕ) → Contains second id → Contains (first ++ second) id
contains_behind [] second id member = member
contains_behind (one ∷ first) second id member = contains_tail one id (first ++ second) (contains_behind first second id member)

contains_before : (first second : List ℕ) (id : ℕ) → Contains first id → Contains (first ++ second) id
contains_before [] second id member = absurd (contains_none id member)
contains_before (one ∷ first) second id member = elim (contains_cases one id first member) [
  | inl same ↦ subst (Contains (one ∷ (first ++ second))) same (contains_head one (first ++ second))
  | inr later ↦ contains_tail one id (first ++ second) (contains_before first second id later)
]

-- words, moves, and writes behind them
three : (entries : IdEntries) (rewrites : List Rewrite) (words : List Write) (moves : List Move) (behind : List PlannedWrite)
    → as_writes entries rewrites (map Tabled words ++ (map Moved moves ++ behind)) ≡ words ++ (map (write_for entries) moves ++ as_writes entries rewrites behind)
three entries rewrites words moves behind =
    as_append entries rewrites (map Tabled words) (map Moved moves ++ behind)
    ∙ ap₂ (λ (first rest : List Write). first ++ rest) (as_words entries rewrites words)
    (as_append entries rewrites (map Moved moves) behind ∙ ap (λ (first : List Write). first ++ as_writes entries rewrites behind) (as_moved entries rewrites moves))

module _ (translation : Option Translation) (slots slots' : Slots) (old between new : Plan) (rewrites : List Rewrite) (erased : List ℕ)
    (begins : BeginsWithWords (mode_of translation) old) (none : old.writes.changes.items ≡ []) (inserted : AreNotedIn slots slots' old between) (changed : AreChangesPlanned slots' rewrites erased between new)
    (noted : HasNotedWords translation between new) (moves_kept : new.undo.moves ≡ between.undo.moves)
    (apart : IsDistinct nat_eq (changed_ids rewrites erased)) (stand : (id : ℕ) → Contains (changed_ids rewrites erased) id → slot slots' (home_slot slots' id) ≡ Some id) where
  abbrev words : List Write
  words = new.writes.words.items

  abbrev moves : List Move
  moves = inserted.moves.moves

  abbrev behind : List PlannedWrite
  behind = changed.at_home.more

  to_tables : AllByRecursion (λ write. IsTrue (is_table_write write)) words
  to_tables = subst (AllByRecursion (λ write. IsTrue (is_table_write write))) (sym changed.same_words) noted.1

  all_are : all_writes new.writes ≡ map Tabled words ++ (map Moved moves ++ behind)
  all_are = ap₂ (λ (some : List Move) (more : List PlannedWrite). map Tabled words ++ (map Moved some ++ more))
      (changed.same_moves ∙ (inserted.moves.gained ∙ ap (λ (some : List Move). some ++ moves) begins.no_moves))
      (changed.at_home.gained ∙ ap (λ (some : List PlannedWrite). some ++ behind) (inserted.changes ∙ none))

  undo_are : all_undo new.undo ≡ map Tabled new.undo.words.items ++ (map Moved (backs_of slots moves) ++ map Moved (map (put_at_home slots') (changed_ids rewrites erased)))
  undo_are = ap₂ (λ (some more : List Move). map Tabled new.undo.words.items ++ (map Moved some ++ map Moved more))
      (moves_kept ∙ (inserted.moves.noted ∙ ap (λ (some : List Move). some ++ backs_of slots moves) begins.unnoted.no_moves))
      (changed.noted ∙ (ap (λ (some : List Move). some ++ changes_back slots' rewrites erased) (inserted.undo_changes ∙ begins.unnoted.no_changes) ∙ ids_back slots' rewrites erased))

  module _ (entries : IdEntries) (some : List Rewrite) where
    abbrev back : List Move
    back = map (put_at_home slots') (changed_ids rewrites erased)

    abbrev begun : State
    begun = settled_state translation entries slots

    abbrev after : State
    after = state_after begun words

    abbrev last : State
    last = state_after after (map (write_for entries) moves)

    words_back : new.undo.words.items ≡ restorings begun words
    words_back = noted.0 ∙ (ap (restorings (tables_of translation)) (sym changed.same_words) ∙ sym (words_restored (tables_of translation) (contents entries slots) words to_tables))

    mirrors : after.slots ≡ contents entries slots
    mirrors = words_slots begun words to_tables

    moves_back : restorings after (map (write_for entries) moves) ≡ map (write_for entries) (backs_of slots moves)
    moves_back = moves_restored entries slots after moves mirrors

    mirrors_last : last.slots ≡ contents entries slots'
    mirrors_last = moves_slots entries slots after moves mirrors ∙ ap (contents entries) (sym inserted.moves.after)

    known : (id : ℕ) → Contains (changed_ids rewrites erased) id → IsKnown entries slots' last id
    known id member = (
      stand id member,
      ap (λ (all : List (Option Entry)). slot all (home_slot slots' id)) mirrors_last
          ∙ (slot_contents entries slots' (home_slot slots' id) ∙ ap (held_entry entries) (stand id member)),
    )

    changes_back_are : restorings last (as_writes entries some behind) ≡ map (write_for entries) back
    changes_back_are = changes_restored entries some slots' last (changed_ids rewrites erased) behind changed.at_home.each apart known

    -- what undoes the parts, one behind the other, is what undoes all
    parts_back : words ++ (map (write_for entries) moves ++ as_writes entries some behind) ≡ as_writes entries some (all_writes new.writes)
    parts_back = sym (ap (as_writes entries some) all_are ∙ three entries some words moves behind)

    all_back : restorings begun words ++ (restorings after (map (write_for entries) moves) ++ restorings last (as_writes entries some behind))
        ≡ restorings begun (as_writes entries some (all_writes new.writes))
    all_back =
        ap (λ (rest : List Write). restorings begun words ++ rest) (sym (restorings-append after (map (write_for entries) moves) (as_writes entries some behind)))
        ∙ (sym (restorings-append begun words (map (write_for entries) moves ++ as_writes entries some behind)) ∙ ap (restorings begun) parts_back)

    restored_so : as_writes entries some (all_undo new.undo) ≡ restorings begun (as_writes entries some (all_writes new.writes))
    restored_so =
        ap (as_writes entries some) undo_are
        ∙ (three entries some new.undo.words.items (backs_of slots moves) (map Moved back)
        ∙ (ap₂ (λ (first rest : List Write). first ++ rest) words_back (ap₂ (λ (first rest : List Write). first ++ rest) (sym moves_back) (as_moved entries some back ∙ sym changes_back_are))
        ∙ all_back))

  pub all_restored : AreRestoring translation slots (all_writes new.writes) (all_undo new.undo)
  all_restored entries some = restored_so entries some

  module _ (kept : Entries) (settled : IsSettled kept slots') (gone : AllByRecursion (λ id. IsTrue (is_live kept.live id)) erased) where
    size : length (erased_slots slots' erased) ≡ length slots'
    size = (settled_erased kept slots' erased settled (distinct_behind (map (λ (rewrite : Rewrite). rewrite.id) rewrites) erased apart) gone).size ∙ sym settled.size

    erased_stand : (id : ℕ) → Contains erased id → slot slots' (home_slot slots' id) ≡ Some id
    erased_stand id member = stand id (contains_behind (map (λ (rewrite : Rewrite). rewrite.id) rewrites) erased id member)

    rewritten_stand : (rewrite : Rewrite) → Contains rewrites rewrite → slot slots' (home_slot slots' rewrite.id) ≡ Some rewrite.id
    rewritten_stand rewrite member =
        stand rewrite.id (contains_before (map (λ (one : Rewrite). one.id) rewrites) erased rewrite.id (map_in (λ (one : Rewrite). one.id) rewrites rewrite member))

    moves_inside : AllByRecursion (IsInside (length slots')) moves
    moves_inside = subst (λ (count : ℕ). AllByRecursion (IsInside count) moves) (sym (ap length inserted.moves.after ∙ length_after slots moves)) inserted.moves.inside

    changes_are : new.undo.changes ≡ changes_back slots' rewrites erased
    changes_are = changed.noted ∙ ap (λ (some : List Move). some ++ changes_back slots' rewrites erased) (inserted.undo_changes ∙ begins.unnoted.no_changes)

    moves_are : new.undo.moves ≡ backs_of slots moves
    moves_are = moves_kept ∙ (inserted.moves.noted ∙ ap (λ (some : List Move). some ++ backs_of slots moves) begins.unnoted.no_moves)

    pub all_taken : TakesBack slots (erased_slots slots' erased) new.undo
    all_taken = record {
      moves_inside = subst (λ (count : ℕ). AllByRecursion (IsInside count) new.undo.moves) (sym size)
          (subst (AllByRecursion (IsInside (length slots'))) (sym moves_are) (backs_inside (length slots') slots moves moves_inside));
      changes_inside = subst (λ (count : ℕ). AllByRecursion (IsInside count) new.undo.changes) (sym size)
          (subst (AllByRecursion (IsInside (length slots'))) (sym changes_are) (changes_inside slots' rewrites erased rewritten_stand erased_stand));
      leads = ap₂ (λ (some more : List Move). taken_back (taken_back (erased_slots slots' erased) some) more) changes_are moves_are
          ∙ all_taken_back slots slots' moves rewrites erased inserted.moves.after (distinct_behind (map (λ (rewrite : Rewrite). rewrite.id) rewrites) erased apart) settled.standing.once rewritten_stand erased_stand;
    }
