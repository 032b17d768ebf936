-- What is noted of a plan restores what its writes replace: words of the tables, moves, and then new entries and erases.
use Rattle.std.proofs.Common.{◌≡◌, ◌≢◌, ℕ, Option, None, Some, List, [], ◌∷◌, ◌++◌, Contains, map, set, IsTrue, refl, sym, ap, ap₂, subst, ◌∙◌}
use Rattle.std.specs.Prelude.{nat_eq}
use Rattle.std.specs.List.{AllByRecursion, AllZip, IsDistinct}
use Rattle.std.proofs.lemmas.List.{map-set}
use Rattle.slot_order.specs.Order.{slot}
use Rattle.slot_order.proofs.Lists.{contains_head, contains_tail}
use Rattle.slot_order.proofs.Writes.{slot_other}
use Rattle.slot_pool.specs.Arrangement.{Slots}
use Rattle.rule_model.specs.declared.Field.TheVariants.{Src, Dst}
use Rattle.rule_model.specs.declared.words.Entry.{Entry}
use Rattle.placement.specs.declared.Move.{Move}
use Rattle.placement.specs.declared.Move.TheVariants.{Put, Erase}
use Rattle.placement.specs.Placement.{after_moves}
use Rattle.placement.proofs.Live.{all_apart}
use Rattle.move_planner.specs.Noted.{as_held, backs_of}
use Rattle.tcam_device.specs.declared.Write.{Write}
use Rattle.tcam_device.specs.declared.Write.TheVariants.{Slot, Table}
use Rattle.tcam_device.specs.State.{State, apply, state_after}
use Rattle.tcam_device.specs.Insertion.{is_table_write}
use Rattle.commit_writes.specs.declared.Rewrite.{Rewrite}
use Rattle.commit_writes.specs.Planned.{IdEntries, contents, entry_at, held_entry, with_slots, write_for}
use Rattle.commit_writes.specs.PlannedBatch.{home_slot}
use Rattle.commit_writes.specs.Undo.{restoring, restorings}
use Rattle.readback.proofs.PlannedRests.{slot_contents}
use Rattle.batch_order.specs.declared.planned_writes.PlannedWrite.{PlannedWrite}
use Rattle.batch_order.specs.Noting.{IsAtHome, put_at_home}
use Rattle.batch_order.specs.Planning.{as_write, as_writes}

-- those of some writes, and of more behind them
pub restorings-append : (state : State) (writes more : List Write) → restorings state (writes ++ more) ≡ restorings state writes ++ restorings (state_after state writes) more
restorings-append state [] more = refl
restorings-append state (write ∷ writes) more = ap (λ (rest : List Write). restoring state write ∷ rest) (restorings-append (apply state write) writes more)

-- words of the tables: the slots tell nothing of them
pub words_restored : (state : State) (slots : List (Option Entry)) (words : List Write) → AllByRecursion (λ write. IsTrue (is_table_write write)) words
    → restorings (with_slots state slots) words ≡ restorings state words
words_restored state slots [] all = refl
words_restored state slots (Slot at entry ∷ words) all = absurd (let wrong = all.0 in cc)
words_restored state slots (Table Src port word ∷ words) all = ap (λ (rest : List Write). restoring state (Table Src port word) ∷ rest) (words_restored (apply state (Table Src port word)) slots words all.1)
words_restored state slots (Table Dst port word ∷ words) all = ap (λ (rest : List Write). restoring state (Table Dst port word) ∷ rest) (words_restored (apply state (Table Dst port word)) slots words all.1)

-- and they leave the slots
pub words_slots : (state : State) (words : List Write) → AllByRecursion (λ write. IsTrue (is_table_write write)) words → (state_after state words).slots ≡ state.slots
words_slots state [] all = refl
words_slots state (Slot at entry ∷ words) all = absurd (let wrong = all.0 in cc)
words_slots state (Table Src port word ∷ words) all = words_slots (apply state (Table Src port word)) words all.1
words_slots state (Table Dst port word ∷ words) all = words_slots (apply state (Table Dst port word)) words all.1

-- the move that puts back what a slot holds is the write that does
held_write : (entries : IdEntries) (at : ℕ) (held : Option ℕ) → write_for entries (as_held at held) ≡ Slot at (held_entry entries held)
held_write entries at None = refl
held_write entries at (Some id) = refl

held_restored : (entries : IdEntries) (slots : Slots) (state : State) (at : ℕ) → state.slots ≡ contents entries slots → Slot at (slot state.slots at) ≡ write_for entries (as_held at (slot slots at))
held_restored entries slots state at mirrors =
    ap (λ (all : List (Option Entry)). Slot at (slot all at)) mirrors ∙ (ap (λ (entry : Option Entry). Slot at entry) (slot_contents entries slots at) ∙ sym (held_write entries at (slot slots at)))

-- moves
pub moves_restored : (entries : IdEntries) (slots : Slots) (state : State) (moves : List Move) → state.slots ≡ contents entries slots
    → restorings state (map (write_for entries) moves) ≡ map (write_for entries) (backs_of slots moves)
moves_restored entries slots state [] mirrors = refl
moves_restored entries slots state (Put at id ∷ moves) mirrors =
    ap₂ (λ (first : Write) (rest : List Write). first ∷ rest) (held_restored entries slots state at mirrors)
    (moves_restored entries (set slots at (Some id)) (apply state (Slot at (entry_at entries id))) moves
    (ap (λ (all : List (Option Entry)). set all at (entry_at entries id)) mirrors ∙ sym (map-set (held_entry entries) slots at (Some id))))
moves_restored entries slots state (Erase at ∷ moves) mirrors =
    ap₂ (λ (first : Write) (rest : List Write). first ∷ rest) (held_restored entries slots state at mirrors)
    (moves_restored entries (set slots at None) (apply state (Slot at None)) moves
    (ap (λ (all : List (Option Entry)). set all at None) mirrors ∙ sym (map-set (held_entry entries) slots at None)))

-- and what the slots hold behind them
pub moves_slots : (entries : IdEntries) (slots : Slots) (state : State) (moves : List Move) → state.slots ≡ contents entries slots
    → (state_after state (map (write_for entries) moves)).slots ≡ contents entries (after_moves slots moves)
moves_slots entries slots state [] mirrors = mirrors
moves_slots entries slots state (Put at id ∷ moves) mirrors =
    moves_slots entries (set slots at (Some id)) (apply state (Slot at (entry_at entries id))) moves
    (ap (λ (all : List (Option Entry)). set all at (entry_at entries id)) mirrors ∙ sym (map-set (held_entry entries) slots at (Some id)))
moves_slots entries slots state (Erase at ∷ moves) mirrors =
    moves_slots entries (set slots at None) (apply state (Slot at None)) moves
    (ap (λ (all : List (Option Entry)). set all at None) mirrors ∙ sym (map-set (held_entry entries) slots at None))

-- an id stands at its home, where a state has its entry
abbrev pub IsKnown : IdEntries → Slots → State → ℕ → Type 0
IsKnown entries slots state id = (slot slots (home_slot slots id) ≡ Some id) × (slot state.slots (home_slot slots id) ≡ entry_at entries id)

-- so it does when another one's slot is written
known_still : (entries : IdEntries) (slots : Slots) (state : State) (id other : ℕ) (entry : Option Entry) → id ≢ other → IsKnown entries slots state id → IsKnown entries slots state other
    → IsKnown entries slots (apply state (Slot (home_slot slots id) entry)) other
known_still entries slots state id other entry apart here there = (
  there.0,
  slot_other state.slots (home_slot slots id) entry (home_slot slots other) (λ same.
      let both : Some other ≡ Some id = sym there.0 ∙ (ap (slot slots) same ∙ here.0) in
      let one : other ≡ id = cc in apart (sym one)) ∙ there.1,
)

-- new entries and erases, each at the home of an id of its own
pub changes_restored : (entries : IdEntries) (rewrites : List Rewrite) (slots : Slots) (state : State) (ids : List ℕ) (planned : List PlannedWrite) → AllZip (IsAtHome slots) ids planned
    → IsDistinct nat_eq ids → ((id : ℕ) → Contains ids id → IsKnown entries slots state id)
    → restorings state (as_writes entries rewrites planned) ≡ map (write_for entries) (map (put_at_home slots) ids)
unfolding IsDistinct
changes_restored entries rewrites slots state [] [] zip distinct known = refl
changes_restored entries rewrites slots state [] (one ∷ planned) zip distinct known = absurd zip
changes_restored entries rewrites slots state (id ∷ ids) [] zip distinct known = absurd zip
changes_restored entries rewrites slots state (id ∷ ids) (one ∷ planned) zip distinct known =
    ap (λ (write : Write). restoring state write ∷ restorings (apply state write) (as_writes entries rewrites planned)) is
    ∙ ap₂ (λ (first : Write) (rest : List Write). first ∷ rest) (ap (λ (entry : Option Entry). Slot (home_slot slots id) entry) here.1)
    (changes_restored entries rewrites slots (apply state (Slot (home_slot slots id) entry)) ids planned zip.1 distinct.1 (λ other member.
    known_still entries slots state id other entry (λ same. all_apart id ids distinct.0 (subst (Contains ids) (sym same) member)) here (known other (contains_tail id other ids member))))
  where
    entry : Option Entry
    entry = (zip.0 entries rewrites).0

    is : as_write entries rewrites one ≡ Slot (home_slot slots id) entry
    is = (zip.0 entries rewrites).1

    here : IsKnown entries slots state id
    here = known id (contains_head id ids)
