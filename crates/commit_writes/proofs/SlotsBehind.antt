-- Behind its table words a commit writes slots alone.
use Rattle.std.proofs.Common.{◌≡◌, Bool, true, false, List, [], ◌∷◌, ◌++◌, length, Some, None, refl, ap, subst, arith}
use Rattle.std.specs.Prelude.{flat_map, IsFalse}
use Rattle.std.specs.List.{AllZip}
use Rattle.slot_order.proofs.Lists.{all_append}
use Rattle.rule_model.specs.declared.Rule.{Rule}
use Rattle.rule_store.specs.declared.Mode.{Mode}
use Rattle.rule_store.specs.declared.Command.{Command}
use Rattle.rule_store.proofs.Counts.{count_by-append}
use Rattle.rule_model.specs.Entry.{RankedPiece}
use Rattle.tcam_device.specs.declared.Write.{Write}
use Rattle.tcam_device.specs.declared.Write.TheVariants.{Slot, Table}
use Rattle.tcam_device.specs.State.{State, apply, state_after}
use Rattle.tcam_device.specs.Insertion.{Insertion, insertions_from, is_new, is_table_write, table_writes}
use Rattle.commit_writes.specs.Bits.{FieldBits, bits_with, new_bits}
use Rattle.commit_writes.specs.Shape.{HasShape, Rewrites, Erases, due_of, fresh_writes}
use Rattle.commit_writes.proofs.SlotWrites.{AreToSlots, no_table}
use Rattle.commit_writes.proofs.TableWrites.{bit_writes-tables, all_tables}

-- the write goes to a slot
abbrev IsToSlot : Write → Type 0
IsToSlot write = IsFalse (is_table_write write)

-- insertions have slot writes alone
pub insertion_slots : (begun : State) (run : List Write) (state : State) (writes : List Write) → AreToSlots run
    → AreToSlots (flat_map (λ (made : Insertion). made.writes) (insertions_from begun run state writes))
insertion_slots begun run state [] all = tt
insertion_slots begun run state (Slot at None ∷ writes) all =
    insertion_slots begun (run ++ Slot at None ∷ []) (apply state (Slot at None)) writes (all_append IsToSlot run (Slot at None ∷ []) all (refl, tt))
insertion_slots begun [] state (Table field port word ∷ writes) all =
    insertion_slots (apply state (Table field port word)) [] (apply state (Table field port word)) writes tt
insertion_slots begun (first ∷ run) state (Table field port word ∷ writes) all =
    insertion_slots begun (first ∷ run) (apply state (Table field port word)) writes all
insertion_slots begun run state (Slot at (Some entry) ∷ writes) all =
    split (is_new state entry) refl (insertion_slots next [] next writes tt) (insertion_slots begun longer next writes more)
  where
    next : State
    next = apply state (Slot at (Some entry))

    longer : List Write
    longer = run ++ Slot at (Some entry) ∷ []

    more : AreToSlots longer
    more = all_append IsToSlot run (Slot at (Some entry) ∷ []) all (refl, tt)

    split : (new : Bool) → is_new state entry ≡ new
        → AreToSlots (flat_map (λ (made : Insertion). made.writes) (insertions_from next [] next writes))
        → AreToSlots (flat_map (λ (made : Insertion). made.writes) (insertions_from begun longer next writes))
        → AreToSlots (flat_map (λ (made : Insertion). made.writes) (insertions_from begun run state (Slot at (Some entry) ∷ writes)))
    split true is anew on = rw (is, insertions_from) (all_append IsToSlot longer (flat_map (λ (made : Insertion). made.writes) (insertions_from next [] next writes)) more anew)
    split false is anew on = rw (is, insertions_from) on

-- new results and erases too
rewrites_slots : (state : State) (pieces : List RankedPiece) (writes : List Write) → AllZip (Rewrites state) pieces writes → AreToSlots writes
rewrites_slots state [] [] zip = tt
rewrites_slots state [] (write ∷ writes) zip = absurd zip
rewrites_slots state (piece ∷ pieces) [] zip = absurd zip
rewrites_slots state (piece ∷ pieces) (write ∷ writes) zip = (ap is_table_write zip.0.2, rewrites_slots state pieces writes zip.1)

erases_slots : (state : State) (pieces : List RankedPiece) (writes : List Write) → AllZip (Erases state) pieces writes → AreToSlots writes
erases_slots state [] [] zip = tt
erases_slots state [] (write ∷ writes) zip = absurd zip
erases_slots state (piece ∷ pieces) [] zip = absurd zip
erases_slots state (piece ∷ pieces) (write ∷ writes) zip = (ap is_table_write zip.0.2, erases_slots state pieces writes zip.1)

-- the writes of a commit: those to the tables, and then slot writes
pub record IsCutAtSlots (tables made : List Write) : Type 0 where
  pub rest : List Write
  pub parts : made ≡ tables ++ rest
  pub slots : AreToSlots rest
  pub count : table_writes made ≡ length tables

pub cut_at_slots : (mode : Mode) (bits : FieldBits) (rules : List Rule) (batch : List Command) (state : State) (made : List Write)
    → HasShape (fresh_writes mode bits rules batch state) (due_of mode (bits_with mode rules batch bits) rules batch) state made → IsCutAtSlots (fresh_writes mode bits rules batch state) made
cut_at_slots mode bits rules batch state made shape =
    let tables = fresh_writes mode bits rules batch state in
    let rest = shape.inserted ++ (shape.rewritten ++ shape.erased) in
    let slots : AreToSlots rest =
    all_append IsToSlot shape.inserted (shape.rewritten ++ shape.erased)
    (subst AreToSlots shape.whole (insertion_slots (state_after state tables) [] (state_after state tables) shape.inserted tt))
    (all_append IsToSlot shape.rewritten shape.erased (rewrites_slots (state_after state (tables ++ shape.inserted)) _ shape.rewritten shape.results) (erases_slots (state_after state (tables ++ shape.inserted ++ shape.rewritten)) _ shape.erased shape.erases)) in
    record {
      rest = rest;
      parts = shape.parts;
      slots = slots;
      count =
          let split = count_by-append is_table_write tables rest in
          let first = all_tables tables (bit_writes-tables state (new_bits bits (bits_with mode rules batch bits))) in
          let none = no_table rest slots in
          let same = ap table_writes shape.parts in
          omega arith;
    }
