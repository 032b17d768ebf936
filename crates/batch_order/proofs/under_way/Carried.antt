-- Carrying out a commit: the writes that are left, and the new rules put in at its end.
use Rattle.std.proofs.Common.{◌≡◌, ℕ, ◌+◌, ◌-◌, ◌<◌, ◌≤◌, List, [], ◌∷◌, ◌++◌, length, take, drop, slice_get, replicate, Option, Some, None, refl, sym, ap, ap₂, subst, ◌∙◌, arith, length-drop, length-set, get_or, add-one, zero, suc}
use Rattle.std.specs.List.{AllByRecursion}
use Rattle.std.proofs.lemmas.List.{set-append_left, length-map, length-replicate, replicate-append-replicate, take_all}
use Rattle.std.proofs.Math.Seq.{drop-cons}
use Rattle.std.proofs.lemmas.List.Sums.{fold-append}
use Rattle.slot_pool.specs.Arrangement.{Slots}
use Rattle.rule_model.specs.declared.Rule.{Rule}
use Rattle.rule_model.specs.RuleSet.{IsRuleSet}
use Rattle.rule_model.specs.Rule.{HasConditions}
use Rattle.rule_model.specs.declared.Field.TheVariants.{Src, Dst}
use Rattle.rule_model.specs.declared.words.Entry.{Entry}
use Rattle.rule_store.specs.declared.Mode.{Mode}
use Rattle.commit_writes.specs.Serving.{AreBitsOf}
use Rattle.rule_store.specs.Store.{StoredRules}
use Rattle.rule_store.specs.Batch.{set_after}
use Rattle.rule_store.proofs.After.{set_after-set}
use Rattle.placement.specs.declared.LivePiece.{LivePiece}
use Rattle.tcam_device.specs.declared.Write.{Write}
use Rattle.tcam_device.specs.declared.Write.TheVariants.{Slot, Table}
use Rattle.tcam_device.specs.declared.Action.{Action}
use Rattle.tcam_device.specs.State.{State, IsState, IsInUse, apply, blank, state_after, on_device}
use Rattle.tcam_device.proofs.Wider.{slots-after}
use Rattle.commit_writes.specs.Actions.{with_drain}
use Rattle.commit_writes.specs.Bits.{FieldBits, no_bits}
use Rattle.commit_writes.specs.Planned.{contents, with_slots, held_entry}
use Rattle.commit_writes.specs.PlannedBatch.{erased_live, rewritten_entries}
use Rattle.batch_order.specs.declared.Step.TheVariants.{Finished}
use Rattle.batch_order.specs.declared.held.Held.{Held}
use Rattle.batch_order.specs.declared.translation.Translation.{Translation}
use Rattle.batch_order.specs.declared.Placement.{Placement}
use Rattle.batch_order.specs.Entries.{Entries, KeepEntries}
use Rattle.batch_order.specs.Kept.{IsManaged, IsArranged, bits_after, bits_of, changed_by, held_of, held_writes, mode_of, settled_state, state_of, tables_of, translation_after, undo_left, way_of}
use Rattle.batch_order.specs.Planning.{as_write, all_writes}
use Rattle.batch_order.specs.Managed.{HeldCommit, IsOn, Managed, Way, fresh}
use Rattle.batch_order.specs.Managed.Way.{On}
use Rattle.batch_order.specs.Steps.{StepsOn, end_answer, left_by}
use Rattle.batch_order.proofs.under_way.Drains.{all_made}
use Rattle.batch_order.proofs.arranged.Entered.{contents_kept}
use Rattle.batch_order.proofs.planning.Translated.{bits_kept, mode_kept}
use Rattle.batch_order.proofs.arranged.Unchanged.{arranged_same, settled_live}

-- the view of a manager
abbrev pub view_of : Placement → Option Translation → StoredRules → Entries → Slots → Option Held → Managed
view_of placement translation rules kept slots held = record {
  slots = length slots;
  mode = mode_of translation;
  placement = placement;
  rules = rules.rules;
  bits = bits_of translation;
  state = state_of translation kept.entries slots held;
  held = elim held [ None ↦ None | Some one ↦ Some (held_of translation slots rules.rules kept.entries one) ];
}

-- what stands in empty slots
contents_none : (entries : List (Option Entry)) (count : ℕ) → contents entries (replicate count None) ≡ replicate count None
contents_none entries zero = refl
contents_none entries (suc count) = ap (λ (rest : List (Option Entry)). None ∷ rest) (contents_none entries count)

-- a new manager
pub fresh_view : (slots : ℕ) (mode : Mode) (placement : Placement) (translation : Option Translation) (rules : StoredRules) (kept : Entries) (arrangement : Slots) → mode_of translation ≡ mode
    → bits_of translation ≡ no_bits → tables_of translation ≡ blank 0 → rules.rules ≡ [] → arrangement ≡ replicate slots None
    → view_of placement translation rules kept arrangement None ≡ fresh slots mode placement
fresh_view slots mode placement translation rules kept arrangement coded bits tables none blank_slots =
    ap₂ (λ (m : Mode) (b : FieldBits). made m b (tables_of translation) rules.rules arrangement) coded bits
    ∙ (ap₂ (λ (t : State) (r : List Rule). made mode no_bits t r arrangement) tables none
    ∙ (ap (made mode no_bits (blank 0) []) blank_slots
    ∙ ap₂ (λ (n : ℕ) (e : List (Option Entry)). record { slots = n; mode = mode; placement = placement; rules = []; bits = no_bits; state = with_slots (blank 0) e; held = None })
    (length-replicate slots None) (contents_none kept.entries slots)))
  where
    made : Mode → FieldBits → State → List Rule → Slots → Managed
    made m b t r s = record { slots = length s; mode = m; placement = placement; rules = r; bits = b; state = with_slots t (contents kept.entries s); held = None }

-- the ids and entries of a commit that has finished: those that are live keep the entries that the commit leads to
pub record IsFinished (kept kept' : Entries) (held : Held) : Type 0 where
  pub live : kept'.live ≡ erased_live kept.live held.erased.items
  pub entries : KeepEntries kept'.live (rewritten_entries kept.entries held.rewrites.items) kept'.entries
  pub slots : kept'.slots ≡ kept.slots

-- nothing is left to drop where all was made
took_all : (writes : List Write) (made : ℕ) → drop made writes ≡ [] → take made writes ≡ writes
took_all writes made none = take_all made writes (let left : length (drop made writes) ≡ 0 = ap length none in let size : length (drop made writes) ≡ length writes - made = length-drop made writes in omega arith)

finished_arranged : (mode : Mode) (bits : FieldBits) (rules : List Rule) (kept kept' : Entries) (held : Held) → IsFinished kept kept' held
    → IsArranged mode bits rules (changed_by kept held.rewrites.items held.erased.items) held.arrangement → IsArranged mode bits rules kept' held.arrangement
finished_arranged mode bits rules kept kept' held finished after =
    arranged_same mode bits rules (changed_by kept held.rewrites.items held.erased.items) kept' held.arrangement after finished.live finished.slots
    (subst (λ (l : List LivePiece). KeepEntries l (rewritten_entries kept.entries held.rewrites.items) kept'.entries) finished.live finished.entries)

-- with the batch applied, no commit is under way
module _ (translation translation' : Option Translation) (rules rules' : StoredRules) (kept kept' : Entries) (slots : Slots) (held : Held) (managed : IsManaged translation rules kept slots (Some held))
    (turned : translation' ≡ translation_after translation rules.rules kept.entries held) (is : rules'.rules ≡ set_after rules.rules held.batch) (finished : IsFinished kept kept' held) where
  mode_is : mode_of translation' ≡ mode_of translation
  mode_is = ap mode_of turned ∙ mode_kept translation held.bits (set_after rules.rules held.batch) (held_writes kept.entries held)

  bits_is : bits_of translation' ≡ bits_after rules.rules held
  bits_is = ap bits_of turned ∙ bits_kept translation held.bits (set_after rules.rules held.batch) (held_writes kept.entries held) managed.carried.coded

  pub managed_after : IsManaged translation' rules' kept' held.arrangement None
  managed_after = record {
    right = subst (AllByRecursion HasConditions) (sym is) managed.carried.right;
    is_set = subst IsRuleSet (sym is) (set_after-set rules.rules held.batch managed.is_set managed.carried.sound);
    tables = subst (λ (t : Option Translation). IsState 0 (tables_of t)) (sym turned) managed.carried.tables;
    translated = subst (λ (set : List Rule). AreBitsOf (mode_of translation') (bits_of translation') set (tables_of translation')) (sym is)
        (subst (λ (m : Mode). AreBitsOf m (bits_of translation') (set_after rules.rules held.batch) (tables_of translation')) (sym mode_is)
        (subst (λ (b : FieldBits). AreBitsOf (mode_of translation) b (set_after rules.rules held.batch) (tables_of translation')) (sym bits_is)
        (subst (λ (t : Option Translation). AreBitsOf (mode_of translation) (bits_after rules.rules held) (set_after rules.rules held.batch) (tables_of t)) (sym turned) managed.carried.translated)));
    carried = subst (λ (set : List Rule). IsArranged (mode_of translation') (bits_of translation') set kept' held.arrangement) (sym is)
        (subst (λ (m : Mode). IsArranged m (bits_of translation') (set_after rules.rules held.batch) kept' held.arrangement) (sym mode_is)
        (subst (λ (b : FieldBits). IsArranged (mode_of translation) b (set_after rules.rules held.batch) kept' held.arrangement) (sym bits_is)
        (finished_arranged (mode_of translation) (bits_after rules.rules held) (set_after rules.rules held.batch) kept kept' held finished managed.carried.after)));
  }

  -- the state stays where the last write was made, and is that of the entries as they are arranged then
  pub finish_steps : (placement : Placement) (words : ℕ) → held.turned ≡ None → with_drain held.awaits (drop held.made (held_writes kept.entries held)) ≡ []
      → StepsOn (view_of placement translation rules kept slots (Some held)) (held_of translation slots rules.rules kept.entries held) words (with_drain held.awaits (drop held.made (held_writes kept.entries held))) (Finished held.counts) (view_of placement translation' rules' kept' held.arrangement None)
  finish_steps placement words forward over =
      let none : drop held.made (held_writes kept.entries held) ≡ [] = (all_made held.awaits (drop held.made (held_writes kept.entries held)) over).1 in
      let carried = managed.carried in
      let size : length held.arrangement ≡ length slots = carried.after.settled.size ∙ sym carried.size in
      let state : settled_state translation' kept'.entries held.arrangement ≡ state_of translation kept.entries slots (Some held) =
      ap₂ (λ (t : Option Translation) (e : List (Option Entry)). with_slots (tables_of t) e) turned
      (contents_kept kept'.live (rewritten_entries kept.entries held.rewrites.items) kept'.entries held.arrangement finished.entries
      (settled_live kept' held.arrangement (finished_arranged (mode_of translation) (bits_after rules.rules held) (set_after rules.rules held.batch) kept kept' held finished carried.after).settled))
      ∙ (sym carried.leads ∙ ap (state_after (settled_state translation kept.entries slots)) (sym (took_all (held_writes kept.entries held) held.made none))) in
      let old : Managed = view_of placement translation rules kept slots (Some held) in
      let one : HeldCommit = held_of translation slots rules.rules kept.entries held in
      let goes : one.way ≡ On (undo_left translation slots kept.entries held) = ap (λ (t : Option ℕ). way_of t (undo_left translation slots kept.entries held)) forward in
      subst (λ (left : List Action). StepsOn (view_of placement translation rules kept slots (Some held)) (held_of translation slots rules.rules kept.entries held) words left (Finished held.counts) (view_of placement translation' rules' kept' held.arrangement None)) (sym over) (
        sym (ap (λ (w : Way). end_answer w held.counts) goes),
        ap₂ (λ (n : ℕ) (m : Mode). now n m (bits_of translation') rules'.rules (settled_state translation' kept'.entries held.arrangement)) size mode_is
            ∙ (ap₂ (λ (b : FieldBits) (r : List Rule). now (length slots) (mode_of translation) b r (settled_state translation' kept'.entries held.arrangement)) bits_is is
            ∙ (ap (now (length slots) (mode_of translation) (bits_after rules.rules held) (set_after rules.rules held.batch)) state
            ∙ sym (ap (left_by old one) goes))),
      )
    where
      now : ℕ → Mode → FieldBits → List Rule → State → Managed
      now n m b r s = record { slots = n; mode = m; placement = placement; rules = r; bits = b; state = s; held = None }

-- the next write is the first of those that are left
pub get-drop : (writes : List Write) (n : ℕ) → slice_get (drop n writes) 0 ≡ slice_get writes n
get-drop [] zero = refl
get-drop [] (suc n) = refl
get-drop (write ∷ writes) zero = refl
get-drop (write ∷ writes) (suc n) = get-drop writes n

pub drop-read : (writes : List Write) (place : ℕ) (write : Write) → place < length writes → write ≡ get_or writes place write → drop place writes ≡ write ∷ drop (place + 1) writes
drop-read writes place write inside read =
    drop-cons writes place write inside ∙ ap₂ (λ (w : Write) (n : ℕ). w ∷ drop n writes) (sym read) (sym (add-one place))

-- the writes of a commit under way are as many as the planned ones
pub held_size : (entries : List (Option Entry)) (held : Held) → length (held_writes entries held) ≡ length (all_writes held.writes)
held_size entries held = length-map (all_writes held.writes) (as_write entries held.rewrites.items)

-- as many slots as are in use
pub state_size : (translation : Option Translation) (kept : Entries) (slots : Slots) (held : Option Held) → length (state_of translation kept.entries slots held).slots ≡ length slots
state_size translation kept slots None = length-map slots (held_entry kept.entries)
state_size translation kept slots (Some held) = slots-after (settled_state translation kept.entries slots) (take held.made (held_writes kept.entries held)) ∙ length-map slots (held_entry kept.entries)

-- a write to a slot in use is the same on a device with more slots
pub on_device-apply : (device_slots : ℕ) (state : State) (write : Write) → IsInUse (length state.slots) write → on_device device_slots (apply state write) ≡ apply (on_device device_slots state) write
on_device-apply device_slots state (Slot at entry) inside =
    ap₂ (λ (slots : List (Option Entry)) (n : ℕ). record state { slots = slots ++ replicate (device_slots - n) None }) refl (length-set state.slots at entry)
    ∙ ap (λ (slots : List (Option Entry)). record state { slots = slots }) (sym (set-append_left state.slots (replicate (device_slots - length state.slots) None) at entry inside))
on_device-apply device_slots state (Table Src port word) inside = refl
on_device-apply device_slots state (Table Dst port word) inside = refl

-- a new manager is on a blank device
pub on_blank : (slots device_slots : ℕ) (mode : Mode) (placement : Placement) → slots ≤ device_slots → IsOn device_slots [] (fresh slots mode placement)
on_blank slots device_slots mode placement within =
    let blanks : List (Option Entry) = replicate slots None in
    let all : slots + (device_slots - slots) ≡ device_slots = omega arith in
    let f : List (Option Entry) → State = λ s. record (blank device_slots) { slots = s } in
    ap f (ap (λ n. blanks ++ replicate (device_slots - n) None) (length-replicate slots None)
    ∙ (replicate-append-replicate slots (device_slots - slots) None ∙ ap (λ n. replicate n None) all))

-- the device stays the manager's where nothing was written
pub on_same : (device_slots device_slots' : ℕ) (journal journal' : List Write) (old new : Managed) → device_slots' ≡ device_slots → journal' ≡ journal → new.state ≡ old.state
    → IsOn device_slots journal old → IsOn device_slots' journal' new
on_same device_slots device_slots' journal journal' old new size told state on =
    subst (λ (n : ℕ). IsOn n journal' new) (sym size) (subst (λ (j : List Write). IsOn device_slots j new) (sym told) (ap (on_device device_slots) state ∙ on))

-- and where a write of a slot in use was
pub on_written : (device_slots device_slots' : ℕ) (journal journal' : List Write) (old new : Managed) (write : Write) → device_slots' ≡ device_slots
    → journal' ≡ journal ++ write ∷ [] → new.state ≡ apply old.state write → length old.state.slots ≡ old.slots → IsInUse old.slots write
    → IsOn device_slots journal old → IsOn device_slots' journal' new
on_written device_slots device_slots' journal journal' old new write size told state slots inside on =
    subst (λ (n : ℕ). IsOn n journal' new) (sym size) (subst (λ (j : List Write). IsOn device_slots j new) (sym told)
    (ap (on_device device_slots) state
    ∙ (on_device-apply device_slots old.state write (subst (λ (n : ℕ). IsInUse n write) (sym slots) inside)
    ∙ (ap (λ (s : State). apply s write) on
    ∙ sym (fold-append apply _ journal (write ∷ []))))))
