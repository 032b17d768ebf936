-- A commit that was taken back: the manager is as it was before it.
use Rattle.std.proofs.Common.{◌≡◌, ℕ, ◌-◌, true, List, [], length, take, map, Option, Some, None, refl, sym, ap, subst, ◌∙◌, arith}
use Rattle.std.proofs.lemmas.List.{length-map}
use Rattle.slot_pool.specs.Arrangement.{Slots}
use Rattle.rule_model.specs.declared.words.Entry.{Entry}
use Rattle.rule_store.specs.Store.{StoredRules}
use Rattle.placement.specs.declared.LivePiece.{LivePiece}
use Rattle.tcam_device.specs.declared.Action.TheVariants.{Written}
use Rattle.tcam_device.specs.State.{State, state_after}
use Rattle.commit_writes.specs.Undo.{undo_writes}
use Rattle.batch_order.specs.declared.Placement.{Placement}
use Rattle.batch_order.specs.declared.Step.TheVariants as step
use Rattle.batch_order.specs.declared.held.Held.{Held}
use Rattle.batch_order.specs.declared.translation.Translation.{Translation}
use Rattle.batch_order.specs.Entries.{Entries, KeepEntries}
use Rattle.batch_order.specs.Kept.{IsManaged, IsPrepared, bits_of, held_of, held_writes, mode_of, settled_state, undo_left, way_of}
use Rattle.batch_order.specs.Managed.{HeldCommit, Managed, Way}
use Rattle.batch_order.specs.Managed.Way.{Back}
use Rattle.batch_order.specs.Noting.{all_undo}
use Rattle.batch_order.specs.Planning.{as_writes}
use Rattle.batch_order.specs.Steps.{IsAllMade, Steps, StepsOn, cancelled, end_answer, left_by}
use Rattle.batch_order.proofs.under_way.Carried.{view_of}
use Rattle.batch_order.proofs.under_way.Left.{back_actions, steps_as, undo_count}
use Rattle.batch_order.proofs.planning.Refused.{managed_same, view_same}

-- the new ids are live no more, and the others keep their entries
pub record IsReverted (kept kept' : Entries) (held : Held) : Type 0 where
  pub live : kept'.live ≡ take (length kept.live - length held.ids.items) kept.live
  pub entries : KeepEntries kept'.live kept.entries kept'.entries
  pub slots : kept'.slots ≡ kept.slots

-- also where it was told in between where ids stand
pub reverted_behind : (kept between kept' : Entries) (held : Held) → between.live ≡ kept.live → between.entries ≡ kept.entries → between.slots ≡ kept.slots
    → kept'.live ≡ take (length between.live - length held.ids.items) between.live → KeepEntries kept'.live between.entries kept'.entries → kept'.slots ≡ between.slots → IsReverted kept kept' held
reverted_behind kept between kept' held live entries slots gone keeps size = record {
  live = gone ∙ ap (λ (l : List LivePiece). take (length l - length held.ids.items) l) live;
  entries = subst (λ (e : List (Option Entry)). KeepEntries kept'.live e kept'.entries) entries keeps;
  slots = size ∙ slots;
}

module _ (translation : Option Translation) (rules : StoredRules) (kept kept' : Entries) (slots : Slots) (held : Held) (managed : IsManaged translation rules kept slots (Some held))
    (way : IsPrepared translation rules kept slots held.ids.items (held_writes kept.entries held) (as_writes kept.entries held.rewrites.items (all_undo held.undo))) (reverted : IsReverted kept kept' held) where
  idle : IsManaged translation rules (record kept { live = way.before }) slots None
  idle = record { right = managed.right; is_set = managed.is_set; tables = managed.tables; translated = managed.translated; carried = way.old }

  same_live : kept'.live ≡ way.before
  same_live = reverted.live ∙ sym way.before_is

  keeps : KeepEntries way.before kept.entries kept'.entries
  keeps = subst (λ l. KeepEntries l kept.entries kept'.entries) same_live reverted.entries

  -- no commit is under way
  pub managed_reverted : IsManaged translation rules kept' slots None
  managed_reverted = managed_same translation rules rules (record kept { live = way.before }) kept' slots idle refl same_live reverted.slots keeps

  abbrev idle_in : Placement → State → Managed
  idle_in placement state = record { slots = length slots; mode = mode_of translation; placement = placement; rules = rules.rules; bits = bits_of translation; state = state; held = None }

  -- and where no write was made all else is as the commit has it
  pub dropped_view : (placement : Placement) → held.made ≡ 0 → view_of placement translation rules kept' slots None ≡ cancelled true (view_of placement translation rules kept slots (Some held))
  dropped_view placement none =
      view_same placement translation rules rules (record kept { live = way.before }) kept' slots idle refl keeps
      ∙ ap (λ n. idle_in placement (state_after (settled_state translation kept.entries slots) (take n (held_writes kept.entries held)))) (sym none)

  module _ (undone : ℕ) (turned : held.turned ≡ Some undone) (placement : Placement) where
    none_stands : IsAllMade (view_of placement translation rules kept slots (Some held)).held → held.made ≡ 0
    none_stands all =
        let over : map Written (undo_left translation slots kept.entries held) ≡ [] = sym (back_actions translation rules kept slots held managed undone turned) ∙ all in
        let many = length-map (undo_left translation slots kept.entries held) Written in
        let none : length (map Written (undo_left translation slots kept.entries held)) ≡ 0 = ap length over in
        let count : length (undo_left translation slots kept.entries held) ≡ held.made = undo_count translation rules kept slots held managed in
        omega arith

    pub revert_steps : IsAllMade (view_of placement translation rules kept slots (Some held)).held → (words : ℕ)
        → Steps (view_of placement translation rules kept slots (Some held)) words (view_of placement translation rules kept slots (Some held)).held (step.Reverted undone) (view_of placement translation rules kept' slots None)
    revert_steps all words =
        let old : Managed = view_of placement translation rules kept slots (Some held) in
        let one : HeldCommit = held_of translation slots rules.rules kept.entries held in
        let none : held.made ≡ 0 = none_stands all in
        let goes : way_of held.turned (undo_writes (settled_state translation kept.entries slots) (take held.made (held_writes kept.entries held))) ≡ Back undone =
        ap (λ (t : Option ℕ). way_of t (undo_writes (settled_state translation kept.entries slots) (take held.made (held_writes kept.entries held)))) turned in
        let did : StepsOn old one words [] (step.Reverted undone) (view_of placement translation rules kept' slots None) = (
          sym (ap (λ (w : Way). end_answer w held.counts) goes),
          view_same placement translation rules rules (record kept { live = way.before }) kept' slots idle refl keeps
              ∙ ap (λ n. idle_in placement (state_after (settled_state translation kept.entries slots) (take n (held_writes kept.entries held)))) (sym none)
              ∙ sym (ap (left_by old one) goes),
        ) in
        steps_as old one words [] (step.Reverted undone) (view_of placement translation rules kept' slots None) all did
