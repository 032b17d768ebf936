-- What callers see of a manager that goes on with a commit, and the room that it has for it.
use Rattle.std.proofs.Common.{◌≡◌, ℕ, ◌+◌, ◌*◌, ◌^◌, ◌≤◌, true, false, Option, None, Some, List, [], length, append_assoc, refl, sym, ◌∙◌, ap, ap₂, subst, arith}
use Rattle.std.specs.List.{AllByRecursion}
use Rattle.std.proofs.lemmas.List.{length-map}
use Rattle.slot_pool.specs.Arrangement.{Slots}
use Rattle.rule_model.specs.declared.IpVersion.{IpVersion}
use Rattle.rule_model.specs.declared.Rule.{Rule}
use Rattle.rule_store.specs.declared.Mode.{Mode}
use Rattle.rule_store.specs.declared.Mode.TheVariants.{Cover, Bits}
use Rattle.rule_store.specs.declared.Command.{Command}
use Rattle.rule_store.specs.Batch.{set_after}
use Rattle.rule_store.specs.Store.{StoredRules}
use Rattle.tcam_device.specs.declared.Write.{Write}
use Rattle.tcam_device.specs.Flight.{writes_in}
use Rattle.tcam_device.specs.Insertion.{IsUncrossed}
use Rattle.tcam_device.specs.State.{State, IsInUse, on_device}
use Rattle.commit_writes.specs.Proposal.{proposal}
use Rattle.commit_writes.specs.declared.Done.{Done}
use Rattle.commit_writes.specs.Actions.{with_drain}
use Rattle.commit_writes.specs.Bits.{FieldBits, bits_left, bits_with}
use Rattle.commit_writes.specs.Planned.{Planned}
use Rattle.commit_writes.specs.PlannedBatch.{AreNumbersOf, batch_writes}
use Rattle.commit_writes.specs.Routes.{IsRoute, prefix_lengths}
use Rattle.commit_writes.specs.Changes.{during_of}
use Rattle.commit_writes.specs.Shape.{fresh_writes, insertions_behind}
use Rattle.commit_writes.specs.Commit.{AreCounts}
use Rattle.readback.specs.declared.Parts.{Parts}
use Rattle.readback.specs.declared.staging.Shown.{Shown}
use Rattle.readback.specs.Fault.{AreSetBits}
use Rattle.readback.specs.Going.{GoesOn, needs_drain, twin_writes}
use Rattle.readback.specs.Laws.{CanCommit}
use Rattle.readback.specs.Stage.{IsCommitAt}
use Rattle.readback.specs.Tasks.{Task}
use Rattle.readback.proofs.Begun.{no_bits_live}
use Rattle.readback.specs.PlannedRest.{restart_writes}
use Rattle.readback.specs.Halt.{parts_as_planned}
use Rattle.readback.proofs.Counts.{restarts_counted, restarts_uncrossed}
use Rattle.readback.proofs.Narrow.{stages_narrow}
use Rattle.batch_order.specs.declared.Placement.{Placement}
use Rattle.batch_order.specs.declared.held.Held.{Held}
use Rattle.batch_order.specs.declared.restarting.resuming.Rest.{Rest}
use Rattle.batch_order.specs.declared.translation.Translation.{Translation}
use Rattle.batch_order.specs.Entries.{Entries}
use Rattle.batch_order.specs.Kept.{bits_of, held_of, held_writes, mode_of, tables_of}
use Rattle.batch_order.specs.Managed.{HasBlankTables, Managed, OnlyChangesRoutes, room_both_ways}
use Rattle.batch_order.specs.Managed.Way.{On}
use Rattle.batch_order.specs.Placing.{IsRestPlacedBy}
use Rattle.batch_order.specs.Restart.{Resumes, bits_in, has_drained, in_use}
use Rattle.batch_order.specs.Standing.{managed_by}
use Rattle.batch_order.specs.Stopped.{counts_of}
use Rattle.batch_order.specs.Planning.{as_write, all_writes}
use Rattle.batch_order.proofs.under_way.Carried.{held_size}
use Rattle.batch_order.proofs.under_way.Drains.{length_drain, writes_left_are}
use Rattle.batch_order.proofs.restarted.GoesOn.{IsResumed, goes_on, held_by, restart_on, start_is, writes_are}
use Rattle.batch_order.proofs.planning.Meant.{used_within}

-- by covers no range has a bit, and the tables are blank
pub bits_read : (mode : Mode) (bits : FieldBits) (rules : List Rule) (batch : List Command) (translation : Option Translation) → mode_of translation ≡ mode → (mode ≡ Bits → bits_of translation ≡ bits)
    → CanCommit mode bits rules batch → bits_of translation ≡ bits
bits_read mode bits rules batch None is read can =
    sym (no_bits_live bits rules can.src_map can.dst_map (subst (λ m. AreSetBits m rules bits) (sym is) can.bits_are))
bits_read mode bits rules batch (Some kept) is read can = read (sym is)

pub tables_read : (mode : Mode) (state : State) (translation : Option Translation) → mode_of translation ≡ mode → (mode ≡ Bits → tables_of translation ≡ record state { slots = [] })
    → (mode ≡ Cover → HasBlankTables state) → tables_of translation ≡ record state { slots = [] }
tables_read mode state None is read blank =
    let none = blank (sym is) in ap₂ (λ src dst. let tables : State = record { slots = []; src = src; dst = dst } in tables) (sym none.src) (sym none.dst)
tables_read mode state (Some kept) is read blank = read (sym is)

module _ (placement : Placement) (translation : Option Translation) (rules : StoredRules) (batch : List Command) (state : State) (shown : Shown) (old new : Entries) (slots slots' found : Slots) (rest : Rest) (some : Held)
    (on : IsResumed placement translation rules batch state shown old new slots slots' found rest) where
  abbrev mode : Mode
  mode = mode_of translation

  abbrev bits : FieldBits
  bits = bits_of translation

  abbrev during : FieldBits
  during = bits_with mode rules.rules batch bits

  abbrev later : List Rule
  later = set_after rules.rules batch

  abbrev twin : Option ℕ
  twin = shown.stage.twin

  abbrev narrow : State
  narrow = in_use (length slots) state

  abbrev held : Held
  held = held_by translation rules batch state slots' rest some

  abbrev done : List Task
  done = on.planned.done

  abbrev left : List Task
  left = on.planned.left

  abbrev planned : List Planned
  planned = on.planned.plan.planned

  abbrev counts : Done
  counts = counts_of rest.plan

  abbrev writes : List Write
  writes = restart_writes (proposal mode bits rules.rules batch) narrow twin new.entries slots planned rest.left.rewrites.items rest.left.erased.items

  are : held_writes new.entries held ≡ writes
  are = writes_are placement translation rules batch state shown old new slots slots' found rest some on

  whole : on_device (length state.slots) narrow ≡ state
  whole = stages_narrow (length slots) mode bits rules.rules batch state done left on.stopped.wide on.planned.stage

  -- the manager by its state, its writes and the ranges that are live meanwhile
  abbrev view : ℕ → State → List Write → FieldBits → Managed
  view n begun made meanwhile = record {
    slots = n;
    mode = mode;
    placement = placement;
    rules = rules.rules;
    bits = bits;
    state = begun;
    held = Some (record {
      prepared = false;
      actions = with_drain (needs_drain mode bits rules.rules batch state) made;
      way = On [];
      counts = counts;
      rules = later;
      during = meanwhile;
      bits = bits_left later meanwhile;
      current = elim (has_drained mode bits rules.rules batch state) [ true ↦ meanwhile | false ↦ bits ];
    });
  }

  view_is : managed_by placement translation rules new found (Some held) ≡ view (length slots) narrow writes during
  view_is =
      ap₂ (λ (n : ℕ) (s : State). view n s (held_writes new.entries held) (during_of rest.bits)) on.size (start_is placement translation rules batch state shown old new slots slots' found rest some on)
      ∙ ap₂ (λ (w : List Write) (b : FieldBits). view (length slots) narrow w b) are on.planned.during

  -- its writes go on, are counted, and cross nothing
  abbrev Facts : State → List Rule → FieldBits → Type 0
  Facts st set before =
      (goes : GoesOn (length slots) mode before set batch st left twin writes)
      × AreCounts writes (insertions_behind goes.shape) counts
      × ((version : IpVersion) → AllByRecursion (IsRoute version) set → OnlyChangesRoutes version batch → IsUncrossed (prefix_lengths version) (insertions_behind goes.shape))

  facts : Facts state rules.rules bits
  facts =
      let restart = restart_on placement translation rules batch state shown old new slots slots' found rest some on (length state.slots) in
      let goes = goes_on placement translation rules batch state shown old new slots slots' found rest some on (length state.slots) in
      let numbers : AreNumbersOf writes planned counts = subst (λ (w : List Write). AreNumbersOf w planned counts) are on.planned.numbers in
      subst (λ (st : State). Facts st rules.rules bits) whole (
        goes,
        restarts_counted (length state.slots) mode bits rules.rules batch narrow done left twin old.live slots new.entries planned rest.left.rewrites.items rest.left.erased.items counts restart numbers goes.shape,
        λ version routes changes. restarts_uncrossed (length state.slots) mode bits rules.rules batch narrow done left twin old.live slots new.entries planned rest.left.rewrites.items rest.left.erased.items version
            restart routes changes goes.shape,
      )

  -- and its insertions are those of the placement
  placed : IsRestPlacedBy placement (length state.slots) (proposal mode bits rules.rules batch) narrow done left twin writes
  placed = record {
    live = old.live;
    arrangement = slots;
    entries = new.entries;
    parts = parts_as_planned planned rest.left.rewrites.items rest.left.erased.items;
    plan = on.planned.plan.restart;
    aims = on.planned.plan.aims_are;
    writes_are = sym (append_assoc (fresh_writes mode bits rules.rules batch narrow) (twin_writes twin) (batch_writes new.entries slots planned rest.left.rewrites.items rest.left.erased.items));
  }

  few_writes : length writes ≤ 2 ^ 35
  few_writes =
      subst (λ (made : List Write). length made ≤ 2 ^ 35) on.planned.plan.writes_are
      (subst (λ (n : ℕ). n ≤ 2 ^ 35) (sym (length-map (all_writes rest.plan.writes) (as_write new.entries rest.left.rewrites.items))) on.planned.few_writes)

  pub resumes : (parts : Parts) → parts.rules.rules ≡ rules.rules → bits_in parts ≡ bits_of translation
      → Resumes (length slots) (mode_of translation) placement parts batch (length state.slots) state (managed_by placement translation rules new found (Some (held_by translation rules batch state slots' rest some)))
  resumes parts same same_bits =
      let all = of_parts (λ set before. Facts state set before) facts in
      record {
        made = writes;
        counts = counts;
        done = done;
        left = left;
        twin = twin;
        set_bits = of_parts (λ set before. AreSetBits mode set before) on.stopped.can.bits_are;
        stage = of_parts (λ set before. IsCommitAt (length slots) mode before set batch state done left) on.planned.stage;
        is_twin = on.stopped.found.twin;
        new_is = view_is ∙ of_parts (λ set before. view (length slots) narrow writes during ≡ shape set before) refl;
        on = whole;
        writes_in_use = subst (AllByRecursion (IsInUse (length slots))) are (used_within (length slots) new.entries rest.left.rewrites.items (all_writes rest.plan.writes) on.planned.within);
        few = few_writes;
        goes_on = all.0;
        placed = of_parts (λ set before. IsRestPlacedBy placement (length state.slots) (proposal mode before set batch) narrow done left twin writes) placed;
        numbers = all.1;
        uncrossed = all.2;
      }
    where
      of_parts : (P : List Rule → FieldBits → Type 0) → P rules.rules bits → P parts.rules.rules (bits_in parts)
      of_parts P is = subst (λ (r : List Rule). P r (bits_in parts)) (sym same) (subst (P rules.rules) (sym same_bits) is)

      shape : List Rule → FieldBits → Managed
      shape set before = record {
        slots = length slots;
        mode = mode;
        placement = placement;
        rules = set;
        bits = before;
        state = narrow;
        held = Some (record {
          prepared = false;
          actions = with_drain (needs_drain mode before set batch state) writes;
          way = On [];
          counts = counts;
          rules = set_after set batch;
          during = bits_with mode set batch before;
          bits = bits_left (set_after set batch) (bits_with mode set batch before);
          current = elim (has_drained mode before set batch state) [ true ↦ bits_with mode set batch before | false ↦ before ];
        });
      }

-- and the room for it, also where the commit were taken back
module _ (translation : Option Translation) (rules : StoredRules) (batch : List Command) (state : State) (found : Slots) (new : Entries) (slots' : Slots) (rest : Rest) (some : Held) where
  abbrev one : Held
  one = held_by translation rules batch state slots' rest some

  abbrev made : List Write
  made = held_writes new.entries one

  pub room_on : (spare : ℕ) → 2 * length (all_writes rest.plan.writes) + 1 ≤ spare → room_both_ways (held_of translation found rules.rules new.entries (held_by translation rules batch state slots' rest some)) ≤ spare
  room_on spare enough =
      let size : length made ≡ length (all_writes rest.plan.writes) = held_size new.entries one in
      let actions : length (with_drain one.awaits made) ≤ length made + 1 = length_drain one.awaits made in
      let all : length (writes_in (with_drain one.awaits made)) ≡ length made = ap length (writes_left_are one.awaits made) in
      omega arith

  pub room_forward : (spare : ℕ) → 2 * length (all_writes rest.plan.writes) + 1 ≤ spare → length (held_of translation found rules.rules new.entries (held_by translation rules batch state slots' rest some)).actions ≤ spare
  room_forward spare enough =
      let size : length made ≡ length (all_writes rest.plan.writes) = held_size new.entries one in
      let actions : length (with_drain one.awaits made) ≤ length made + 1 = length_drain one.awaits made in
      omega arith
