-- What was made of a manager's device leaves there what its planner keeps; a plan's parts are those of its undivided writes.
use Rattle.std.proofs.Common.{◌≡◌, ℕ, ◌+◌, ◌-◌, ◌<◌, ◌≤◌, Bool, true, false, Option, None, Some, List, [], ◌∷◌, ◌++◌, length, take, replicate, refl, sym, ap, ap₂, subst, ◌∙◌, arith}
use Rattle.std.proofs.Math.Seq.{take-append_seam}
use Rattle.std.proofs.lemmas.List.{length-replicate, replicate-append-replicate}
use Rattle.std.specs.List.{AllByRecursion, AllZip}
use Rattle.slot_order.specs.Order.{slot}
use Rattle.slot_order.proofs.Lists.{all_append}
use Rattle.rule_model.specs.declared.words.Word.{Word}
use Rattle.rule_model.specs.declared.words.Entry.{Entry}
use Rattle.rule_model.specs.Entry.{same_match}
use Rattle.rule_store.specs.declared.Command.{Command}
use Rattle.rule_store.specs.declared.Mode.{Mode}
use Rattle.rule_store.specs.Batch.{set_after}
use Rattle.batch_order.specs.declared.Placement.{Placement}
use Rattle.tcam_device.specs.declared.Write.{Write}
use Rattle.tcam_device.specs.declared.Write.TheVariants as whole
use Rattle.tcam_device.specs.State.{State, IsInUse, apply, blank, on_device, state_after}
use Rattle.tcam_device.specs.declared.Action.{Action}
use Rattle.tcam_device.specs.Flight.{writes_in}
use Rattle.tcam_device.specs.Insertion.{insertions}
use Rattle.tcam_device.proofs.Wider.{in_use_after, slots-after, state_after-on_device}
use Rattle.commit_writes.specs.Actions.{commit_actions, have_bits}
use Rattle.commit_writes.specs.Bits.{bits_with, new_bits}
use Rattle.commit_writes.specs.Commit.{IsSegment}
use Rattle.commit_writes.specs.PlannedBatch.{batch_writes}
use Rattle.commit_writes.specs.Segments.{MayBegin}
use Rattle.commit_writes.specs.Shape.{fresh_writes}
use Rattle.commit_writes.proofs.Wider.{all_back}
use Rattle.commit_writes.proofs.WritesIn.{writes_of_commit}
use Rattle.batch_order.specs.CarriedOut.{finished}
use Rattle.batch_order.specs.Managed.{Holds, Managed}
use Rattle.batch_order.specs.Placing.{IsPlacedBy}
use Rattle.batch_order.proofs.under_way.Carried.{on_device-apply}
use Rattle.split_device.specs.declared.SplitWrite.{SplitWrite}
use Rattle.split_device.specs.declared.SplitAction.{SplitAction}
use Rattle.split_device.specs.State.{SplitState, IsSized, IsSplitInUse, blank_split, no_result, undivided, split_after}
use Rattle.split_device.specs.Drains.{SinceDrain}
use Rattle.split_device.specs.Flight.{written}
use Rattle.split_writes.specs.declared.SplitDone.{SplitDone}
use Rattle.split_writes.specs.Laws.{ArePlannedOn, IsBegun}
use Rattle.split_writes.specs.Parts.{made_of, parts_of_writes, parts_over, write_parts}
use Rattle.split_writes.specs.Insertion.{split_insertions, TakesThreeEach}
use Rattle.split_writes.specs.Segment.{IsSplitSegment}
use Rattle.split_writes.specs.UnderWay.{IsUnderWay}
use Rattle.split_writes.proofs.Bound.{commit_parted, commit_split_exact}
use Rattle.split_writes.proofs.Counts.{three_each}
use Rattle.split_writes.proofs.Insertions.{IsParted}
use Rattle.split_writes.proofs.Made.{made_writes, written_append}
use Rattle.split_writes.proofs.RowExact.{IsExactly}
use Rattle.split_writes.proofs.Segment.{makes_segments}
use Rattle.split_writes.proofs.Undivided.{after_append, parts_lead, sized_after, sizes_kept}
use Rattle.split_order.specs.CarriedOut.{finished_split}
use Rattle.split_order.specs.Left.{left_of, left_of_held, since_of, state_on}
use Rattle.split_order.specs.Managed.{SplitManaged, fresh_split}
use Rattle.split_order.specs.Prepared.{HoldsSplit}
use Rattle.split_order.proofs.Behind.{left_begun}
use Rattle.split_order.proofs.Dues.{parts_same}
use Rattle.split_order.proofs.Rested.{undivided_blank}
use Rattle.router.specs.Run.{IsPartOfCommit, Setting, used_slots}
use Rattle.router.specs.Routing.{HasPlannedState, managed_table}

-- a device of any number of slots has a result word of each
blank_slots : (slots : ℕ) → length (blank_split slots).slots ≡ slots
blank_slots slots = length-replicate {A = Option (Word × Word)} slots None

pub sized_on : (slots : ℕ) (m : SplitManaged) → IsSized (state_on slots m)
sized_on slots m = sized_after (blank_split slots) (written m.events) (length-replicate slots no_result ∙ sym (blank_slots slots))

pub size_on : (slots : ℕ) (m : SplitManaged) → length (state_on slots m).slots ≡ slots
size_on slots m = (sizes_kept (blank_split slots) (written m.events)).0 ∙ blank_slots slots

-- the slots that aren't in use are blank too
blank_wide : (slots wide : ℕ) → slots ≤ wide → blank wide ≡ on_device wide (blank slots)
blank_wide slots wide within =
    let all : wide ≡ slots + (wide - slots) = omega arith in
    ap (λ (held : List (Option Entry)). record (blank wide) { slots = held })
    (ap (λ n. replicate n None) all ∙ (sym (replicate-append-replicate slots (wide - slots) None) ∙ ap (λ n. replicate slots None ++ replicate (wide - n) None) (sym (length-replicate {A = Option Entry} slots None))))

-- before the first act
pub planned_before : (slots : ℕ) (mode : Mode) (placement : Placement) → HasPlannedState (fresh_split slots mode placement)
planned_before slots mode placement = record {
  size = length-replicate {A = Option Entry} slots None;
  on = λ wide within. undivided_blank wide ∙ blank_wide slots wide within;
}

-- what is written in some slots is so in more
in_wider : (few many : ℕ) → few ≤ many → (writes : List Write) → AllByRecursion (IsInUse few) writes → AllByRecursion (IsInUse many) writes
in_wider few many le [] all = tt
in_wider few many le (whole.Slot at entry ∷ writes) all = (let below = all.0 in omega arith, in_wider few many le writes all.1)
in_wider few many le (whole.Table field port word ∷ writes) all = (tt, in_wider few many le writes all.1)

-- the parts of a write are in its slot
put_inside : (slots at : ℕ) (entry : Entry) (held : Option Entry) → at < slots → AllByRecursion (IsSplitInUse slots) (parts_over held at entry)
put_inside slots at entry None inside = (inside, (inside, tt))
put_inside slots at entry (Some standing) inside = by (same_match entry standing) refl
  where
    by : (same : Bool) → same_match entry standing ≡ same → AllByRecursion (IsSplitInUse slots) (parts_over (Some standing) at entry)
    by true e = rw e (inside, tt)
    by false e = rw e (inside, (inside, (inside, tt)))

parts_inside : (slots : ℕ) (state : State) (write : Write) → IsInUse slots write → AllByRecursion (IsSplitInUse slots) (write_parts state write)
parts_inside slots state (whole.Slot at None) inside = (inside, tt)
parts_inside slots state (whole.Slot at (Some entry)) inside = put_inside slots at entry (slot state.slots at) inside
parts_inside slots state (whole.Table field port word) inside = (tt, tt)

all_inside : (slots : ℕ) (state : State) (writes : List Write) → AllByRecursion (IsInUse slots) writes → AllByRecursion (IsSplitInUse slots) (parts_of_writes state writes)
all_inside slots state [] inside = tt
all_inside slots state (write ∷ writes) inside =
    all_append (IsSplitInUse slots) (write_parts state write) (parts_of_writes (apply state write) writes) (parts_inside slots state write inside.0) (all_inside slots (apply state write) writes inside.1)

-- and they are the same on a wider device
parts_wide : (slots : ℕ) (wide state : State) (writes : List Write) → wide ≡ on_device slots state → AllByRecursion (IsInUse (length state.slots)) writes → parts_of_writes wide writes ≡ parts_of_writes state writes
parts_wide slots wide state [] same inside = refl
parts_wide slots wide state (write ∷ writes) same inside =
    ap₂ (λ (first rest : List SplitWrite). first ++ rest) (sym (parts_same slots wide state write same))
    (parts_wide slots (apply wide write) (apply state write) writes (ap (λ (s : State). apply s write) same ∙ sym (on_device-apply slots state write inside.0)) (in_use_after state write writes inside.1))

-- a batch that a manager has taken
module _ (m : SplitManaged) (batch : List Command) (counts : SplitDone) (m' : SplitManaged) (stands : HasPlannedState m) (holds : HoldsSplit m batch counts m') where
  abbrev planner : Holds m.whole batch holds.whole.0 m'.whole
  planner = holds.whole.1

  abbrev writes : List Write
  writes = planner.made

  abbrev actions : List Action
  actions = commit_actions m.whole.mode m.whole.bits m.whole.rules batch writes

  same_writes : writes_in actions ≡ writes
  same_writes = writes_of_commit (have_bits (new_bits m.whole.bits (bits_with m.whole.mode m.whole.rules batch m.whole.bits))) writes

  own : AllByRecursion (IsInUse (length m.whole.state.slots)) writes
  own = subst (λ n. AllByRecursion (IsInUse n) writes) (sym stands.size) planner.in_use

  within : (slots : ℕ) → m.whole.slots ≤ slots → AllByRecursion (IsInUse (length (state_on slots m).slots)) writes
  within slots wide = in_wider m.whole.slots (length (state_on slots m).slots) (subst (λ n. m.whole.slots ≤ n) (sym (size_on slots m)) wide) writes planner.in_use

  begun : (slots : ℕ) → m.whole.slots ≤ slots → IsBegun m.whole.mode m.whole.bits m.whole.rules batch (state_on slots m) writes
  begun slots wide = record {
    sized = sized_on slots m;
    in_use = within slots wide;
    may_begin = subst (MayBegin m.whole.mode m.whole.bits m.whole.rules batch) (sym (stands.on slots wide)) (planner.begins slots wide);
    segment = subst (λ (s : State). IsSegment m.whole.mode m.whole.bits m.whole.rules batch s writes) (sym (stands.on slots wide)) (planner.segment slots wide);
  }

  planned : (slots : ℕ) → m.whole.slots ≤ slots → ArePlannedOn m.whole.mode m.whole.bits m.whole.rules batch (undivided (state_on slots m)) writes
  planned slots wide = record {
    device_slots = slots;
    own = m.whole.state;
    stands = stands.on slots wide;
    live = planner.placed.live;
    arrangement = planner.placed.arrangement;
    entries = planner.placed.entries;
    planned = planner.placed.parts.planned;
    rewrites = planner.placed.parts.rewrites;
    erased = planner.placed.parts.erased;
    commit = planner.placed.plan;
    writes_are = planner.placed.writes_are;
  }

  -- what is left is what is made of its actions
  abbrev made_on_device : ℕ → List SplitAction
  made_on_device slots = made_of (state_on slots m) (since_of m) actions

  left_planned : (slots : ℕ) → m.whole.slots ≤ slots → left_of slots m' ≡ made_on_device slots
  left_planned slots wide =
      ap₂ (λ (s : SplitState) (c : SinceDrain). left_of_held s c m'.whole.state m'.made m'.whole.held)
      (ap (λ (events : List SplitAction). state_on slots (record m { events = events })) holds.events) (ap (λ (events : List SplitAction). since_of (record m { events = events })) holds.events)
      ∙ (ap₂ (λ (w : Managed) (n : ℕ). left_of_held (state_on slots m) (since_of m) w.state n w.held) planner.new_is holds.made
      ∙ left_begun slots (state_on slots m) (since_of m) m.whole.state actions (stands.on slots wide))

  -- the parts are those of its undivided writes
  parts_are : (slots : ℕ) → m.whole.slots ≤ slots → written (made_on_device slots) ≡ parts_of_writes (undivided (state_on slots m)) writes
  parts_are slots wide =
      made_writes (state_on slots m) (since_of m) actions (sized_on slots m) (subst (AllByRecursion (IsInUse (length (state_on slots m).slots))) (sym same_writes) (within slots wide))
      ∙ ap (parts_of_writes (undivided (state_on slots m))) same_writes

  left_parts : (slots : ℕ) → m.whole.slots ≤ slots → written (left_of slots m') ≡ parts_of_writes m.whole.state writes
  left_parts slots wide = ap written (left_planned slots wide) ∙ (parts_are slots wide ∙ parts_wide slots (undivided (state_on slots m)) m.whole.state writes (stands.on slots wide) own)

  -- each insertion takes three of each entry that it puts, but one
  exact_on : (slots : ℕ) (wide : m.whole.slots ≤ slots) → AllZip TakesThreeEach (insertions (undivided (state_on slots m)) writes) (split_insertions (state_on slots m) (written (made_on_device slots)))
  exact_on slots wide =
      let state : SplitState = state_on slots m in
      let plan : IsPlacedBy m.whole.placement m.whole.mode m.whole.bits m.whole.rules batch m.whole.state writes = planner.placed in
      let all : List Write = fresh_writes m.whole.mode m.whole.bits m.whole.rules batch m.whole.state ++ batch_writes plan.entries plan.arrangement plan.parts.planned plan.parts.rewrites plan.parts.erased in
      let inside = all_back (IsInUse (length state.slots)) (fresh_writes m.whole.mode m.whole.bits m.whole.rules batch m.whole.state) (batch_writes plan.entries plan.arrangement plan.parts.planned plan.parts.rewrites plan.parts.erased)
      (subst (AllByRecursion (IsInUse (length state.slots))) plan.writes_are (within slots wide)) in
      let more : ℕ = slots - length m.whole.state.slots in
      let parted : AllZip IsParted (insertions (undivided state) writes) (split_insertions state (written (made_on_device slots))) =
      subst (λ some. AllZip IsParted (insertions (undivided state) some) (split_insertions state (written (made_on_device slots)))) (sym plan.writes_are)
      (subst (λ parts. AllZip IsParted (insertions (undivided state) all) (split_insertions state parts)) (sym (parts_are slots wide ∙ ap (parts_of_writes (undivided state)) plan.writes_are))
      (commit_parted m.whole.mode m.whole.bits m.whole.rules batch m.whole.state plan.live plan.arrangement plan.entries plan.parts.planned plan.parts.rewrites plan.parts.erased more state (sized_on slots m)
      (stands.on slots wide) plan.plan inside)) in
      let exactly : AllByRecursion IsExactly (insertions (undivided state) writes) =
      subst (λ some. AllByRecursion IsExactly (insertions (undivided state) some)) (sym plan.writes_are)
      (commit_split_exact m.whole.mode m.whole.bits m.whole.rules batch m.whole.state plan.live plan.arrangement plan.entries plan.parts.planned plan.parts.rewrites plan.parts.erased more state (sized_on slots m)
      (stands.on slots wide) plan.plan inside) in
      three_each (insertions (undivided state) writes) (split_insertions state (written (made_on_device slots))) exactly parted

  abbrev segment_on : (slots : ℕ) (wide : m.whole.slots ≤ slots) → IsSplitSegment m.whole.mode m.whole.bits m.whole.rules batch (state_on slots m) (since_of m) (made_on_device slots)
  segment_on slots wide =
      let all = (makes_segments m.whole.mode m.whole.bits m.whole.rules batch (state_on slots m) (since_of m) writes (begun slots wide) (planned slots wide)).0 in
      record {
        writes = writes;
        undivided_segment = (begun slots wide).segment;
        made_is = refl;
        leads = ap (λ parts. undivided (split_after (state_on slots m) parts)) (parts_are slots wide) ∙ parts_lead (state_on slots m) writes (sized_on slots m) (within slots wide);
        hitless = all.hitless;
        timely = all.timely;
        exact = exact_on slots wide;
        bound = all.bound;
      }

  -- the slots in use hold what the planner keeps
  used_are : (slots : ℕ) (setting : Setting) → m.whole.slots ≤ slots → setting.slots ≡ m.whole.slots → used_slots setting (undivided (state_on slots m)) ≡ m.whole.state
  used_are slots setting wide same =
      let state : State = m.whole.state in
      let others : List (Option Entry) = replicate (slots - length state.slots) None in
      ap (used_slots setting) (stands.on slots wide)
      ∙ ap (λ (first : List (Option Entry)). record state { slots = first }) (ap (λ (count : ℕ). take count (state.slots ++ others)) (same ∙ sym stands.size) ∙ take-append_seam state.slots others)

  -- the setting of its router
  abbrev here : Setting → Setting
  here setting = record setting { slots = m.whole.slots; mode = m.whole.mode; placement = m.whole.placement }

  setting_is : (setting : Setting) → setting.slots ≡ m.whole.slots → setting.mode ≡ m.whole.mode → setting.placement ≡ m.whole.placement → setting ≡ here setting
  setting_is setting slots_are mode placement =
      ap (λ (n : ℕ). record setting { slots = n }) slots_are
      ∙ (ap (λ (one : Mode). record setting { slots = m.whole.slots; mode = one }) mode
      ∙ ap (λ (one : Placement). record setting { slots = m.whole.slots; mode = m.whole.mode; placement = one }) placement)

  -- so it is a table's part of a commit
  pub part_of : (slots : ℕ) (setting : Setting) → m.whole.slots ≤ slots → setting.slots ≡ m.whole.slots → setting.mode ≡ m.whole.mode → setting.placement ≡ m.whole.placement
      → IsPartOfCommit setting slots (managed_table m batch) (left_of slots m')
  part_of slots setting wide slots_are mode placement =
      subst (λ (one : Setting). IsPartOfCommit one slots (managed_table m batch) (left_of slots m')) (sym (setting_is setting slots_are mode placement))
      (subst (IsPartOfCommit (here setting) slots (managed_table m batch)) (sym (left_planned slots wide)) record {
        segment = segment_on slots wide;
        placed = subst (λ (state : State). IsPlacedBy m.whole.placement m.whole.mode m.whole.bits m.whole.rules batch state writes) (sym (used_are slots (here setting) wide refl)) planner.placed;
        in_use = subst (AllByRecursion (IsSplitInUse m.whole.slots)) (sym (parts_are slots wide)) (all_inside m.whole.slots (undivided (state_on slots m)) writes planner.in_use);
        under_way = subst (IsUnderWay m.whole.rules (set_after m.whole.rules batch) m.whole.bits (bits_with m.whole.mode m.whole.rules batch m.whole.bits) (state_on slots m) (since_of m)) (left_planned slots wide)
            (holds.on slots wide).under_way;
      })

  -- once its parts were made, on any device, the device has what the planner keeps then
  state_made : (finished m'.whole).state ≡ state_after m.whole.state writes
  state_made = ap (λ (w : Managed). (finished w).state) planner.new_is ∙ ap (state_after m.whole.state) same_writes

  slots_kept : m'.whole.slots ≡ m.whole.slots
  slots_kept = ap (λ (w : Managed). w.slots) planner.new_is

  pub planned_after : (slots : ℕ) → m.whole.slots ≤ slots → HasPlannedState (finished_split slots m')
  planned_after slots wide = record {
    size = ap (λ (s : State). length s.slots) state_made ∙ (slots-after m.whole.state writes ∙ (stands.size ∙ sym slots_kept));
    on = λ other more.
        let there : m.whole.slots ≤ other = subst (λ (n : ℕ). n ≤ other) slots_kept more in
        let state : SplitState = state_on other m in
        let parts : List SplitWrite = parts_of_writes (undivided state) writes in
        let same : written (left_of slots m') ≡ parts = left_parts slots wide ∙ sym (parts_wide other (undivided state) m.whole.state writes (stands.on other there) own) in
        let journal : written (m'.events ++ left_of slots m') ≡ written m.events ++ parts =
        written_append m'.events (left_of slots m') ∙ ap₂ (λ (events : List SplitAction) (some : List SplitWrite). written events ++ some) holds.events same in
        ap (λ (some : List SplitWrite). undivided (split_after (blank_split other) some)) journal
        ∙ (ap undivided (after_append (blank_split other) (written m.events) parts)
        ∙ (parts_lead state writes (sized_on other m) (within other there)
        ∙ (ap (λ (s : State). state_after s writes) (stands.on other there)
        ∙ (state_after-on_device other m.whole.state writes own ∙ ap (on_device other) (sym state_made)))));
  }
