-- A part that is made: what is left behind it is kept, and the planner goes on with the last part of a write.
use Rattle.std.proofs.Common.{◌≡◌, ℕ, zero, suc, ◌-◌, ◌<◌, ◌≤◌, inl, inr, true, false, Option, None, Some, List, [], ◌∷◌, ◌++◌, length, drop, take, refl, sym, ◌∙◌, ap, ap₂, subst, arith, length-set}
use Rattle.std.specs.Prelude.{IfSome}
use Rattle.std.proofs.lemmas.Bool.{cases_Bool}
use Rattle.std.proofs.lemmas.List.{take-append-drop}
use Rattle.slot_order.specs.Order.{most_slots}
use Rattle.rule_model.specs.declared.Rule.{Rule}
use Rattle.rule_model.specs.declared.Field.TheVariants.{Src, Dst}
use Rattle.commit_writes.specs.Bits.{FieldBits}
use Rattle.tcam_device.specs.declared.Write.{Write}
use Rattle.tcam_device.specs.declared.Write.TheVariants as whole
use Rattle.tcam_device.specs.State.{State, IsInUse, apply, on_device}
use Rattle.tcam_device.specs.declared.Action.{Action}
use Rattle.tcam_device.specs.declared.Action.TheVariants as action
use Rattle.tcam_device.specs.Insertion.{is_table_write}
use Rattle.batch_order.specs.declared.Step.{Step}
use Rattle.batch_order.specs.Managed.{HeldCommit, Managed, live_now}
use Rattle.batch_order.specs.Steps.{Steps, StepsOn, current_by, is_back, next_of, way_by}
use Rattle.batch_order.specs.Turning.{IsCurrentRight, IsHeldRight}
use Rattle.batch_order.proofs.back.Turned.{writes_leave_current}
use Rattle.batch_order.proofs.under_way.Stepped.{same_way}
use Rattle.batch_order.proofs.under_way.Carried.{on_device-apply}
use Rattle.split_device.specs.declared.SplitWrite.{SplitWrite}
use Rattle.split_device.specs.declared.SplitAction.{SplitAction}
use Rattle.split_device.specs.declared.SplitAction.TheVariants.{Written}
use Rattle.split_device.specs.State.{SplitState, IsSized, undivided, split_apply, split_after}
use Rattle.split_device.specs.Drains.{SinceDrain, is_drain_due, since_write}
use Rattle.split_device.specs.Flight.{written}
use Rattle.split_writes.specs.Parts.{write_parts}
use Rattle.split_writes.specs.UnderWay.{IsUnderWay}
use Rattle.split_writes.proofs.Seen.{goes_on_by_writes}
use Rattle.split_writes.proofs.Undivided.{after_append, sized_after, sizes_kept, write_is}
use Rattle.split_order.specs.declared.due.DuePart.{DuePart}
use Rattle.split_order.specs.declared.since.Since.{Since}
use Rattle.split_order.specs.Kept.{IsCommitKept, IsCommitOrRest, IsKeptOn, IsSplitKept, IsWayOn, parts_due, parts_of_due}
use Rattle.split_order.specs.Left.{left_from, left_of, left_of_held, made_behind, since_of, state_on}
use Rattle.split_order.specs.Managed.{SplitManaged}
use Rattle.split_order.specs.Next.{IsFirstLeft, IsPartDue}
use Rattle.split_order.specs.Since.{IsSince}
use Rattle.split_order.specs.Steps.{Advances, outline}
use Rattle.split_order.proofs.Behind.{left_begun, not_drained, part_next, since_more, state_more}
use Rattle.split_order.proofs.Dues.{parts_same}
use Rattle.split_order.proofs.Nexts.{behind, drains_first, left_part, place, rest, has_write}

-- a write that is due is one of a commit under way
pub record IsOfCommit (manager : SplitManaged) : Type 0 where
  pub held : HeldCommit
  pub under_way : manager.whole.held ≡ Some held
  pub kept : IsCommitKept manager held

pub commit_of : (manager : SplitManaged) (write : Write) → IsCommitOrRest manager manager.whole.held → next_of manager.whole.held ≡ Some write → IsOfCommit manager
commit_of manager write kept next = go manager.whole.held refl kept next
  where
    go : (held : Option HeldCommit) → manager.whole.held ≡ held → IsCommitOrRest manager held → next_of held ≡ Some write → IsOfCommit manager
    go None is k due = absurd (let wrong : None ≡ Some write = due in cc)
    go (Some held) is k due = record { held = held; under_way = is; kept = k }

-- the planner behind a write
abbrev pub passed_write : Managed → HeldCommit → Write → List Action → Managed
passed_write whole held write rest =
    record whole {
      state = apply whole.state write;
      held = Some (record held { actions = rest; way = way_by whole.state write held.way; current = current_by whole.bits held.current (is_table_write write) });
    }

pub passes_write : (whole new : Managed) (held : HeldCommit) (write : Write) (rest : List Action) (words : ℕ) (made : Step) → whole.held ≡ Some held → held.actions ≡ action.Written write ∷ rest
    → Steps whole words whole.held made new → new ≡ passed_write whole held write rest
passes_write whole new held write rest words made under_way are steps =
    let here : Steps whole words (Some held) made new = subst (λ (h : Option HeldCommit). Steps whole words h made new) under_way steps in
    let did : StepsOn whole held words (action.Written write ∷ rest) made new = subst (λ (a : List Action). StepsOn whole held words a made new) are here in
    did.1

-- with where its commit leads as it was
passed_outline : (whole : Managed) (held : HeldCommit) (write : Write) (rest : List Action) → whole.held ≡ Some held → held.actions ≡ action.Written write ∷ rest
    → outline (passed_write whole held write rest) ≡ outline whole
passed_outline whole held write rest under_way are =
    sym (ap (λ (a : List Action). outline (record whole { held = Some (record held { actions = a }) })) are)
    ∙ ap (λ (h : Option HeldCommit). outline (record whole { held = h })) (sym under_way)

-- what is known of the manager behind a part
pub record IsAdvanced (manager next : SplitManaged) (due : DuePart) : Type 0 where
  pub events : next.events ≡ manager.events ++ Written due.part ∷ []
  pub begun : next.begun ≡ true
  pub counts : next.counts ≡ manager.counts
  pub right : IsHeldRight manager.whole
  pub on_last : due.last ≡ true → (next.made ≡ 0) × ((made : Step) × Steps manager.whole 0 manager.whole.held made next.whole)
  pub on_more : due.last ≡ false → (next.made ≡ suc manager.made) × (next.whole ≡ manager.whole)

-- the first parts with one more
take_more : (n : ℕ) (parts : List SplitWrite) (part : SplitWrite) (later : List SplitWrite) → drop n parts ≡ part ∷ later → take n parts ++ part ∷ [] ≡ take (suc n) parts
take_more n [] part later is = absurd (none n is)
  where
    none : (k : ℕ) → drop k [] ≡ part ∷ later → ⊥
    none zero e = cc
    none (suc k) e = cc
take_more zero (first ∷ parts) part later is = let one : first ≡ part = cc in ap (λ p. p ∷ []) (sym one)
take_more (suc n) (first ∷ parts) part later is = ap (λ rest. first ∷ rest) (take_more n parts part later is)

pub size_after : (state : State) (write : Write) → length (apply state write).slots ≡ length state.slots
size_after state (whole.Slot at entry) = length-set state.slots at entry
size_after state (whole.Table Src port word) = refl
size_after state (whole.Table Dst port word) = refl

module _ (since since' : Since) (left : ℕ) (m m' : SplitManaged) (kept : IsSplitKept since left m) (due : DuePart) (is_due : IsPartDue m (Some due)) (first : IsFirstLeft m (Written due.part))
    (did : IsAdvanced m m' due) where
  abbrev write : Write
  write = is_due.0

  one : IsOfCommit m
  one = commit_of m write kept.commit is_due.1

  abbrev after : List Action
  after = rest m one.held one.under_way one.kept write is_due.1 due is_due.3

  abbrev later : List SplitWrite
  later = behind m one.held one.under_way one.kept write is_due.1 due is_due.3

  actions_are : one.held.actions ≡ action.Written write ∷ after
  actions_are = (has_write one.held write (ap next_of (sym one.under_way) ∙ is_due.1)).actions_are

  in_use : IsInUse (length m.whole.state.slots) write
  in_use = subst (λ n. IsInUse n write) (sym kept.whole_size) is_due.2

  -- no drain is due
  none_before : (slots : ℕ) → m.whole.slots ≤ slots → is_drain_due (state_on slots m) (since_of m) due.part ≡ false
  none_before slots wide = elim (cases_Bool (is_drain_due (state_on slots m) (since_of m) due.part)) [
    | inr isnt ↦ isnt
    | inl so ↦ absurd (not_drained due.part (drop 1 (left_of slots m)) _
        (sym (first slots wide) ∙ drains_first m one.held one.under_way one.kept write is_due.1 due is_due.3 slots so))
  ]

  parted : (slots : ℕ) → m.whole.slots ≤ slots
      → left_of slots m ≡ Written due.part ∷ made_behind (split_apply (state_on slots m) due.part) (since_write (since_of m) due.part) later after
  parted slots wide =
      left_part m one.held one.under_way one.kept write is_due.1 due is_due.3 slots
      ∙ part_next (state_on slots m) (since_of m) due.part later after (none_before slots wide)

  state_is : (slots : ℕ) → state_on slots m' ≡ split_apply (state_on slots m) due.part
  state_is slots = ap (λ events. state_on slots (record m { events = events })) did.events ∙ state_more slots m.events due.part

  since_is : since_of m' ≡ since_write (since_of m) due.part
  since_is = ap (λ events. since_of (record m { events = events })) did.events ∙ since_more m.events (Written due.part)

  -- the parts that were made, with this one
  abbrev parts : List SplitWrite
  parts = write_parts m.whole.state write

  made_so_far : (slots : ℕ) → (on : IsKeptOn slots m) → state_on slots m ≡ split_after on.before (take m.made parts)
  made_so_far slots on = on.now_is ∙ ap (λ some. split_after on.before (take m.made some)) (ap (parts_of_due m.whole.state) is_due.1)

  cut : take m.made parts ++ due.part ∷ later ≡ parts
  cut =
      ap (λ some. take m.made parts ++ some) (sym (place m one.held one.under_way one.kept write is_due.1 due is_due.3).here)
      ∙ take-append-drop m.made parts

  -- with the last part of a write the planner's write was made
  module _ (last : due.last ≡ true) where
    passed : m'.whole ≡ passed_write m.whole one.held write after
    passed = passes_write m.whole m'.whole one.held write after 0 (did.on_last last).1.0 one.under_way actions_are (did.on_last last).1.1

    none_later : later ≡ []
    none_later = (place m one.held one.under_way one.kept write is_due.1 due is_due.3).last last

    whole_part : (slots : ℕ) (on : IsKeptOn slots m) → split_apply (state_on slots m) due.part ≡ split_after on.before parts
    whole_part slots on =
        ap (λ s. split_apply s due.part) (made_so_far slots on)
        ∙ (sym (after_append on.before (take m.made parts) (due.part ∷ []))
        ∙ ap (split_after on.before) (ap (λ some. take m.made parts ++ due.part ∷ some) (sym none_later) ∙ cut))

    leads : (slots : ℕ) (on : IsKeptOn slots m) → m.whole.slots ≤ slots → undivided (split_apply (state_on slots m) due.part) ≡ on_device slots (apply m.whole.state write)
    leads slots on wide =
        let room : IsInUse (length on.before.slots) write = subst (λ n. IsInUse n write) (sym on.size) (in_wide slots wide is_due.2) in
        ap undivided (whole_part slots on ∙ ap (split_after on.before) (parts_same slots (undivided on.before) m.whole.state write on.whole_is))
        ∙ (write_is on.before write on.sized room
        ∙ (ap (λ (s : State). apply s write) on.whole_is ∙ sym (on_device-apply slots m.whole.state write in_use)))
      where
        in_wide : (n : ℕ) → m.whole.slots ≤ n → IsInUse m.whole.slots write → IsInUse n write
        in_wide n w inside = widen write inside
          where
            widen : (one : Write) → IsInUse m.whole.slots one → IsInUse n one
            widen (whole.Slot at entry) below = omega arith
            widen (whole.Table field port word) below = tt

  -- the planner behind it has so many slots, and its commit leads where it led
  record IsAfter : Type 0 where
    slots : m'.whole.slots ≡ m.whole.slots
    size : length m'.whole.state.slots ≡ m'.whole.slots
    outline_is : outline m'.whole ≡ outline m.whole
    live : live_now m'.whole ≡ live_now m.whole
    held : HeldCommit
    held_is : m'.whole.held ≡ Some held
    forward : (held.prepared ≡ true) × (is_back held.way ≡ false)
    rules : m'.whole.rules ≡ m.whole.rules
    aims : (held.rules ≡ one.held.rules) × (held.during ≡ one.held.during)

  abbrev ahead_held : HeldCommit
  ahead_held = record one.held {
    actions = after;
    way = way_by m.whole.state write one.held.way;
    current = current_by m.whole.bits one.held.current (is_table_write write);
  }

  -- its ranges stay: a word of a table finds those before the commit
  same_current : current_by m.whole.bits one.held.current (is_table_write write) ≡ one.held.current
  same_current =
      writes_leave_current m.whole.bits one.held write after (subst (λ (h : Option HeldCommit). IfSome h (λ x. IsCurrentRight m.whole.bits x)) one.under_way did.right)
      one.kept.forward.1 actions_are

  after_last : due.last ≡ true → IsAfter
  after_last last =
      let is = passed last in
      record {
        slots = ap (λ (w : Managed). w.slots) is;
        size = ap (λ (w : Managed). length w.state.slots) is ∙ (size_after m.whole.state write ∙ (kept.whole_size ∙ sym (ap (λ (w : Managed). w.slots) is)));
        outline_is = ap outline is ∙ passed_outline m.whole one.held write after one.under_way actions_are;
        live = ap live_now is ∙ (same_current ∙ ap (λ (h : Option HeldCommit). live_now (record m.whole { held = h })) (sym one.under_way));
        held = ahead_held;
        held_is = ap (λ (w : Managed). w.held) is;
        forward = (one.kept.forward.0, same_way m.whole.state write one.held.way ∙ one.kept.forward.1);
        rules = ap (λ (w : Managed). w.rules) is;
        aims = (refl, refl);
      }

  after_more : due.last ≡ false → IsAfter
  after_more more =
      let is = (did.on_more more).1 in
      record {
        slots = ap (λ (w : Managed). w.slots) is;
        size = ap (λ (w : Managed). length w.state.slots) is ∙ (kept.whole_size ∙ sym (ap (λ (w : Managed). w.slots) is));
        outline_is = ap outline is;
        live = ap live_now is;
        held = one.held;
        held_is = ap (λ (w : Managed). w.held) is ∙ one.under_way;
        forward = one.kept.forward;
        rules = ap (λ (w : Managed). w.rules) is;
        aims = (refl, refl);
      }

  next_one : IsAfter
  next_one = elim (cases_Bool due.last) [ inl so ↦ after_last so | inr isnt ↦ after_more isnt ]

  -- what is left behind it
  behind_last : (last : due.last ≡ true) (slots : ℕ) (on : IsKeptOn slots m) → m.whole.slots ≤ slots
      → left_of slots m' ≡ made_behind (split_apply (state_on slots m) due.part) (since_write (since_of m) due.part) later after
  behind_last last slots on wide =
      let is = passed last in
      ap₂ (λ (s : SplitState) (c : SinceDrain). left_of_held s c m'.whole.state m'.made m'.whole.held) (state_is slots) since_is
      ∙ (ap₂ (λ (w : Managed) (n : ℕ). left_of_held (split_apply (state_on slots m) due.part) (since_write (since_of m) due.part) w.state n w.held) is (did.on_last last).0
      ∙ (left_begun slots (split_apply (state_on slots m) due.part) (since_write (since_of m) due.part) (apply m.whole.state write) after (leads last slots on wide)
      ∙ ap (λ (some : List SplitWrite). made_behind (split_apply (state_on slots m) due.part) (since_write (since_of m) due.part) some after) (sym (none_later last))))

  behind_more : (more : due.last ≡ false) (slots : ℕ)
      → left_of slots m' ≡ made_behind (split_apply (state_on slots m) due.part) (since_write (since_of m) due.part) later after
  behind_more more slots =
      ap₂ (λ (s : SplitState) (c : SinceDrain). left_of_held s c m'.whole.state m'.made m'.whole.held) (state_is slots) since_is
      ∙ (ap₂ (λ (w : Managed) (n : ℕ). left_of_held (split_apply (state_on slots m) due.part) (since_write (since_of m) due.part) w.state n w.held) (did.on_more more).1 (did.on_more more).0
      ∙ (ap (left_of_held (split_apply (state_on slots m) due.part) (since_write (since_of m) due.part) m.whole.state (suc m.made)) one.under_way
      ∙ ap (left_from (split_apply (state_on slots m) due.part) (since_write (since_of m) due.part) m.whole.state (suc m.made)) actions_are))

  left_is : (slots : ℕ) → m.whole.slots ≤ slots → left_of slots m ≡ Written due.part ∷ left_of slots m'
  left_is slots wide =
      let then_left : left_of slots m' ≡ made_behind (split_apply (state_on slots m) due.part) (since_write (since_of m) due.part) later after =
      elim (cases_Bool due.last) [
        | inl so ↦ behind_last so slots (kept.on slots wide) wide
        | inr isnt ↦ behind_more isnt slots
      ] in
      parted slots wide ∙ ap (λ (some : List SplitAction). Written due.part ∷ some) (sym then_left)

  -- A part was made.
  pub advances : (slots : ℕ) → m.whole.slots ≤ slots → Advances slots (Written due.part) m m'
  advances slots wide = record {
    left_is = left_is slots wide;
    events = did.events;
    outline_is = next_one.outline_is;
    begun = did.begun;
    counts = did.counts;
    live = next_one.live;
  }

  -- what is left is under way
  way_on : (slots : ℕ) → m.whole.slots ≤ slots → IsWayOn slots m' next_one.held
  way_on slots wide =
      let old : IsWayOn slots m one.held = subst (λ (h : Option HeldCommit). IfSome h (IsWayOn slots m)) one.under_way (kept.on slots wide).way in
      let way : IsUnderWay m.whole.rules one.held.rules old.0 one.held.during (state_on slots m) (since_of m) (Written due.part ∷ left_of slots m') =
      subst (IsUnderWay m.whole.rules one.held.rules old.0 one.held.during (state_on slots m) (since_of m)) (left_is slots wide) old.1 in
      let next = goes_on_by_writes m.whole.rules one.held.rules old.0 one.held.during (state_on slots m) (since_of m) due.part (left_of slots m') way in (
        next.0,
        subst (λ (r : List Rule). IsUnderWay r next_one.held.rules next.0 next_one.held.during (state_on slots m') (since_of m') (left_of slots m')) (sym next_one.rules)
            (subst (λ (r : List Rule). IsUnderWay m.whole.rules r next.0 next_one.held.during (state_on slots m') (since_of m') (left_of slots m')) (sym next_one.aims.0)
            (subst (λ (b : FieldBits). IsUnderWay m.whole.rules one.held.rules next.0 b (state_on slots m') (since_of m') (left_of slots m')) (sym next_one.aims.1)
            (subst (λ (s : SplitState). IsUnderWay m.whole.rules one.held.rules next.0 one.held.during s (since_of m') (left_of slots m')) (sym (state_is slots))
            (subst (λ (c : SinceDrain). IsUnderWay m.whole.rules one.held.rules next.0 one.held.during (split_apply (state_on slots m) due.part) c (left_of slots m')) (sym since_is) next.2)))),
      )

  some_way : (slots : ℕ) → m.whole.slots ≤ slots → IfSome m'.whole.held (IsWayOn slots m')
  some_way slots wide = subst (λ (h : Option HeldCommit). IfSome h (IsWayOn slots m')) (sym next_one.held_is) (way_on slots wide)

  -- where it stands is kept
  on_last : (last : due.last ≡ true) (slots : ℕ) → m.whole.slots ≤ slots → IsKeptOn slots m'
  on_last last slots wide =
      let on = kept.on slots wide in
      let here : undivided (split_apply (state_on slots m) due.part) ≡ on_device slots m'.whole.state = leads last slots on wide ∙ ap (λ (w : Managed). on_device slots w.state) (sym (passed last)) in
      let same : split_apply (state_on slots m) due.part ≡ split_after on.before parts = whole_part last slots on in
      record {
        before = split_apply (state_on slots m) due.part;
        sized = subst IsSized (sym same) (sized_after on.before parts on.sized);
        size = ap (λ (s : SplitState). length s.slots) same ∙ ((sizes_kept on.before parts).0 ∙ on.size);
        whole_is = here;
        now_is = state_is slots ∙ ap (λ n. split_after (split_apply (state_on slots m) due.part) (take n (parts_due m'))) (sym (did.on_last last).0);
        way = some_way slots wide;
      }

  on_more : (more : due.last ≡ false) (slots : ℕ) → m.whole.slots ≤ slots → IsKeptOn slots m'
  on_more more slots wide =
      let on = kept.on slots wide in
      let is = (did.on_more more).1 in
      record {
        before = on.before;
        sized = on.sized;
        size = on.size;
        whole_is = on.whole_is ∙ ap (λ (w : Managed). on_device slots w.state) (sym is);
        now_is = state_is slots ∙ (ap (λ s. split_apply s due.part) (made_so_far slots on)
            ∙ (sym (after_append on.before (take m.made parts) (due.part ∷ []))
            ∙ (ap (split_after on.before) (take_more m.made parts due.part later (place m one.held one.under_way one.kept write is_due.1 due is_due.3).here)
            ∙ ap₂ (λ (n : ℕ) (some : List SplitWrite). split_after on.before (take n some)) (sym (did.on_more more).0)
            (sym (ap (λ (w : Managed). parts_of_due w.state (next_of w.held)) is ∙ ap (parts_of_due m.whole.state) is_due.1)))));
        way = some_way slots wide;
      }

  commit_kept : IsCommitKept m' next_one.held
  commit_kept = record {
    forward = next_one.forward;
    made = elim (cases_Bool due.last) [
      | inl so ↦ inl (did.on_last so).0
      | inr isnt ↦ inr (
          let more : suc m.made < length parts = (place m one.held one.under_way one.kept write is_due.1 due is_due.3).more isnt in
          let same : parts_due m' ≡ parts = ap (λ (w : Managed). parts_of_due w.state (next_of w.held)) (did.on_more isnt).1 ∙ ap (parts_of_due m.whole.state) is_due.1 in
          subst (λ some. m'.made < length some) (sym same) (subst (λ n. n < length parts) (sym (did.on_more isnt).0) more))
    ];
    fresh = λ none. absurd (let wrong : false ≡ true = sym none ∙ did.begun in cc);
  }

  -- So the manager is kept.
  pub kept_on : length since'.erased.items ≡ length since.erased.items → ((was : SinceDrain) → IsSince since was → IsSince since' (since_write was due.part)) → IsSplitKept since' (left - 1) m'
  kept_on size notes = record {
    commit = subst (IsCommitOrRest m') (sym next_one.held_is) commit_kept;
    on = λ slots wide. elim (cases_Bool due.last) [
      | inl so ↦ on_last so slots (back slots wide)
      | inr isnt ↦ on_more isnt slots (back slots wide)
    ];
    left_is = λ slots wide.
        let was : left ≡ length (written (left_of slots m)) = kept.left_is slots (back slots wide) in
        let less : length (written (left_of slots m)) ≡ suc (length (written (left_of slots m'))) = ap (λ some. length (written some)) (left_is slots (back slots wide)) in
        omega arith;
    few = subst (λ n. n ≤ most_slots) (sym next_one.slots) kept.few;
    whole_size = next_one.size;
    size = size ∙ (kept.size ∙ sym next_one.slots);
    since_is = subst (IsSince since') (sym since_is) (notes (since_of m) kept.since_is);
  }
    where
      back : (slots : ℕ) → m'.whole.slots ≤ slots → m.whole.slots ≤ slots
      back slots wide = subst (λ n. n ≤ slots) next_one.slots wide
