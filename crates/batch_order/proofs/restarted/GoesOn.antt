-- A manager that holds what is left of a commit, planned from what its device shows: it can be carried out.
use Rattle.std.proofs.Common.{◌≡◌, ℕ, ◌-◌, ◌≤◌, Bool, true, false, not, Option, Some, List, [], ◌++◌, length, take, if◌then◌else◌, inl, inr, refl, sym, ◌∙◌, ap, subst, arith}
use Rattle.std.specs.Prelude.{◌&&◌}
use Rattle.std.specs.List.{AllByRecursion, list_any}
use Rattle.std.proofs.lemmas.Bool.{cases_Bool}
use Rattle.slot_order.specs.Order.{slot}
use Rattle.slot_pool.specs.Arrangement.{Slots}
use Rattle.rule_model.specs.declared.Rule.{Rule}
use Rattle.rule_store.specs.declared.Mode.{Mode}
use Rattle.rule_store.specs.declared.Mode.TheVariants.{Cover}
use Rattle.rule_store.specs.declared.Command.{Command}
use Rattle.rule_store.specs.Batch.{set_after}
use Rattle.rule_store.specs.Store.{StoredRules}
use Rattle.rule_model.specs.Entry.{RankedPiece}
use Rattle.placement.specs.declared.LivePiece.{LivePiece}
use Rattle.tcam_device.specs.declared.Write.{Write}
use Rattle.tcam_device.specs.State.{State, IsInUse, IsState, state_after, on_device}
use Rattle.tcam_device.specs.Insertion.{is_table_write, table_writes}
use Rattle.tcam_device.specs.Hitless.{ShowsOldOrNew}
use Rattle.tcam_device.proofs.Wider.{slot-padded}
use Rattle.commit_writes.specs.Proposal.{proposal}
use Rattle.commit_writes.specs.Actions.{have_bits}
use Rattle.commit_writes.specs.Bits.{FieldBits, bits_left, bits_with, new_bits}
use Rattle.commit_writes.specs.InFlight.{ServesLive}
use Rattle.commit_writes.specs.Planned.{Planned, AreEntriesOf, contents, with_slots}
use Rattle.commit_writes.specs.PlannedBatch.{batch_writes, erased_live, rewritten_entries}
use Rattle.commit_writes.specs.Serving.{AreBitsOf, AreTranslated}
use Rattle.commit_writes.specs.Shape.{set_pieces, fresh_writes}
use Rattle.commit_writes.proofs.BatchRules.{IsSoundChange, right_after}
use Rattle.commit_writes.proofs.KeptBits.{pieces_left}
use Rattle.commit_writes.proofs.Led.{ArePassed, serves_same}
use Rattle.commit_writes.proofs.LiveRanges.{live_meanwhile, same_ranges}
use Rattle.commit_writes.proofs.ServedTables.{IsBitsStart, bits_after, words_done}
use Rattle.commit_writes.proofs.SlotWrites.{AreToSlots, LeavesTables, no_table}
use Rattle.commit_writes.proofs.TableWrites.{all_tables, bit_writes-tables}
use Rattle.rule_store.proofs.Counts.{count_by-append}
use Rattle.commit_writes.specs.Changes.{during_of}
use Rattle.readback.specs.Halt.{halt_at, parts_as_planned}
use Rattle.readback.specs.declared.staging.Shown.{Shown}
use Rattle.readback.specs.Going.{GoesOn, needs_drain, twin_writes}
use Rattle.readback.specs.Tasks.{CommitPieces, Task, commit_pieces, stands_in}
use Rattle.readback.proofs.Begun.{begun, change_of}
use Rattle.readback.specs.Ending.{LeadsOn}
use Rattle.readback.specs.PlannedRest.{restart_writes}
use Rattle.readback.specs.Restart.{IsPlannedRestart}
use Rattle.readback.specs.Serving.{stopped_ranges}
use Rattle.readback.proofs.AtRest.{restarts_lead_on}
use Rattle.readback.proofs.Restart.{restarts_go_on, to_slots}
use Rattle.readback.proofs.Same.{stage_on, twin_on}
use Rattle.readback.proofs.Served.{passed}
use Rattle.readback.proofs.Serving.{some_stand}
use Rattle.batch_order.specs.Arranged.{arranged_at}
use Rattle.batch_order.specs.declared.Placement.{Placement}
use Rattle.batch_order.specs.declared.held.Held.{Held}
use Rattle.batch_order.specs.declared.restarting.resuming.Rest.{Rest}
use Rattle.batch_order.specs.declared.translation.Translation.{Translation}
use Rattle.batch_order.specs.Entries.{Entries}
use Rattle.batch_order.specs.Kept.{IsArranged, IsHeld, IsManaged, bits_of, changed_by, held_writes, mode_of, settled_state, tables_of, translation_after}
use Rattle.batch_order.specs.Restart.{has_drained, in_use}
use Rattle.batch_order.specs.Stopped.{IsAsFound, IsPlannedOn, IsStopped, held_from}
use Rattle.batch_order.specs.Planning.{all_writes}
use Rattle.batch_order.proofs.arranged.Entered.{contents_kept}
use Rattle.batch_order.proofs.planning.Judged.{accepted_room}
use Rattle.batch_order.proofs.planning.Leading.{cover_words}
use Rattle.batch_order.proofs.planning.Meant.{used_within}
use Rattle.batch_order.proofs.served.Beginning.{Begins, begins_going}
use Rattle.batch_order.proofs.restarted.NoneDue.{none_due, stand_alike}
use Rattle.batch_order.proofs.planning.Translated.{bits_same, kept_state, state_by, tables_kept}

-- What is known once all is planned that is left: what the device shows and holds, and that its tables are those that are kept.
pub record IsResumed (placement : Placement) (translation : Option Translation) (rules : StoredRules) (batch : List Command) (state : State) (shown : Shown) (old new : Entries) (slots slots' found : Slots) (rest : Rest) : Type 0 where
  pub stopped : IsStopped (length slots) (mode_of translation) (bits_of translation) rules.rules batch state shown
  pub planned : IsPlannedOn placement (length state.slots) (proposal (mode_of translation) (bits_of translation) rules.rules batch) state shown (arranged_at old slots) (arranged_at new slots') rest
  pub as_found : IsAsFound state old found
  pub size : length found ≡ length slots
  pub tables : tables_of translation ≡ record state { slots = [] }
  pub room : length batch ≤ rules.spare

-- what is held then: it isn't prepared, and none of its writes is made
abbrev pub held_by : Option Translation → StoredRules → List Command → State → Slots → Rest → Held → Held
held_by translation rules batch state slots' rest held =
    held_from rest (needs_drain (mode_of translation) (bits_of translation) rules.rules batch state) (has_drained (mode_of translation) (bits_of translation) rules.rules batch state) batch slots' held.undo

-- with a drain neither to come nor made no bit is given
neither : (new stands : Bool) → (new && not stands) ≡ false → (new && stands) ≡ false → new ≡ false
neither false stands awaits drained = refl
neither true true awaits drained = drained
neither true false awaits drained = awaits

both_parts : (new stands : Bool) → (new && stands) ≡ true → stands ≡ true
both_parts false stands is = absurd (let clash : false ≡ true = is in cc)
both_parts true stands is = is

without : (new stands : Bool) → (new && stands) ≡ false → stands ≡ true → new ≡ false
without false stands none is = refl
without true stands none is = absurd (let clash : true ≡ false = sym is ∙ none in cc)

module _ (placement : Placement) (translation : Option Translation) (rules : StoredRules) (batch : List Command) (state : State) (shown : Shown) (old new : Entries) (slots slots' found : Slots) (rest : Rest) (some : Held)
    (on : IsResumed placement translation rules batch state shown old new slots slots' found rest) where
  abbrev mode : Mode
  mode = mode_of translation

  abbrev bits : FieldBits
  bits = bits_of translation

  abbrev during : FieldBits
  during = bits_with mode rules.rules batch bits

  abbrev later : List Rule
  later = set_after rules.rules batch

  abbrev p : CommitPieces
  p = commit_pieces mode bits rules.rules batch

  abbrev twin : Option ℕ
  twin = shown.stage.twin

  abbrev narrow : State
  narrow = in_use (length slots) state

  abbrev wide : ℕ → State
  wide device_slots = on_device device_slots narrow

  abbrev held : Held
  held = held_by translation rules batch state slots' rest some

  abbrev done : List Task
  done = on.planned.done

  abbrev left : List Task
  left = on.planned.left

  abbrev planned : List Planned
  planned = on.planned.plan.planned

  abbrev words : List Write
  words = fresh_writes mode bits rules.rules batch narrow

  abbrev behind_words : List Write
  behind_words = twin_writes twin ++ batch_writes new.entries slots planned rest.left.rewrites.items rest.left.erased.items

  abbrev writes : List Write
  writes = restart_writes (proposal mode bits rules.rules batch) narrow twin new.entries slots planned rest.left.rewrites.items rest.left.erased.items

  change : IsSoundChange rules.rules batch
  change = change_of mode bits rules.rules batch on.stopped.can

  -- the state before its writes, as a manager keeps it, and the writes
  pub start_is : settled_state translation new.entries found ≡ in_use (length slots) state
  start_is =
      ap (λ (t : State). with_slots t (contents new.entries found)) on.tables
      ∙ ap (λ held_slots. let s : State = record { slots = held_slots; src = state.src; dst = state.dst } in s)
      (contents_kept old.live old.entries new.entries found on.planned.kept record { at = on.as_found.within } ∙ (on.as_found.mirrors ∙ ap (λ (n : ℕ). take n state.slots) on.size))

  pub writes_are : held_writes new.entries (held_by translation rules batch state slots' rest some)
      ≡ restart_writes (proposal (mode_of translation) (bits_of translation) rules.rules batch) (in_use (length slots) state) shown.stage.twin new.entries slots on.planned.plan.planned rest.left.rewrites.items rest.left.erased.items
  writes_are = on.planned.plan.writes_are

  -- what is said of both
  said : (P : State → List Write → Type 0) → P narrow writes → P (settled_state translation new.entries found) (held_writes new.entries held)
  said P is = subst (λ (s : State). P s (held_writes new.entries held)) (sym start_is) (subst (P narrow) (sym writes_are) is)

  -- on each device with the slots in use or more it is planned so
  pub restart_on : (device_slots : ℕ) → IsPlannedRestart device_slots (proposal (mode_of translation) (bits_of translation) rules.rules batch) (in_use (length slots) state) (halt_at on.planned.done on.planned.left shown.stage.twin)
      old.live slots new.entries (parts_as_planned on.planned.plan.planned rest.left.rewrites.items rest.left.erased.items)
  restart_on device_slots =
      let was = on.planned.plan.restart in
      let same : (at : ℕ) → slot (wide device_slots).slots at ≡ slot (wide (length state.slots)).slots at = (λ at.
      slot-padded narrow.slots (device_slots - length narrow.slots) at ∙ sym (slot-padded narrow.slots (length state.slots - length narrow.slots) at)) in
      record {
        can = was.can;
        is_state = was.is_state;
        stage = stage_on (wide (length state.slots)) (wide device_slots) same (length slots) bits during p done left refl refl was.stage;
        is_twin = twin_on (wide (length state.slots)) (wide device_slots) same twin was.is_twin;
        rest = was.rest;
      }

  passed_on : (device_slots : ℕ) → ArePassed (stopped_ranges mode bits rules.rules batch (wide device_slots)) during (needs_drain mode bits rules.rules batch (wide device_slots)) (wide device_slots) writes
  passed_on device_slots = passed device_slots mode bits rules.rules batch narrow done left twin old.live slots new.entries planned rest.left.rewrites.items rest.left.erased.items (restart_on device_slots)

  pub goes_on : (device_slots : ℕ) → GoesOn (length slots) (mode_of translation) (bits_of translation) rules.rules batch (on_device device_slots (in_use (length slots) state)) on.planned.left shown.stage.twin
      (restart_writes (proposal (mode_of translation) (bits_of translation) rules.rules batch) (in_use (length slots) state) shown.stage.twin new.entries slots on.planned.plan.planned rest.left.rewrites.items rest.left.erased.items)
  goes_on device_slots = restarts_go_on device_slots mode bits rules.rules batch narrow done left twin old.live slots new.entries planned rest.left.rewrites.items rest.left.erased.items (restart_on device_slots)

  -- where they lead
  pub led : LeadsOn (proposal (mode_of translation) (bits_of translation) rules.rules batch) (in_use (length slots) state) old.live slots new.entries on.planned.plan.planned rest.left.rewrites.items rest.left.erased.items
      (restart_writes (proposal (mode_of translation) (bits_of translation) rules.rules batch) (in_use (length slots) state) shown.stage.twin new.entries slots on.planned.plan.planned rest.left.rewrites.items rest.left.erased.items)
  led = restarts_lead_on (length state.slots) mode bits rules.rules batch narrow done left twin old.live slots new.entries planned rest.left.rewrites.items rest.left.erased.items (restart_on (length state.slots))

  -- the bits began so
  right_before : AreTranslated narrow bits
  right_before = record { src = on.planned.stage.old_words.src; dst = on.planned.stage.old_words.dst }

  start : IsBitsStart mode bits rules.rules batch narrow
  start = begun mode bits rules.rules batch (length narrow.slots) narrow on.stopped.can (restart_on (length state.slots)).is_state right_before

  start_on : (device_slots : ℕ) → IsBitsStart mode bits rules.rules batch (wide device_slots)
  start_on device_slots = record {
    is_state = record { size = refl; src_size = start.is_state.src_size; dst_size = start.is_state.dst_size; src_words = start.is_state.src_words; dst_words = start.is_state.dst_words };
    changes = start.changes;
    are = bits_same mode bits rules.rules narrow (wide device_slots) record { src = refl; dst = refl } start.are;
    few = start.few;
  }

  -- the same inserted pieces stand on each of these devices
  alike : (device_slots : ℕ) → list_any (stands_in (wide device_slots).slots) p.inserted ≡ list_any (stands_in state.slots) p.inserted
  alike device_slots = stand_alike (length slots) bits during p (wide device_slots) state done left (restart_on device_slots).stage on.planned.stage

  behind_to_slots : AreToSlots behind_words
  behind_to_slots = to_slots (length state.slots) mode bits rules.rules batch narrow done left twin old.live slots new.entries planned rest.left.rewrites.items rest.left.erased.items (restart_on (length state.slots))

  -- the words alone go to tables
  count_words : table_writes writes ≡ length words
  count_words =
      let sum = count_by-append is_table_write words behind_words in
      let all = all_tables words (bit_writes-tables narrow (new_bits bits during)) in
      let none = no_table behind_words behind_to_slots in
      omega arith

  number : rest.plan.words ≡ table_writes writes
  number = on.planned.numbers.words ∙ ap table_writes writes_are

  serves_early : has_drained mode bits rules.rules batch state ≡ false → (device_slots n : ℕ) → n ≤ rest.plan.words → ServesLive bits (state_after (wide device_slots) (take n writes))
  serves_early undrained device_slots n below =
      let count = number in
      let early = (passed_on device_slots).early n (omega arith) in
      elim (cases_Bool (list_any (stands_in (wide device_slots).slots) p.inserted)) [
        | inr none ↦ subst (λ (ranges : FieldBits). ServesLive ranges (state_after (wide device_slots) (take n writes))) (ap (λ (b : Bool). if b then during else bits) none) early
        | inl stand ↦
            let given : have_bits (new_bits bits during) ≡ false = without (have_bits (new_bits bits during)) (list_any (stands_in state.slots) p.inserted) undrained (sym (alike device_slots) ∙ stand) in
            serves_same bits during (state_after (wide device_slots) (take n writes)) (live_meanwhile mode bits rules.rules batch (wide device_slots) (start_on device_slots))
            (same_ranges mode bits rules.rules batch (wide device_slots) (start_on device_slots) given)
            (subst (λ (ranges : FieldBits). ServesLive ranges (state_after (wide device_slots) (take n writes))) (ap (λ (b : Bool). if b then during else bits) stand) early)
      ]

  serves_late : (device_slots n : ℕ) → rest.plan.words ≤ n → ServesLive during (state_after (wide device_slots) (take n writes))
  serves_late device_slots n above = let count = number in (passed_on device_slots).late n (omega arith)

  -- once it has drained no word is left to write
  none_left : has_drained mode bits rules.rules batch state ≡ true → rest.plan.words ≡ 0
  none_left drained =
      let w = some_stand state p.inserted (both_parts (have_bits (new_bits bits during)) (list_any (stands_in state.slots) p.inserted) drained) in
      let right = on.planned.stage.new_words w.0 w.1 w.2 in
      let none : words ≡ [] = none_due bits during (length narrow.slots) narrow (restart_on (length state.slots)).is_state record { src = right.src; dst = right.dst } in
      number ∙ (count_words ∙ ap length none)

  -- what is kept of the translation in the end
  abbrev turned : Option Translation
  turned = translation_after translation rules.rules new.entries held

  abbrev behind : State
  behind = state_after narrow words

  leads_on : state_after (settled_state translation new.entries found) (held_writes new.entries held) ≡ with_slots behind (contents (rewritten_entries new.entries rest.left.rewrites.items) slots')
  leads_on = said (λ (s : State) (w : List Write). state_after s w ≡ with_slots behind (contents (rewritten_entries new.entries rest.left.rewrites.items) slots'))
      (led.leads ∙ ap (λ (s : Slots). with_slots behind (contents (rewritten_entries new.entries rest.left.rewrites.items) s)) (sym on.planned.arranged))

  plain : mode_of translation ≡ Cover → AreToSlots (held_writes new.entries held)
  plain cover = subst AreToSlots (sym (writes_are ∙ ap (λ (w : List Write). w ++ behind_words) (cover_words translation rules.rules batch narrow cover))) behind_to_slots

  tables_then : LeavesTables (state_after (settled_state translation new.entries found) (held_writes new.entries held)) (tables_of turned)
  tables_then = tables_kept translation rest.bits later (held_writes new.entries held) new.entries found on.planned.coded plain

  from_behind : LeavesTables behind (tables_of turned)
  from_behind = record { src = tables_then.src ∙ ap (λ (s : State). s.src) leads_on; dst = tables_then.dst ∙ ap (λ (s : State). s.dst) leads_on }

  tables_before : IsState 0 (tables_of translation)
  tables_before = subst (IsState 0) (sym on.tables)
      record { size = refl; src_size = start.is_state.src_size; dst_size = start.is_state.dst_size; src_words = start.is_state.src_words; dst_words = start.is_state.dst_words }

  -- the pieces of the new set have their ids then
  arranged_then : IsArranged mode (bits_left later (during_of rest.bits)) later (changed_by new rest.left.rewrites.items rest.left.erased.items) slots'
  arranged_then = record {
    settled = on.planned.settled;
    entries_are = subst (λ (b : FieldBits). AreEntriesOf (set_pieces mode (bits_left later b) later) (erased_live new.live rest.left.erased.items) (rewritten_entries new.entries rest.left.rewrites.items)) (sym on.planned.during)
        (subst (λ (pieces : List RankedPiece). AreEntriesOf pieces (erased_live new.live rest.left.erased.items) (rewritten_entries new.entries rest.left.rewrites.items))
        (sym (pieces_left mode bits rules.rules batch narrow start))
        (subst (λ (l : List LivePiece). AreEntriesOf (set_pieces mode during later) (erased_live l rest.left.erased.items) (rewritten_entries new.entries rest.left.rewrites.items)) (sym on.planned.live) led.entries_are));
  }

  begins : Begins translation rules new found held
  begins = record {
    made = refl;
    forward = refl;
    start = subst (IsBitsStart mode bits rules.rules batch) (sym start_is) start;
    during = on.planned.during;
    words_first = record {
      tables = words;
      behind = behind_words;
      parts = writes_are;
      to_tables = bit_writes-tables narrow (new_bits bits during);
      to_slots = behind_to_slots;
      count = number ∙ count_words;
    };
    in_use = subst (λ (n : ℕ). AllByRecursion (IsInUse n) (held_writes new.entries held)) (sym on.size)
        (used_within (length slots) new.entries rest.left.rewrites.items (all_writes rest.plan.writes) on.planned.within);
    answers = λ device_slots width n within. said (λ (s : State) (w : List Write). ShowsOldOrNew (state_after (on_device device_slots s) (take n w)) rules.rules later) ((goes_on device_slots).during n);
    serves_before = λ undrained device_slots width n below. said (λ (s : State) (w : List Write). ServesLive bits (state_after (on_device device_slots s) (take n w)))
        (serves_early undrained device_slots n below);
    serves_behind = λ device_slots width n above within. said (λ (s : State) (w : List Write). ServesLive (during_of rest.bits) (state_after (on_device device_slots s) (take n w)))
        (subst (λ (b : FieldBits). ServesLive b (state_after (wide device_slots) (take n writes))) (sym on.planned.during) (serves_late device_slots n above));
    late = none_left;
    drains = λ awaits drained. subst (λ (b : FieldBits). have_bits (new_bits bits b) ≡ false) (sym on.planned.during)
        (neither (have_bits (new_bits bits during)) (list_any (stands_in state.slots) p.inserted) awaits drained);
  }

  held_on : IsHeld translation rules new found held
  held_on = record {
    size = on.as_found.size ∙ sym on.planned.adds.slots;
    entries = (let room = (accepted_room (length slots) mode rules.rules batch change.sound on.stopped.accepted).entries in let size = on.size in omega arith);
    coded = on.planned.coded;
    during = on.planned.during;
    way_back = λ is. absurd (let clash : false ≡ true = is in cc);
    back = λ is. absurd (let clash : false ≡ true = is in cc);
    longest = λ is. absurd (let clash : false ≡ true = is in cc);
    after = arranged_then;
    leads = state_by (state_after (settled_state translation new.entries found) (held_writes new.entries held)) (tables_of turned)
        (contents (rewritten_entries new.entries rest.left.rewrites.items) slots') (ap (λ (s : State). s.slots) leads_on) tables_then;
    tables = kept_state translation rest.bits later (held_writes new.entries held) (length behind.slots) behind tables_before (words_done mode bits rules.rules batch narrow start).0 from_behind;
    translated = subst (λ (b : FieldBits). AreBitsOf mode (bits_left later b) later (tables_of turned)) (sym on.planned.during)
        (bits_after mode bits rules.rules batch narrow (tables_of turned) start (sym from_behind.src) (sym from_behind.dst));
    going = begins_going translation rules new found held begins;
    words_first = begins.words_first;
    plain = λ cover. number ∙ (count_words ∙ ap length (cover_words translation rules.rules batch narrow cover));
    early = λ awaits. omega arith;
    made = omega arith;
    in_use = begins.in_use;
    right = right_after rules.rules batch change;
    sound = change.sound;
    changes = change.changes;
    few = on.stopped.can.few;
    room = on.room;
    changed = on.planned.changed;
    gone = on.planned.gone;
    once = on.planned.once;
  }

  pub managed_on : IsManaged translation rules new found (Some (held_by translation rules batch state slots' rest some))
  managed_on = record {
    right = on.stopped.can.right;
    is_set = on.stopped.can.is_set;
    tables = tables_before;
    translated = bits_same mode bits rules.rules narrow (tables_of translation) record { src = ap (λ (s : State). s.src) on.tables; dst = ap (λ (s : State). s.dst) on.tables } start.are;
    carried = held_on;
  }
