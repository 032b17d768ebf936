-- An event that was judged: a write of a commit that leads to a stage, a drain, and the end of a commit.
use Rattle.std.proofs.Common.{◌≡◌, ℕ, ◌+◌, ◌<◌, ◌^◌, Bool, true, false, IsFalse, Option, Some, None, List, [], ◌∷◌, ◌++◌, length, Contains, refl, sym, ◌∙◌, subst, ap, arith, length-append, append-nil}
use Rattle.std.specs.Prelude.{option_map}
use Rattle.slot_order.specs.Order.{slot}
use Rattle.rule_model.specs.declared.Field.{Field}
use Rattle.rule_model.specs.declared.Field.TheVariants.{Src, Dst}
use Rattle.rule_model.specs.declared.Rule.{Rule}
use Rattle.rule_model.specs.declared.words.Entry.{Entry}
use Rattle.rule_model.specs.Entry.{RankedPiece, entry_for}
use Rattle.rule_store.specs.Batch.{set_after}
use Rattle.rule_store.specs.Store.{StoredRules}
use Rattle.tcam_device.specs.declared.Write.{Write}
use Rattle.tcam_device.specs.declared.Write.TheVariants as write
use Rattle.tcam_device.specs.State.{State, IsState, apply, table_of}
use Rattle.commit_writes.specs.Bits.{FieldBits, bits_with, bits_left, ranges_in}
use Rattle.commit_writes.specs.Changes.{during_of}
use Rattle.commit_writes.specs.InFlight.{HasBits}
use Rattle.commit_writes.specs.Segments.{IsAtRest}
use Rattle.commit_writes.specs.Shape.{set_pieces}
use Rattle.readback.specs.Stage.{IsStage, IsCommitAt}
use Rattle.readback.specs.Tasks.{CommitPieces, Task, commit_pieces, known_pieces, tasks_of, IsStanding}
use Rattle.readback.proofs.Stages.{tasks_part_once}
use Rattle.trace_file.specs.declared.TraceLine.TheVariants.{Put, Erase, Table, Drain, Done}
use Rattle.trace_check.specs.declared.commit.Commit as commits
use Rattle.trace_check.specs.declared.commit.Device.{Device}
use Rattle.trace_check.specs.declared.places.Place.{Place}
use Rattle.trace_check.specs.declared.places.Place.TheVariants.{InEvents}
use Rattle.trace_check.specs.declared.slots.Pair.{Pair}
use Rattle.trace_check.specs.declared.trace.Trace.{Trace}
use Rattle.trace_check.specs.Behind.{entries_in}
use Rattle.trace_check.specs.Checked.{without_made}
use Rattle.trace_check.specs.Kept.{IsKeptRight, IsPair, device_state, pieces_kept}
use Rattle.trace_check.specs.Orderly.{Tracing, traced_on, IsDrained, Keeps}
use Rattle.trace_check.specs.Places.{place_after}
use Rattle.trace_check.specs.Traced.{IsOpened, IsSoundTrace, IsTraceSized, IsWritten, TakesLine, now_of}
use Rattle.trace_check.proofs.LinesTaken.{event_next, done_next}
use Rattle.trace_check.proofs.LocalWords.{table_writes_are_local, words_on, stage_on}
use Rattle.trace_check.proofs.PlacedEntries.{entry_in}
use Rattle.trace_check.proofs.RestedBits.{rests_on}
use Rattle.trace_check.proofs.RestedOn.{is_new}
use Rattle.trace_check.proofs.Sized.{IsState-apply}

-- what was written shows a stage
stage_of : (before after : Trace) (one : Write) (moved drained : Bool) → IsWritten before one moved drained after
    → IsStage before.slots before.mode before.bits before.rules.rules before.batch (apply (device_state before.device) one)
stage_of before after one moved drained w =
    (w.kept.done, w.kept.left, subst (λ s. IsCommitAt before.slots before.mode before.bits before.rules.rules before.batch s w.kept.done w.kept.left) w.state w.kept.stage)

-- and is right among the events
written_right : (before after : Trace) (one : Write) (moved drained : Bool) (n : ℕ) → IsWritten before one moved drained after → IsSoundTrace (InEvents n) after
written_right before after one moved drained n w =
    subst (IsSoundTrace (InEvents n)) (sym w.after_is)
    (record { sized = w.sized; right = (w.held, refl, record { kept = w.kept; unmoved = w.unmoved }) })

pub put_takes : (before after : Trace) (at : ℕ) (entry : Entry) → IsDrained (now_of before) → IsWritten (record before { has_put = true }) (write.Slot at (Some entry)) true before.drained after
    → TakesLine before (Put at entry) after
put_takes before after at entry drained w = record {
  keeps = (record { taken = w.kept.accepted; stage = stage_of (record before { has_put = true }) after (write.Slot at (Some entry)) true before.drained w }, drained);
  knows = ap now_of w.after_is ∙ ap (λ (s : State). let t : Tracing = record (now_of before) { state = s; writes = before.counts.writes + 1; begun = s; moved = true; has_put = true } in t) w.state;
  sound = λ next there.
      let n = event_next before.slots (Some at) before.place next there in
      subst (λ p. IsSoundTrace p after) (sym n.1) (written_right (record before { has_put = true }) after (write.Slot at (Some entry)) true before.drained n.0 w);
}

pub erase_takes : (before after : Trace) (at : ℕ) → IsWritten before (write.Slot at None) true before.drained after → TakesLine before (Erase at) after
erase_takes before after at w = record {
  keeps = record { taken = w.kept.accepted; stage = stage_of before after (write.Slot at None) true before.drained w };
  knows = ap now_of w.after_is ∙ ap (λ (s : State). let t : Tracing = record (now_of before) { state = s; writes = before.counts.writes + 1; begun = s; moved = true } in t) w.state;
  sound = λ next there.
      let n = event_next before.slots (Some at) before.place next there in
      subst (λ p. IsSoundTrace p after) (sym n.1) (written_right before after (write.Slot at None) true before.drained n.0 w);
}

pub table_takes : (before after : Trace) (field : Field) (port word : ℕ) → IsFalse before.moved → IsWritten before (write.Table field port word) before.moved false after
    → TakesLine before (Table field port word) after
table_takes before after field port word unmoved w = record {
  keeps = (record { taken = w.kept.accepted; stage = stage_of before after (write.Table field port word) before.moved false w }, unmoved);
  knows = ap now_of w.after_is ∙ ap (λ (s : State). let t : Tracing = record (now_of before) { state = s; writes = before.counts.writes + 1; begun = s; drained = false } in t) w.state;
  sound = λ next there.
      let n = event_next before.slots None before.place next there in
      subst (λ p. IsSoundTrace p after) (sym n.1) (written_right before after (write.Table field port word) before.moved false n.0 w);
}

-- A drain.
pub drain_takes : (before : Trace) (commit : commits.Commit) → IsTraceSized before → IsOpened before commit → TakesLine before Drain (record before { commit = Some commit; drained = true })
drain_takes before commit sized opened = record {
  keeps = record { taken = opened.kept.accepted; stage = (opened.kept.done, opened.kept.left, opened.kept.stage) };
  knows = refl;
  sound = λ next there.
      let n = event_next before.slots None before.place next there in
      subst (λ p. IsSoundTrace p (record before { commit = Some commit; drained = true })) (sym n.1)
      (record { sized = sized; right = (commit, refl, record { kept = opened.kept; unmoved = opened.unmoved }) });
}

-- A slot was written.
pub slot_written : (before : Trace) (commit : commits.Commit) (device : Device) (at : ℕ) (content : Option Entry) → IsTraceSized before
    → IsKeptRight before.slots before.mode before.bits before.rules.rules before.batch device commit → device_state device ≡ apply (device_state before.device) (write.Slot at content)
    → IsWritten before (write.Slot at content) true before.drained
    (record before { device = device; commit = Some commit; counts = record before.counts { writes = before.counts.writes + 1 }; moved = true })
slot_written before commit device at content sized kept state = record {
  device = device;
  held = commit;
  after_is = refl;
  state = state;
  sized = subst (IsState before.slots) (sym state) (IsState-apply before.slots (device_state before.device) (write.Slot at content) sized tt);
  kept = kept;
  unmoved = λ never. absurd (let bad : true ≡ false = never in cc);
}

-- the words of a table
table_size : (slots : ℕ) (state : State) (field : Field) → IsState slots state → length (table_of field state) ≡ 2 ^ 16
table_size slots state Src is = is.src_size
table_size slots state Dst is = is.dst_size

-- A word of a table, before any slot of the commit.
module _ (before : Trace) (commit : commits.Commit) (sized : IsTraceSized before) (opened : IsOpened before commit) (unmoved : IsFalse before.moved)
    (field : Field) (port word : ℕ) (small : port < 2 ^ 16) where
  abbrev p : CommitPieces
  p = commit_pieces before.mode before.bits before.rules.rules before.batch

  abbrev during : FieldBits
  during = bits_with before.mode before.rules.rules before.batch before.bits

  abbrev state : State
  state = device_state before.device

  none_put : (x : RankedPiece) → Contains p.inserted x → IsStanding state x → ⊥
  none_put x member = (opened.unmoved unmoved).none_put x (subst (λ (q : CommitPieces). Contains q.inserted x) (sym opened.kept.is.pieces) member)

  -- a word that isn't right leads to no stage
  pub wrong_word : (HasBits (ranges_in field before.bits) port word → ⊥) → IsStage before.slots before.mode before.bits before.rules.rules before.batch (apply state (write.Table field port word)) → ⊥
  wrong_word wrong stage =
      wrong ((table_writes_are_local before.slots before.bits during p state opened.kept.done opened.kept.left field port word opened.kept.stage small
      (table_size before.slots state field sized) none_put).0 stage)

  -- and one that is leads to one, with as many tasks done
  module _ (device : Device) (short : word < 2 ^ 16) (right : HasBits (ranges_in field before.bits) port word) (places : device.places ≡ before.device.places)
      (written : device_state device ≡ apply state (write.Table field port word)) where
    room : port < length (table_of field state)
    room = let size = table_size before.slots state field sized in omega arith

    stage : IsCommitAt before.slots before.mode before.bits before.rules.rules before.batch (apply state (write.Table field port word)) opened.kept.done opened.kept.left
    stage = stage_on before.slots before.bits during p state opened.kept.done opened.kept.left field port word opened.kept.stage
        (words_on state before.bits field port word room right opened.kept.stage.old_words) none_put

    slots_same : (device_state device).slots ≡ state.slots
    slots_same = ap entries_in places

    kept : IsKeptRight before.slots before.mode before.bits before.rules.rules before.batch device commit
    kept = record {
      accepted = opened.kept.accepted;
      is = opened.kept.is;
      known = λ at x there. opened.kept.known at x (subst (λ (held : List (Option RankedPiece)). slot held at ≡ Some x) places there);
      done = opened.kept.done;
      left = opened.kept.left;
      stage = subst (λ s. IsCommitAt before.slots before.mode before.bits before.rules.rules before.batch s opened.kept.done opened.kept.left) (sym written) stage;
      number = opened.kept.number;
      pair = subst (λ held. IsPair held commit.pair) (sym slots_same) opened.kept.pair;
      served = λ served. absurd (let bad : true ≡ false = sym served ∙ (opened.unmoved unmoved).unserved in cc);
    }

    pub word_written : IsWritten before (write.Table field port word) before.moved false
        (record before { device = device; commit = Some commit; counts = record before.counts { writes = before.counts.writes + 1 }; drained = false })
    word_written = record {
      device = device;
      held = commit;
      after_is = refl;
      state = written;
      sized = subst (IsState before.slots) (sym written) (IsState-apply before.slots state (write.Table field port word) sized short);
      kept = kept;
      unmoved = λ _. record {
        unserved = (opened.unmoved unmoved).unserved;
        none_put = λ x member stands. (opened.unmoved unmoved).none_put x member
            (stands.0, (stands.1.0, ap (λ (held : List (Option Entry)). slot held stands.0) (sym slots_same) ∙ stands.1.1, stands.1.2));
      };
    }

-- The end of a commit.
module _ (before : Trace) (commit : commits.Commit) (sized : IsTraceSized before) (opened : IsOpened before commit) where
  abbrev shown : State
  shown = device_state before.device

  state_size : IsState (length (device_state before.device).slots) (device_state before.device)
  state_size = subst (λ n. IsState n (device_state before.device)) (sym sized.size) sized

  tasks_are : tasks_of (pieces_kept commit) ≡ opened.kept.done ++ opened.kept.left
  tasks_are = ap tasks_of opened.kept.is.pieces ∙ opened.kept.stage.parts

  -- one that isn't over hasn't arrived
  pub not_over : ((commit.done ≡ length (tasks_of (pieces_kept commit))) × (commit.pair ≡ None) → ⊥) → (n : ℕ) → Keeps (now_of before) (Done n) → ⊥
  not_over running n keeps = running (all_done, no_pair commit.pair opened.kept.pair)
    where
      ends : IsCommitAt before.slots before.mode before.bits before.rules.rules before.batch shown keeps.1.done []
      ends = keeps.1.ended

      done_is : opened.kept.done ≡ keeps.1.done
      done_is = (tasks_part_once shown opened.kept.done opened.kept.left keeps.1.done [] (sym opened.kept.stage.parts ∙ ends.parts) opened.kept.stage.are_done opened.kept.stage.are_left
          ends.are_done ends.are_left).0

      all_done : commit.done ≡ length (tasks_of (pieces_kept commit))
      all_done = opened.kept.number ∙ (ap length done_is ∙ ap length (sym (ap tasks_of opened.kept.is.pieces ∙ (ends.parts ∙ append-nil keeps.1.done))))

      no_pair : (pair : Option Pair) → IsPair shown.slots pair → pair ≡ None
      no_pair None alone = refl
      no_pair (Some pair) alike = absurd (keeps.1.alone pair.greater (pair.lesser, alike))

  module _ (over : (commit.done ≡ length (tasks_of (pieces_kept commit))) × (commit.pair ≡ None)) where
    none_left : opened.kept.left ≡ []
    none_left =
        let number = opened.kept.number in
        let all = over.0 in
        let parts = ap length tasks_are ∙ length-append opened.kept.done opened.kept.left in
        nothing opened.kept.left (omega arith)
      where
        nothing : (tasks : List Task) → length tasks ≡ 0 → tasks ≡ []
        nothing [] none = refl
        nothing (task ∷ tasks) none = absurd (omega arith)

    arrived : IsCommitAt before.slots before.mode before.bits before.rules.rules before.batch shown opened.kept.done []
    arrived = subst (λ left. IsCommitAt before.slots before.mode before.bits before.rules.rules before.batch shown opened.kept.done left) none_left opened.kept.stage

    single : IsPair shown.slots None
    single = subst (IsPair shown.slots) over.1 opened.kept.pair

    -- it is at rest
    pub done_takes : (n : ℕ) (stored : StoredRules) (bits : FieldBits) → stored.rules ≡ set_after before.rules.rules before.batch → bits ≡ bits_left stored.rules (during_of commit.live)
        → TakesLine before (Done n) (record before { rules = stored; batch = []; bits = bits; counts = record before.counts { commits = before.counts.commits + 1 } })
    done_takes n stored bits rules_are bits_are = record { keeps = keeps; knows = knows; sound = sound }
      where
        keeps : Keeps (now_of before) (Done n)
        keeps = (
          record { taken = opened.kept.accepted; stage = (opened.kept.done, opened.kept.left, opened.kept.stage) },
          record { done = opened.kept.done; ended = arrived; alone = λ at twin. single twin.0 at twin.1 },
        )

        left_are : bits ≡ bits_left (set_after before.rules.rules before.batch) (bits_with before.mode before.rules.rules before.batch before.bits)
        left_are = bits_are ∙ (ap (λ rules. bits_left rules (during_of commit.live)) rules_are ∙ ap (bits_left (set_after before.rules.rules before.batch)) opened.kept.is.during)

        knows : now_of (record before { rules = stored; batch = []; bits = bits; counts = record before.counts { commits = before.counts.commits + 1 } })
            ≡ without_made (traced_on (now_of before) (Done n))
        knows =
            ap (λ (rules : List Rule). let t : Tracing = record (now_of before) { rules = rules; bits = bits; batch = []; accepted = before.counts.commits + 1 } in t) rules_are
            ∙ ap (λ (b : FieldBits). let t : Tracing = record (now_of before) { rules = set_after before.rules.rules before.batch; bits = b; batch = []; accepted = before.counts.commits + 1 } in t) left_are

        at_rest : IsAtRest before.mode bits stored.rules shown
        at_rest = subst (λ b. IsAtRest before.mode b stored.rules shown) (sym left_are)
            (subst (λ rules. IsAtRest before.mode (bits_left (set_after before.rules.rules before.batch) (bits_with before.mode before.rules.rules before.batch before.bits)) rules shown) (sym rules_are)
            (rests_on before.slots before.mode before.bits before.rules.rules before.batch shown opened.kept.is.may.can state_size opened.kept.done arrived))

        placed : (at : ℕ) (x : RankedPiece) → slot before.device.places at ≡ Some x → Contains (set_pieces before.mode bits stored.rules) x
        placed at x there = subst (λ b. Contains (set_pieces before.mode b stored.rules) x) (sym left_are)
            (subst (λ rules. Contains (set_pieces before.mode (bits_left (set_after before.rules.rules before.batch) (bits_with before.mode before.rules.rules before.batch before.bits)) rules) x) (sym rules_are)
            (is_new before.slots before.mode before.bits before.rules.rules before.batch shown opened.kept.is.may.can state_size opened.kept.done arrived at x
            (subst (λ (q : CommitPieces). Contains (known_pieces q) x) opened.kept.is.pieces (opened.kept.known at x there))
            (entry_in before.device.places at ∙ ap (option_map entry_for) there)))

        sound : (next : Place) → place_after before.slots before.place (Done n) ≡ Some next
            → IsSoundTrace next (record before { rules = stored; batch = []; bits = bits; counts = record before.counts { commits = before.counts.commits + 1 } })
        sound next there =
            let m = done_next before.slots n before.place next there in
            subst (λ q. IsSoundTrace q (record before { rules = stored; batch = []; bits = bits; counts = record before.counts { commits = before.counts.commits + 1 } })) (sym m.1)
            (record { sized = sized; right = record { at_rest = at_rest; placed = placed; alone = single } })
