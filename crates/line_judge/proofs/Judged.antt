-- What is kept behind an event or an end that was judged.
use Rattle.std.proofs.Common.{◌≡◌, ℕ, ◌+◌, ◌<◌, ◌≤◌, IsTrue, List, [], Option, Some, None, length, take, drop, refl, sym, ◌∙◌, subst, ap, arith, length-set}
use Rattle.slot_order.specs.Order.{slot}
use Rattle.rule_model.specs.declared.Field.{Field}
use Rattle.rule_model.specs.declared.Field.TheVariants.{Src, Dst}
use Rattle.rule_model.specs.declared.Key.{Key}
use Rattle.rule_model.specs.declared.Rule.{Rule}
use Rattle.rule_model.specs.Key.{IsKey}
use Rattle.rule_model.specs.RuleSet.{IsRuleSet}
use Rattle.rule_model.specs.declared.words.Entry.{Entry}
use Rattle.rule_model.specs.Word.{word_of}
use Rattle.rule_model.proofs.RuleSets.{IsRuleSet-distinct}
use Rattle.rule_store.specs.declared.Command.{Command}
use Rattle.rule_store.specs.Batch.{IsSound, batch_fault, named_priority, set_after}
use Rattle.rule_store.specs.declared.BatchFault.{BatchFault}
use Rattle.std.specs.Prelude.{slice_get, slice_index}
use Rattle.tcam_device.specs.declared.Write.TheVariants.{Slot, Table}
use Rattle.tcam_device.specs.State.{State, apply}
use Rattle.any_order.specs.Touched.{key_port}
use Rattle.word_cubes.specs.declared.Cube.{Cube}
use Rattle.word_cubes.specs.Cube.{cube_holds}
use Rattle.driver_trace.specs.declared.Asked.{Asked}
use Rattle.driver_trace.specs.declared.Asked.TheVariants.{OldOrNew, New, Old}
use Rattle.driver_trace.specs.declared.Compared.{Compared}
use Rattle.driver_trace.specs.Compared.{ShowsBy, ShowsOldOrNewBy}
use Rattle.driver_trace.specs.Known.{Known, moved_slots}
use Rattle.write_judge.specs.Judging.{IsRightIn, StateBetween}
use Rattle.write_judge.proofs.Events.{tables_by_cubes}
use Rattle.line_judge.specs.declared.LineFault.{LineFault}
use Rattle.line_judge.specs.declared.track.Track.{Track}
use Rattle.line_judge.specs.Tracked.{AreRightAt, AreRightWhereHit, IsEndedWith, IsFaultOf, IsJudgedEvent, IsOpen, IsRightWhereHit, known_of}
use Rattle.line_judge.proofs.EndedSets.{ends_new, ends_old, named_right}
use Rattle.line_judge.proofs.JudgedEvents.{move_shows, moved_size, slot_shows}

-- a fault is one of another state and set that are equal
pub fault_at : (by : Compared) (asked : Asked) (a b : State) (old x y : List Rule) (fault : LineFault) → a ≡ b → x ≡ y → IsFaultOf by asked (record { state = a; old = old; new = x }) fault
    → IsFaultOf by asked (record { state = b; old = old; new = y }) fault
fault_at by asked a b old x y fault e f is =
    subst (λ (r : List Rule). IsFaultOf by asked (record { state = b; old = old; new = r }) fault) f
    (subst (λ (s : State). IsFaultOf by asked (record { state = s; old = old; new = x }) fault) e is)

held_at : (by : Compared) (a b : State) (old x y : List Rule) (held : Option Entry) → a ≡ b → x ≡ y → IsRightWhereHit by OldOrNew (record { state = a; old = old; new = x }) held
    → IsRightWhereHit by OldOrNew (record { state = b; old = old; new = y }) held
held_at by a b old x y held e f is =
    subst (λ (r : List Rule). IsRightWhereHit by OldOrNew (record { state = b; old = old; new = r }) held) f
    (subst (λ (s : State). IsRightWhereHit by OldOrNew (record { state = s; old = old; new = x }) held) e is)

block_at : (by : Compared) (a b : State) (old x y : List Rule) (one other : List (Option Entry)) → a ≡ b → x ≡ y → one ≡ other → AreRightWhereHit by (record { state = a; old = old; new = x }) one
    → AreRightWhereHit by (record { state = b; old = old; new = y }) other
block_at by a b old x y one other e f g is =
    subst (AreRightWhereHit by (record { state = b; old = old; new = y })) g
    (subst (λ (r : List Rule). AreRightWhereHit by (record { state = b; old = old; new = r }) one) f (subst (λ (s : State). AreRightWhereHit by (record { state = s; old = old; new = x }) one) e is))

module _ (before : Track) (is_open : IsOpen before) (ahead : List Rule) (ahead_is : ahead ≡ set_after before.rules before.batch) (device : State) where
  abbrev pub after : Track
  after = record before { device = device; ahead = Some ahead; writes = before.writes + 1 }

  abbrev pub new : List Rule
  new = set_after before.rules before.batch

  -- an event behind which the device has this state
  event_judged : (state : State) → device ≡ state → length state.slots ≡ length before.device.slots → ShowsOldOrNewBy before.by state before.rules new → IsJudgedEvent before state after
  event_judged state is size shows = record {
    open_again = record {
      sized = ap (λ (s : State). length s.slots) is ∙ size ∙ is_open.sized;
      sound = is_open.sound;
      shown = subst (λ (s : State). ShowsOldOrNewBy before.by s before.rules new) (sym is) shows;
      ahead = ahead_is;
    };
    by_is = refl;
    known = ap (λ (s : State). let k : Known = record (known_of before) { state = s; writes = before.writes + 1 } in k) is;
    slots_are = refl;
    shows = shows;
  }

  pub slot_judged : (at : ℕ) (content stood : Option Entry) → at < before.slots → stood ≡ slot before.device.slots at → device ≡ apply before.device (Slot at content)
      → IsRightWhereHit before.by OldOrNew (record { state = device; old = before.rules; new = ahead }) stood
      → IsRightWhereHit before.by OldOrNew (record { state = device; old = before.rules; new = ahead }) content → IsJudgedEvent before (apply before.device (Slot at content)) after
  slot_judged at content stood inside stood_is is one other =
      let within : at < length before.device.slots = (let size = is_open.sized in omega arith) in
      event_judged (apply before.device (Slot at content)) is (length-set before.device.slots at content)
      (slot_shows before.by before.device before.rules new is_open.shown at content stood within stood_is
      (held_at before.by device (apply before.device (Slot at content)) before.rules ahead new stood is ahead_is one)
      (held_at before.by device (apply before.device (Slot at content)) before.rules ahead new content is ahead_is other))

  same_slots : (field : Field) (port word : ℕ) → length (apply before.device (Table field port word)).slots ≡ length before.device.slots
  same_slots Src port word = refl
  same_slots Dst port word = refl

  pub table_judged : (field : Field) (port word : ℕ) (cube : Cube) → device ≡ apply before.device (Table field port word)
      → ((key : Key) (src dst : ℕ) → IsKey key → key_port field key ≡ port → IsTrue (cube_holds cube (word_of key src dst)))
      → IsRightIn before.by OldOrNew (record { state = device; old = before.rules; new = ahead }) cube → IsJudgedEvent before (apply before.device (Table field port word)) after
  table_judged field port word cube is holds right =
      event_judged (apply before.device (Table field port word)) is (same_slots field port word)
      (tables_by_cubes before.by before.device field port word before.rules new cube is_open.shown (λ key valid same.
      holds key (slice_index (apply before.device (Table field port word)).src key.sport) (slice_index (apply before.device (Table field port word)).dst key.dport) valid same)
      (subst (λ (r : List Rule). IsRightIn before.by OldOrNew (record { state = apply before.device (Table field port word); old = before.rules; new = r }) cube) ahead_is
      (subst (λ (s : State). IsRightIn before.by OldOrNew (record { state = s; old = before.rules; new = ahead }) cube) is right)))

  pub move_judged : (from to count : ℕ) (moved gone : List (Option Entry)) → from + count ≤ before.slots → to + count ≤ before.slots → moved ≡ take count (drop from before.device.slots)
      → gone ≡ take count (drop to before.device.slots) → device ≡ record before.device { slots = moved_slots before.device.slots from to count }
      → AreRightWhereHit before.by (record { state = device; old = before.rules; new = ahead }) moved → AreRightWhereHit before.by (record { state = device; old = before.rules; new = ahead }) gone
      → IsJudgedEvent before (record before.device { slots = moved_slots before.device.slots from to count }) after
  move_judged from to count moved gone within_from within_to moved_is gone_is is one other =
      let state : State = record before.device { slots = moved_slots before.device.slots from to count } in
      let wf : from + count ≤ length before.device.slots = (let size = is_open.sized in omega arith) in
      let wt : to + count ≤ length before.device.slots = (let size = is_open.sized in omega arith) in
      event_judged state is (moved_size before.by before.device before.rules new is_open.shown from to count wf wt)
      (move_shows before.by before.device before.rules new is_open.shown from to count wf wt
      (block_at before.by device state before.rules ahead new moved (take count (drop from before.device.slots)) is ahead_is moved_is one)
      (block_at before.by device state before.rules ahead new gone (take count (drop to before.device.slots)) is ahead_is gone_is other))

-- a commit that is done, or taken back
pub done_judged : (before after : Track) (ahead : List Rule) → IsOpen before → ahead ≡ set_after before.rules before.batch → IsRuleSet before.rules → IsRuleSet ahead
    → ((i : ℕ) (command : Command) → slice_get before.batch i ≡ Some command → AreRightAt before.by New (record { state = before.device; old = before.rules; new = ahead }) (named_priority command))
    → after ≡ record before { rules = ahead; batch = []; ahead = None; commits = before.commits + 1 } → IsEndedWith before (set_after before.rules before.batch) after
done_judged before _ ahead is_open is old_set new_set right same =
    let now : StateBetween = record { state = before.device; old = before.rules; new = ahead } in
    let shown : ShowsOldOrNewBy before.by before.device before.rules ahead = subst (ShowsOldOrNewBy before.by before.device before.rules) (sym is) is_open.shown in
    let shows : ShowsBy before.by before.device ahead =
    ends_new before.by now before.batch is (IsRuleSet-distinct before.rules old_set) (IsRuleSet-distinct ahead new_set) shown (named_right before.by New now before.batch right) in
    subst (IsEndedWith before (set_after before.rules before.batch)) (sym same) (record {
      shows = subst (ShowsBy before.by before.device) is shows;
      by_is = refl;
      known = ap (λ (r : List Rule). let k : Known = record (known_of before) { rules = r; batch = []; commits = before.commits + 1 } in k) is;
      ahead = refl;
    })

pub back_judged : (before after : Track) (ahead : List Rule) → IsOpen before → ahead ≡ set_after before.rules before.batch → IsRuleSet before.rules → IsRuleSet ahead
    → ((i : ℕ) (command : Command) → slice_get before.batch i ≡ Some command → AreRightAt before.by Old (record { state = before.device; old = before.rules; new = ahead }) (named_priority command))
    → after ≡ record before { batch = []; ahead = None; commits = before.commits + 1 } → IsEndedWith before before.rules after
back_judged before _ ahead is_open is old_set new_set right same =
    let now : StateBetween = record { state = before.device; old = before.rules; new = ahead } in
    let shown : ShowsOldOrNewBy before.by before.device before.rules ahead = subst (ShowsOldOrNewBy before.by before.device before.rules) (sym is) is_open.shown in
    subst (IsEndedWith before before.rules) (sym same) (record {
      shows = ends_old before.by now before.batch is (IsRuleSet-distinct before.rules old_set) (IsRuleSet-distinct ahead new_set) shown (named_right before.by Old now before.batch right);
      by_is = refl;
      known = refl;
      ahead = refl;
    })

-- a batch that has a fault isn't sound
pub not_sound : (a rules : List Rule) (b batch : List Command) (fault : BatchFault) → a ≡ rules → b ≡ batch → batch_fault a b ≡ Some fault → IsSound rules batch → ⊥
not_sound a rules b batch fault e f is sound =
    let at : batch_fault rules batch ≡ Some fault = subst (λ (c : List Command). batch_fault rules c ≡ Some fault) f (subst (λ (r : List Rule). batch_fault r b ≡ Some fault) e is) in
    let bad : None ≡ Some fault = sym sound ∙ at in cc
