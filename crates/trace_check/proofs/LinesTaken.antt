-- A line that was judged, by what is known before it and what it changed.
use Rattle.std.proofs.Common.{◌≡◌, ℕ, ◌+◌, ◌<◌, Bool, true, false, IsSome, Option, Some, None, List, [], ◌∷◌, ◌++◌, inl, inr, refl, sym, ◌∙◌, subst, ap, ap₂, arith, length-append}
use Rattle.std.specs.Prelude.{nat_eq, nat_lt, option_map, if◌then◌else◌}
use Rattle.std.proofs.lemmas.Bool.{ltb-true}
use Rattle.slot_order.specs.Order.{slot}
use Rattle.rule_model.specs.declared.Rule.{Rule}
use Rattle.rule_model.specs.Entry.{entry_for}
use Rattle.rule_store.specs.declared.Mode.{Mode}
use Rattle.rule_store.specs.declared.Mode.TheVariants.{Cover, Bits}
use Rattle.rule_store.specs.declared.Command.{Command}
use Rattle.rule_store.specs.declared.Command.TheVariants as change
use Rattle.rule_store.specs.Verdict.{Accepted, verdict}
use Rattle.tcam_device.specs.declared.Write.{Write}
use Rattle.tcam_device.specs.State.{State, IsState, blank, apply}
use Rattle.tcam_device.proofs.States.{IsState-blank}
use Rattle.commit_writes.specs.Bits.{FieldBits, no_bits}
use Rattle.commit_writes.specs.Segments.{IsAtRest}
use Rattle.readback.specs.Stage.{IsStage}
use Rattle.rule_model.specs.declared.IpVersion.{IpVersion}
use Rattle.rule_model.specs.declared.IpVersion.TheVariants.{V4}
use Rattle.trace_file.specs.declared.TraceLine.{TraceLine}
use Rattle.trace_file.specs.declared.TraceLine.TheVariants.{Head, Commit, Add, Set, Del, Refused, End, Fault}
use Rattle.trace_check.specs.declared.CheckFault.{CheckFault}
use Rattle.trace_check.specs.declared.CheckFault.TheVariants.{Misplaced, Unordered, Memory}
use Rattle.trace_check.specs.declared.commit.Device.{Device}
use Rattle.trace_check.specs.declared.places.Place.{Place}
use Rattle.trace_check.specs.declared.places.Place.TheVariants.{AtStart, Between, InBatch, InEvents, AtEnd}
use Rattle.trace_check.specs.declared.trace.Trace.{Trace}
use Rattle.trace_check.specs.Checked.{RefusesLine, without_made}
use Rattle.trace_check.specs.Kept.{IsPair, IsRefusal, device_state}
use Rattle.trace_check.specs.Orderly.{Tracing, untraced, traced_on, Keeps}
use Rattle.trace_check.specs.Places.{Heads, Begins, Changes, Happens, Finishes, Refuses, Ends, only_if, is_slot_in_use, place_by, place_after, trace_commands}
use Rattle.trace_check.specs.Traced.{Breaks, IsOpen, IsRightAt, IsSoundTrace, MayBeJudged, Rests, WriteStops, TakesLine, now_of}
use Rattle.trace_check.proofs.PlacedEntries.{entry_in}
use Rattle.trace_check.proofs.SlotsBegun.{blank_rests, none_stands, blank_alone}

-- a place that a test allows
only : (test : Bool) (place next : Place) → only_if test place ≡ Some next → (next ≡ place) × (test ≡ true)
only true place next same = ((let k : Some place ≡ Some next = same in cc), refl)
only false place next same = absurd (let bad : None ≡ Some next = same in cc)

pub some_place : (o : Option Place) → IsSome o → (next : Place) × (o ≡ Some next)
some_place None is = absurd (let bad : false ≡ true = is in cc)
some_place (Some next) is = (next, refl)

-- an event stands in a commit, and it is among its events then
pub event_next : (slots : ℕ) (named : Option ℕ) (place next : Place) → place_by slots place (Happens named) ≡ Some next → (n : ℕ) × (next ≡ InEvents n)
event_next slots named AtStart next there = absurd (cc)
event_next slots named (Between m) next there = absurd (cc)
event_next slots named (InBatch m k) next there = (m, (only (is_slot_in_use slots named) (InEvents m) next there).0)
event_next slots named (InEvents m) next there = (m, (only (is_slot_in_use slots named) (InEvents m) next there).0)
event_next slots named AtEnd next there = absurd (cc)

pub event_used : (slots at : ℕ) (place next : Place) → place_by slots place (Happens (Some at)) ≡ Some next → at < slots
event_used slots at AtStart next there = absurd (cc)
event_used slots at (Between m) next there = absurd (cc)
event_used slots at (InBatch m k) next there = ltb-true at slots (only (nat_lt at slots) (InEvents m) next there).1
event_used slots at (InEvents m) next there = ltb-true at slots (only (nat_lt at slots) (InEvents m) next there).1
event_used slots at AtEnd next there = absurd (cc)

pub event_open : (slots : ℕ) (named : Option ℕ) (place next : Place) (trace : Trace) → place_by slots place (Happens named) ≡ Some next → IsRightAt place trace → IsOpen trace
event_open slots named AtStart next trace there right = absurd (cc)
event_open slots named (Between m) next trace there right = absurd (cc)
event_open slots named (InBatch m k) next trace there right = inl (right.0, right.1, right.2)
event_open slots named (InEvents m) next trace there right = inr right
event_open slots named AtEnd next trace there right = absurd (cc)

pub done_next : (slots n : ℕ) (place next : Place) → place_by slots place (Finishes n) ≡ Some next → (m : ℕ) × (next ≡ Between m)
done_next slots n AtStart next there = absurd (cc)
done_next slots n (Between m) next there = absurd (cc)
done_next slots n (InBatch m k) next there = (m, (only (nat_eq n m) (Between m) next there).0)
done_next slots n (InEvents m) next there = (m, (only (nat_eq n m) (Between m) next there).0)
done_next slots n AtEnd next there = absurd (cc)

pub done_open : (slots n : ℕ) (place next : Place) (trace : Trace) → place_by slots place (Finishes n) ≡ Some next → IsRightAt place trace → IsOpen trace
done_open slots n AtStart next trace there right = absurd (cc)
done_open slots n (Between m) next trace there right = absurd (cc)
done_open slots n (InBatch m k) next trace there right = inl (right.0, right.1, right.2)
done_open slots n (InEvents m) next trace there right = inr right
done_open slots n AtEnd next trace there right = absurd (cc)

head_at : (slots : ℕ) (place next : Place) (trace : Trace) → place_by slots place Heads ≡ Some next → IsRightAt place trace → (next ≡ Between 0) × (now_of trace ≡ without_made untraced)
head_at slots AtStart next trace there right = ((let k : Some (Between 0) ≡ Some next = there in cc), right)
head_at slots (Between m) next trace there right = absurd (cc)
head_at slots (InBatch m k) next trace there right = absurd (cc)
head_at slots (InEvents m) next trace there right = absurd (cc)
head_at slots AtEnd next trace there right = absurd (cc)

commit_at : (slots n : ℕ) (place next : Place) (trace : Trace) → place_by slots place (Begins n) ≡ Some next → IsRightAt place trace → (next ≡ InBatch n 0) × Rests trace
commit_at slots n AtStart next trace there right = absurd (cc)
commit_at slots n (Between m) next trace there right = ((only (nat_eq n (m + 1)) (InBatch n 0) next there).0, right)
commit_at slots n (InBatch m k) next trace there right = absurd (cc)
commit_at slots n (InEvents m) next trace there right = absurd (cc)
commit_at slots n AtEnd next trace there right = absurd (cc)

command_at : (slots : ℕ) (place next : Place) (trace : Trace) → place_by slots place Changes ≡ Some next → IsRightAt place trace
    → (n : ℕ) × (k : ℕ) × (next ≡ InBatch n (k + 1)) × IsRightAt (InBatch n k) trace
command_at slots AtStart next trace there right = absurd (cc)
command_at slots (Between m) next trace there right = absurd (cc)
command_at slots (InBatch m k) next trace there right = (m, k, (only (nat_lt k trace_commands) (InBatch m (k + 1)) next there).0, right)
command_at slots (InEvents m) next trace there right = absurd (cc)
command_at slots AtEnd next trace there right = absurd (cc)

refused_at : (slots n : ℕ) (place next : Place) (trace : Trace) → place_by slots place (Refuses n) ≡ Some next → IsRightAt place trace → IsRightAt next trace
refused_at slots n AtStart next trace there right = absurd (cc)
refused_at slots n (Between m) next trace there right = subst (λ p. IsRightAt p trace) (sym (only (nat_eq n (m + 1)) (Between n) next there).0) right
refused_at slots n (InBatch m k) next trace there right = absurd (cc)
refused_at slots n (InEvents m) next trace there right = absurd (cc)
refused_at slots n AtEnd next trace there right = absurd (cc)

end_at : (slots : ℕ) (place next : Place) (trace : Trace) → place_by slots place Ends ≡ Some next → IsRightAt next trace
end_at slots AtStart next trace there = absurd (cc)
end_at slots (Between m) next trace there = let same : AtEnd ≡ next = (let k : Some AtEnd ≡ Some next = there in cc) in subst (λ p. IsRightAt p trace) same tt
end_at slots (InBatch m k) next trace there = absurd (cc)
end_at slots (InEvents m) next trace there = absurd (cc)
end_at slots AtEnd next trace there = absurd (cc)

-- where the checker says that it stands, nothing asks
pub placed_at : (place : Place) (trace : Trace) (told : Place) → IsSoundTrace place trace → IsSoundTrace place (record trace { place = told })
placed_at place trace told sound = record { sized = sound.sized; right = right place sound.right }
  where
    right : (place : Place) → IsRightAt place trace → IsRightAt place (record trace { place = told })
    right AtStart is = is
    right (Between n) is = record { at_rest = is.at_rest; placed = is.placed; alone = is.alone }
    right (InBatch n k) is = (is.0, record { at_rest = is.1.at_rest; placed = is.1.placed; alone = is.1.alone }, is.2, is.3)
    right (InEvents n) is = (is.0, is.1, record { kept = is.2.kept; unmoved = is.2.unmoved })
    right AtEnd is = tt

-- What a commit under way that is taken out of a trace leaves is judged as the trace.
pub takes_from : (before mid after : Trace) (line : TraceLine) → mid ≡ record before { commit = None } → TakesLine mid line after → TakesLine before line after
takes_from before mid after line same takes =
    let t = subst (λ (m : Trace). TakesLine m line after) same takes in record { keeps = t.keeps; knows = t.knows; sound = t.sound }

pub breaks_from : (before mid : Trace) (line : TraceLine) (fault : CheckFault) → mid ≡ record before { commit = None } → Breaks mid line fault → Breaks before line fault
breaks_from before mid line Misplaced same bad = bad
breaks_from before mid line Unordered same broken = subst (λ (m : Trace). Keeps (now_of m) line → ⊥) same broken
breaks_from before mid line Memory same none = tt

-- a batch that is refused breaks the order, where the order asks for one that is accepted
pub refused_breaks : (before : Trace) (line : TraceLine) (fault : CheckFault) → IsRefusal before.slots before.mode before.rules.rules before.batch fault
    → (Keeps (now_of before) line → verdict before.slots before.mode before.rules.rules before.batch ≡ Accepted) → Breaks before line fault
refused_breaks before line Misplaced refused accepted = refused
refused_breaks before line Unordered refused accepted = λ keeps. refused (accepted keeps)
refused_breaks before line Memory refused accepted = tt

-- and so does a write that leads to no stage
pub stop_breaks : (before mid : Trace) (line : TraceLine) (write : Write) (fault : CheckFault) → WriteStops mid write fault
    → (Keeps (now_of before) line → IsStage mid.slots mid.mode mid.bits mid.rules.rules mid.batch (apply (device_state mid.device) write)) → Breaks before line fault
stop_breaks before mid line write Misplaced stops stage = stops
stop_breaks before mid line write Unordered stops stage = λ keeps. stops (stage keeps)
stop_breaks before mid line write Memory stops stage = tt

pub memory_breaks : (before : Trace) (line : TraceLine) (fault : CheckFault) → fault ≡ Memory → Breaks before line fault
memory_breaks before line fault is = subst (λ f. Breaks before line f) (sym is) tt

-- The head: a blank device of so many slots.
pub head_takes : (before : Trace) (version : IpVersion) (acl bits : Bool) (slots : ℕ) (device : Device) (mode : Mode) → MayBeJudged before (Head version acl bits slots) → device_state device ≡ blank slots
    → mode ≡ (if bits then Bits else Cover) → TakesLine before (Head version acl bits slots) (record before { device = device; version = version; slots = slots; mode = mode })
head_takes before version acl bits slots device mode may blank_is mode_is = record { keeps = tt; knows = knows; sound = sound }
  where
    start : now_of before ≡ without_made untraced
    start = let n = some_place (place_by before.slots before.place Heads) may.stands in (head_at before.slots before.place n.0 before n.1 may.sound.right).1

    knows : now_of (record before { device = device; version = version; slots = slots; mode = mode }) ≡ without_made (traced_on (now_of before) (Head version acl bits slots))
    knows =
        ap (λ (t : Tracing). let u : Tracing = record t { version = version; slots = slots; mode = mode; state = device_state device; begun = device_state device } in u) start
        ∙ (ap (λ (s : State). let u : Tracing = record (without_made untraced) { version = version; slots = slots; mode = mode; state = s; begun = s } in u) blank_is
        ∙ ap (λ (m : Mode). let u : Tracing = record (without_made untraced) { version = version; slots = slots; mode = m; state = blank slots; begun = blank slots } in u) mode_is)

    no_rules : before.rules.rules ≡ []
    no_rules = ap (λ (t : Tracing). t.rules) start

    no_live : before.bits ≡ no_bits
    no_live = ap (λ (t : Tracing). t.bits) start

    rests : Rests (record before { device = device; version = version; slots = slots; mode = mode })
    rests = record {
      at_rest = subst (λ b. IsAtRest mode b before.rules.rules (device_state device)) (sym no_live)
          (subst (λ r. IsAtRest mode no_bits r (device_state device)) (sym no_rules) (subst (λ s. IsAtRest mode no_bits [] s) (sym blank_is) (blank_rests mode slots)));
      placed = λ at ranked there. absurd (none_stands slots at (entry_for ranked)
          (ap (λ (s : State). slot s.slots at) (sym blank_is) ∙ (entry_in device.places at ∙ ap (option_map entry_for) there)));
      alone = subst (λ (s : State). IsPair s.slots None) (sym blank_is) (blank_alone slots);
    }

    sound : (next : Place) → place_after before.slots before.place (Head version acl bits slots) ≡ Some next → IsSoundTrace next (record before { device = device; version = version; slots = slots; mode = mode })
    sound next there = record {
      sized = subst (IsState slots) (sym blank_is) (IsState-blank slots);
      right = subst (λ p. IsRightAt p (record before { device = device; version = version; slots = slots; mode = mode })) (sym (head_at before.slots before.place next before there may.sound.right).0) rests;
    }

-- A commit begins.
pub commit_takes : (before : Trace) (n : ℕ) → MayBeJudged before (Commit n)
    → TakesLine before (Commit n) (record before { batch = []; commit = None; moved = false; has_put = false; drained = false })
commit_takes before n may = record {
  keeps = tt;
  knows = refl;
  sound = λ next there.
      let w = commit_at before.slots n before.place next before there may.sound.right in
      record {
        sized = may.sound.sized;
        right = subst (λ p. IsRightAt p (record before { batch = []; commit = None; moved = false; has_put = false; drained = false })) (sym w.0)
            (refl, record { at_rest = w.1.at_rest; placed = w.1.placed; alone = w.1.alone }, refl, refl);
      };
}

-- One command more.
command_right : (before : Trace) (command : Command) (next : Place) → IsSoundTrace before.place before → place_by before.slots before.place Changes ≡ Some next
    → IsSoundTrace next (record before { batch = before.batch ++ command ∷ [] })
command_right before command next sound there =
    let w = command_at before.slots before.place next before there sound.right in
    let size = length-append before.batch (command ∷ []) in
    let number = w.3.3 in
    record {
      sized = sound.sized;
      right = subst (λ p. IsRightAt p (record before { batch = before.batch ++ command ∷ [] })) (sym w.2)
          (w.3.0, record { at_rest = w.3.1.at_rest; placed = w.3.1.placed; alone = w.3.1.alone }, w.3.2, omega arith);
    }

pub add_takes : (before : Trace) (rule : Rule) → MayBeJudged before (Add rule) → TakesLine before (Add rule) (record before { batch = before.batch ++ change.Add rule ∷ [] })
add_takes before rule may = record { keeps = tt; knows = refl; sound = λ next there. command_right before (change.Add rule) next may.sound there }

pub set_takes : (before : Trace) (priority answer : ℕ) → MayBeJudged before (Set priority answer)
    → TakesLine before (Set priority answer) (record before { batch = before.batch ++ change.Set priority answer ∷ [] })
set_takes before priority answer may = record { keeps = tt; knows = refl; sound = λ next there. command_right before (change.Set priority answer) next may.sound there }

pub del_takes : (before : Trace) (priority : ℕ) → MayBeJudged before (Del priority) → TakesLine before (Del priority) (record before { batch = before.batch ++ change.Del priority ∷ [] })
del_takes before priority may = record { keeps = tt; knows = refl; sound = λ next there. command_right before (change.Del priority) next may.sound there }

-- A line that changes nothing.
pub refused_takes : (before : Trace) (n : ℕ) → MayBeJudged before (Refused n) → TakesLine before (Refused n) before
refused_takes before n may = record {
  keeps = tt;
  knows = refl;
  sound = λ next there. record { sized = may.sound.sized; right = refused_at before.slots n before.place next before there may.sound.right };
}

pub fault_takes : (before : Trace) (line : ℕ) → MayBeJudged before (Fault line) → TakesLine before (Fault line) before
fault_takes before line may = record {
  keeps = tt;
  knows = refl;
  sound = λ next there. record { sized = may.sound.sized; right = end_at before.slots before.place next before there };
}

pub end_takes : (before : Trace) (writes : ℕ) → MayBeJudged before (End writes) → writes ≡ before.counts.writes → TakesLine before (End writes) before
end_takes before writes may same = record {
  keeps = same;
  knows = refl;
  sound = λ next there. record { sized = may.sound.sized; right = end_at before.slots before.place next before there };
}

-- Before the first line nothing is known.
pub start_of : (rules : List Rule) (bits : FieldBits) (batch : List Command) (state : State) → rules ≡ [] → bits ≡ no_bits → batch ≡ [] → state ≡ blank 0
    → ◌≡◌ {A = Tracing} (record {
      version = V4;
      slots = 0;
      mode = Cover;
      rules = rules;
      bits = bits;
      batch = batch;
      state = state;
      writes = 0;
      accepted = 0;
      begun = state;
      made = [];
      moved = false;
      has_put = false;
      drained = false;
    }) (without_made untraced)
start_of rules bits batch state r b c s =
    ap₂ (λ (x : List Rule) (y : FieldBits). let t : Tracing = record (without_made untraced) { rules = x; bits = y; batch = batch; state = state; begun = state } in t) r b
    ∙ ap₂ (λ (x : List Command) (y : State). let t : Tracing = record (without_made untraced) { batch = x; state = y; begun = y } in t) c s

pub start_sound : (trace : Trace) → trace.slots ≡ 0 → device_state trace.device ≡ blank 0 → now_of trace ≡ without_made untraced → IsSoundTrace AtStart trace
start_sound trace none blank_is known = record {
  sized = subst (λ n. IsState n (device_state trace.device)) (sym none) (subst (IsState 0) (sym blank_is) (IsState-blank 0));
  right = known;
}

-- What is told of a line that isn't taken.
pub refuses_line : (trace : Trace) (line : TraceLine) (fault : CheckFault) → IsSome (place_after trace.slots trace.place line) → Breaks trace line fault
    → RefusesLine (record { place = trace.place; now = now_of trace }) line fault
refuses_line trace line Misplaced stands broken = absurd broken
refuses_line trace line Unordered stands broken = (stands, broken)
refuses_line trace line Memory stands broken = tt
