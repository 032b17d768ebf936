-- A batch that is taken: what is left of its commit is a segment by parts, and it is under way.
use Rattle.std.proofs.Common.{◌≡◌, ℕ, suc, ◌+◌, ◌-◌, ◌*◌, ◌^◌, ◌≤◌, max, inl, Bool, true, false, Option, None, Some, List, [], ◌∷◌, ◌++◌, fold, length, map, take, drop, refl, sym, ◌∙◌, ap, ap₂, subst, arith, length-append}
use Rattle.std.specs.Prelude.{IfSome, if◌then◌else◌}
use Rattle.std.specs.List.{AllByRecursion}
use Rattle.rule_model.specs.declared.IpVersion.{IpVersion}
use Rattle.rule_store.specs.declared.Command.{Command}
use Rattle.rule_store.specs.Batch.{set_after}
use Rattle.tcam_device.specs.declared.Write.{Write}
use Rattle.tcam_device.specs.declared.Write.TheVariants as whole
use Rattle.tcam_device.specs.State.{State, IsInUse, apply, on_device}
use Rattle.tcam_device.specs.declared.Action.{Action}
use Rattle.tcam_device.specs.declared.Action.TheVariants as action
use Rattle.tcam_device.specs.Flight.{writes_in}
use Rattle.commit_writes.specs.declared.Done.{Done}
use Rattle.commit_writes.specs.Actions.{commit_actions, have_bits, with_drain}
use Rattle.commit_writes.specs.Bits.{bits_with, new_bits}
use Rattle.commit_writes.specs.Commit.{IsSegment}
use Rattle.commit_writes.specs.Segments.{MayBegin}
use Rattle.tcam_device.specs.Insertion.{Insertion, insertions, table_writes, IsGreatestSpan}
use Rattle.tcam_device.proofs.Wider.{slot-padded}
use Rattle.tcam_device.proofs.WiderInsertions.{insertions-padded, widened}
use Rattle.batch_order.proofs.under_way.Carried.{on_device-apply}
use Rattle.commit_writes.proofs.WritesIn.{writes_of_commit}
use Rattle.batch_order.specs.ByParts.{insertion_parts, longest_parts, part_number, parts_number, put_number, stands_at, writes_put}
use Rattle.batch_order.specs.Managed.{HeldCommit, Holds, Managed, commit_of}
use Rattle.batch_order.specs.CarriedOut.{writes_left}
use Rattle.rule_model.specs.declared.words.Entry.{Entry}
use Rattle.rule_model.specs.Entry.{same_match}
use Rattle.slot_order.specs.Order.{slot, most_slots}
use Rattle.split_device.specs.declared.SplitWrite.{SplitWrite}
use Rattle.split_device.specs.declared.SplitAction.{SplitAction}
use Rattle.split_device.specs.declared.SplitAction.TheVariants.{Written, Drained}
use Rattle.split_device.specs.State.{SplitState, IsSized, undivided, split_apply, split_after}
use Rattle.split_device.specs.Drains.{SinceDrain, is_drain_due, nothing_since, since_all, since_write, with_drains}
use Rattle.split_device.specs.Flight.{written}
use Rattle.split_writes.specs.Laws.{ArePlannedOn, IsBegun}
use Rattle.split_writes.specs.Parts.{made_of, parts_over, parts_of_writes, write_parts}
use Rattle.split_writes.specs.Insertion.{longest_split_insertion, put_writes, split_insertions, table_parts, IsGreatestSplitSpan}
use Rattle.split_writes.specs.Segment.{IsOfRoutes, IsSplitSegment}
use Rattle.split_writes.specs.UnderWay.{IsUnderWay}
use Rattle.split_writes.proofs.Made.{made_writes, written_append}
use Rattle.split_writes.proofs.Timely.{written_with_drains}
use Rattle.split_writes.proofs.Seen.{commits_are_under_way}
use Rattle.split_writes.proofs.Segment.{makes_segments, planned_longest, planned_span, planned_words}
use Rattle.split_order.specs.declared.since.Since.{Since}
use Rattle.split_order.specs.Kept.{IsCommitOrRest, IsRest, IsSplitKept, IsWayOn, parts_due}
use Rattle.split_order.specs.Left.{left_of, left_of_held, since_of, state_on}
use Rattle.split_writes.specs.declared.SplitDone.{SplitDone}
use Rattle.split_order.specs.Managed.{SplitManaged}
use Rattle.split_order.specs.Prepared.{HoldsSplit}
use Rattle.split_order.specs.Since.{IsSince}
use Rattle.split_order.proofs.Behind.{left_begun}
use Rattle.split_order.proofs.Advanced.{size_after}

-- the planner behind its plan, at the manager of parts
abbrev pub IsPlannedAt : SplitManaged → SplitManaged → Managed → Type 0
IsPlannedAt m m' whole = (m'.whole ≡ whole) × (m'.events ≡ m.events) × (m'.made ≡ 0) × (m'.begun ≡ false)

in_wide : (few many : ℕ) → few ≤ many → (writes : List Write) → AllByRecursion (IsInUse few) writes → AllByRecursion (IsInUse many) writes
in_wide few many le [] all = tt
in_wide few many le (whole.Slot at entry ∷ writes) all = (let below = all.0 in omega arith, in_wide few many le writes all.1)
in_wide few many le (whole.Table field port word ∷ writes) all = (tt, in_wide few many le writes all.1)

-- how many parts some writes take
over_length : (held : Option Entry) (at : ℕ) (entry : Entry) → length (parts_over held at entry) ≡ put_number held entry
over_length None at entry = refl
over_length (Some standing) at entry = by (same_match entry standing) refl
  where
    by : (same : Bool) → same_match entry standing ≡ same → length (parts_over (Some standing) at entry) ≡ put_number (Some standing) entry
    by true e = rw e refl
    by false e = rw e refl

write_length : (state : State) (write : Write) → length (write_parts state write) ≡ part_number (stands_at state write) write
write_length state (whole.Slot at None) = refl
write_length state (whole.Slot at (Some entry)) = over_length (slot state.slots at) at entry
write_length state (whole.Table field port word) = refl

pub parts_length : (state : State) (writes : List Write) → length (parts_of_writes state writes) ≡ parts_number state writes
parts_length state [] = refl
parts_length state (write ∷ writes) =
    length-append (write_parts state write) (parts_of_writes (apply state write) writes)
    ∙ ap₂ (λ a b. a + b) (write_length state write) (parts_length (apply state write) writes)

-- at most three of each write
put_few : (held : Option Entry) (entry : Entry) → put_number held entry ≤ 3
put_few None entry = omega arith
put_few (Some standing) entry = by (same_match entry standing)
  where
    by : (same : Bool) → (if same then 1 else 3) ≤ 3
    by true = omega arith
    by false = omega arith

part_few : (held : Option Entry) (write : Write) → part_number held write ≤ 3
part_few held (whole.Slot at None) = omega arith
part_few held (whole.Slot at (Some entry)) = put_few held entry
part_few held (whole.Table field port word) = omega arith

parts_few : (state : State) (writes : List Write) → parts_number state writes ≤ 3 * length writes
parts_few state [] = omega arith
parts_few state (write ∷ writes) = let one = part_few (stands_at state write) write in let rest = parts_few (apply state write) writes in omega arith

-- and on a wider device
stands_wide : (slots : ℕ) (wide state : State) (write : Write) → wide ≡ on_device slots state → stands_at wide write ≡ stands_at state write
stands_wide slots wide state (whole.Slot at entry) same = ap (λ (s : State). slot s.slots at) same ∙ slot-padded state.slots _ at
stands_wide slots wide state (whole.Table field port word) same = refl

number_wide : (slots : ℕ) (wide state : State) (writes : List Write) → wide ≡ on_device slots state → AllByRecursion (IsInUse (length state.slots)) writes → parts_number wide writes ≡ parts_number state writes
number_wide slots wide state [] same inside = refl
number_wide slots wide state (write ∷ writes) same inside =
    ap₂ (λ a b. a + b) (ap (λ held. part_number held write) (stands_wide slots wide state write same))
    (number_wide slots (apply wide write) (apply state write) writes (ap (λ (s : State). apply s write) same ∙ sym (on_device-apply slots state write inside.0))
    (subst (λ n. AllByRecursion (IsInUse n) writes) (sym (size_after state write)) inside.1))

-- the planner counts what insertions put as the theory of parts does,
same_puts : (writes : List Write) → writes_put writes ≡ put_writes writes
same_puts [] = refl
same_puts (whole.Slot at None ∷ writes) = same_puts writes
same_puts (whole.Slot at (Some entry) ∷ writes) = ap suc (same_puts writes)
same_puts (whole.Table field port word ∷ writes) = same_puts writes

parts_each : (more : ℕ) (made : List Insertion) → map (λ (insertion : Insertion). insertion_parts (writes_put insertion.writes)) made
    ≡ map (λ (insertion : Insertion). 3 * put_writes insertion.writes - 1) (map (widened more) made)
parts_each more [] = refl
parts_each more (insertion ∷ made) = ap₂ (λ (first : ℕ) (rest : List ℕ). first ∷ rest) (ap insertion_parts (same_puts insertion.writes)) (parts_each more made)

longest_wide : (slots : ℕ) (wide state : State) (writes : List Write) → wide ≡ on_device slots state → AllByRecursion (IsInUse (length state.slots)) writes
    → longest_parts state writes ≡ fold max 0 (map (λ (insertion : Insertion). 3 * put_writes insertion.writes - 1) (insertions wide writes))
longest_wide slots wide state writes same inside =
    let more = slots - length state.slots in
    ap (fold max 0) (parts_each more (insertions state writes)
    ∙ ap (map (λ (insertion : Insertion). 3 * put_writes insertion.writes - 1)) (sym (ap (λ (s : State). insertions s writes) same ∙ insertions-padded more state writes inside)))

-- a drain before each part is at most as many again
drains_few : (state : SplitState) (since : SinceDrain) (parts : List SplitWrite) → length (with_drains state since parts) ≤ 2 * length parts
drains_few state since [] = omega arith
drains_few state since (part ∷ parts) = by (is_drain_due state since part) (λ later. drains_few (split_apply state part) later parts)
  where
    by : (due : Bool) → ((later : SinceDrain) → length (with_drains (split_apply state part) later parts) ≤ 2 * length parts) → length {A = SplitAction} (elim due [
      | true ↦ Drained ∷ Written part ∷ with_drains (split_apply state part) (since_write nothing_since part) parts
      | false ↦ Written part ∷ with_drains (split_apply state part) (since_write since part) parts
    ]) ≤ 2 * suc (length parts)
    by true more = let rest = more (since_write nothing_since part) in omega arith
    by false more = let rest = more (since_write since part) in omega arith

-- how many drains are among some actions
abbrev drains_in : List Action → ℕ
drains_in [] = 0
drains_in (action.Written write ∷ actions) = drains_in actions
drains_in (action.Drained ∷ actions) = suc (drains_in actions)

made_few : (state : SplitState) (since : SinceDrain) (actions : List Action) → length (made_of state since actions) ≤ 2 * length (written (made_of state since actions)) + drains_in actions
made_few state since [] = omega arith
made_few state since (action.Drained ∷ actions) = let rest = made_few state nothing_since actions in omega arith
made_few state since (action.Written write ∷ actions) =
    let parts = write_parts (undivided state) write in
    let made = with_drains state since parts in
    let behind = made_of (split_after state parts) (since_all since made) actions in
    let rest = made_few (split_after state parts) (since_all since made) actions in
    let first = drains_few state since parts in
    let whole_length = length-append made behind in
    let same : written (made ++ behind) ≡ parts ++ written behind = written_append made behind ∙ ap (λ some. some ++ written behind) (written_with_drains state since parts) in
    let count : length (written (made ++ behind)) ≡ length parts + length (written behind) = ap length same ∙ length-append parts (written behind) in
    let all : length (made ++ behind) ≤ 2 * length (written (made ++ behind)) + drains_in actions = omega arith in
    all

drains_of_written : (writes : List Write) → drains_in (map action.Written writes) ≡ 0
drains_of_written [] = refl
drains_of_written (write ∷ writes) = drains_of_written writes

drains_append : (xs ys : List Action) → drains_in (xs ++ ys) ≡ drains_in xs + drains_in ys
drains_append [] ys = omega arith
drains_append (action.Written write ∷ xs) ys = drains_append xs ys
drains_append (action.Drained ∷ xs) ys = let rest = drains_append xs ys in omega arith

one_drain : (due : Bool) (made : List Write) → drains_in (with_drain due made) ≤ 1
one_drain false made = let none : drains_in (with_drain false made) ≡ 0 = drains_of_written made in omega arith
one_drain true made =
    let behind = map action.Written (drop (table_writes made) made) in
    let a : drains_in (with_drain true made) ≡ drains_in (map action.Written (take (table_writes made) made)) + drains_in (action.Drained ∷ behind) =
    drains_append (map action.Written (take (table_writes made) made)) (action.Drained ∷ behind) in
    let b : drains_in (map action.Written (take (table_writes made) made)) ≡ 0 = drains_of_written (take (table_writes made) made) in
    let c : drains_in (action.Drained ∷ behind) ≡ suc (drains_in behind) = refl in
    let d : drains_in behind ≡ 0 = drains_of_written (drop (table_writes made) made) in
    omega arith

module _ (since : Since) (left : ℕ) (m m' : SplitManaged) (batch : List Command) (done : Done) (whole' : Managed) (kept : IsSplitKept since left m) (idle : m.whole.held ≡ None)
    (holds : Holds m.whole batch done whole') (at : IsPlannedAt m m' whole') where
  rest : IsRest m
  rest = subst (IsCommitOrRest m) idle kept.commit

  abbrev writes : List Write
  writes = holds.made

  abbrev actions : List Action
  actions = commit_actions m.whole.mode m.whole.bits m.whole.rules batch writes

  abbrev plan : HeldCommit
  plan = commit_of m.whole batch writes done

  now : m'.whole ≡ record m.whole { held = Some plan }
  now = at.0 ∙ holds.new_is

  state_same : (slots : ℕ) → state_on slots m' ≡ state_on slots m
  state_same slots = ap (λ events. state_on slots (record m { events = events })) at.1

  since_same : since_of m' ≡ since_of m
  since_same = ap (λ events. since_of (record m { events = events })) at.1

  stands : (slots : ℕ) → m.whole.slots ≤ slots → undivided (state_on slots m) ≡ on_device slots m.whole.state
  stands slots wide =
      let on = kept.on slots wide in
      ap undivided (on.now_is ∙ ap (λ n. split_after on.before (take n (parts_due m))) rest.made) ∙ on.whole_is

  before_is : (slots : ℕ) (wide : m.whole.slots ≤ slots) → state_on slots m ≡ (kept.on slots wide).before
  before_is slots wide = (kept.on slots wide).now_is ∙ ap (λ n. split_after (kept.on slots wide).before (take n (parts_due m))) rest.made

  sized : (slots : ℕ) → m.whole.slots ≤ slots → IsSized (state_on slots m)
  sized slots wide = subst IsSized (sym (before_is slots wide)) (kept.on slots wide).sized

  size : (slots : ℕ) → m.whole.slots ≤ slots → length (state_on slots m).slots ≡ slots
  size slots wide = ap (λ (s : SplitState). length s.slots) (before_is slots wide) ∙ (kept.on slots wide).size

  -- what is left is what is made of its actions
  pub left_planned : (slots : ℕ) → m.whole.slots ≤ slots → left_of slots m' ≡ made_of (state_on slots m) (since_of m) actions
  left_planned slots wide =
      ap₂ (λ (s : SplitState) (c : SinceDrain). left_of_held s c m'.whole.state m'.made m'.whole.held) (state_same slots) since_same
      ∙ (ap₂ (λ (w : Managed) (n : ℕ). left_of_held (state_on slots m) (since_of m) w.state n w.held) now at.2
      ∙ left_begun slots (state_on slots m) (since_of m) m.whole.state actions (stands slots wide))

  begun : (slots : ℕ) → m.whole.slots ≤ slots → IsBegun m.whole.mode m.whole.bits m.whole.rules batch (state_on slots m) writes
  begun slots wide = record {
    sized = sized slots wide;
    in_use = in_wide m.whole.slots (length (state_on slots m).slots) (subst (λ n. m.whole.slots ≤ n) (sym (size slots wide)) wide) writes holds.in_use;
    may_begin = subst (MayBegin m.whole.mode m.whole.bits m.whole.rules batch) (sym (stands slots wide)) (holds.begins slots wide);
    segment = subst (λ (s : State). IsSegment m.whole.mode m.whole.bits m.whole.rules batch s writes) (sym (stands slots wide)) (holds.segment slots wide);
  }

  planned : (slots : ℕ) → m.whole.slots ≤ slots → ArePlannedOn m.whole.mode m.whole.bits m.whole.rules batch (undivided (state_on slots m)) writes
  planned slots wide = record {
    device_slots = slots;
    own = m.whole.state;
    stands = stands slots wide;
    live = holds.placed.live;
    arrangement = holds.placed.arrangement;
    entries = holds.placed.entries;
    planned = holds.placed.parts.planned;
    rewrites = holds.placed.parts.rewrites;
    erased = holds.placed.parts.erased;
    commit = holds.placed.plan;
    writes_are = holds.placed.writes_are;
  }

  segment_of : (slots : ℕ) → m.whole.slots ≤ slots
      → IsSplitSegment m.whole.mode m.whole.bits m.whole.rules batch (state_on slots m) (since_of m) (left_of slots m')
      × ((version : IpVersion) → IsOfRoutes version m.whole.rules batch (state_on slots m) (left_of slots m'))
  segment_of slots wide =
      let all = makes_segments m.whole.mode m.whole.bits m.whole.rules batch (state_on slots m) (since_of m) writes (begun slots wide) (planned slots wide) in (
        subst (IsSplitSegment m.whole.mode m.whole.bits m.whole.rules batch (state_on slots m) (since_of m)) (sym (left_planned slots wide)) all.0,
        λ version. subst (IsOfRoutes version m.whole.rules batch (state_on slots m)) (sym (left_planned slots wide)) (all.1 version),
      )

  -- with the planner's words and span
  words_of : (slots : ℕ) → m.whole.slots ≤ slots → done.words ≡ table_parts (written (left_of slots m'))
  words_of slots wide =
      (holds.numbers slots wide).words
      ∙ (sym (planned_words m.whole.mode m.whole.bits m.whole.rules batch (state_on slots m) (since_of m) writes (begun slots wide) (planned slots wide))
      ∙ ap (λ some. table_parts (written some)) (sym (left_planned slots wide)))

  span_of : (slots : ℕ) → m.whole.slots ≤ slots → IsGreatestSplitSpan (split_insertions (state_on slots m) (written (left_of slots m'))) done.span
  span_of slots wide =
      subst (λ some. IsGreatestSplitSpan (split_insertions (state_on slots m) (written some)) done.span) (sym (left_planned slots wide))
      (planned_span m.whole.mode m.whole.bits m.whole.rules batch (state_on slots m) (since_of m) writes (begun slots wide) (planned slots wide) done.span
      (subst (λ (s : State). IsGreatestSpan (insertions s writes) done.span) (sym (stands slots wide)) (holds.numbers slots wide).span))

  -- and as many parts in its longest insertion as the planner counts
  most_of : (slots : ℕ) → m.whole.slots ≤ slots → (most : ℕ) → most ≡ longest_parts m.whole.state writes → most ≡ longest_split_insertion (state_on slots m) (written (left_of slots m'))
  most_of slots wide most is =
      let own : AllByRecursion (IsInUse (length m.whole.state.slots)) writes = subst (λ n. AllByRecursion (IsInUse n) writes) (sym kept.whole_size) holds.in_use in
      is ∙ (longest_wide slots (undivided (state_on slots m)) m.whole.state writes (stands slots wide) own
      ∙ (planned_longest m.whole.mode m.whole.bits m.whole.rules batch (state_on slots m) (since_of m) writes (begun slots wide) (planned slots wide)
      ∙ ap (λ some. longest_split_insertion (state_on slots m) (written some)) (sym (left_planned slots wide))))

  way : (slots : ℕ) → m.whole.slots ≤ slots
      → IsUnderWay m.whole.rules (set_after m.whole.rules batch) m.whole.bits (bits_with m.whole.mode m.whole.rules batch m.whole.bits) (state_on slots m) (since_of m) (left_of slots m')
  way slots wide =
      subst (IsUnderWay m.whole.rules (set_after m.whole.rules batch) m.whole.bits (bits_with m.whole.mode m.whole.rules batch m.whole.bits) (state_on slots m) (since_of m)) (sym (left_planned slots wide))
      (commits_are_under_way m.whole.mode m.whole.bits m.whole.rules batch (state_on slots m) (since_of m) writes (begun slots wide))

  same_writes : writes_in actions ≡ writes
  same_writes = writes_of_commit (have_bits (new_bits m.whole.bits (bits_with m.whole.mode m.whole.rules batch m.whole.bits))) writes

  pub plan_few : length (writes_left whole'.held) ≤ 2 ^ 35
  plan_few = subst (λ some. length some ≤ 2 ^ 35) (sym (ap (λ (w : Managed). writes_left w.held) holds.new_is ∙ same_writes)) holds.few

  pub counted_few : (parts : ℕ) → parts ≡ parts_number whole'.state (writes_left whole'.held) → parts ≤ 2 ^ 41
  counted_few parts are = let few = plan_few in let most = parts_few whole'.state (writes_left whole'.held) in omega arith

  -- how many parts are left
  pub count_is : (slots : ℕ) → m.whole.slots ≤ slots → length (written (left_of slots m')) ≡ parts_number m.whole.state writes
  count_is slots wide =
      let own : AllByRecursion (IsInUse (length m.whole.state.slots)) writes = subst (λ n. AllByRecursion (IsInUse n) writes) (sym kept.whole_size) holds.in_use in
      let inside = subst (AllByRecursion (IsInUse (length (state_on slots m).slots))) (sym same_writes) (begun slots wide).in_use in
      ap (λ some. length (written some)) (left_planned slots wide)
      ∙ (ap length (made_writes (state_on slots m) (since_of m) actions (sized slots wide) inside)
      ∙ (ap (λ some. length (parts_of_writes (undivided (state_on slots m)) some)) same_writes
      ∙ (parts_length (undivided (state_on slots m)) writes ∙ number_wide slots (undivided (state_on slots m)) m.whole.state writes (stands slots wide) own)))

  pub counted : (parts : ℕ) → parts ≡ parts_number whole'.state (writes_left whole'.held) → (slots : ℕ) → m.whole.slots ≤ slots → parts ≡ length (written (left_of slots m'))
  counted parts are slots wide =
      are ∙ (ap (λ (w : Managed). parts_number w.state (writes_left w.held)) holds.new_is ∙ (ap (parts_number m.whole.state) same_writes ∙ sym (count_is slots wide)))

  -- with a drain before each, and the planner's own
  pub fits : (slots : ℕ) → m.whole.slots ≤ slots → length (left_of slots m') ≤ 2 * length (written (left_of slots m')) + 1
  fits slots wide =
      let all = made_few (state_on slots m) (since_of m) actions in
      let one = one_drain (have_bits (new_bits m.whole.bits (bits_with m.whole.mode m.whole.rules batch m.whole.bits))) writes in
      let few : length (made_of (state_on slots m) (since_of m) actions) ≤ 2 * length (written (made_of (state_on slots m) (since_of m) actions)) + 1 = omega arith in
      subst (λ some. length some ≤ 2 * length (written some) + 1) (sym (left_planned slots wide)) few

  -- the manager is kept,
  pub plan_kept : (parts : ℕ) → parts ≡ parts_number whole'.state (writes_left whole'.held) → IsSplitKept since parts m'
  plan_kept parts are = record {
    commit = subst (IsCommitOrRest m') (sym (ap (λ (w : Managed). w.held) now)) record {
      forward = (refl, refl);
      made = inl at.2;
      fresh = λ none. (at.2, refl);
    };
    on = λ slots wide.
        let w = back slots wide in
        let on = kept.on slots w in
        record {
          before = on.before;
          sized = on.sized;
          size = on.size;
          whole_is = on.whole_is ∙ ap (λ (p : Managed). on_device slots p.state) (sym now);
          now_is = state_same slots ∙ (before_is slots w ∙ ap (λ n. split_after on.before (take n (parts_due m'))) (sym at.2));
          way = subst (λ (h : Option HeldCommit). IfSome h (IsWayOn slots m')) (sym (ap (λ (p : Managed). p.held) now)) (
            m.whole.bits,
            subst (λ (p : Managed). IsUnderWay p.rules plan.rules m.whole.bits plan.during (state_on slots m') (since_of m') (left_of slots m')) (sym now)
                (subst (λ (s : SplitState). IsUnderWay m.whole.rules plan.rules m.whole.bits plan.during s (since_of m') (left_of slots m')) (sym (state_same slots))
                (subst (λ (c : SinceDrain). IsUnderWay m.whole.rules plan.rules m.whole.bits plan.during (state_on slots m) c (left_of slots m')) (sym since_same) (way slots w))),
          );
        };
    left_is = λ slots wide. counted parts are slots (back slots wide);
    few = subst (λ (p : Managed). p.slots ≤ most_slots) (sym now) kept.few;
    whole_size = subst (λ (p : Managed). length p.state.slots ≡ p.slots) (sym now) kept.whole_size;
    size = kept.size ∙ sym (ap (λ (p : Managed). p.slots) now);
    since_is = subst (IsSince since) (sym since_same) kept.since_is;
  }
    where
      back : (slots : ℕ) → m'.whole.slots ≤ slots → m.whole.slots ≤ slots
      back slots wide = subst (λ (p : Managed). p.slots ≤ slots) now wide

  -- and holds the batch
  pub plan_holds : (counts : SplitDone) → counts.writes ≡ parts_number whole'.state (writes_left whole'.held) → counts.words ≡ done.words → counts.most ≡ longest_parts whole'.state (writes_left whole'.held)
      → counts.span ≡ done.span → m'.counts ≡ counts → HoldsSplit m batch counts m'
  plan_holds counts are words most span same = record {
    on = λ slots wide. record {
      segment = (segment_of slots wide).0;
      routes = (segment_of slots wide).1;
      writes = counted counts.writes are slots wide;
      words = words ∙ words_of slots wide;
      most = most_of slots wide counts.most (most ∙ (ap (λ (w : Managed). longest_parts w.state (writes_left w.held)) holds.new_is ∙ ap (longest_parts m.whole.state) same_writes));
      span = subst (IsGreatestSplitSpan (split_insertions (state_on slots m) (written (left_of slots m')))) (sym span) (span_of slots wide);
      under_way = way slots wide;
    };
    events = at.1;
    made = at.2;
    begun = at.3;
    counts_are = same;
    whole = (done, subst (Holds m.whole batch done) (sym at.0) holds);
  }
