-- What a split table's calls rest on: what a step leaves, and that a commit with nothing left has come to its end.
use Rattle.std.proofs.Common.{◌≡◌, ℕ, zero, suc, ◌≤◌, Bool, true, false, Option, None, Some, List, [], ◌∷◌, ◌++◌, length, Ok, Err, refl, sym, ap, subst, ◌∙◌, append-nil, arith, le_refl}
use Rattle.std.specs.Prelude.{◌&&◌, not, IsOk, IsSome, is_some, option_map, slice_get}
use Rattle.rule_store.specs.declared.Command.{Command}
use Rattle.rule_store.specs.declared.Mode.{Mode}
use Rattle.batch_order.specs.declared.Placement.{Placement}
use Rattle.batch_order.specs.Managed.{HeldCommit, Managed}
use Rattle.split_device.specs.declared.SplitAction.{SplitAction}
use Rattle.split_device.specs.declared.SplitAction.TheVariants.{Written, Drained}
use Rattle.split_device.specs.Flight.{Flight, flight_count, no_flight}
use Rattle.split_hardware.specs.Shadow.{AreCalls, Call, failures}
use Rattle.split_hardware.specs.Shadow.Call.{Put, Drain}
use Rattle.split_writes.specs.declared.SplitDone.{SplitDone}
use Rattle.split_order.specs.declared.SplitStep.{SplitStep}
use Rattle.split_order.specs.declared.SplitStep.TheVariants as step
use Rattle.split_order.specs.Left.{left_of, left_of_held, since_of, state_on}
use Rattle.split_order.specs.Managed.{SplitManaged, fresh_split}
use Rattle.split_order.specs.Prepared.{HoldsSplit}
use Rattle.split_order.specs.Steps.{Advances, Ends, LeavesCurrent, SplitSteps, dropped, is_untouched, made_by}
use Rattle.split_order.proofs.Live.{same_current}
use Rattle.split_order.proofs.Stepped.{advances_slots, ends_events, ends_slots}
use Rattle.tcam_c.specs.Driven.{IsDue, KeepsLive}
use Rattle.tcam_c.specs.Split.{Cancels, CancelsHeld, cancelled_by, IsSplitEnded, IsSplitHandled, IsUnsettled, KeepsSplitWords, PassesDue, PassesTo, kind_of_part, part_due, parts_left, settled_split, settled_split_by}

-- hardware of which no write fails has none that failed
pub never_failed : {H : Type 0} (drains : H → H → Type 0) (given : List H) (calls : List (Call H)) (now : H)
    → AreCalls (λ before write answer after. IsOk answer) drains given calls now → failures calls ≡ 0
never_failed drains given [] now are = refl
never_failed drains given (Put before write (Ok done) ∷ earlier) now are = never_failed drains given earlier before are.1
never_failed drains given (Put before write (Err fault) ∷ earlier) now are = absurd (let no = are.0 in cc)
never_failed drains given (Drain before ∷ earlier) now are = never_failed drains given earlier before are.1

-- words stay current where they do from one call to the next
pub keeps_on : (old mid new : SplitManaged) → KeepsLive old.whole mid.whole → KeepsLive mid.whole new.whole → KeepsLive old.whole new.whole
keeps_on old mid new first next = record {
  src = λ bit range is. first.src bit range (next.src bit range is);
  dst = λ bit range is. first.dst bit range (next.dst bit range is);
}

pub keeps_same : (old new : SplitManaged) → new ≡ old → KeepsLive old.whole new.whole
keeps_same old new same = same_current old.whole new.whole (ap (λ (m : SplitManaged). m.whole) same)

pub words_on : (action : SplitAction) (old mid new : SplitManaged) → KeepsSplitWords action old mid → KeepsLive mid.whole new.whole → KeepsSplitWords action old new
words_on (Written part) old mid new first next = keeps_on old mid new first next
words_on Drained old mid new first next = tt

-- a step that doesn't drain leaves words current
ends_live : (old : SplitManaged) (made : SplitStep) (new : SplitManaged) → made_by made ≡ [] → LeavesCurrent old made new → KeepsLive old.whole new.whole
ends_live old (step.Wrote write) new none leaves = leaves
ends_live old step.Drained new none leaves = absurd (cc)
ends_live old (step.Waiting flying) new none leaves = leaves
ends_live old (step.Finished counts) new none leaves = leaves
ends_live old step.Idle new none leaves = leaves

ends_to : (old : SplitManaged) (held : Option HeldCommit) (made : SplitStep) (new : SplitManaged) → Ends old held made new → LeavesCurrent old made new
    → (new ≡ settled_split_by [] held old) × KeepsLive old.whole new.whole
ends_to old None made new did leaves = (did.1, ends_live old made new (ap made_by did.0) leaves)
ends_to old (Some held) made new did leaves = (did.1, ends_live old made new (ap made_by did.0) leaves)

-- what a step does where nothing is in flight
pub steps_to : (old : SplitManaged) (slots flying : ℕ) (left : List SplitAction) (made : SplitStep) (new : SplitManaged) → slots ≡ old.whole.slots → flying ≡ 0
    → SplitSteps slots old flying left made new → LeavesCurrent old made new → PassesTo left old new
steps_to old slots flying [] made new are none did leaves = ends_to old old.whole.held made new did leaves
steps_to old slots flying (Written part ∷ left) made new are none did leaves = (
  subst (λ n. Advances n (Written part) old new) are did.1,
  subst (λ (s : SplitStep). LeavesCurrent old s new) did.0 leaves,
)
steps_to old slots zero (Drained ∷ left) made new are none did leaves = (subst (λ n. Advances n Drained old new) are did.1, tt)
steps_to old slots (suc flying) (Drained ∷ left) made new are none did leaves = absurd (omega arith)

pub steps_events : (old : SplitManaged) (slots flying : ℕ) (left : List SplitAction) (made : SplitStep) (new : SplitManaged) → flying ≡ 0 → SplitSteps slots old flying left made new
    → new.events ≡ old.events ++ made_by made
steps_events old slots flying [] made new none did = ended old.whole.held did
  where
    ended : (held : Option HeldCommit) → Ends old held made new → new.events ≡ old.events ++ made_by made
    ended None is = ends_events old None made new is ∙ (sym (append-nil old.events) ∙ ap (λ (s : SplitStep). old.events ++ made_by s) (sym is.0))
    ended (Some held) is = ends_events old (Some held) made new is ∙ (sym (append-nil old.events) ∙ ap (λ (s : SplitStep). old.events ++ made_by s) (sym is.0))
steps_events old slots flying (Written part ∷ left) made new none did = did.1.events ∙ ap (λ (s : SplitStep). old.events ++ made_by s) (sym did.0)
steps_events old slots zero (Drained ∷ left) made new none did = did.1.events ∙ ap (λ (s : SplitStep). old.events ++ made_by s) (sym did.0)
steps_events old slots (suc flying) (Drained ∷ left) made new none did = absurd (omega arith)

pub steps_slots : (old : SplitManaged) (slots flying : ℕ) (left : List SplitAction) (made : SplitStep) (new : SplitManaged) → flying ≡ 0 → SplitSteps slots old flying left made new
    → new.whole.slots ≡ old.whole.slots
steps_slots old slots flying [] made new none did = ends_slots old old.whole.held made new did
steps_slots old slots flying (Written part ∷ left) made new none did = advances_slots slots (Written part) old new did.1
steps_slots old slots zero (Drained ∷ left) made new none did = advances_slots slots Drained old new did.1
steps_slots old slots (suc flying) (Drained ∷ left) made new none did = absurd (omega arith)

-- nothing in flight counts none
pub none_flies : (flight : Flight) → flight ≡ no_flight → flight_count flight ≡ 0
none_flies flight none = ap flight_count none

-- A memory in which a step was made of what was due.
pub unsettled_on : (old new : SplitManaged) (made : SplitStep) (slots slots' spare : ℕ) (events events' : List SplitAction) (flight flight' : Flight)
    → IsUnsettled old slots events flight spare → SplitSteps slots old (flight_count flight) (left_of slots old) made new → slots' ≡ slots → events' ≡ events ++ made_by made → flight' ≡ flight
    → (spare' : ℕ) → length (left_of slots' new) ≤ spare' → IsUnsettled new slots' events' flight' spare'
unsettled_on old new made slots slots' spare events events' flight flight' was did same logged still spare' room =
    let none : flight_count flight ≡ 0 = none_flies flight was.still in
    let stays : new.whole.slots ≡ old.whole.slots = steps_slots old slots (flight_count flight) (left_of slots old) made new none did in
    let here : slots' ≡ new.whole.slots = same ∙ (was.same_slots ∙ sym stays) in
    record {
      same_slots = here;
      events_are = logged ∙ (ap (λ some. some ++ made_by made) was.events_are ∙ sym (steps_events old slots (flight_count flight) (left_of slots old) made new none did));
      room = subst (λ n. length (left_of n new) ≤ spare') here room;
      still = still ∙ was.still;
    }

-- and what it came to
pub passes_to : (old new : SplitManaged) (made : SplitStep) (slots spare : ℕ) (events : List SplitAction) (flight : Flight) → IsUnsettled old slots events flight spare
    → SplitSteps slots old (flight_count flight) (left_of slots old) made new → LeavesCurrent old made new → PassesTo (parts_left old) old new
passes_to old new made slots spare events flight was did leaves =
    subst (λ n. PassesTo (left_of n old) old new) was.same_slots (steps_to old slots (flight_count flight) (left_of slots old) made new was.same_slots (none_flies flight was.still) did leaves)

-- with nothing left it is the end of the commit, and with something left there is none
settles : (left : List SplitAction) (held : Option HeldCommit) (manager : SplitManaged) → slice_get left 0 ≡ None → settled_split_by left held manager ≡ settled_split_by [] held manager
settles [] held manager none = refl
settles (action ∷ left) held manager none = absurd (cc)

ends_at : (left : List SplitAction) (old new : SplitManaged) → slice_get left 0 ≡ None → PassesTo left old new → (new ≡ settled_split_by [] old.whole.held old) × KeepsLive old.whole new.whole
ends_at [] old new none passes = passes
ends_at (action ∷ left) old new none passes = absurd (cc)

pub settled_end : (old new : SplitManaged) → part_due old ≡ None → PassesTo (parts_left old) old new → (new ≡ settled_split old) × KeepsLive old.whole new.whole
settled_end old new none passes =
    let ended = ends_at (parts_left old) old new none passes in
    (ended.0 ∙ sym (settles (parts_left old) old.whole.held old none), ended.1)

pub none_held : (old new : SplitManaged) → part_due old ≡ None → PassesTo (parts_left old) old new → new.whole.held ≡ None
none_held old new none passes = ap (λ (m : SplitManaged). m.whole.held) (ends_at (parts_left old) old new none passes).0 ∙ over old.whole.held refl
  where
    over : (held : Option HeldCommit) → old.whole.held ≡ held → (settled_split_by [] held old).whole.held ≡ None
    over None is = is
    over (Some held) is = refl

pub settled_same : (old : SplitManaged) → ¬ (part_due old ≡ None) → old ≡ settled_split old
settled_same old some = go (parts_left old) some
  where
    go : (left : List SplitAction) → ¬ (slice_get left 0 ≡ None) → old ≡ settled_split_by left old.whole.held old
    go [] none = absurd (none refl)
    go (action ∷ left) none = refl

pub some_left : (left : List SplitAction) → ¬ (slice_get left 0 ≡ None) → 1 ≤ length left
some_left [] none = absurd (none refl)
some_left (action ∷ left) none = omega arith

-- what is due was made, and the commit settled
pub passes_due : (old mid new : SplitManaged) → IsDue (kind_of_part (part_due old)) → PassesTo (parts_left old) old mid → new ≡ settled_split mid → KeepsLive mid.whole new.whole → PassesDue (part_due old) old new
passes_due old mid new some passes is keeps = go (parts_left old) some passes
  where
    go : (left : List SplitAction) → IsDue (kind_of_part (slice_get left 0)) → PassesTo left old mid → PassesDue (slice_get left 0) old new
    go [] none did = absurd (none)
    go (action ∷ left) none did = record {
      passed = mid;
      advances = did.0;
      settled_is = is;
      keeps = words_on action old mid new did.1 keeps;
    }

-- nothing is due exactly where no commit is under way
pub split_ended : (manager : SplitManaged) → (IsSome manager.whole.held → 1 ≤ length (parts_left manager)) → IsSplitEnded manager.whole.held (part_due manager)
split_ended manager due = go manager.whole.held refl due
  where
    some_due : (left : List SplitAction) → 1 ≤ length left → ¬ (slice_get left 0 ≡ None)
    some_due [] more none = omega (arith, more)
    some_due (action ∷ left) more none = absurd (cc)

    go : (held : Option HeldCommit) → manager.whole.held ≡ held → (IsSome held → 1 ≤ length (parts_left manager)) → IsSplitEnded held (part_due manager)
    go None is some = ap (λ (h : Option HeldCommit). slice_get (left_of_held (state_on manager.whole.slots manager) (since_of manager) manager.whole.state manager.made h) 0) is
    go (Some held) is some = some_due (parts_left manager) (some refl)

-- what became of a plan that was to be dropped
pub cancel_told : (old new : SplitManaged) (did under_way : Bool) → did ≡ is_untouched old → new ≡ dropped did old → under_way ≡ is_some old.whole.held → Cancels old (cancelled_by did under_way) new
cancel_told old new did under_way is drop under = go old.whole.held old.begun is under
  where
    stays : (b : Bool) → did ≡ b → new ≡ dropped b old
    stays b e = drop ∙ ap (λ (x : Bool). dropped x old) e

    told : (b w : Bool) → did ≡ b → under_way ≡ w → cancelled_by did under_way ≡ cancelled_by b w
    told b w d u = ap (λ (x : Bool). cancelled_by x under_way) d ∙ ap (λ (x : Bool). cancelled_by b x) u

    go : (held : Option HeldCommit) (begun : Bool) → did ≡ (not begun && is_some held) → under_way ≡ is_some held → CancelsHeld held begun old (cancelled_by did under_way) new
    go None true d u = (told false false d u, stays false d)
    go None false d u = (told false false d u, stays false d)
    go (Some held) true d u = (told false true d u, stays false d)
    go (Some held) false d u = (told true true d u, stays true d)

pub under_way_is : (held : Option HeldCommit) (count : HeldCommit → ℕ) (left : Option ℕ) (told : Bool) → told ≡ is_some left → left ≡ option_map count held → told ≡ is_some held
under_way_is held count left told is are = is ∙ (ap (λ (l : Option ℕ). is_some l) are ∙ go held)
  where
    go : (h : Option HeldCommit) → is_some (option_map count h) ≡ is_some h
    go None = refl
    go (Some one) = refl

-- and what is left of the memory then
pub handled_dropped : (old new : SplitManaged) (did : Bool) (slots spare : ℕ) (events : List SplitAction) (flight : Flight) → new ≡ dropped did old → IsSplitHandled old slots events flight spare
    → IsSplitHandled new slots events flight spare
handled_dropped old new did slots spare events flight drop was = subst (λ (m : SplitManaged). IsSplitHandled m slots events flight spare) (sym drop) (go did)
  where
    go : (b : Bool) → IsSplitHandled (dropped b old) slots events flight spare
    go false = was
    go true = record {
      unsettled = record { same_slots = was.unsettled.same_slots; events_are = was.unsettled.events_are; room = omega arith; still = was.unsettled.still };
      due = λ some. absurd (let no : false ≡ true = some in cc);
    }

-- a blank memory of a manager without rules
pub fresh_handled : (slots slots' : ℕ) (mode : Mode) (placement : Placement) (manager : SplitManaged) → manager ≡ fresh_split slots mode placement → slots' ≡ slots
    → IsSplitHandled manager slots' [] no_flight 0
fresh_handled slots slots' mode placement manager is same = subst (λ (m : SplitManaged). IsSplitHandled m slots' [] no_flight 0) (sym is) (record {
  unsettled = record { same_slots = same; events_are = refl; room = le_refl 0; still = refl };
  due = λ some. absurd (let no : false ≡ true = some in cc);
})

-- a batch was taken over the memory,
pub unsettled_planned : (old new : SplitManaged) (batch : List Command) (counts : SplitDone) (slots slots' spare spare' : ℕ) (events events' : List SplitAction) (flight flight' : Flight)
    → IsUnsettled old slots events flight spare → HoldsSplit old batch counts new → slots' ≡ slots → events' ≡ events → flight' ≡ flight → length (left_of slots' new) ≤ spare'
    → IsUnsettled new slots' events' flight' spare'
unsettled_planned old new batch counts slots slots' spare spare' events events' flight flight' was holds same told still room =
    let stays : new.whole.slots ≡ old.whole.slots = ap (λ (w : Managed). w.slots) holds.whole.1.new_is in
    let here : slots' ≡ new.whole.slots = same ∙ (was.same_slots ∙ sym stays) in
    record {
      same_slots = here;
      events_are = told ∙ (was.events_are ∙ sym holds.events);
      room = subst (λ n. length (left_of n new) ≤ spare') here room;
      still = still ∙ was.still;
    }

-- or refused
pub handled_same : (old new : SplitManaged) (slots slots' spare spare' : ℕ) (events events' : List SplitAction) (flight flight' : Flight) → IsSplitHandled old slots events flight spare → new ≡ old
    → slots' ≡ slots → events' ≡ events → flight' ≡ flight → spare ≤ spare' → IsSplitHandled new slots' events' flight' spare'
handled_same old new slots slots' spare spare' events events' flight flight' was same slots_are told still more =
    let u = was.unsettled in
    subst (λ (m : SplitManaged). IsSplitHandled m slots' events' flight' spare') (sym same) (record {
      unsettled =
          record {
            same_slots = slots_are ∙ u.same_slots;
            events_are = told ∙ u.events_are;
            room = (let few = u.room in omega arith);
            still = still ∙ u.still;
          };
      due = was.due;
    })
