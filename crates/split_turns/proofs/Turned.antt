-- What each turn does, from what the manager and the device say of it.
use Rattle.std.proofs.Common.{◌≡◌, ℕ, zero, suc, ◌+◌, List, [], ◌∷◌, ◌++◌, Bool, true, false, Option, Some, None, length, map, drop, refl, sym, ◌∙◌, ap, subst, arith}
use Rattle.std.specs.Prelude.{nat_lt}
use Rattle.rule_model.specs.declared.Key.{Key}
use Rattle.rule_model.specs.Key.{IsKey}
use Rattle.tcam_device.specs.Flight.{most_in_flight}
use Rattle.commit_writes.specs.Bits.{FieldBits}
use Rattle.commit_writes.specs.InFlight.{AreCurrent, ServesLive}
use Rattle.commit_writes.proofs.Current.{are_current_more}
use Rattle.batch_order.specs.Managed.{HeldCommit, live_now}
use Rattle.split_device.specs.State.{SplitState, read_at, undivided}
use Rattle.split_device.specs.declared.SplitAction.{SplitAction}
use Rattle.split_device.specs.declared.SplitAction.TheVariants.{Written, Drained}
use Rattle.split_device.specs.Flight.{Flight, flight_count, oldest_read, with_read, with_search, with_word}
use Rattle.split_device.specs.Drains.{AreTimely}
use Rattle.split_order.specs.declared.SplitStep.{SplitStep}
use Rattle.split_order.specs.declared.SplitStep.TheVariants as step
use Rattle.split_order.specs.Left.{ServesSplit, left_of, since_of, state_on}
use Rattle.split_order.specs.Managed.{SplitManaged}
use Rattle.split_order.specs.Steps.{Ends, SplitSteps}
use Rattle.split_order.proofs.Stepped.{advances_slots, ends_slots}
use Rattle.split_turns.specs.declared.SplitTurn.TheVariants.{Step, Translate, Search, Read}
use Rattle.split_turns.specs.LookUps.{LookUp, Moment, moment_of, searched, told_in_flight}
use Rattle.split_turns.specs.Seen.{AreSeen, IsTurned}
use Rattle.split_turns.specs.Turns.{Outcome, TakesSplitTurn, turn_state_of, seen_by, translated}
use Rattle.split_turns.proofs.Waits.{drop_told, oldest_answered, part_seen, read_seen, same_seen, search_seen, search_told, told_seen}

-- the slots in use stay
pub steps_slots : (slots : ℕ) (old : SplitManaged) (flying : ℕ) (left : List SplitAction) (made : SplitStep) (new : SplitManaged) → SplitSteps slots old flying left made new
    → new.whole.slots ≡ old.whole.slots
steps_slots slots old flying [] made new did = ends_slots old old.whole.held made new did
steps_slots slots old flying (Written part ∷ left) made new did = advances_slots slots (Written part) old new did.1
steps_slots slots old zero (Drained ∷ left) made new did = advances_slots slots Drained old new did.1
steps_slots slots old (suc n) (Drained ∷ left) made new did = ap (λ (m : SplitManaged). m.whole.slots) did.1

-- the look-ups that wait behind it
told_by : (now : Moment) (made : SplitStep) (looks : List LookUp) → map told_in_flight (seen_by now made looks) ≡ map told_in_flight looks
told_by now (step.Wrote part) looks = told_seen now looks
told_by now step.Drained looks = refl
told_by now (step.Waiting n) looks = refl
told_by now (step.Finished counts) looks = refl
told_by now step.Idle looks = refl

empty_seen : (slots : ℕ) (old new : SplitManaged) (looks : List LookUp) → length (map told_in_flight looks) ≡ 0 → AreSeen slots old looks → AreSeen slots new looks
empty_seen slots old new [] none seen = record { keys = tt; waiting = tt; shown = tt }
empty_seen slots old new (look ∷ looks) none seen = absurd (omega arith)

ended_seen : (slots : ℕ) (old : SplitManaged) (held : Option HeldCommit) (made : SplitStep) (new : SplitManaged) (now : Moment) (looks : List LookUp) → Ends old held made new
    → AreSeen slots old looks → AreSeen slots new (seen_by now made looks)
ended_seen slots old None made new now looks did seen =
    subst (λ (s : SplitStep). AreSeen slots new (seen_by now s looks)) (sym did.0) (same_seen slots old new looks (ap (λ (m : SplitManaged). m.events) did.1) seen)
ended_seen slots old (Some held) made new now looks did seen =
    subst (λ (s : SplitStep). AreSeen slots new (seen_by now s looks)) (sym did.0) (same_seen slots old new looks (ap (λ (m : SplitManaged). m.events) did.1) seen)

stepped_seen : (slots : ℕ) (old : SplitManaged) (flying : ℕ) (left : List SplitAction) (made : SplitStep) (new : SplitManaged) (looks : List LookUp)
    → SplitSteps slots old flying left made new → AreTimely (state_on slots old) (since_of old) left → ServesSplit (state_on slots new) new → (flying ≡ 0 → length (map told_in_flight looks) ≡ 0)
    → AreSeen slots old looks → AreSeen slots new (seen_by (moment_of slots new) made looks)
stepped_seen slots old flying [] made new looks did timely serves few seen = ended_seen slots old old.whole.held made new (moment_of slots new) looks did seen
stepped_seen slots old flying (Written part ∷ left) made new looks did timely serves few seen =
    subst (λ (s : SplitStep). AreSeen slots new (seen_by (moment_of slots new) s looks)) (sym did.0) (part_seen slots old new looks part did.1.events timely.0 serves seen)
stepped_seen slots old zero (Drained ∷ left) made new looks did timely serves few seen =
    subst (λ (s : SplitStep). AreSeen slots new (seen_by (moment_of slots new) s looks)) (sym did.0) (empty_seen slots old new looks (few refl) seen)
stepped_seen slots old (suc n) (Drained ∷ left) made new looks did timely serves few seen =
    subst (λ (s : SplitStep). AreSeen slots new (seen_by (moment_of slots new) s looks)) (sym did.0) (same_seen slots old new looks (ap (λ (m : SplitManaged). m.events) did.1) seen)

-- A step of the manager.
pub step_turned : (slots : ℕ) (old new : SplitManaged) (flight : Flight) (made : SplitStep) → SplitSteps slots old (flight_count flight) (left_of slots old) made new
    → AreTimely (state_on slots old) (since_of old) (left_of slots old) → ServesSplit (state_on slots new) new
    → (looks : List LookUp) → flight.found ≡ map told_in_flight looks → AreSeen slots old looks → IsTurned slots old flight looks Step None new flight
step_turned slots old new flight made did timely serves looks found seen = record {
  later = seen_by (moment_of slots new) made looks;
  found = found ∙ sym (told_by (moment_of slots new) made looks);
  seen = stepped_seen slots old (flight_count flight) (left_of slots old) made new looks did timely serves few seen;
  turned = (made, new, subst (λ (some : List (Key × Option ℕ)). SplitSteps slots old (length flight.words + length some) (left_of slots old) made new) found did, refl);
}
  where
    few : flight_count flight ≡ 0 → length (map told_in_flight looks) ≡ 0
    few none =
        let count : length flight.words + length flight.found ≡ 0 = none in
        let same : length flight.found ≡ length (map told_in_flight looks) = ap length found in
        omega arith

-- a translation, where there is room or none
abbrev where_room : Bool → SplitState → Key → Flight → Flight
where_room room state key flight = elim room [ true ↦ with_word state flight key | false ↦ flight ]

-- A translation, or one that is passed over.
pub translate_turned : (slots : ℕ) (manager : SplitManaged) (key : Key) (flight : Flight)
    → (looks : List LookUp) → flight.found ≡ map told_in_flight looks → AreSeen slots manager looks
    → IsTurned slots manager flight looks (Translate key) None manager (translated (state_on slots manager) key flight)
translate_turned slots manager key flight looks found seen = record {
  later = looks;
  found = same (nat_lt (flight_count flight) most_in_flight) ∙ found;
  seen = seen;
  turned = ap (λ (some : List (Key × Option ℕ)). let left : Outcome = record {
    answered = None;
    after = record { manager = manager; words = (translated (state_on slots manager) key (record { words = flight.words; found = some })).words; looks = looks };
  } in left) found;
}
  where
    same : (room : Bool) → (where_room room (state_on slots manager) key flight).found ≡ flight.found
    same true = refl
    same false = refl

pub translate_current : (bits : FieldBits) (state : SplitState) (key : Key) (flight : Flight) → ServesLive bits (undivided state) → IsKey key → AreCurrent bits flight.words
    → AreCurrent bits (translated state key flight).words
translate_current bits state key flight serves valid current = go (nat_lt (flight_count flight) most_in_flight)
  where
    go : (room : Bool) → AreCurrent bits (where_room room state key flight).words
    go true = are_current_more bits (undivided state) key flight.words serves valid current
    go false = current

-- A search, with a word in flight or none.
pub search_turned : (slots : ℕ) (manager : SplitManaged) (flight : Flight) → ServesSplit (state_on slots manager) manager
    → ServesLive (live_now manager.whole) (undivided (state_on slots manager)) → AreCurrent (live_now manager.whole) flight.words
    → (looks : List LookUp) → flight.found ≡ map told_in_flight looks → AreSeen slots manager looks
    → IsTurned slots manager flight looks Search None manager (with_search (state_on slots manager) flight)
search_turned slots manager flight serves live current looks found seen = record {
  later = looks ++ searched (moment_of slots manager) flight.words;
  found = search_told (moment_of slots manager) flight.words looks flight.found found;
  seen = search_seen slots manager flight.words looks (live_now manager.whole) serves live current seen;
  turned = refl;
}

-- A read, with a found slot or none.
pub read_turned : (slots : ℕ) (manager : SplitManaged) (flight : Flight) (looks : List LookUp) → flight.found ≡ map told_in_flight looks → AreSeen slots manager looks
    → IsTurned slots manager flight looks Read (oldest_read (state_on slots manager) flight.found) manager (with_read flight)
read_turned slots manager flight looks found seen = record {
  later = drop 1 looks;
  found = drop_told looks flight.found found;
  seen = read_seen slots manager looks seen;
  turned = by looks found seen;
}
  where
    by : (some : List LookUp) → flight.found ≡ map told_in_flight some → AreSeen slots manager some
        → TakesSplitTurn slots (turn_state_of manager flight some) Read (record { answered = oldest_read (state_on slots manager) flight.found; after = turn_state_of manager (with_read flight) (drop 1 some) })
    by [] is waits =
        ap (λ (slots_found : List (Key × Option ℕ)). let left : Outcome = record { answered = oldest_read (state_on slots manager) slots_found; after = record { manager = manager; words = flight.words; looks = [] } } in left) is
    by (oldest ∷ some) is waits = (
      read_at (state_on slots manager).results oldest.slot,
      oldest_answered slots manager oldest some waits,
      ap (λ (slots_found : List (Key × Option ℕ)). let left : Outcome = record { answered = oldest_read (state_on slots manager) slots_found; after = record { manager = manager; words = flight.words; looks = some } } in left) is,
    )
