-- What packets see of a commit whose parts are made: each look-up of three events gets the old or the new set's answer.
use Rattle.std.proofs.Common.{◌≡◌, ℕ, suc, List, [], ◌∷◌, ◌++◌, length, take, sym, ◌∙◌, subst, ap}
use Rattle.std.specs.List.{AllByRecursion}
use Rattle.rule_model.specs.declared.Key.{Key}
use Rattle.rule_model.specs.declared.Rule.{Rule}
use Rattle.rule_store.specs.Batch.{set_after}
use Rattle.rule_model.specs.declared.words.Word.{Word}
use Rattle.tcam_device.specs.State.{IsInUse, Shows, search_word}
use Rattle.tcam_device.specs.Flight.{writes_in}
use Rattle.tcam_device.specs.Hitless.{ShowsOldOrNew}
use Rattle.commit_writes.specs.Actions.{have_bits, commit_actions}
use Rattle.commit_writes.specs.Bits.{FieldBits, bits_with, new_bits}
use Rattle.commit_writes.specs.InFlight as undivided_flight
use Rattle.commit_writes.specs.InFlight.{AreCurrent, ServesLive}
use Rattle.commit_writes.proofs.Actions.{commits_serve}
use Rattle.commit_writes.proofs.Current.{translated_current, are_current_part, are_current_less, are_current_more}
use Rattle.commit_writes.proofs.WritesIn.{writes_of_commit}
use Rattle.split_device.specs.State.{SplitState, undivided, split_after}
use Rattle.split_device.specs.declared.SplitWrite.{SplitWrite}
use Rattle.split_device.specs.declared.SplitAction.{SplitAction}
use Rattle.split_device.specs.declared.SplitAction.TheVariants.{Written, Drained}
use Rattle.split_device.specs.Flight.{Event, Makes, Translates, Searches, Reads, Pipeline, happens, after_events, reads, written, IsOfAMoment}
use Rattle.split_device.specs.Drains.{SinceDrain, nothing_since, since_write, since_events, IsCurrent, OldestIsCurrent, AreTimely, MayAllHappen, AllCurrent}
use Rattle.split_device.specs.Hitless.{HoldsOfStates, ShowsEither, IsOldOrNew, AreBetweenSets}
use Rattle.split_device.proofs.Currents.{hitting_same}
use Rattle.split_device.proofs.Lookups.{each_of_such_a_moment, moments_after, old_or_new}
use Rattle.split_device.proofs.Moments.{each_of_a_moment, all_waiting}
use Rattle.split_device.proofs.Whole.{hit_slot-whole}
use Rattle.split_writes.specs.Parts.{parts_of_writes, made_of}
use Rattle.split_writes.specs.InFlight.{ServingTo, MayGo, made_in}
use Rattle.split_writes.specs.Laws.{PartsAreHitless, CommitsAreUnderWay, SeesOldOrNewOnTheWay, SeesOldOrNew}
use Rattle.split_writes.specs.UnderWay.{IsUnderWay, IsInFlight, GoesOnByWrites, GoesOnByDrains, GoesOnByEvents}
use Rattle.split_writes.proofs.Keys.{current_keys, keys_after, reads_of_keys}
use Rattle.split_writes.proofs.Hitless.{segment_parts_hitless}
use Rattle.split_writes.proofs.Made.{written_append, timely_front, made_timely, made_writes}
use Rattle.split_writes.proofs.Serving.{made_serves, split_serves_now, split_serving_front}

-- a word that is current for the ranges that the device serves finds the slot that its key finds
current_slot : (bits : FieldBits) (state : SplitState) (key : Key) (word : Word) → ServesLive bits (undivided state) → undivided_flight.IsCurrent bits key word → IsCurrent state (key, word)
current_slot bits state key word serves current =
    let now = translated_current bits (undivided state) key serves current.valid in
    hit_slot-whole word state.slots state.results
    ∙ (hitting_same word (search_word (undivided state) key) (undivided state).slots (λ at entry stands. serves.tested at entry stands key word (search_word (undivided state) key) current now)
    ∙ sym (hit_slot-whole (search_word (undivided state) key) state.slots state.results))

pub oldest_current : (bits : FieldBits) (state : SplitState) (words : List (Key × Word)) → ServesLive bits (undivided state) → AreCurrent bits words → OldestIsCurrent state words
oldest_current bits state [] serves current = tt
oldest_current bits state (oldest ∷ words) serves current = current_slot bits state oldest.0 oldest.1 serves current.0

-- so does each word that is searched while it serves them
searches_current : (bits last : FieldBits) (line : Pipeline) (events : List Event) → ServingTo bits line.state (made_in events) last → AreCurrent bits line.words → MayGo line events → AllCurrent line events
searches_current bits last line [] serving current may = tt
searches_current bits last line (Makes (Written write) ∷ events) serving current may =
    let next = serving.1 in searches_current next.0 last (happens line (Makes (Written write))) events next.2 (are_current_part next.0 bits line.words next.1 current) may.1
searches_current bits last line (Makes Drained ∷ events) serving current may =
    let next = serving.1 in searches_current next.0 last line events next.1 (subst (AreCurrent next.0) (sym may.0.0) tt) may.1
searches_current bits last line (Translates key ∷ events) serving current may =
    searches_current bits last (happens line (Translates key)) events serving
    (are_current_more bits (undivided line.state) key line.words (split_serves_now bits last line.state (made_in events) serving) may.0.0 current) may.1
searches_current bits last line (Searches ∷ events) serving current may = (
  oldest_current bits line.state line.words (split_serves_now bits last line.state (made_in events) serving) current,
  searches_current bits last (happens line Searches) events serving (are_current_less bits line.words current) may.1,
)
searches_current bits last line (Reads ∷ events) serving current may = searches_current bits last (happens line Reads) events serving current may.1

-- each event may happen
all_happen : (line : Pipeline) (since : SinceDrain) (events : List Event) → AreTimely line.state since (made_in events) → MayGo line events → AllCurrent line events → MayAllHappen line since events
all_happen line since [] timely may current = tt
all_happen line since (Makes (Written write) ∷ events) timely may current =
    (timely.0, all_happen (happens line (Makes (Written write))) (since_write since write) events timely.1 may.1 current)
all_happen line since (Makes Drained ∷ events) timely may current = (may.0, all_happen line _ events timely may.1 current)
all_happen line since (Translates key ∷ events) timely may current = (tt, all_happen (happens line (Translates key)) since events timely may.1 current)
all_happen line since (Searches ∷ events) timely may current = (current.0, all_happen (happens line Searches) since events timely may.1 current.1)
all_happen line since (Reads ∷ events) timely may current = (tt, all_happen (happens line Reads) since events timely may.1 current)

-- a fact that holds after each of the first writes holds of each state
states_hold : (Fact : SplitState → Type 0) (line : Pipeline) (events : List Event) (back : List SplitWrite) → ((n : ℕ) → Fact (split_after line.state (take n (written (made_in events) ++ back)))) → HoldsOfStates Fact line events
states_hold Fact line [] back each = each 0
states_hold Fact line (Makes (Written write) ∷ events) back each = (each 0, states_hold Fact (happens line (Makes (Written write))) events back (λ n. each (suc n)))
states_hold Fact line (Makes Drained ∷ events) back each = (each 0, states_hold Fact line events back each)
states_hold Fact line (Translates key ∷ events) back each = (each 0, states_hold Fact (happens line (Translates key)) events back each)
states_hold Fact line (Searches ∷ events) back each = (each 0, states_hold Fact (happens line Searches) events back each)
states_hold Fact line (Reads ∷ events) back each = (each 0, states_hold Fact (happens line Reads) events back each)

pub parts_are_hitless : PartsAreHitless
parts_are_hitless mode bits rules batch state writes begun = segment_parts_hitless mode bits rules batch state writes begun.sized begun.in_use begun.may_begin begun.segment

pub commits_are_under_way : CommitsAreUnderWay
commits_are_under_way mode bits rules batch state since writes begun =
    let actions = commit_actions mode bits rules batch writes in
    let same : writes_in actions ≡ writes = writes_of_commit (have_bits (new_bits bits (bits_with mode rules batch bits))) writes in
    let inside = subst (AllByRecursion (IsInUse (length state.slots))) (sym same) begun.in_use in
    let leads = (commits_serve mode bits rules batch (undivided state) writes begun.may_begin begun.segment).1 in
    let parts : parts_of_writes (undivided state) writes ≡ written (made_of state since actions) =
    ap (parts_of_writes (undivided state)) (sym same) ∙ sym (made_writes state since actions begun.sized inside) in
    let hitless = parts_are_hitless mode bits rules batch state writes begun in
    record {
      timely = made_timely state since actions;
      serving = made_serves bits (bits_with mode rules batch bits) state actions begun.sized inside leads.0 since;
      during = λ n. subst (λ made. ShowsOldOrNew (undivided (split_after state (take n made))) rules (set_after rules batch)) parts (hitless.on_the_way.during n);
      after = subst (λ made. Shows (undivided (split_after state made)) (set_after rules batch)) parts hitless.after;
    }

pub goes_on_by_writes : GoesOnByWrites
goes_on_by_writes old new bits last state since write left way =
    let next = way.serving.1 in
    (next.0, next.1, record { timely = way.timely.1; serving = next.2; during = λ n. way.during (suc n); after = way.after })

pub goes_on_by_drains : GoesOnByDrains
goes_on_by_drains old new bits last state since left way =
    let next = way.serving.1 in
    (next.0, record { timely = way.timely; serving = next.1; during = way.during; after = way.after })

-- what is left is under way after any events, and the words in flight are current for the ranges that are live then
way_after : (old new : List Rule) (bits last : FieldBits) (line : Pipeline) (since : SinceDrain) (left : List SplitAction) (events : List Event)
    → IsUnderWay old new bits last line.state since (made_in events ++ left) → AreCurrent bits line.words → MayGo line events
    → (next : FieldBits) × IsUnderWay old new next last (after_events line events).state (since_events since events) left × AreCurrent next (after_events line events).words
way_after old new bits last line since left [] way current may = (bits, way, current)
way_after old new bits last line since left (Makes (Written write) ∷ events) way current may =
    let next = goes_on_by_writes old new bits last line.state since write (made_in events ++ left) way in
    way_after old new next.0 last (happens line (Makes (Written write))) (since_write since write) left events next.2 (are_current_part next.0 bits line.words next.1 current) may.1
way_after old new bits last line since left (Makes Drained ∷ events) way current may =
    let next = goes_on_by_drains old new bits last line.state since (made_in events ++ left) way in
    way_after old new next.0 last line nothing_since left events next.1 (subst (AreCurrent next.0) (sym may.0.0) tt) may.1
way_after old new bits last line since left (Translates key ∷ events) way current may =
    way_after old new bits last (happens line (Translates key)) since left events way
    (are_current_more bits (undivided line.state) key line.words (split_serves_now bits last line.state (made_in events ++ left) way.serving) may.0.0 current) may.1
way_after old new bits last line since left (Searches ∷ events) way current may =
    way_after old new bits last (happens line Searches) since left events way (are_current_less bits line.words current) may.1
way_after old new bits last line since left (Reads ∷ events) way current may = way_after old new bits last (happens line Reads) since left events way current may.1

-- events in which the first of what is left is made may all happen, and each state shows the old or the new set
module _ (old new : List Rule) (bits last : FieldBits) (line : Pipeline) (since : SinceDrain) (left : List SplitAction) (events : List Event)
    (way : IsUnderWay old new bits last line.state since (made_in events ++ left)) (flight : IsInFlight bits since line) (may : MayGo line events) where
  happen : MayAllHappen line since events
  happen =
      let first = split_serving_front bits last line.state (made_in events) left way.serving in
      all_happen line since events (timely_front line.state since (made_in events) left way.timely) may (searches_current bits first.0 line events first.1 flight.words may)

  states : HoldsOfStates (ShowsEither old new) line events
  states = states_hold (ShowsEither old new) line events (written left)
      (λ n. subst (λ made. ShowsEither old new (split_after line.state (take n made))) (written_append (made_in events) left) (way.during n))

  pub read_on_the_way : AllByRecursion IsOfAMoment (reads line events) × (AreBetweenSets old new line.looks → AllByRecursion (IsOldOrNew old new) (reads line events))
  read_on_the_way = (
    each_of_a_moment line since events flight.waiting happen,
    λ between. old_or_new old new (reads line events) (each_of_such_a_moment (ShowsEither old new) line since events flight.waiting between.shown happen states)
        (reads_of_keys line events may (current_keys bits line.words flight.words, between.keys)),
  )

  pub gone_on : ((next : FieldBits) × IsUnderWay old new next last (after_events line events).state (since_events since events) left
      × IsInFlight next (since_events since events) (after_events line events))
      × (AreBetweenSets old new line.looks → AreBetweenSets old new (after_events line events).looks)
  gone_on =
      let next = way_after old new bits last line since left events way flight.words may in (
        (next.0, next.1, record { words = next.2; waiting = all_waiting line since events flight.waiting happen }),
        λ between. record {
          keys = keys_after line events may (current_keys bits line.words flight.words, between.keys);
          shown = moments_after (ShowsEither old new) line events between.shown states;
        },
      )

pub goes_on_by_events : GoesOnByEvents
goes_on_by_events = gone_on

pub sees_old_or_new_on_the_way : SeesOldOrNewOnTheWay
sees_old_or_new_on_the_way old new bits last line since left events way flight front may =
    read_on_the_way old new bits last line since front.0 events (subst (IsUnderWay old new bits last line.state since) front.1 way) flight may

pub sees_old_or_new : SeesOldOrNew
sees_old_or_new mode bits rules batch line since writes events begun flight front may =
    sees_old_or_new_on_the_way rules (set_after rules batch) bits (bits_with mode rules batch bits) line since (made_of line.state since (commit_actions mode bits rules batch writes)) events
    (commits_are_under_way mode bits rules batch line.state since writes begun) flight front may
