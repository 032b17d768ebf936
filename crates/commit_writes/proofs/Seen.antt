-- Look-ups of two events see the old or the new set's answer all through a commit, and while it is taken back.
use Rattle.std.proofs.Common.{◌≡◌, ℕ, suc, ◌+◌, ◌-◌, ◌≤◌, List, [], ◌∷◌, ◌++◌, length, map, take, drop, inl, inr, sym, ◌∙◌, ap, subst, arith}
use Rattle.std.specs.List.{AllByRecursion}
use Rattle.std.proofs.lemmas.Bool.{cases_lt}
use Rattle.std.proofs.lemmas.List.{take-append-le, take_all}
use Rattle.std.proofs.Math.Seq.{take-append-add}
use Rattle.slot_order.proofs.Lists.{all_append}
use Rattle.rule_model.specs.declared.Key.{Key}
use Rattle.rule_model.specs.declared.Rule.{Rule}
use Rattle.rule_model.specs.Key.{IsKey}
use Rattle.rule_model.specs.RuleSet.{Answer}
use Rattle.rule_store.specs.declared.Mode.{Mode}
use Rattle.rule_store.specs.declared.Command.{Command}
use Rattle.rule_store.specs.Batch.{set_after}
use Rattle.rule_model.specs.declared.words.Word.{Word}
use Rattle.tcam_device.specs.declared.Write.{Write}
use Rattle.tcam_device.specs.State.{State, apply, state_after}
use Rattle.tcam_device.specs.Hitless.{ShowsOldOrNew}
use Rattle.commit_writes.specs.Bits.{FieldBits, bits_with, new_bits}
use Rattle.tcam_device.specs.declared.Action.{Action}
use Rattle.tcam_device.specs.declared.Action.TheVariants.{Written, Drained}
use Rattle.tcam_device.specs.Flight.{Event, Acted, Translated, Searched, Flight, Pipeline, MayGo, actions_in, writes_in, searched_by, searches, happens}
use Rattle.commit_writes.specs.InFlight.{AreCurrent, ServingTo, IsLookUp, IsOldOrNew}
use Rattle.commit_writes.specs.Undo.{undo_writes}
use Rattle.commit_writes.specs.Actions.{IsReturn, have_bits}
use Rattle.commit_writes.specs.Segments.{SeesOldOrNew, SeesOldOrNewBack, ReturnsAreHitless, live_behind}
use Rattle.commit_writes.proofs.Undone.{undo_passes, undo_ends, length-undo_writes}
use Rattle.commit_writes.proofs.Searches.{answer_as_look_ups, serves_now}
use Rattle.commit_writes.proofs.Actions.{commits_serve, returns_serve}
use Rattle.commit_writes.proofs.Led.{same_part}
use Rattle.commit_writes.proofs.WritesIn.{writes_of_commit, writes_of_map, writes_in-append}

-- the first of some actions serve as all of them do
serving_front : (bits last : FieldBits) (state : State) (front back : List Action) → ServingTo bits state (front ++ back) last
    → (there : FieldBits) × ServingTo bits state front there
serving_front bits last state [] back serving = (bits, (serves_now bits last state back serving, same_part bits))
serving_front bits last state (Written write ∷ front) back serving =
    let rest = serving_front serving.1.0 last (apply state write) front back serving.1.2 in
    (rest.0, (serving.0, (serving.1.0, serving.1.1, rest.1)))
serving_front bits last state (Drained ∷ front) back serving =
    let rest = serving_front serving.1.0 last state front back serving.1.1 in
    (rest.0, (serving.0, (serving.1.0, rest.1)))

-- the keys of the words in flight are right
abbrev AreKeys : Flight → Type 0
AreKeys flight = AllByRecursion (λ flying. IsKey flying.0) flight

current_keys : (bits : FieldBits) (flight : Flight) → AreCurrent bits flight → AreKeys flight
current_keys bits [] all = tt
current_keys bits (one ∷ flight) all = (all.0.valid, current_keys bits flight all.1)

fewer_keys : (flight : Flight) → AreKeys flight → AreKeys (drop 1 flight)
fewer_keys [] all = tt
fewer_keys (one ∷ flight) all = all.1

searched_keys : (state : State) (flight : Flight) → AreKeys flight → AllByRecursion (λ seen. IsKey seen.1) (searched_by state flight)
searched_keys state [] all = tt
searched_keys state (one ∷ flight) all = (all.0, tt)

keys_right : (line : Pipeline) (events : List Event) → AreKeys line.flight → MayGo line events → AllByRecursion (λ seen. IsKey seen.1) (searches line events)
keys_right line [] keys may = tt
keys_right line (Acted (Written write) ∷ events) keys may = keys_right (happens line (Acted (Written write))) events keys may.1
keys_right line (Acted Drained ∷ events) keys may = keys_right line events keys may.1
keys_right line (Translated key ∷ events) keys may =
    keys_right (happens line (Translated key)) events (all_append (λ (flying : Key × Word). IsKey flying.0) line.flight _ keys (may.0.0, tt)) may.1
keys_right line (Searched ∷ events) keys may =
    all_append (λ (seen : State × Key × Answer). IsKey seen.1) (searched_by line.state line.flight) _ (searched_keys line.state line.flight keys)
    (keys_right (happens line Searched) events (fewer_keys line.flight keys) may.1)

-- what holds in the state after each of the first writes holds in the state of each search
searched_state : (state : State) (flight : Flight) (P : State → Type 0) → P state → AllByRecursion (λ seen. P seen.0) (searched_by state flight)
searched_state state [] P holds = tt
searched_state state (one ∷ flight) P holds = (holds, tt)

states_passed : (line : Pipeline) (events : List Event) (P : State → Type 0)
    → ((n : ℕ) → n ≤ length (writes_in (actions_in events)) → P (state_after line.state (take n (writes_in (actions_in events)))))
    → AllByRecursion (λ seen. P seen.0) (searches line events)
states_passed line [] P each = tt
states_passed line (Acted (Written write) ∷ events) P each = states_passed (happens line (Acted (Written write))) events P (λ n below. each (suc n) (omega arith))
states_passed line (Acted Drained ∷ events) P each = states_passed line events P each
states_passed line (Translated key ∷ events) P each = states_passed (happens line (Translated key)) events P each
states_passed line (Searched ∷ events) P each =
    all_append (λ (seen : State × Key × Answer). P seen.0) (searched_by line.state line.flight) _ (searched_state line.state line.flight P (each 0 (omega arith)))
    (states_passed (happens line Searched) events P each)

-- a look-up in a state that shows the old or the new answers
old_or_new : (old new : List Rule) (seen : List (State × Key × Answer)) → AllByRecursion IsLookUp seen → AllByRecursion (λ one. IsKey one.1) seen
    → AllByRecursion (λ one. ShowsOldOrNew one.0 old new) seen → AllByRecursion (IsOldOrNew old new) seen
old_or_new old new [] looks keys shows = tt
old_or_new old new (one ∷ seen) looks keys shows =
    (elim (shows.0 one.1 keys.0) [ inl was ↦ inl (looks.0 ∙ was) | inr is ↦ inr (looks.0 ∙ is) ], old_or_new old new seen looks.1 keys.1 shows.1)

-- Searches answer as look-ups do while the words in flight are current, and with the old or the new set's answer where each
-- state that is passed shows one of them.
pub seen : (bits last : FieldBits) (old new : List Rule) (line : Pipeline) (events : List Event)
    → ServingTo bits line.state (actions_in events) last → AreCurrent bits line.flight → MayGo line events
    → ((n : ℕ) → n ≤ length (writes_in (actions_in events)) → ShowsOldOrNew (state_after line.state (take n (writes_in (actions_in events)))) old new)
    → AllByRecursion IsLookUp (searches line events) × AllByRecursion (IsOldOrNew old new) (searches line events)
seen bits last old new line events serving current may each =
    let looks = answer_as_look_ups bits last line events serving current may in (
      looks,
      old_or_new old new (searches line events) looks (keys_right line events (current_keys bits line.flight current) may)
          (states_passed line events (λ state. ShowsOldOrNew state old new) each),
    )

-- what holds after each of some writes holds after each of the first of them
pub fewer : (state : State) (P : State → Type 0) (front back : List Write) → ((n : ℕ) → P (state_after state (take n (front ++ back))))
    → (n : ℕ) → n ≤ length front → P (state_after state (take n front))
fewer state P front back each n below = subst (λ ws. P (state_after state ws)) (take-append-le n front back below) (each n)

-- and while they are undone
pub both_ways : (state : State) (P : State → Type 0) (writes : List Write) → ((n : ℕ) → n ≤ length writes → P (state_after state (take n writes)))
    → (n : ℕ) → P (state_after state (take n (writes ++ undo_writes state writes)))
both_ways state P writes each n = elim (cases_lt (length writes) n) [
  | inl past ↦ behind (n - length writes) (let e : length writes + (n - length writes) ≡ n = omega arith in e)
  | inr early ↦ subst (λ ws. P (state_after state ws)) (sym (take-append-le n writes (undo_writes state writes) early)) (each n early)
]
  where
    size : length (undo_writes state writes) ≡ length writes
    size = length-undo_writes state writes

    behind : (k : ℕ) → length writes + k ≡ n → P (state_after state (take n (writes ++ undo_writes state writes)))
    behind k is =
        let first : take n (writes ++ undo_writes state writes) ≡ writes ++ take k (undo_writes state writes) =
        ap (λ m. take m (writes ++ undo_writes state writes)) (sym is) ∙ take-append-add writes (undo_writes state writes) k in
        elim (cases_lt (length writes) k) [
          | inl past ↦
              let all = size in
              let whole : take k (undo_writes state writes) ≡ take (length writes) (undo_writes state writes) =
              take_all k (undo_writes state writes) (omega arith) ∙ sym (take_all (length writes) (undo_writes state writes) (omega arith)) in
              subst (λ ws. P (state_after state ws)) (sym (first ∙ ap (λ zs. writes ++ zs) whole))
              (subst P (sym (undo_passes state writes (length writes) (omega arith))) (each (length writes - length writes) (omega arith)))
          | inr inside ↦
              subst (λ ws. P (state_after state ws)) (sym first) (subst P (sym (undo_passes state writes k inside)) (each (length writes - k) (omega arith)))
        ]

pub sees_old_or_new : SeesOldOrNew
sees_old_or_new mode bits rules batch line made events begin segment front current may =
    let during = bits_with mode rules batch bits in
    let leads = (commits_serve mode bits rules batch line.state made begin segment).0 (actions_in events) front in
    let same : made ≡ writes_in (actions_in events) ++ writes_in front.0 =
    sym (writes_of_commit (have_bits (new_bits bits during)) made) ∙ ap writes_in front.1 ∙ writes_in-append (actions_in events) front.0 in
    let Shown : State → Type 0 = λ state. ShowsOldOrNew state rules (set_after rules batch) in
    seen bits (live_behind bits during (actions_in events)) rules (set_after rules batch) line events leads.0 current may
    (fewer line.state Shown (writes_in (actions_in events)) (writes_in front.0)
    (λ n. subst (λ ws. Shown (state_after line.state (take n ws))) same (segment.hitless.on_the_way.during n)))

-- the first writes of a commit, and their undo writes, show the old or the new set
both_shown : (mode : Mode) (bits : FieldBits) (rules : List Rule) (batch : List Command) (state : State) (actions : List Action) (return : IsReturn mode bits rules batch state actions) (n : ℕ)
    → ShowsOldOrNew (state_after state (take n (writes_in return.front ++ undo_writes state (writes_in return.front)))) rules (set_after rules batch)
both_shown mode bits rules batch state actions return =
    let Shown : State → Type 0 = λ now. ShowsOldOrNew now rules (set_after rules batch) in
    let whole : return.made ≡ writes_in return.front ++ writes_in return.back =
    sym (writes_of_commit (have_bits (new_bits bits (bits_with mode rules batch bits))) return.made) ∙ ap writes_in return.parts ∙ writes_in-append return.front return.back in
    both_ways state Shown (writes_in return.front)
    (fewer state Shown (writes_in return.front) (writes_in return.back) (λ n. subst (λ ws. Shown (state_after state (take n ws))) whole (return.segment.hitless.on_the_way.during n)))

-- these are the writes of its return
return_writes : (mode : Mode) (bits : FieldBits) (rules : List Rule) (batch : List Command) (state : State) (actions : List Action) (return : IsReturn mode bits rules batch state actions)
    → writes_in actions ≡ writes_in return.front ++ undo_writes state (writes_in return.front)
return_writes mode bits rules batch state actions return =
    let some = writes_in return.front in
    ap writes_in return.actions_are ∙ writes_in-append return.front (map Written (undo_writes state some)) ∙ ap (λ ws. some ++ ws) (writes_of_map (undo_writes state some))

pub sees_old_or_new_back : SeesOldOrNewBack
sees_old_or_new_back mode bits rules batch line actions events begin return front current may =
    let state = line.state in
    let serving = serving_front bits bits state (actions_in events) front.0
    (subst (λ all. ServingTo bits state all bits) front.1 (returns_serve mode bits rules batch state actions begin return).0) in
    let Shown : State → Type 0 = λ now. ShowsOldOrNew now rules (set_after rules batch) in
    let same : writes_in return.front ++ undo_writes state (writes_in return.front) ≡ writes_in (actions_in events) ++ writes_in front.0 =
    sym (return_writes mode bits rules batch state actions return) ∙ ap writes_in front.1 ∙ writes_in-append (actions_in events) front.0 in
    seen bits serving.0 rules (set_after rules batch) line events serving.1 current may
    (fewer state Shown (writes_in (actions_in events)) (writes_in front.0)
    (λ n. subst (λ ws. Shown (state_after state (take n ws))) same (both_shown mode bits rules batch state actions return n)))

pub returns_are_hitless : ReturnsAreHitless
returns_are_hitless mode bits rules batch state actions return =
    let Shown : State → Type 0 = λ now. ShowsOldOrNew now rules (set_after rules batch) in
    let same = return_writes mode bits rules batch state actions return in (
      record {
        before = return.segment.hitless.on_the_way.before;
        during = λ n. subst (λ ws. Shown (state_after state (take n ws))) (sym same) (both_shown mode bits rules batch state actions return n);
      },
      ap (state_after state) same ∙ undo_ends state (writes_in return.front),
    )
