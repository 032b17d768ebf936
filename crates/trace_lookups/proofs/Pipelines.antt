-- And so do searches of words in flight while the writes and drains of an orderly trace are made.
use Rattle.std.proofs.Common.{◌≡◌, ℕ, Bool, None, Some, List, [], ◌∷◌, ◌++◌, drop, inl, inr, refl, sym, ◌∙◌, ap, subst}
use Rattle.std.specs.Prelude.{if◌then◌else◌}
use Rattle.std.specs.List.{AllByRecursion}
use Rattle.slot_order.proofs.Lists.{all_append}
use Rattle.rule_model.specs.declared.IpVersion.{IpVersion}
use Rattle.rule_model.specs.declared.Key.{Key}
use Rattle.rule_model.specs.declared.words.Word.{Word}
use Rattle.rule_model.specs.Key.{IsKey}
use Rattle.rule_model.specs.RuleSet.{Answer}
use Rattle.rule_store.specs.declared.Mode.TheVariants.{Cover, Bits}
use Rattle.rule_store.specs.Batch.{set_after}
use Rattle.tcam_device.specs.declared.Action.{Action}
use Rattle.tcam_device.specs.declared.Action.TheVariants.{Written, Drained}
use Rattle.tcam_device.specs.declared.Write.TheVariants as write
use Rattle.tcam_device.specs.Flight.{Event, Acted, Translated, Searched, Flight, Pipeline, MayGo, actions_in, writes_in, happens, searched_by, searches}
use Rattle.tcam_device.specs.Hitless.{ShowsOldOrNew}
use Rattle.tcam_device.specs.State.{State, apply, blank, state_after}
use Rattle.commit_writes.specs.Bits.{FieldBits, no_bits}
use Rattle.commit_writes.specs.InFlight.{IsLookUp, ServingTo}
use Rattle.commit_writes.proofs.Led.{same_part}
use Rattle.commit_writes.proofs.Searches.{serves_now, answer_as_look_ups}
use Rattle.trace_file.specs.declared.TraceLine.{TraceLine}
use Rattle.trace_file.specs.declared.TraceLine.TheVariants.{Head, Commit, Add, Set, Del, Put, Erase, Table, Drain, Done, Refused, End, Fault}
use Rattle.trace_file.specs.Forms.{IsTraceLine}
use Rattle.trace_check.specs.declared.places.Place.{Place}
use Rattle.trace_check.specs.declared.places.Place.TheVariants.{AtStart, Between}
use Rattle.trace_check.specs.Places.{place_after}
use Rattle.trace_check.specs.Orderly.{Tracing, untraced, first_tracing, traced_on, Follow, AllKeepOrder, IsOrderly}
use Rattle.trace_lookups.specs.LookUps.{known_behind, trace_actions, IsOldOrNewOver, OrderlyTracesAnswerAsLookUps}
use Rattle.trace_lookups.proofs.UnderWay.{Known, no_head, known_on, shown_at}
use Rattle.trace_lookups.proofs.LookUps.{serves_over, head_serves, blank_known, behind_head}

-- the first of some actions serve as all of them do
serving_front : (bits last : FieldBits) (state : State) (front back : List Action) → ServingTo bits state (front ++ back) last → (there : FieldBits) × ServingTo bits state front there
serving_front bits last state [] back serving = (bits, (serves_now bits last state back serving, same_part bits))
serving_front bits last state (Written made ∷ front) back serving =
    let rest = serving_front serving.1.0 last (apply state made) front back serving.1.2 in
    (rest.0, (serving.0, (serving.1.0, serving.1.1, rest.1)))
serving_front bits last state (Drained ∷ front) back serving =
    let rest = serving_front serving.1.0 last state front back serving.1.1 in
    (rest.0, (serving.0, (serving.1.0, rest.1)))

-- the keys of the words in flight are right
abbrev AreKeys : Flight → Type 0
AreKeys flight = AllByRecursion (λ flying. IsKey flying.0) flight

fewer_keys : (flight : Flight) → AreKeys flight → AreKeys (drop 1 flight)
fewer_keys [] all = tt
fewer_keys (one ∷ flight) all = all.1

-- what holds of the state behind each first part of the actions holds of the state of each search, and its key is right
searched_at : (P : State → Type 0) (state : State) (flight : Flight) → AreKeys flight → P state → AllByRecursion (λ seen. P seen.0 × IsKey seen.1) (searched_by state flight)
searched_at P state [] keys holds = tt
searched_at P state (one ∷ flight) keys holds = ((holds, keys.0), tt)

passed : (P : State → Type 0) (line : Pipeline) (events : List Event) (back : List Action) → AreKeys line.flight → MayGo line events
    → ((front rest : List Action) → actions_in events ++ back ≡ front ++ rest → P (state_after line.state (writes_in front)))
    → AllByRecursion (λ seen. P seen.0 × IsKey seen.1) (searches line events)
passed P line [] back keys may each = tt
passed P line (Acted (Written made) ∷ events) back keys may each =
    passed P (happens line (Acted (Written made))) events back keys may.1 (λ front rest is. each (Written made ∷ front) rest (ap (λ all. Written made ∷ all) is))
passed P line (Acted Drained ∷ events) back keys may each = passed P line events back keys may.1 (λ front rest is. each (Drained ∷ front) rest (ap (λ all. Drained ∷ all) is))
passed P line (Translated key ∷ events) back keys may each =
    passed P (happens line (Translated key)) events back (all_append (λ (flying : Key × Word). IsKey flying.0) line.flight _ keys (may.0.0, tt)) may.1 each
passed P line (Searched ∷ events) back keys may each =
    all_append (λ (seen : State × Key × Answer). P seen.0 × IsKey seen.1) (searched_by line.state line.flight) _ (searched_at P line.state line.flight keys (each [] (actions_in events ++ back) refl))
    (passed P (happens line Searched) events back (fewer_keys line.flight keys) may.1 each)

-- the first of the actions of some lines are those of the first lines
record ArePartedBy (lines : List TraceLine) (front : List Action) : Type 0 where
  first : List TraceLine
  later : List TraceLine
  parts : lines ≡ first ++ later
  actions : trace_actions first ≡ front

quiet_parted : (line : TraceLine) (lines : List TraceLine) (front : List Action) → ((first : List TraceLine) → trace_actions (line ∷ first) ≡ trace_actions first) → ArePartedBy lines front → ArePartedBy (line ∷ lines) front
quiet_parted line lines front quiet by = record { first = line ∷ by.first; later = by.later; parts = ap (λ all. line ∷ all) by.parts; actions = quiet by.first ∙ by.actions }

none_parted : (lines : List TraceLine) → ArePartedBy lines []
none_parted lines = record { first = []; later = lines; parts = refl; actions = refl }

acted_parted : (line : TraceLine) (lines : List TraceLine) (action : Action) (front rest : List Action) → ((first : List TraceLine) → trace_actions (line ∷ first) ≡ action ∷ trace_actions first)
    → ((front rest : List Action) → trace_actions lines ≡ front ++ rest → ArePartedBy lines front) → trace_actions (line ∷ lines) ≡ front ++ rest → ArePartedBy (line ∷ lines) front
acted_parted line lines action [] rest acts more is = none_parted (line ∷ lines)
acted_parted line lines action (one ∷ front) rest acts more is =
    let whole : action ∷ trace_actions lines ≡ one ∷ (front ++ rest) = sym (acts lines) ∙ is in
    let head : action ≡ one = cc in
    let tail : trace_actions lines ≡ front ++ rest = cc in
    let by = more front rest tail in
    record { first = line ∷ by.first; later = by.later; parts = ap (λ all. line ∷ all) by.parts; actions = acts by.first ∙ (ap (λ all. action ∷ all) by.actions ∙ ap (λ first. first ∷ front) head) }

parted : (lines : List TraceLine) (front rest : List Action) → trace_actions lines ≡ front ++ rest → ArePartedBy lines front
parted [] [] rest is = none_parted []
parted [] (one ∷ front) rest is = absurd (let bad : [] ≡ one ∷ (front ++ rest) = is in cc)
parted (Head version acl bits slots ∷ lines) front rest is = quiet_parted (Head version acl bits slots) lines front (λ first. refl) (parted lines front rest is)
parted (Commit n ∷ lines) front rest is = quiet_parted (Commit n) lines front (λ first. refl) (parted lines front rest is)
parted (Add rule ∷ lines) front rest is = quiet_parted (Add rule) lines front (λ first. refl) (parted lines front rest is)
parted (Set priority answer ∷ lines) front rest is = quiet_parted (Set priority answer) lines front (λ first. refl) (parted lines front rest is)
parted (Del priority ∷ lines) front rest is = quiet_parted (Del priority) lines front (λ first. refl) (parted lines front rest is)
parted (Put at entry ∷ lines) front rest is = acted_parted (Put at entry) lines (Written (write.Slot at (Some entry))) front rest (λ first. refl) (parted lines) is
parted (Erase at ∷ lines) front rest is = acted_parted (Erase at) lines (Written (write.Slot at None)) front rest (λ first. refl) (parted lines) is
parted (Table field port word ∷ lines) front rest is = acted_parted (Table field port word) lines (Written (write.Table field port word)) front rest (λ first. refl) (parted lines) is
parted (Drain ∷ lines) front rest is = acted_parted Drain lines Drained front rest (λ first. refl) (parted lines) is
parted (Done n ∷ lines) front rest is = quiet_parted (Done n) lines front (λ first. refl) (parted lines front rest is)
parted (Refused n ∷ lines) front rest is = quiet_parted (Refused n) lines front (λ first. refl) (parted lines front rest is)
parted (End writes ∷ lines) front rest is = quiet_parted (End writes) lines front (λ first. refl) (parted lines front rest is)
parted (Fault line ∷ lines) front rest is = quiet_parted (Fault line) lines front (λ first. refl) (parted lines front rest is)

-- behind lines of a trace the state is what their writes leave
behind_is : (first rest : List TraceLine) (now : Tracing) (place end : Place) → Known place now → AllByRecursion IsTraceLine (first ++ rest) → Follow now place (first ++ rest) end
    → AllKeepOrder now (first ++ rest) → (known_behind now first).state ≡ state_after now.state (writes_in (trace_actions first))
behind_is [] rest now place end known are follow keeps = refl
behind_is (line ∷ first) rest now place end known are follow keeps =
    behind_is first rest (traced_on now line) follow.0 end (known_on now line place follow.0 are.0 follow.1 keeps.0 known) are.1 follow.2 keeps.1 ∙ one line follow.1 known
  where
    one : (line : TraceLine) → place_after now.slots place line ≡ Some follow.0 → Known place now
        → state_after (traced_on now line).state (writes_in (trace_actions first)) ≡ state_after now.state (writes_in (trace_actions (line ∷ first)))
    one (Head version acl bits slots) there known = absurd (no_head now place follow.0 there known)
    one (Commit n) there known = refl
    one (Add rule) there known = refl
    one (Set priority answer) there known = refl
    one (Del priority) there known = refl
    one (Put at entry) there known = refl
    one (Erase at) there known = refl
    one (Table field port word) there known = refl
    one Drain there known = refl
    one (Done n) there known = refl
    one (Refused n) there known = refl
    one (End writes) there known = refl
    one (Fault line) there known = refl

-- a state that the device has at a moment of the trace, at which it shows each key's old or new answer
record IsPassed (lines : List TraceLine) (state : State) : Type 0 where
  first : List TraceLine
  later : List TraceLine
  parts : lines ≡ first ++ later
  state_is : (known_behind untraced first).state ≡ state
  shows : ShowsOldOrNew state (known_behind untraced first).rules (set_after (known_behind untraced first).rules (known_behind untraced first).batch)

old_or_new : (lines : List TraceLine) (seen : List (State × Key × Answer)) → AllByRecursion IsLookUp seen → AllByRecursion (λ one. IsPassed lines one.0 × IsKey one.1) seen
    → AllByRecursion (IsOldOrNewOver lines) seen
old_or_new lines [] looks passed = tt
old_or_new lines (one ∷ seen) looks passed =
    let at = passed.0.0 in
    ((at.first, at.later, at.parts, at.state_is, elim (at.shows one.1 passed.0.1) [ inl was ↦ inl (looks.0 ∙ was) | inr is ↦ inr (looks.0 ∙ is) ]), old_or_new lines seen looks.1 passed.1)

module _ (version : IpVersion) (acl by_bits : Bool) (slots : ℕ) (lines : List TraceLine) (end : Place) (are : AllByRecursion IsTraceLine lines) (trace : Follow untraced AtStart (Head version acl by_bits slots ∷ lines) end)
    (orderly : IsOrderly (Head version acl by_bits slots ∷ lines)) where
  abbrev begun : Tracing
  begun = first_tracing version slots (if by_bits then Bits else Cover)

  abbrev last : FieldBits
  last = (known_behind begun lines).bits

  all : ServingTo no_bits (blank slots) (trace_actions lines) (known_behind begun lines).bits
  all = head_serves version acl by_bits slots lines end are trace orderly

  moment : (front rest : List Action) → trace_actions lines ≡ front ++ rest → IsPassed (Head version acl by_bits slots ∷ lines) (state_after (blank slots) (writes_in front))
  moment front rest is =
      let by = parted lines front rest is in
      let within : AllByRecursion IsTraceLine (by.first ++ by.later) = subst (AllByRecursion IsTraceLine) by.parts are in
      let follow : Follow begun (Between 0) (by.first ++ by.later) end = subst (λ ls. Follow begun (Between 0) ls end) by.parts (behind_head version acl by_bits slots lines end trace) in
      let keeps : AllKeepOrder begun (by.first ++ by.later) = subst (AllKeepOrder begun) by.parts orderly.1 in
      let serving : ServingTo no_bits (blank slots) (trace_actions (by.first ++ by.later)) last = subst (λ ls. ServingTo no_bits (blank slots) (trace_actions ls) last) by.parts all in
      let there = serves_over by.first by.later begun (Between 0) end no_bits last (blank_known version acl by_bits slots) within follow keeps serving in
      let same : (known_behind begun by.first).state ≡ state_after (blank slots) (writes_in front) =
      behind_is by.first by.later begun (Between 0) end (blank_known version acl by_bits slots) within follow keeps ∙ ap (λ actions. state_after (blank slots) (writes_in actions)) by.actions in
      record {
        first = Head version acl by_bits slots ∷ by.first;
        later = by.later;
        parts = ap (λ all. Head version acl by_bits slots ∷ all) by.parts;
        state_is = same;
        shows = subst (λ (s : State). ShowsOldOrNew s (known_behind begun by.first).rules (set_after (known_behind begun by.first).rules (known_behind begun by.first).batch)) same
            (shown_at (known_behind begun by.first) there.place there.known);
      }

pub orderly_answer : OrderlyTracesAnswerAsLookUps
orderly_answer version acl bits slots lines events are trace orderly front may =
    let line : Pipeline = record { state = blank slots; flight = [] } in
    let some = serving_front no_bits (last version acl bits slots lines trace.0 are.1 trace.1 orderly) (blank slots) (actions_in events) front.0
    (subst (λ (actions : List Action). ServingTo no_bits (blank slots) actions (last version acl bits slots lines trace.0 are.1 trace.1 orderly)) front.1 (all version acl bits slots lines trace.0 are.1 trace.1 orderly)) in
    let looks = answer_as_look_ups no_bits some.0 line events some.1 tt may in (
      looks,
      old_or_new (Head version acl bits slots ∷ lines) (searches line events) looks
          (passed (IsPassed (Head version acl bits slots ∷ lines)) line events front.0 tt may (λ some rest is. moment version acl bits slots lines trace.0 are.1 trace.1 orderly some rest (front.1 ∙ is))),
    )
