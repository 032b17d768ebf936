-- Where the device is the manager's and the words in flight are current, searches tell what look-ups would.
use Rattle.std.proofs.Common.{◌≡◌, ℕ, ◌≤◌, ◌==◌, true, false, List, [], ◌∷◌, ◌++◌, length, refl, sym, ap, ◌∙◌, subst, arith}
use Rattle.std.specs.List.{AllByRecursion}
use Rattle.rule_model.specs.Key.{IsKey}
use Rattle.tcam_device.specs.declared.Write.{Write}
use Rattle.tcam_device.specs.declared.Action.{Action}
use Rattle.tcam_device.specs.declared.Action.TheVariants.{Written}
use Rattle.tcam_device.specs.Flight.{Flight, writes_in}
use Rattle.tcam_device.specs.State.{State, apply, blank, replay, on_device}
use Rattle.tcam_device.proofs.Spans.{state_after-append}
use Rattle.commit_writes.specs.InFlight.{ArePartOf, AreCurrent, ServesLive}
use Rattle.commit_writes.proofs.WritesIn.{writes_in-append}
use Rattle.commit_writes.proofs.Current.{are_current_part}
use Rattle.batch_order.specs.declared.Step.{Step}
use Rattle.batch_order.specs.declared.Step.TheVariants as step
use Rattle.batch_order.specs.Managed.{IsOn, Managed, live_now}
use Rattle.batch_order.specs.Steps.{KeepsCurrent, ServesNow}
use Rattle.replay.specs.Effects.{Effect, flushed, searched_after, searches_of, probes_told}
use Rattle.replay.specs.InFlight.{AreOf, IsSeen, flight_left, found_after, found_all}
use Rattle.replay.specs.Running.{Watching}
use Rattle.replay.specs.Making.{telling}
use Rattle.replay.proofs.flight.InFlight.{current-after, found-after-is, found-all-is, flushed-none}

-- a write that was made leaves the state that it leaves
pub replay-write : (slots : ℕ) (events events_new : List Action) (write : Write) → events_new ≡ events ++ Written write ∷ []
    → replay slots (writes_in events_new) ≡ apply (replay slots (writes_in events)) write
replay-write slots events events_new write grown =
    ap (λ actions. replay slots (writes_in actions)) grown ∙ ap (replay slots) (writes_in-append events (Written write ∷ []))
    ∙ state_after-append (blank slots) (writes_in events) (write ∷ [])

-- the same by the journal that a device has beside its events
pub on-by-journal : (slots : ℕ) (journal : List Write) (events : List Action) (manager : Managed) → journal ≡ writes_in events → IsOn slots journal manager → on_device slots manager.state ≡ replay slots (writes_in events)
on-by-journal slots journal events manager agrees on = on ∙ ap (replay slots) agrees

pub on-by-events : (slots : ℕ) (journal : List Write) (events : List Action) (manager : Managed) → journal ≡ writes_in events → on_device slots manager.state ≡ replay slots (writes_in events) → IsOn slots journal manager
on-by-events slots journal events manager agrees on = on ∙ ap (replay slots) (sym agrees)

-- a step that wrote, or came to the end, leaves the words in flight current
pub wrote-current : (old new : Managed) (did : Step) (write : Write) (flight : Flight) → did ≡ step.Wrote write → KeepsCurrent old did new → AreCurrent (live_now old) flight → AreCurrent (live_now new) flight
wrote-current old new did write flight wrote keeps current =
    are_current_part (live_now new) (live_now old) flight (subst (λ one. KeepsCurrent old one new) wrote keeps) current

module _ (watch : Watching) (slots : ℕ) (manager : Managed) (events : List Action) (flight : Flight) (waiting : ℕ) (within : manager.slots ≤ slots) (serves : ServesNow manager)
    (seen : IsSeen slots events flight manager) (are : AreOf (probes_told watch.json watch.probes) waiting flight) where
  abbrev state : State
  state = replay slots (writes_in events)

  serving : ServesLive (live_now manager) state
  serving = subst (ServesLive (live_now manager)) seen.on (serves slots within)

  -- all of them
  pub lines-all : (number : ℕ) → found_all watch.family number state (length (probes_told watch.json watch.probes)) waiting flight ≡ flushed watch.family (probes_told watch.json watch.probes) number state waiting
  lines-all number = found-all-is (live_now manager) watch.family number state (probes_told watch.json watch.probes) waiting flight serving seen.current are

  module _ (few : waiting ≤ watch.depth) (valid : AllByRecursion IsKey (probes_told watch.json watch.probes)) where
    -- those that are searched after a write, and what is left in flight
    pub seen-after : (flight_new : Flight) → flight_new ≡ flight_left (probes_told watch.json watch.probes) watch.depth waiting state flight → IsSeen slots events flight_new manager
    seen-after flight_new is = record {
      on = seen.on;
      current = subst (AreCurrent (live_now manager)) (sym is) (current-after (probes_told watch.json watch.probes) watch.depth waiting state flight few are (live_now manager) serving valid seen.current);
    }

    pub lines-after : (number : ℕ)
        → found_after watch.family (probes_told watch.json watch.probes) watch.depth number waiting state flight ≡ elim (waiting == watch.depth) [ true ↦ searches_of watch.family number state 1 (probes_told watch.json watch.probes) | false ↦ [] ]
    lines-after number = found-after-is (probes_told watch.json watch.probes) watch.depth waiting state flight few are (live_now manager) serving valid seen.current watch.family number

-- A step that wrote, and what is searched behind it.
module _ (begun now new : Managed) (watch : Watching) (did : Step) (write : Write) (slots : ℕ) (journal journal_mid : List Write) (events events_mid : List Action) (flight flight_mid : Flight) (waiting : ℕ)
    (agrees : journal ≡ writes_in events) (agrees_mid : journal_mid ≡ writes_in events_mid) (grown : events_mid ≡ events ++ Written write ∷ []) (kept : flight_mid ≡ flight)
    (stays : IsOn slots journal now → IsOn slots journal_mid new) (wrote : did ≡ step.Wrote write) (keeps : KeepsCurrent now did new) (within : new.slots ≤ slots) (serves : ServesNow new)
    (are : AreOf (probes_told watch.json watch.probes) waiting flight) (few : waiting ≤ watch.depth) (valid : AllByRecursion IsKey (probes_told watch.json watch.probes)) (seen : IsSeen slots events flight now) where
  seen-mid : IsSeen slots events_mid flight_mid new
  seen-mid = record {
    on = on-by-journal slots journal_mid events_mid new agrees_mid (stays (on-by-events slots journal events now agrees seen.on));
    current = wrote-current now new did write flight_mid wrote keeps (subst (AreCurrent (live_now now)) (sym kept) seen.current);
  }

  are-mid : AreOf (probes_told watch.json watch.probes) waiting flight_mid
  are-mid = subst (AreOf (probes_told watch.json watch.probes) waiting) (sym kept) are

  pub seen-written : (events_new : List Action) (flight_new : Flight) → events_new ≡ events_mid → flight_new ≡ flight_left (probes_told watch.json watch.probes) watch.depth waiting (replay slots journal_mid) flight_mid
      → IsSeen slots events_new flight_new new
  seen-written events_new flight_new same is =
      subst (λ actions. IsSeen slots actions flight_new new) (sym same)
      (seen-after watch slots new events_mid flight_mid waiting within serves seen-mid are-mid few valid flight_new
      (is ∙ ap (λ writes. flight_left (probes_told watch.json watch.probes) watch.depth waiting (replay slots writes) flight_mid) agrees_mid))

  pub as-written : (P : List Effect → Type 0) (lines : List Effect) (number : ℕ) → P (lines ++ found_after watch.family (probes_told watch.json watch.probes) watch.depth number waiting (replay slots journal_mid) flight_mid)
      → P (lines ++ searched_after (telling begun watch) (probes_told watch.json watch.probes) number waiting (apply (replay slots (writes_in events)) write))
  as-written P lines number holds =
      subst (λ found. P (lines ++ found))
      (ap (λ writes. found_after watch.family (probes_told watch.json watch.probes) watch.depth number waiting (replay slots writes) flight_mid) agrees_mid
      ∙ lines-after watch slots new events_mid flight_mid waiting within serves seen-mid are-mid few valid number
      ∙ ap (λ (one : State). searched_after (telling begun watch) (probes_told watch.json watch.probes) number waiting one) (replay-write slots events events_mid write grown)) holds

-- A step that waits for the words in flight, which are searched then.
module _ (now new : Managed) (watch : Watching) (slots : ℕ) (journal_mid : List Write) (events events_mid : List Action) (flight flight_mid : Flight) (waiting : ℕ)
    (agrees_mid : journal_mid ≡ writes_in events_mid) (grown : events_mid ≡ events) (kept : flight_mid ≡ flight) (stood : new ≡ now) (within : new.slots ≤ slots) (serves : ServesNow new)
    (are : AreOf (probes_told watch.json watch.probes) waiting flight) (seen : IsSeen slots events flight now) where
  pub seen-waiting : IsSeen slots events_mid flight_mid new
  seen-waiting = record {
    on = ap (λ (manager : Managed). on_device slots manager.state) stood ∙ seen.on ∙ ap (λ actions. replay slots (writes_in actions)) (sym grown);
    current = subst (λ (manager : Managed). AreCurrent (live_now manager) flight_mid) (sym stood) (subst (AreCurrent (live_now now)) (sym kept) seen.current);
  }

  pub as-searched : (P : List Effect → Type 0) (number : ℕ) → P (found_all watch.family number (replay slots journal_mid) (length (probes_told watch.json watch.probes)) waiting flight_mid)
      → P (flushed watch.family (probes_told watch.json watch.probes) number (replay slots (writes_in events)) waiting)
  as-searched P number holds =
      subst P
      (ap (λ writes. found_all watch.family number (replay slots writes) (length (probes_told watch.json watch.probes)) waiting flight_mid) agrees_mid
      ∙ lines-all watch slots new events_mid flight_mid waiting within serves seen-waiting (subst (AreOf (probes_told watch.json watch.probes) waiting) (sym kept) are) number
      ∙ ap (λ actions. flushed watch.family (probes_told watch.json watch.probes) number (replay slots (writes_in actions)) waiting) grown) holds

-- where no word is in flight all that are, are current
pub seen-empty : (now new : Managed) (slots : ℕ) (journal journal_new : List Write) (events events_new : List Action) (flight flight_new : Flight) → journal ≡ writes_in events → journal_new ≡ writes_in events_new
    → (IsOn slots journal now → IsOn slots journal_new new) → flight_new ≡ [] → IsSeen slots events flight now → IsSeen slots events_new flight_new new
seen-empty now new slots journal journal_new events events_new flight flight_new agrees agrees_new stays none seen = record {
  on = on-by-journal slots journal_new events_new new agrees_new (stays (on-by-events slots journal events now agrees seen.on));
  current = subst (AreCurrent (live_now new)) (sym none) tt;
}

-- a step that came to the end of its commit, there or back
pub seen-ended : (now new : Managed) (slots : ℕ) (journal journal_new : List Write) (events events_new : List Action) (flight flight_new : Flight) → journal ≡ writes_in events
    → journal_new ≡ writes_in events_new → (IsOn slots journal now → IsOn slots journal_new new) → ArePartOf (live_now new) (live_now now) → flight_new ≡ flight → IsSeen slots events flight now
    → IsSeen slots events_new flight_new new
seen-ended now new slots journal journal_new events events_new flight flight_new agrees agrees_new stays part kept seen = record {
  on = on-by-journal slots journal_new events_new new agrees_new (stays (on-by-events slots journal events now agrees seen.on));
  current = subst (AreCurrent (live_now new)) (sym kept) (are_current_part (live_now new) (live_now now) flight part seen.current);
}

-- no word in flight, nothing to search
pub lines-empty : (watch : Watching) (number : ℕ) (state : State) (waiting : ℕ) (flight : Flight) → AreOf (probes_told watch.json watch.probes) waiting flight → length flight ≡ 0 → flushed watch.family (probes_told watch.json watch.probes) number state waiting ≡ []
lines-empty watch number state waiting [] are none = flushed-none watch.family number state (probes_told watch.json watch.probes) waiting are
lines-empty watch number state waiting (flying ∷ flight) are none = absurd (omega arith)

-- a flight of no words
pub empty-flight : (flight : Flight) → length flight ≡ 0 → flight ≡ []
empty-flight [] none = refl
empty-flight (flying ∷ flight) none = absurd (omega arith)
