-- Look-ups that wait in the course of turns: what is told of them, and what is known of them behind an event.
use Rattle.std.proofs.Common.{◌≡◌, ℕ, List, [], ◌∷◌, ◌++◌, Option, Some, None, false, map, drop, inl, inr, refl, sym, ◌∙◌, ap, ap₂, subst}
use Rattle.std.specs.List.{AllByRecursion}
use Rattle.std.proofs.lemmas.List.{map-append}
use Rattle.slot_order.proofs.Lists.{AllByRecursion-member, all_append, in_map}
use Rattle.rule_model.specs.declared.Key.{Key}
use Rattle.rule_model.specs.declared.Rule.{Rule}
use Rattle.rule_model.specs.declared.words.Word.{Word}
use Rattle.rule_model.specs.Key.{IsKey}
use Rattle.tcam_device.specs.Hitless.{ShowsOldOrNew}
use Rattle.tcam_device.specs.State.{State}
use Rattle.commit_writes.specs.Bits.{FieldBits}
use Rattle.commit_writes.specs.InFlight.{AreCurrent, ServesLive}
use Rattle.batch_order.specs.CarriedOut.{ahead_of}
use Rattle.batch_order.specs.Managed.{HeldCommit, Serves}
use Rattle.split_device.specs.State.{SplitState, read_at, split_apply, split_lookup, undivided}
use Rattle.split_device.specs.declared.SplitWrite.{SplitWrite}
use Rattle.split_device.specs.declared.SplitAction.TheVariants.{Written}
use Rattle.split_device.specs.Flight.{Look, Makes, Pipeline, Searches, begun_looks, found_slots, state_of_events, with_moment}
use Rattle.split_device.specs.Drains.{SinceDrain, is_drain_due, nothing_since, since_all, since_write}
use Rattle.split_device.specs.Waiting.{AreWaiting}
use Rattle.split_device.proofs.Moments.{all_waiting}
use Rattle.split_device.proofs.Whole.{split_lookup-is}
use Rattle.split_writes.proofs.Seen.{oldest_current}
use Rattle.split_order.specs.Left.{ServesSplit, since_of, state_on}
use Rattle.split_order.specs.Managed.{SplitManaged}
use Rattle.split_order.proofs.Behind.{since_more, state_more}
use Rattle.split_turns.specs.LookUps.{IsAnswered, LookUp, Moment, moment_of, searched, seen_at, told_in_flight}
use Rattle.split_turns.specs.Seen.{AreSeen, ShowsThen, plain}

-- the state at a moment
abbrev state_then : Moment → SplitState
state_then moment = moment.state

-- a moment more, and what is told
pub told_seen : (now : Moment) (looks : List LookUp) → map told_in_flight (map (seen_at now) looks) ≡ map told_in_flight looks
told_seen now [] = refl
told_seen now (look ∷ looks) = ap (λ rest. told_in_flight look ∷ rest) (told_seen now looks)

plain_seen : (now : Moment) (looks : List LookUp) → map plain (map (seen_at now) looks) ≡ map (with_moment now.state) (map plain looks)
plain_seen now [] = refl
plain_seen now (look ∷ looks) =
    ap₂ (λ (moments : List SplitState) (rest : List Look). let one : Look = record { key = look.key; slot = look.slot; moments = moments } in one ∷ rest)
    (map-append state_then look.moments (now ∷ [])) (plain_seen now looks)

keys_seen : (now : Moment) (looks : List LookUp) → AllByRecursion (λ look. IsKey look.key) looks → AllByRecursion (λ look. IsKey look.key) (map (seen_at now) looks)
keys_seen now [] keys = tt
keys_seen now (look ∷ looks) keys = (keys.0, keys_seen now looks keys.1)

shown_seen : (now : Moment) (looks : List LookUp) → ShowsThen now → AllByRecursion (λ look. AllByRecursion ShowsThen look.moments) looks
    → AllByRecursion (λ look. AllByRecursion ShowsThen look.moments) (map (seen_at now) looks)
shown_seen now [] shows shown = tt
shown_seen now (look ∷ looks) shows shown = (all_append ShowsThen look.moments (now ∷ []) shown.0 (shows, tt), shown_seen now looks shows shown.1)

-- a look-up that begins, and what is told of it
told_searched : (now : Moment) (words : List (Key × Word)) → map told_in_flight (searched now words) ≡ found_slots now.state words
told_searched now [] = refl
told_searched now (oldest ∷ words) = refl

plain_searched : (now : Moment) (words : List (Key × Word)) → map plain (searched now words) ≡ begun_looks now.state words
plain_searched now [] = refl
plain_searched now (oldest ∷ words) = refl

keys_searched : (bits : FieldBits) (now : Moment) (words : List (Key × Word)) → AreCurrent bits words → AllByRecursion (λ look. IsKey look.key) (searched now words)
keys_searched bits now [] current = tt
keys_searched bits now (oldest ∷ words) current = (current.0.valid, tt)

shown_searched : (now : Moment) (words : List (Key × Word)) → ShowsThen now → AllByRecursion (λ look. AllByRecursion ShowsThen look.moments) (searched now words)
shown_searched now [] shows = tt
shown_searched now (oldest ∷ words) shows = ((shows, tt), tt)

-- a manager's device shows the old or the new answers
either : (state : State) (rules : List Rule) (held : Option HeldCommit) → Serves state rules held → ShowsOldOrNew state rules (ahead_of held rules)
either state rules None serves = λ key valid. inl (serves key valid)
either state rules (Some held) serves = serves

pub shows_now : (slots : ℕ) (manager : SplitManaged) → ServesSplit (state_on slots manager) manager → ShowsThen (moment_of slots manager)
shows_now slots manager serves = either (undivided (state_on slots manager)) manager.whole.rules manager.whole.held serves

-- where nothing was made of the device they wait as before
pub same_seen : (slots : ℕ) (old new : SplitManaged) (looks : List LookUp) → new.events ≡ old.events → AreSeen slots old looks → AreSeen slots new looks
same_seen slots old new looks same seen = record {
  keys = seen.keys;
  waiting = subst (λ events. AreWaiting (state_of_events slots events) (since_all nothing_since events) (map plain looks)) (sym same) seen.waiting;
  shown = seen.shown;
}

-- behind a part they have one moment more
pub part_seen : (slots : ℕ) (old new : SplitManaged) (looks : List LookUp) (part : SplitWrite) → new.events ≡ old.events ++ Written part ∷ []
    → is_drain_due (state_on slots old) (since_of old) part ≡ false → ServesSplit (state_on slots new) new → AreSeen slots old looks
    → AreSeen slots new (map (seen_at (moment_of slots new)) looks)
part_seen slots old new looks part events timely serves seen =
    let now = moment_of slots new in
    let state : state_on slots new ≡ split_apply (state_on slots old) part = ap (state_of_events slots) events ∙ state_more slots old.events part in
    let since : since_of new ≡ since_write (since_of old) part = ap (since_all nothing_since) events ∙ since_more old.events (Written part) in
    let line : Pipeline = record { state = state_on slots old; words = []; looks = map plain looks } in
    let waits : AreWaiting (split_apply (state_on slots old) part) (since_write (since_of old) part) (map (with_moment (split_apply (state_on slots old) part)) (map plain looks)) =
    all_waiting line (since_of old) (Makes (Written part) ∷ []) seen.waiting (timely, tt) in
    record {
      keys = keys_seen now looks seen.keys;
      waiting =
          subst (AreWaiting (state_on slots new) (since_of new)) (sym (plain_seen now looks))
          (subst (λ (s : SinceDrain). AreWaiting (state_on slots new) s (map (with_moment (state_on slots new)) (map plain looks))) (sym since)
          (subst (λ (s : SplitState). AreWaiting s (since_write (since_of old) part) (map (with_moment s) (map plain looks))) (sym state) waits));
      shown = shown_seen now looks (shows_now slots new serves) seen.shown;
    }

-- a search of a current word begins one
pub search_seen : (slots : ℕ) (manager : SplitManaged) (words : List (Key × Word)) (looks : List LookUp) (bits : FieldBits) → ServesSplit (state_on slots manager) manager
    → ServesLive bits (undivided (state_on slots manager)) → AreCurrent bits words → AreSeen slots manager looks
    → AreSeen slots manager (looks ++ searched (moment_of slots manager) words)
search_seen slots manager words looks bits serves live current seen =
    let now = moment_of slots manager in
    let line : Pipeline = record { state = state_on slots manager; words = words; looks = map plain looks } in
    let waits : AreWaiting (state_on slots manager) (since_of manager) (map plain looks ++ begun_looks (state_on slots manager) words) =
    all_waiting line (since_of manager) (Searches ∷ []) seen.waiting (oldest_current bits (state_on slots manager) words live current, tt) in
    record {
      keys = all_append (λ (look : LookUp). IsKey look.key) looks (searched now words) seen.keys (keys_searched bits now words current);
      waiting = subst (AreWaiting (state_on slots manager) (since_of manager))
          (sym (map-append plain looks (searched now words) ∙ ap (λ more. map plain looks ++ more) (plain_searched now words))) waits;
      shown = all_append (λ (look : LookUp). AllByRecursion ShowsThen look.moments) looks (searched now words) seen.shown (shown_searched now words (shows_now slots manager serves));
    }

pub search_told : (now : Moment) (words : List (Key × Word)) (looks : List LookUp) (found : List (Key × Option ℕ)) → found ≡ map told_in_flight looks
    → found ++ found_slots now.state words ≡ map told_in_flight (looks ++ searched now words)
search_told now words looks found is =
    ap₂ (λ (a b : List (Key × Option ℕ)). a ++ b) is (sym (told_searched now words)) ∙ sym (map-append told_in_flight looks (searched now words))

-- a read leaves the others
pub read_seen : (slots : ℕ) (manager : SplitManaged) (looks : List LookUp) → AreSeen slots manager looks → AreSeen slots manager (drop 1 looks)
read_seen slots manager [] seen = seen
read_seen slots manager (oldest ∷ looks) seen = record { keys = seen.keys.1; waiting = seen.waiting.1; shown = seen.shown.1 }

pub drop_told : (looks : List LookUp) (found : List (Key × Option ℕ)) → found ≡ map told_in_flight looks → drop 1 found ≡ map told_in_flight (drop 1 looks)
drop_told [] found is = ap (drop 1) is
drop_told (oldest ∷ looks) found is = ap (drop 1) is

-- the oldest is answered as at one of its moments
pub oldest_answered : (slots : ℕ) (manager : SplitManaged) (oldest : LookUp) (looks : List LookUp) → AreSeen slots manager (oldest ∷ looks)
    → IsAnswered (state_on slots manager) oldest (read_at (state_on slots manager).results oldest.slot)
oldest_answered slots manager oldest looks seen =
    let told_at = seen.waiting.0.told in
    let one = in_map state_then oldest.moments told_at.0 told_at.1 in
    let then_state : one.0.state ≡ told_at.0 = one.2 in
    let undivided_is : read_at (state_on slots manager).results oldest.slot ≡ split_lookup one.0.state oldest.key =
    sym (ap (λ (s : SplitState). split_lookup s oldest.key) then_state ∙ told_at.2) in
    let shows : ShowsThen one.0 = AllByRecursion-member ShowsThen oldest.moments one.0 seen.shown.0 one.1 in
    record {
      read = refl;
      moment = one.0;
      member = one.1;
      undivided = undivided_is;
      old_or_new = elim (shows oldest.key seen.keys.0) [
        | inl old ↦ inl (undivided_is ∙ (split_lookup-is one.0.state oldest.key ∙ old))
        | inr new ↦ inr (undivided_is ∙ (split_lookup-is one.0.state oldest.key ∙ new))
      ];
    }
