-- What a loop keeps that makes the parts and drains of a commit and tries each part so many times.
use Rattle.std.proofs.Common.{◌≡◌, inl, inr, ℕ, zero, suc, ◌+◌, ◌*◌, ◌-◌, ◌^◌, ◌≤◌, ◌<◌, min, Option, None, Some, List, [], ◌∷◌, ◌++◌, length, take, drop, take-append-drop, refl, sym, ap, ap₂, subst, ◌∙◌, append-nil, append_assoc, length-append, arith}
use Rattle.std.specs.Prelude.{option_map}
use Rattle.std.proofs.Math.Nat.{min-le_left, suc-mul}
use Rattle.std.proofs.Math.Seq.{take-append_seam}
use Rattle.call_history.specs.Cause.{Rose}
use Rattle.rule_model.specs.declared.Rule.{Rule}
use Rattle.tcam_device.specs.State.{state_after}
use Rattle.commit_writes.specs.Bits.{FieldBits}
use Rattle.batch_order.specs.Managed.{HeldCommit, Managed}
use Rattle.batch_order.specs.CarriedOut.{IsTried, ahead, finished, finished_of, writes_left}
use Rattle.batch_order.proofs.under_way.Tried.{IsCount}
use Rattle.split_device.specs.declared.SplitWrite.{SplitWrite}
use Rattle.split_device.specs.declared.SplitAction.{SplitAction}
use Rattle.split_device.specs.declared.SplitAction.TheVariants.{Written, Drained}
use Rattle.split_device.specs.State.{blank_split, split_after}
use Rattle.split_device.specs.Flight.{state_of_events, written}
use Rattle.split_device.specs.Hitless.{ShowsEither}
use Rattle.split_writes.specs.declared.SplitDone.{SplitDone}
use Rattle.split_writes.proofs.Made.{written_append}
use Rattle.split_writes.proofs.Undivided.{after_append}
use Rattle.split_order.specs.declared.SplitStep.TheVariants as step
use Rattle.split_order.specs.CarriedOut.{AreServed, HasMade, IsDrainNext, IsFinished, finished_split}
use Rattle.split_order.specs.Left.{left_of, state_on}
use Rattle.split_order.specs.Managed.{SplitManaged, at_rest, no_counts}
use Rattle.split_order.specs.Next.{ShowsOnWay}
use Rattle.split_order.specs.Steps.{Advances, Ends, IsPartNext, SplitSteps, commit_aim, outline}

-- So far goes a commit: the first of what was left was made.
pub record Goes (slots : ℕ) (old now : SplitManaged) (events events' : List SplitAction) (tries failures faults faults' : ℕ) : Type 0 where
  pub made : List SplitAction
  pub has_made : HasMade slots made old now
  pub events_are : events' ≡ events ++ made
  pub counted : IsCount tries (length (written made)) failures faults faults'

pub goes_start : (slots : ℕ) (m : SplitManaged) (events : List SplitAction) (tries faults : ℕ) → Goes slots m m events events tries 0 faults faults
goes_start slots m events tries faults = record {
  made = [];
  has_made = record { left_is = refl; events = sym (append-nil m.events); outline_is = refl; counts = refl; none = λ nothing. refl; begun = inl refl };
  events_are = sym (append-nil events);
  counted = record { later = omega arith; most = omega arith; least = (let less : min (faults + 0) (2 ^ 64 - 1) ≤ faults + 0 = min-le_left (faults + 0) (2 ^ 64 - 1) in omega arith) };
}

some_made : (made : List SplitAction) (action : SplitAction) → made ++ action ∷ [] ≡ [] → ⊥
some_made [] action is = cc
some_made (first ∷ made) action is = cc

goes_on : (slots : ℕ) (old now new : SplitManaged) (action : SplitAction) (events events' logged : List SplitAction) (tries failures later faults faults' : ℕ) → (was : Goes slots old now events events' tries failures faults faults')
    → Advances slots action now new → logged ≡ events' ++ action ∷ [] → IsCount tries (length (written (was.made ++ action ∷ []))) later faults faults' → Goes slots old new events logged tries later faults faults'
goes_on slots old now new action events events' logged tries failures later faults faults' was did told count = record {
  made = was.made ++ action ∷ [];
  has_made = record {
    left_is = was.has_made.left_is ∙ (ap (λ some. was.made ++ some) did.left_is ∙ sym (append_assoc was.made (action ∷ []) (left_of slots new)));
    events = did.events ∙ (ap (λ some. some ++ action ∷ []) was.has_made.events ∙ append_assoc old.events was.made (action ∷ []));
    outline_is = did.outline_is ∙ was.has_made.outline_is;
    counts = did.counts ∙ was.has_made.counts;
    none = λ nothing. absurd (some_made was.made action nothing);
    begun = inr did.begun;
  };
  events_are = told ∙ (ap (λ some. some ++ action ∷ []) was.events_are ∙ append_assoc events was.made (action ∷ []));
  counted = count;
}

pub goes_wrote : (slots : ℕ) (old now new : SplitManaged) (part : SplitWrite) (events events' logged : List SplitAction) (tries failures faults faults' : ℕ) → Goes slots old now events events' tries failures faults faults'
    → Advances slots (Written part) now new → logged ≡ events' ++ Written part ∷ [] → failures < tries → Goes slots old new events logged tries 0 faults faults'
goes_wrote slots old now new part events events' logged tries failures faults faults' was did told below =
    let parts : ℕ = length (written was.made) in
    let number : length (written (was.made ++ Written part ∷ [])) ≡ parts + 1 = ap length (written_append was.made (Written part ∷ [])) ∙ length-append (written was.made) (part ∷ []) in
    let product : (parts + 1) * (tries - 1) ≡ parts * (tries - 1) + (tries - 1) = (let product = suc-mul parts (tries - 1) in omega arith) in
    let count : IsCount tries (parts + 1) 0 faults faults' = record {
      later = was.counted.later;
      most = (let all = was.counted.most in omega arith);
      least = (let less : min (faults + 0) (2 ^ 64 - 1) ≤ faults + 0 = min-le_left (faults + 0) (2 ^ 64 - 1) in let later = was.counted.later in omega arith);
    } in
    goes_on slots old now new (Written part) events events' logged tries failures 0 faults faults' was did told (subst (λ n. IsCount tries n 0 faults faults') (sym number) count)

-- a drain is no try of a part
pub goes_drained : (slots : ℕ) (old now new : SplitManaged) (events events' logged : List SplitAction) (tries failures faults faults' : ℕ) → Goes slots old now events events' tries failures faults faults'
    → Advances slots Drained now new → logged ≡ events' ++ Drained ∷ [] → Goes slots old new events logged tries failures faults faults'
goes_drained slots old now new events events' logged tries failures faults faults' was did told =
    let number : length (written (was.made ++ Drained ∷ [])) ≡ length (written was.made) = ap length (written_append was.made (Drained ∷ []) ∙ append-nil (written was.made)) in
    goes_on slots old now new Drained events events' logged tries failures failures faults faults' was did told (subst (λ n. IsCount tries n failures faults faults') (sym number) was.counted)

-- a try more of the next part
pub goes_failed : (slots : ℕ) (old now : SplitManaged) (events events' logged : List SplitAction) (tries failures faults faults' faults'' : ℕ) → Goes slots old now events events' tries failures faults faults'
    → logged ≡ events' → faults' ≤ faults'' → faults'' ≤ faults' + 1 → Rose faults' faults'' → Goes slots old now events logged tries (failures + 1) faults faults''
goes_failed slots old now events events' logged tries failures faults faults' faults'' was same later once rose = record {
  made = was.made;
  has_made = was.has_made;
  events_are = same ∙ was.events_are;
  counted = (let before = was.counted in let low = before.later in let most = before.most in let least = before.least in let rise : min (faults' + 1) (2 ^ 64 - 1) ≤ faults'' = rose in record {
    later = omega arith;
    most = omega arith;
    least = omega arith;
  });
}

-- a step that was told made the first of what was left
pub wrote_is : (slots : ℕ) (now new : SplitManaged) (flying : ℕ) (left : List SplitAction) (part : SplitWrite) → SplitSteps slots now flying left (step.Wrote part) new → Advances slots (Written part) now new
wrote_is slots now new flying [] part did = absurd (ends now.whole.held did)
  where
    ends : (held : Option HeldCommit) → Ends now held (step.Wrote part) new → ⊥
    ends None e = let wrong : step.Wrote part ≡ step.Idle = e.0 in cc
    ends (Some held) e = let wrong : step.Wrote part ≡ step.Finished now.counts = e.0 in cc
wrote_is slots now new flying (Written first ∷ left) part did =
    let same : part ≡ first = (let e : step.Wrote part ≡ step.Wrote first = did.0 in cc) in subst (λ p. Advances slots (Written p) now new) (sym same) did.1
wrote_is slots now new zero (Drained ∷ left) part did = absurd (let wrong : step.Wrote part ≡ step.Drained = did.0 in cc)
wrote_is slots now new (suc n) (Drained ∷ left) part did = absurd (let wrong : step.Wrote part ≡ step.Waiting (suc n) = did.0 in cc)

pub drained_is : (slots : ℕ) (now new : SplitManaged) (flying : ℕ) (left : List SplitAction) → SplitSteps slots now flying left step.Drained new → Advances slots Drained now new
drained_is slots now new flying [] did = absurd (ends now.whole.held did)
  where
    ends : (held : Option HeldCommit) → Ends now held step.Drained new → ⊥
    ends None e = let wrong : step.Drained ≡ step.Idle = e.0 in cc
    ends (Some held) e = let wrong : step.Drained ≡ step.Finished now.counts = e.0 in cc
drained_is slots now new flying (Written first ∷ left) did = absurd (let wrong : step.Drained ≡ step.Wrote first = did.0 in cc)
drained_is slots now new zero (Drained ∷ left) did = did.1
drained_is slots now new (suc n) (Drained ∷ left) did = absurd (let wrong : step.Drained ≡ step.Waiting (suc n) = did.0 in cc)

-- where it waits a drain is next, and nothing changes
pub waiting_is : (slots : ℕ) (now new : SplitManaged) (flying : ℕ) (left : List SplitAction) (n : ℕ) → SplitSteps slots now flying left (step.Waiting n) new → IsDrainNext left × (n ≡ flying) × (0 < flying) × (new ≡ now)
waiting_is slots now new flying [] n did = absurd (ends now.whole.held did)
  where
    ends : (held : Option HeldCommit) → Ends now held (step.Waiting n) new → ⊥
    ends None e = let wrong : step.Waiting n ≡ step.Idle = e.0 in cc
    ends (Some held) e = let wrong : step.Waiting n ≡ step.Finished now.counts = e.0 in cc
waiting_is slots now new flying (Written first ∷ left) n did = absurd (let wrong : step.Waiting n ≡ step.Wrote first = did.0 in cc)
waiting_is slots now new zero (Drained ∷ left) n did = absurd (let wrong : step.Waiting n ≡ step.Drained = did.0 in cc)
waiting_is slots now new (suc k) (Drained ∷ left) n did = (tt, let e : step.Waiting n ≡ step.Waiting (suc k) = did.0 in cc, omega arith, did.1)

-- where there is no commit nothing changes
pub idle_is : (slots : ℕ) (now new : SplitManaged) (flying : ℕ) (left : List SplitAction) → SplitSteps slots now flying left step.Idle new → (now.whole.held ≡ None) × (new ≡ now)
idle_is slots now new flying [] did = ends now.whole.held did
  where
    ends : (held : Option HeldCommit) → Ends now held step.Idle new → (held ≡ None) × (new ≡ now)
    ends None e = (refl, e.1)
    ends (Some held) e = absurd (let wrong : step.Idle ≡ step.Finished now.counts = e.0 in cc)
idle_is slots now new flying (Written first ∷ left) did = absurd (let wrong : step.Idle ≡ step.Wrote first = did.0 in cc)
idle_is slots now new zero (Drained ∷ left) did = absurd (let wrong : step.Idle ≡ step.Drained = did.0 in cc)
idle_is slots now new (suc k) (Drained ∷ left) did = absurd (let wrong : step.Idle ≡ step.Waiting (suc k) = did.0 in cc)

-- the tries of a part come before it is made: none is counted where something else is next
pub no_tries : (failures : ℕ) (left : List SplitAction) → (0 < failures → IsPartNext left) → (IsPartNext left → ⊥) → failures ≡ 0
no_tries zero left due none = refl
no_tries (suc n) left due none = absurd (none (due (omega arith)))

pub not_drain : (left : List SplitAction) → IsDrainNext left → IsPartNext left → ⊥
not_drain [] drain part = part
not_drain (Written part ∷ left) drain is = drain
not_drain (Drained ∷ left) drain part = part

-- how many parts were made
parts_made : (events events' logged made : List SplitAction) → events' ≡ events ++ made → logged ≡ events' → length (written logged) - length (written events) ≡ length (written made)
parts_made events events' logged made are same =
    let size : length (written logged) ≡ length (written events) + length (written made) =
    ap (λ (some : List SplitAction). length (written some)) (same ∙ are) ∙ (ap length (written_append events made) ∙ length-append (written events) (written made)) in
    omega arith

pub tried_all : (slots : ℕ) (old now : SplitManaged) (events events' logged : List SplitAction) (tries failures faults faults' : ℕ) (Stuck : Type 0) → Goes slots old now events events' tries failures faults faults'
    → failures ≡ 0 → logged ≡ events' → (Stuck → ⊥) → IsTried tries (length (written logged) - length (written events)) Stuck faults faults'
tried_all slots old now events events' logged tries failures faults faults' Stuck was none same not_stuck =
    let count : IsCount tries (length (written logged) - length (written events)) failures faults faults' =
    subst (λ n. IsCount tries n failures faults faults') (sym (parts_made events events' logged was.made was.events_are same)) was.counted in
    let most = count.most in
    record {
      later = count.later;
      most = λ so. omega arith;
      most_stuck = omega arith;
      failed = λ stuck. absurd (not_stuck stuck);
    }

pub tried_stuck : (slots : ℕ) (old now : SplitManaged) (events events' logged : List SplitAction) (tries failures faults faults' : ℕ) (Stuck : Type 0) → Goes slots old now events events' tries failures faults faults'
    → failures ≡ tries → logged ≡ events' → Stuck → IsTried tries (length (written logged) - length (written events)) Stuck faults faults'
tried_stuck slots old now events events' logged tries failures faults faults' Stuck was all same stuck =
    let count : IsCount tries (length (written logged) - length (written events)) failures faults faults' =
    subst (λ n. IsCount tries n failures faults faults') (sym (parts_made events events' logged was.made was.events_are same)) was.counted in
    let most = count.most in
    record {
      later = count.later;
      most = λ so. absurd (so stuck);
      most_stuck = omega arith;
      failed = λ yes. subst (λ n. min (faults + n) (2 ^ 64 - 1) ≤ faults') all count.least;
    }

-- the loop gets nearer to its end
pub nearer : (left less tries failures : ℕ) → left ≡ suc less → failures < tries → less * tries + (tries - 0) < left * tries + (tries - failures)
nearer left less tries failures is below =
    let all : left * tries ≡ tries + less * tries = (let e : suc less * tries ≡ tries + less * tries = grind arith in ap (λ n. n * tries) is ∙ e) in omega arith

pub nearer_drained : (left less tries rest : ℕ) → left ≡ suc less → 1 ≤ tries → less * tries + rest < left * tries + rest
nearer_drained left less tries rest is some =
    let all : left * tries ≡ tries + less * tries = (let e : suc less * tries ≡ tries + less * tries = grind arith in ap (λ n. n * tries) is ∙ e) in omega arith

-- what was made and what is left are what was left before
pub made_and_left : (slots : ℕ) (old now : SplitManaged) (events events' : List SplitAction) (tries failures faults faults' : ℕ) → Goes slots old now events events' tries failures faults faults' → events' ++ left_of slots now ≡ events ++ left_of slots old
made_and_left slots old now events events' tries failures faults faults' was =
    ap (λ some. some ++ left_of slots now) was.events_are ∙ (append_assoc events was.made (left_of slots now) ∙ ap (λ some. events ++ some) (sym was.has_made.left_is))

-- a step that makes nothing leaves the events
pub still_logged : (before after made : List SplitAction) → after ≡ before ++ made → made ≡ [] → after ≡ before
still_logged before after made logged none = logged ∙ (ap (λ some. before ++ some) none ∙ append-nil before)

-- a device that was led is
pub still_led : (slots : ℕ) (old now : SplitManaged) (events events' : List SplitAction) (tries failures faults faults' : ℕ) → Goes slots old now events events' tries failures faults faults' → events ≡ old.events → events' ≡ now.events
still_led slots old now events events' tries failures faults faults' was on = was.events_are ∙ (ap (λ some. some ++ was.made) on ∙ sym was.has_made.events)

-- where a plan leads is told by its outline
abbrev end_by : Managed → Option (List Rule × FieldBits × FieldBits) → Managed
end_by whole None = whole
end_by whole (Some aim) = record whole { rules = aim.0; bits = aim.1 }

finished_by : (whole : Managed) (held : Option HeldCommit)
    → finished_of held whole ≡ end_by (record whole { state = state_after whole.state (writes_left held); held = None }) (option_map commit_aim held)
finished_by whole None = refl
finished_by whole (Some held) = refl

leads_same : (old now : Managed) → outline now ≡ outline old → finished now ≡ finished old
leads_same old now same =
    finished_by now now.held
    ∙ (ap (λ (some : Managed × Option (List Rule × FieldBits × FieldBits)). end_by some.0 some.1) same ∙ sym (finished_by old old.held))

-- with no commit under way the planner is at its end
at_end : (whole : Managed) → whole.held ≡ None → whole ≡ finished whole
at_end whole none = ap (λ (h : Option HeldCommit). record whole { held = h }) none ∙ sym (ap (λ (h : Option HeldCommit). finished_of h whole) none)

-- the end of a commit, and where there was none
pub finished_is : (slots : ℕ) (now new : SplitManaged) (flying : ℕ) (left : List SplitAction) (done : SplitDone) → SplitSteps slots now flying left (step.Finished done) new
    → (left ≡ []) × (done ≡ now.counts) × (new ≡ at_rest (finished now.whole) now.events)
finished_is slots now new flying [] done did = let end_is = ends now.whole.held did in (refl, end_is.0, end_is.1)
  where
    ends : (held : Option HeldCommit) → Ends now held (step.Finished done) new → (done ≡ now.counts) × (new ≡ at_rest (finished now.whole) now.events)
    ends None e = absurd (let wrong : step.Finished done ≡ step.Idle = e.0 in cc)
    ends (Some held) e = (
      let same : step.Finished done ≡ step.Finished now.counts = e.0 in cc,
      e.1 ∙ ap (λ (w : Managed). at_rest w now.events) (sym (ap (λ (m : SplitManaged). m.whole) e.1) ∙ e.2),
    )
finished_is slots now new flying (Written first ∷ left) done did = absurd (let wrong : step.Finished done ≡ step.Wrote first = did.0 in cc)
finished_is slots now new zero (Drained ∷ left) done did = absurd (let wrong : step.Finished done ≡ step.Drained = did.0 in cc)
finished_is slots now new (suc k) (Drained ∷ left) done did = absurd (let wrong : step.Finished done ≡ step.Waiting (suc k) = did.0 in cc)

pub rests_is : (now new : SplitManaged) → now.whole.held ≡ None → new ≡ now → (new.whole.held ≡ None → new ≡ at_rest new.whole new.events)
    → (no_counts ≡ now.counts) × (new ≡ at_rest (finished now.whole) now.events)
rests_is now new none same rest =
    let here : new ≡ at_rest new.whole new.events = rest (ap (λ (m : SplitManaged). m.whole.held) same ∙ none) in (
      sym (ap (λ (m : SplitManaged). m.counts) here) ∙ ap (λ (m : SplitManaged). m.counts) same,
      here ∙ (ap (λ (m : SplitManaged). at_rest m.whole m.events) same ∙ ap (λ (w : Managed). at_rest w now.events) (at_end now.whole none)),
    )

pub has_finished : (slots : ℕ) (old now new : SplitManaged) (made : List SplitAction) (done : SplitDone) → HasMade slots made old now → left_of slots now ≡ [] → done ≡ now.counts
    → new ≡ at_rest (finished now.whole) now.events → IsFinished slots old done new
has_finished slots old now new made done was none counts is =
    let all : made ≡ left_of slots old = sym (was.left_is ∙ (ap (λ some. made ++ some) none ∙ append-nil made)) in
    let there : new ≡ finished_split slots old =
    is ∙ ap₂ (λ (w : Managed) (some : List SplitAction). at_rest w some) (leads_same old.whole now.whole was.outline_is) (was.events ∙ ap (λ some. old.events ++ some) all) in
    record {
      counts = counts ∙ was.counts;
      new_is = there;
      rules = λ before batch numbers holds. ap (λ (m : SplitManaged). m.whole.rules) there ∙ ap (λ (w : Managed). (finished w).rules) holds.whole.1.new_is;
    }

-- the slots in use are as they were
pub same_slots : (slots : ℕ) (made : List SplitAction) (old now : SplitManaged) → HasMade slots made old now → now.whole.slots ≡ old.whole.slots
same_slots slots made old now was = ap (λ (some : Managed × Option (List Rule × FieldBits × FieldBits)). some.0.slots) was.outline_is

-- each key is served from the first part to the last that was made
pub served_on : (slots : ℕ) (old : SplitManaged) (before after made rest : List SplitAction) → before ≡ old.events → after ≡ before ++ made → left_of slots old ≡ made ++ rest → ShowsOnWay slots old
    → AreServed slots before after old.whole.rules (ahead old.whole)
served_on slots old before after made rest on since left way = record { made = made; since = since; during = during }
  where
    during : (n : ℕ) → ShowsEither old.whole.rules (ahead old.whole) (state_of_events slots (before ++ take n made))
    during n =
        let parts : List SplitWrite = written (take n made) in
        let cut : take n made ++ (drop n made ++ rest) ≡ left_of slots old =
        sym (append_assoc (take n made) (drop n made) rest) ∙ (ap (λ some. some ++ rest) (take-append-drop n made) ∙ sym left) in
        let first : take (length parts) (written (left_of slots old)) ≡ parts =
        ap (λ (some : List SplitAction). take (length parts) (written some)) (sym cut)
        ∙ (ap (take (length parts)) (written_append (take n made) (drop n made ++ rest)) ∙ take-append_seam parts (written (drop n made ++ rest))) in
        let state : state_of_events slots (before ++ take n made) ≡ split_after (state_on slots old) parts =
        ap (λ (some : List SplitAction). state_of_events slots (some ++ take n made)) on
        ∙ (ap (split_after (blank_split slots)) (written_append old.events (take n made)) ∙ after_append (blank_split slots) (written old.events) parts) in
        subst (ShowsEither old.whole.rules (ahead old.whole)) (ap (split_after (state_on slots old)) first ∙ sym state) (way (length parts))
