-- What a loop keeps that makes the writes of a commit and tries each of them so many times.
use Rattle.std.proofs.Common.{◌≡◌, ℕ, zero, suc, ◌+◌, ◌*◌, ◌-◌, ◌^◌, ◌≤◌, ◌<◌, min, true, List, [], ◌∷◌, ◌++◌, length, Option, Some, None, IsSome, refl, sym, ap, ap₂, subst, ◌∙◌, append-nil, append_assoc, arith}
use Rattle.std.proofs.Math.Nat.{min-le_left, suc-mul}
use Rattle.std.proofs.lemmas.List.{length-append}
use Rattle.tcam_device.specs.declared.Write.{Write}
use Rattle.tcam_device.specs.declared.Action.{Action}
use Rattle.tcam_device.specs.declared.Action.TheVariants.{Written, Drained}
use Rattle.tcam_device.specs.Flight.{writes_in}
use Rattle.tcam_device.specs.View.{DeviceView, HasMade, IsUntouched, journal}
use Rattle.commit_writes.proofs.WritesIn.{writes_in-append}
use Rattle.batch_order.specs.declared.Step.{Step}
use Rattle.batch_order.specs.declared.Step.TheVariants as step
use Rattle.batch_order.specs.declared.Unfinished.TheVariants as unfinished
use Rattle.batch_order.specs.Managed.{Managed, HeldCommit}
use Rattle.batch_order.specs.Steps.{Steps, actions_of, awaits_drain, is_drain_next, next_of}
use Rattle.batch_order.specs.CarriedOut.{HasCarried, IsTried, StopsAt, StopsBy, actions_left, writes_left}
use Rattle.batch_order.proofs.Made.{journal_made, made_more, nothing_made, untouched}
use Rattle.batch_order.proofs.under_way.Onward.{IsPart, Onward, acts_on, made_and_left, over, start, still_left}
use Rattle.batch_order.proofs.under_way.Stepped.{HasStepped, none_due, not_waiting}

-- a count of failures: those of the next write, and fewer than the tries of each that was made
pub record IsCount (tries made failures before now : ℕ) : Type 0 where
  pub later : before ≤ now
  pub most : now ≤ before + made * (tries - 1) + failures
  pub least : min (before + failures) (2 ^ 64 - 1) ≤ now

count-start : (tries before : ℕ) → IsCount tries 0 0 before before
count-start tries before = record { later = omega arith; most = omega arith; least = (let less : min (before + 0) (2 ^ 64 - 1) ≤ before + 0 = min-le_left (before + 0) (2 ^ 64 - 1) in omega arith) }

count-wrote : (tries made failures before now : ℕ) → IsCount tries made failures before now → failures < tries → IsCount tries (made + 1) 0 before now
count-wrote tries made failures before now was below =
    let product : (made + 1) * (tries - 1) ≡ made * (tries - 1) + (tries - 1) = (let product = suc-mul made (tries - 1) in omega arith) in
    record {
      later = was.later;
      most = (let all = was.most in omega arith);
      least = (let less : min (before + 0) (2 ^ 64 - 1) ≤ before + 0 = min-le_left (before + 0) (2 ^ 64 - 1) in let later = was.later in omega arith);
    }

-- So far goes a commit: some first part of its actions was made, and the room for them is used.
pub record Goes (old now : Managed) (before after : DeviceView) (tries failures : ℕ) : Type 0 where
  pub made : List Action
  pub onward : Onward old old.held made now
  pub done : HasMade made before after
  pub journal : journal after ≡ journal before ++ writes_in made
  pub counted : IsCount tries (length (writes_in made)) failures before.faults after.faults

pub goes-start : (manager : Managed) (view : DeviceView) (tries : ℕ) → Goes manager manager view view tries 0
goes-start manager view tries = record {
  made = [];
  onward = start manager manager.held refl;
  done = nothing_made view;
  journal = sym (append-nil (journal view));
  counted = count-start tries view.faults;
}

-- one action more, a write or the drain
goes-acted : (old now new : Managed) (words : ℕ) (did : Step) (action : Action) (before at after : DeviceView) (tries failures failures' : ℕ)
    → (was : Goes old now before at tries failures) → actions_of did ≡ action ∷ [] → Steps now words now.held did new → HasMade (action ∷ []) at after
    → IsCount tries (length (writes_in was.made) + length (writes_in (action ∷ []))) failures' before.faults after.faults → Goes old new before after tries failures'
goes-acted old now new words did action before at after tries failures failures' was acts steps more count =
    let writes : writes_in (was.made ++ action ∷ []) ≡ writes_in was.made ++ writes_in (action ∷ []) = writes_in-append was.made (action ∷ []) in
    let number : length (writes_in (was.made ++ action ∷ [])) ≡ length (writes_in was.made) + length (writes_in (action ∷ [])) = ap length writes ∙ length-append (writes_in was.made) (writes_in (action ∷ [])) in
    let done : HasMade (was.made ++ action ∷ []) before after = made_more was.made (action ∷ []) before at after was.done more in
    record {
      made = was.made ++ action ∷ [];
      onward = acts_on old now new words old.held was.made did action refl was.onward acts steps;
      done = done;
      journal = journal_made (was.made ++ action ∷ []) before after done;
      counted = subst (λ (n : ℕ). IsCount tries n failures' before.faults after.faults) (sym number) count;
    }

-- a write more
pub goes-wrote : (old now new : Managed) (words : ℕ) (write : Write) (before at after : DeviceView) (tries failures : ℕ) → Goes old now before at tries failures
    → Steps now words now.held (step.Wrote write) new → HasMade (Written write ∷ []) at after → after.faults ≡ at.faults → failures < tries → Goes old new before after tries 0
goes-wrote old now new words write before at after tries failures was steps more stayed below =
    goes-acted old now new words (step.Wrote write) (Written write) before at after tries failures 0 was refl steps more
    (subst (λ (n : ℕ). IsCount tries (length (writes_in was.made) + 1) 0 before.faults n) (sym stayed)
    (count-wrote tries (length (writes_in was.made)) failures before.faults at.faults was.counted below))

-- the drain
pub goes-drained : (old now new : Managed) (words : ℕ) (before at after : DeviceView) (tries failures : ℕ) → Goes old now before at tries failures
    → Steps now words now.held step.Drained new → HasMade (Drained ∷ []) at after → after.faults ≡ at.faults → Goes old new before after tries failures
goes-drained old now new words before at after tries failures was steps more stayed =
    goes-acted old now new words step.Drained Drained before at after tries failures failures was refl steps more
    (subst (λ (n : ℕ). IsCount tries (length (writes_in was.made) + 0) failures before.faults n) (sym stayed)
    (subst (λ (n : ℕ). IsCount tries n failures before.faults at.faults) (let e : length (writes_in was.made) ≡ length (writes_in was.made) + 0 = omega arith in e) was.counted))

-- what was done to the device and what is left are what was due
pub carried : (old now : Managed) (before after : DeviceView) (tries failures : ℕ) → Goes old now before after tries failures → HasCarried old.held now.held before after
carried old now before after tries failures was =
    let all : was.made ++ actions_left now.held ≡ actions_left old.held = made_and_left old now old.held was.made refl was.onward in
    let size : length was.made + length (actions_left now.held) ≡ length (actions_left old.held) = sym (length-append was.made (actions_left now.held)) ∙ ap length all in
    let used = was.done.spare in
    record {
      events = ap (λ (told : List Action). told ++ actions_left now.held) was.done.events
          ∙ (append_assoc before.events was.made (actions_left now.held) ∙ ap (λ (acts : List Action). before.events ++ acts) all);
      spare = omega arith;
      flight = was.done.flight;
      slots = was.done.slots;
    }

-- the number of writes that were made
made_count : (old now : Managed) (before after : DeviceView) (tries failures : ℕ) → (was : Goes old now before after tries failures)
    → length (journal after) - length (journal before) ≡ length (writes_in was.made)
made_count old now before after tries failures was =
    let all : length (journal after) ≡ length (journal before) + length (writes_in was.made) = ap length was.journal ∙ length-append (journal before) (writes_in was.made) in
    omega arith

-- what is counted where each write came to an end
tried_all : (old now : Managed) (before after : DeviceView) (tries : ℕ) (Stuck : Type 0) → Goes old now before after tries 0 → (Stuck → ⊥)
    → IsTried tries (length (journal after) - length (journal before)) Stuck before.faults after.faults
tried_all old now before after tries Stuck was never =
    subst (λ (n : ℕ). IsTried tries n Stuck before.faults after.faults) (sym (made_count old now before after tries 0 was)) (record {
      later = was.counted.later;
      most = λ not. (let most = was.counted.most in omega arith);
      most_stuck = (let most = was.counted.most in omega arith);
      failed = λ is. absurd (never is);
    })

no_failure : (failures : ℕ) → (0 < failures → ⊥) → failures ≡ 0
no_failure zero none = refl
no_failure (suc failures) none = absurd (none (omega arith))

-- Where a step makes nothing, all that was made was made before it.
pub record HasStood (old new : Managed) (before at after : DeviceView) (tries : ℕ) (made : List Action) : Type 1 where
  pub carried : HasCarried old.held new.held before after
  pub same : journal after ≡ journal at
  pub told : journal after ≡ journal before ++ writes_in made
  pub tried : (Stuck : Type 0) → (Stuck → ⊥) → IsTried tries (length (journal after) - length (journal before)) Stuck before.faults after.faults

pub stood : (old now new : Managed) (words : ℕ) (did : Step) (before at after : DeviceView) (tries failures : ℕ) → (was : Goes old now before at tries failures)
    → (0 < failures → IsSome (next_of now.held)) → actions_of did ≡ [] → Steps now words now.held did new → HasMade (actions_of did) at after → after.faults ≡ at.faults
    → HasStood old new before at after tries was.made
stood old now new words did before at after tries failures was due none steps made stayed =
    let same : IsUntouched at after = untouched (actions_of did) at after none made in
    let so_far : HasCarried old.held now.held before at = carried old now before at tries failures was in
    let left : actions_left new.held ≡ actions_left now.held = still_left now new words did now.held refl none steps in
    let size : length (actions_left new.held) ≡ length (actions_left now.held) = ap length left in
    let used = so_far.spare in
    let spare = same.spare in
    let told : journal after ≡ journal at = ap writes_in same.events in
    let idle : next_of now.held ≡ None = none_due now words now.held did new none steps in
    let no : failures ≡ 0 = no_failure failures (λ some. let next : IsSome {T = Write} None = subst (λ (n : Option Write). IsSome n) idle (due some) in absurd (cc)) in
    let first : IsCount tries (length (writes_in was.made)) 0 before.faults at.faults = subst (λ (n : ℕ). IsCount tries (length (writes_in was.made)) n before.faults at.faults) no was.counted in
    let now_done : Goes old now before after tries 0 = record {
      made = was.made;
      onward = was.onward;
      done = record {
        events = same.events ∙ was.done.events;
        spare = (let first = was.done.spare in omega arith);
        flight = same.flight ∙ was.done.flight;
        slots = same.slots ∙ was.done.slots;
      };
      journal = told ∙ was.journal;
      counted = subst (λ (n : ℕ). IsCount tries (length (writes_in was.made)) 0 before.faults n) (sym stayed) first;
    } in
    record {
      carried = record {
        events = ap₂ (λ (e acts : List Action). e ++ acts) same.events left ∙ so_far.events;
        spare = omega arith;
        flight = same.flight ∙ so_far.flight;
        slots = same.slots ∙ so_far.slots;
      };
      same = told;
      told = told ∙ was.journal;
      tried = λ Stuck never. tried_all old now before after tries Stuck now_done never;
    }

-- where it stops, with a commit still under way
stands_at : (old now new : Managed) (held : HeldCommit) (made : List Action) (before after : List Write) (left : ℕ) → old.held ≡ Some held → IsPart old held made now → new ≡ now
    → left ≡ length (writes_left new.held) → after ≡ before ++ writes_in made → StopsAt old new before after left
stands_at old now new held made before after left is was same count told = record {
  held = held;
  under_way = is;
  made = made;
  rest = was.one.actions;
  parts = was.parts;
  rest_is = ap (λ (m : Managed). actions_left m.held) same ∙ ap actions_left was.under_way;
  left_is = count;
  new_is = same ∙ was.acted_is;
  state_is = ap (λ (m : Managed). m.state) (same ∙ was.now_is);
  journal = told;
}

-- because its drain waits for words in flight
pub waited : (old now new : Managed) (flying words : ℕ) (held : Option HeldCommit) (made : List Action) (before after : List Write) (left : ℕ) → old.held ≡ held → Onward old held made now
    → Steps now flying now.held (step.Waiting words) new → left ≡ length (writes_left new.held) → after ≡ before ++ writes_in made
    → StopsBy old new before after flying (unfinished.Waiting words left)
waited old now new flying words None made before after left is was steps count told =
    let none : now.held ≡ None = ap (λ (m : Managed). m.held) was.1 ∙ is in
    let idle : Steps now flying None (step.Waiting words) new = subst (λ (h : Option HeldCommit). Steps now flying h (step.Waiting words) new) none steps in
    absurd (let clash = idle.0 in cc)
waited old now new flying words (Some held) made before after left is was steps count told = go (over now new flying was.one (step.Waiting words) was.under_way steps)
  where
    go : HasStepped now flying was.one (step.Waiting words) new → StopsBy old new before after flying (unfinished.Waiting words left)
    go (HasStepped.End rest did new_is) = absurd (not_waiting was.one.way was.one words did)
    go (HasStepped.Wrote write actions rest did new_is) = absurd (let clash = did in cc)
    go (HasStepped.Drain actions rest did new_is) = absurd (let clash = did in cc)
    go (HasStepped.Wait actions more rest some did new_is) =
        let many : words ≡ suc more = cc in
        let waits : awaits_drain new.held ≡ true = ap (λ (m : Managed). awaits_drain m.held) new_is ∙ ap awaits_drain was.under_way ∙ ap is_drain_next rest in (
          stands_at old now new held made before after left is was new_is count told,
          waits,
          many ∙ sym some,
          (let flies = some in omega arith),
        )
