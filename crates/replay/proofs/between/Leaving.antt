-- What calls leave of a sink and a device, one after the other.
use Rattle.std.proofs.Common.{◌≡◌, ◌⊎◌, inl, inr, ℕ, Result, Ok, Err, IfErr, List, [], ◌++◌, Option, None, IsSome, OnOk, length, refl, sym, ap, ◌∙◌, subst, append_assoc, append-nil, arith}
use Rattle.std.proofs.lemmas.List.{length-append}
use Rattle.call_history.specs.Cause.{HasCause, IsCounted}
use Rattle.tcam_device.specs.declared.Action.{Action}
use Rattle.tcam_device.specs.Flight.{writes_in}
use Rattle.tcam_device.specs.View.{DeviceView, HasMade, IsUntouched, journal}
use Rattle.commit_writes.proofs.WritesIn.{writes_in-append}
use Rattle.batch_order.specs.CarriedOut.{IsTried}
use Rattle.replay.specs.declared.ActFault.{ActFault}
use Rattle.replay.specs.declared.ActFault.TheVariants.{BatchFull, Stopped}
use Rattle.replay.specs.declared.RunFault.{RunFault}
use Rattle.replay.specs.declared.RunFault.TheVariants.{Memory, Sink, Device}
use Rattle.replay.specs.Outside.{Leaves}
use Rattle.replay.specs.Running.{AnswersHeld, act_outcome_of, limit_text}
use Rattle.replay.proofs.making.Tries.{tried-none, tried-then, tried-as}

-- no failure, and none counted
pub uncounted : (A : Type 0) (old new : ℕ) → (A → ⊥) → new ≡ old → IsCounted A old new
uncounted A old new never same = record { later = omega (arith, same); once = omega (arith, same); failed = λ a. absurd (never a); stayed = λ _. same }

-- another failure that comes exactly where that one does
pub counted-as : (A B : Type 0) (old new : ℕ) → (B → A) → (A → B) → IsCounted A old new → IsCounted B old new
counted-as A B old new back forth is =
    record { later = is.later; once = is.once; failed = λ b. is.failed (back b); stayed = λ other. is.stayed (λ a. other (forth a)) }

-- it is this one
pub counted-failed : {T E F : Type 0} (result : F) (why : E) (old new : ℕ) → HasCause {T = T} old new (Err why) → IsCounted (result ≡ result) old new
counted-failed result why old new cause = record { later = cause.later; once = cause.once; failed = λ _. cause.failed; stayed = λ other. absurd (other refl) }

-- a line fails by the sink alone
pub line-counted : (result : Result (Unit {0}) ActFault) (old new : ℕ) → IfErr result (λ why. why ≡ Stopped Sink) → HasCause old new result → IsCounted (result ≡ Err (Stopped Sink)) old new
line-counted (Ok done) old new kind cause = record { later = cause.later; once = cause.once; failed = λ e. absurd (cc); stayed = λ _. cause.stayed }
line-counted (Err why) old new kind cause = record { later = cause.later; once = cause.once; failed = λ _. cause.failed; stayed = λ other. absurd (other (ap Err kind)) }

pub no-write : (result : Result (Unit {0}) ActFault) → IfErr result (λ why. why ≡ Stopped Sink) → result ≡ Err (Stopped Device) → ⊥
no-write (Ok done) kind e = absurd (cc)
no-write (Err why) kind e = absurd (cc)

-- a change fails by neither
pub no-fault : (result : Result (Unit {0}) ActFault) → IfErr result (λ why. (why ≡ BatchFull) ⊎ (why ≡ Stopped Memory)) → (result ≡ Err (Stopped Sink) → ⊥) × (result ≡ Err (Stopped Device) → ⊥)
no-fault (Ok done) kind = ((λ e. absurd (cc)), (λ e. absurd (cc)))
no-fault (Err why) (inl full) = ((λ e. absurd (cc)), (λ e. absurd (cc)))
no-fault (Err why) (inr memory) = ((λ e. absurd (cc)), (λ e. absurd (cc)))

-- an act fails as its commit does
pub outcome-fails : (result : Result (Unit {0}) RunFault) (why : RunFault) → act_outcome_of result ≡ Err (Stopped why) → result ≡ Err why
outcome-fails (Ok done) why is = absurd (cc)
outcome-fails (Err other) why is = let same : other ≡ why = cc in ap Err same

-- it was taken, and there was room for it
pub outcome-taken : (result : Result (Unit {0}) RunFault) → AnswersHeld None (act_outcome_of result)
outcome-taken (Ok done) = λ left e. absurd (cc)
outcome-taken (Err why) = λ left e. absurd (cc)

pub outcome-room : (result : Result (Unit {0}) RunFault) → limit_text (act_outcome_of result) ≡ None
outcome-room (Ok done) = refl
outcome-room (Err why) = refl

pub outcome-ok : (P : Type 0) (result : Result (Unit {0}) RunFault) → OnOk result P → OnOk (act_outcome_of result) P
outcome-ok P (Ok done) holds = holds
outcome-ok P (Err why) holds = tt

module _ {S : Type 0} (taken : S → Option (List ℕ)) (sink_faults : S → ℕ) where
  -- a call that made no write
  pub leaves-line : (sink_old sink_new : S) (device_old device_new : DeviceView) (A B : Type 0) → (IsSome (taken sink_old) → IsSome (taken sink_new)) → device_new.slots ≡ device_old.slots
      → device_new.events ≡ device_old.events → device_new.faults ≡ device_old.faults → IsCounted A (sink_faults sink_old) (sink_faults sink_new) → (B → ⊥)
      → Leaves taken sink_faults sink_old sink_new device_old device_new A B
  leaves-line sink_old sink_new device_old device_new A B told count same faults cause never = record {
    told = told;
    slots = count;
    more = [];
    grown = ap writes_in same ∙ sym (append-nil (journal device_old));
    sink_cause = cause;
    device_cause = tried-none B device_old.faults device_new.faults never faults;
  }

  -- a call that left the sink
  pub leaves-writes : (sink : S) (device_old device_new : DeviceView) (A B : Type 0) (actions : List Action) → HasMade actions device_old device_new
      → IsTried 4 (length (writes_in actions)) B device_old.faults device_new.faults → (A → ⊥) → Leaves taken sink_faults sink sink device_old device_new A B
  leaves-writes sink device_old device_new A B actions made cause never = record {
    told = λ some. some;
    slots = made.slots;
    more = writes_in actions;
    grown = ap writes_in made.events ∙ writes_in-append device_old.events actions;
    sink_cause = uncounted A (sink_faults sink) (sink_faults sink) never refl;
    device_cause = cause;
  }

  -- a call that made nothing, for all its tries of one write
  pub leaves-tried : {F : Type 0} (sink : S) (device_old device_new : DeviceView) (A : Type 0) (result : F) (Stuck : Type 0) → IsUntouched device_old device_new → (A → ⊥)
      → IsTried 4 0 Stuck device_old.faults device_new.faults → Stuck → Leaves taken sink_faults sink sink device_old device_new A (result ≡ result)
  leaves-tried sink device_old device_new A result Stuck same never tried stuck = record {
    told = λ some. some;
    slots = same.slots;
    more = [];
    grown = ap writes_in same.events ∙ sym (append-nil (journal device_old));
    sink_cause = uncounted A (sink_faults sink) (sink_faults sink) never refl;
    device_cause = tried-as Stuck (result ≡ result) 0 device_old.faults device_new.faults (λ _. stuck) (λ _. refl) tried;
  }

  -- a call that failed by neither, and then another
  pub leaves-then : (sink_old sink_mid sink_new : S) (device_old device_mid device_new : DeviceView) (A B X Y : Type 0) → (A → ⊥) → (B → ⊥)
      → Leaves taken sink_faults sink_old sink_mid device_old device_mid A B
      → Leaves taken sink_faults sink_mid sink_new device_mid device_new X Y
      → Leaves taken sink_faults sink_old sink_new device_old device_new X Y
  leaves-then sink_old sink_mid sink_new device_old device_mid device_new A B X Y no_sink no_device was is = record {
    told = λ some. is.told (was.told some);
    slots = is.slots ∙ was.slots;
    more = was.more ++ is.more;
    grown = is.grown ∙ ap (λ j. j ++ is.more) was.grown ∙ append_assoc (journal device_old) was.more is.more;
    sink_cause = subst (λ count. IsCounted X count (sink_faults sink_new)) (was.sink_cause.stayed no_sink) is.sink_cause;
    device_cause = subst (λ n. IsTried 4 n Y device_old.faults device_new.faults) (sym (length-append was.more is.more))
        (tried-then (length was.more) (length is.more) B Y device_old.faults device_mid.faults device_new.faults no_device was.device_cause is.device_cause);
  }

  -- other failures that come exactly where those do
  pub leaves-as : (sink_old sink_new : S) (device_old device_new : DeviceView) (A B X Y : Type 0) → (X → A) → (A → X) → (Y → B) → (B → Y)
      → Leaves taken sink_faults sink_old sink_new device_old device_new A B
      → Leaves taken sink_faults sink_old sink_new device_old device_new X Y
  leaves-as sink_old sink_new device_old device_new A B X Y back forth back_device forth_device is = record {
    told = is.told;
    slots = is.slots;
    more = is.more;
    grown = is.grown;
    sink_cause = counted-as A X (sink_faults sink_old) (sink_faults sink_new) back forth is.sink_cause;
    device_cause = tried-as B Y (length is.more) device_old.faults device_new.faults back_device forth_device is.device_cause;
  }

  -- with no failure so far, some actions more,
  pub leaves-made : (sink_old sink : S) (begun at after : DeviceView) (actions : List Action) → Leaves taken sink_faults sink_old sink begun at ⊥ ⊥ → HasMade actions at after
      → IsTried 4 (length (writes_in actions)) ⊥ at.faults after.faults → Leaves taken sink_faults sink_old sink begun after ⊥ ⊥
  leaves-made sink_old sink begun at after actions was made tried =
      leaves-then sink_old sink sink begun at after ⊥ ⊥ ⊥ ⊥ (λ never. never) (λ never. never) was (leaves-writes sink at after ⊥ ⊥ actions made tried (λ never. never))

  -- a line more that may be cut,
  pub leaves-cut : (sink_old sink sink_new : S) (begun at after : DeviceView) (A B : Type 0) → Leaves taken sink_faults sink_old sink begun at ⊥ ⊥ → (IsSome (taken sink) → IsSome (taken sink_new))
      → after.slots ≡ at.slots → after.events ≡ at.events → after.faults ≡ at.faults → IsCounted A (sink_faults sink) (sink_faults sink_new) → (B → ⊥)
      → Leaves taken sink_faults sink_old sink_new begun after A B
  leaves-cut sink_old sink sink_new begun at after A B was told slots events faults cause never =
      leaves-then sink_old sink sink_new begun at after ⊥ ⊥ A B (λ never. never) (λ never. never) was (leaves-line sink sink_new at after A B told slots events faults cause never)

  -- and one that is told
  pub leaves-told : (sink_old sink sink_new : S) (begun at after : DeviceView) → Leaves taken sink_faults sink_old sink begun at ⊥ ⊥ → (IsSome (taken sink) → IsSome (taken sink_new))
      → after.slots ≡ at.slots → after.events ≡ at.events → after.faults ≡ at.faults → sink_faults sink_new ≡ sink_faults sink → Leaves taken sink_faults sink_old sink_new begun after ⊥ ⊥
  leaves-told sink_old sink sink_new begun at after was told slots events faults same =
      leaves-cut sink_old sink sink_new begun at after ⊥ ⊥ was told slots events faults (uncounted ⊥ (sink_faults sink) (sink_faults sink_new) (λ never. never) same) (λ never. never)
