-- What words promise by which no line is read.
use Rattle.std.proofs.Common.{◌≡◌, inl, inr, ℕ, Option, Some, None, IfSome, List, [], ◌++◌, length, refl, sym, ap, ap₂, subst, append-nil, arith}
use Rattle.std.proofs.KnownBytes.{Appends-nil}
use Rattle.call_history.specs.Cause.{IsCounted}
use Rattle.script_runs.specs.declared.Status.{Status}
use Rattle.script_runs.specs.declared.Status.TheVariants.{Done, Memory, Usage}
use Rattle.script_runs.specs.Outcomes.{IsPrinted}
use Rattle.script_runs.specs.Rounds.{Closes}
use Rattle.script_runs.proofs.InTime.{nothing-in-time}
use Rattle.batch_order.specs.CarriedOut.{IsTried}
use Rattle.report_lines.specs.Text.{usage_line}
use Rattle.split_device.specs.declared.SplitAction.{SplitAction}
use Rattle.split_device.specs.Flight.{written}
use Rattle.router.specs.declared.Side.TheVariants as side
use Rattle.router.specs.Run.{DeviceSlots}
use Rattle.router.specs.Taken.{MadeOfBoth, made_on}
use Rattle.router_reader.specs.Readings.{router_reading}
use Rattle.router_runs.specs.Runs.{router_kind}
use Rattle.router_runs.specs.Promise.{Failures}
use Rattle.router_runs.proofs.HitlessRuns.{hitless-run}
use Rattle.router_cli.specs.CommandLine.{RouterJob, NoJob, Tells, Routes}
use Rattle.router_cli.specs.Promise.{AreBlank, EndsTold, HasRouterJobCauses, IsRouterJobHitless, IsRouterJobCarriedOut, IsRouterJobPromisedByGiven, PrintsAlone, RouterJobReadsInTime, MayRouterJobEnd, router_setting}

-- devices that were blank still are
pub blank : (list routes : List SplitAction) → list ≡ [] → routes ≡ [] → AreBlank (made_on list routes)
blank list routes first second = record { list = first; routes = second }

-- ---- one text

told-text : (text : List ℕ) (last result : Status) (before after : Option (List ℕ)) → Closes text last result before after
    → IfSome before (λ b. IfSome after (λ a. (told : List ℕ) × (a ≡ b ++ told) × IsPrinted text last result told))
told-text text last result None after closes = tt
told-text text last result (Some b) None closes = tt
told-text text last result (Some b) (Some a) (inl (e, line)) = (text, line, inl (e, refl))
told-text text last result (Some b) (Some a) (inr (e, (partial, rest, part, line))) = (partial, line, inr (inl (e, (rest, part))))

pub told-alone : (text : List ℕ) (last result : Status) (left before after : Option (List ℕ)) (events : MadeOfBoth) → AreBlank events → Closes text last result before after
    → PrintsAlone text last result left left before after events
told-alone text last result left before after events none closes =
    record { source = refl; devices = none; report = told-text text last result before after closes }

pub ends-told : (text : List ℕ) (last result : Status) (before after : Option (List ℕ)) → Closes text last result before after → EndsTold last result
ends-told text last result before after (inl (e, line)) = inl e
ends-told text last result before after (inr (e, part)) = inr (inl e)

-- ---- want of memory before anything was done

nothing-told : (text : List ℕ) (last : Status) (taken : Option (List ℕ)) → IfSome taken (λ before. IfSome taken (λ after. (told : List ℕ) × (after ≡ before ++ told) × IsPrinted text last Memory told))
nothing-told text last None = tt
nothing-told text last (Some bytes) = ([], sym (append-nil bytes), inr (inr (refl, refl)))

pub memory-carried : (job : RouterJob) (slots : DeviceSlots) (left taken : Option (List ℕ)) (list routes : List SplitAction) → list ≡ [] → routes ≡ []
    → IsRouterJobCarriedOut job slots Memory left left taken taken (made_on list routes)
memory-carried NoJob slots left taken list routes first second = record { source = refl; devices = blank list routes first second; report = nothing-told usage_line Usage taken }
memory-carried (Tells text) slots left taken list routes first second = record { source = refl; devices = blank list routes first second; report = nothing-told text Done taken }
memory-carried (Routes version most mode placement trace large) slots None taken list routes first second = tt
memory-carried (Routes version most mode placement trace large) slots (Some old) taken list routes first second = (
  record { taken = []; parts = refl; all = λ e. elim e [ inl d ↦ absurd (cc) | inr r ↦ absurd (cc) ] },
  record { effects = []; partial = []; outcome = (inl refl, refl); events_is = ap₂ made_on first second; report_is = Appends-nil taken },
)

pub memory-ends : (job : RouterJob) (left : Option (List ℕ)) → MayRouterJobEnd job Memory left
memory-ends NoJob left = inr (inr refl)
memory-ends (Tells text) left = inr (inr refl)
memory-ends (Routes version most mode placement trace large) left = tt

not-counted : (A : Type 0) (count : ℕ) → (A → ⊥) → IsCounted A count count
not-counted A count never = record { later = omega arith; once = omega arith; failed = λ a. absurd (never a); stayed = λ _. refl }

not-tried : (made : ℕ) (Stuck : Type 0) (count : ℕ) → (Stuck → ⊥) → IsTried 4 made Stuck count count
not-tried made Stuck count never =
    record { later = omega arith; most = λ _. omega arith; most_stuck = omega arith; failed = λ stuck. absurd (never stuck) }

pub memory-causes : (job : RouterJob) (slots : DeviceSlots) (left : Option (List ℕ)) (events : MadeOfBoth) (before : Failures) → HasRouterJobCauses job slots left Memory events before before
memory-causes NoJob slots left events before =
    record { write = not-counted _ before.sink (λ e. cc); source = refl; list = refl; routes = refl; ends = inr (inr refl) }
memory-causes (Tells text) slots left events before =
    record { write = not-counted _ before.sink (λ e. cc); source = refl; list = refl; routes = refl; ends = inr (inr refl) }
memory-causes (Routes version most mode placement trace large) slots left events before = record {
  read = not-counted _ before.source (λ e. cc);
  write = not-counted _ before.sink (λ e. cc);
  which = side.List;
  list = not-tried (length (written events.list)) _ before.list (λ e. let bad = e.0 in cc);
  routes = not-tried (length (written events.routes)) _ before.routes (λ e. let bad = e.0 in cc);
  due = λ e. cc;
  ends = tt;
}

-- ---- any job

-- packets see of it what was done
pub hitless-job : (job : RouterJob) (slots : DeviceSlots) (status : Status) (left_old left_new taken_old taken_new : Option (List ℕ)) (events : MadeOfBoth)
    → IsRouterJobCarriedOut job slots status left_old left_new taken_old taken_new events → IsRouterJobHitless job slots status left_old left_new events
hitless-job NoJob slots status left_old left_new taken_old taken_new events is = is.devices
hitless-job (Tells text) slots status left_old left_new taken_old taken_new events is = is.devices
hitless-job (Routes version most mode placement trace large) slots status left_old left_new taken_old taken_new events is =
    hitless-run (router_reading version) (router_setting version most mode placement trace large) slots status left_old left_new taken_old taken_new events is

-- a job that reads nothing, by what was given
pub promised-none : (job : RouterJob) (slots : DeviceSlots) (status : Status) (given : List (List ℕ)) (taken_old taken_new : Option (List ℕ)) (events : MadeOfBoth)
    → ((left : Option (List ℕ)) → IsRouterJobCarriedOut job slots status left left taken_old taken_new events) → ((left : Option (List ℕ)) → MayRouterJobEnd job status left)
    → IsRouterJobPromisedByGiven job slots status given given taken_old taken_new events
promised-none job slots status given taken_old taken_new events carries ends = (
  [],
  sym (append-nil given),
  λ left now may.
      let same : Some left ≡ Some now = ap Some may.bytes in
      let here = subst (λ n. IsRouterJobCarriedOut job slots status (Some left) n taken_old taken_new events) same (carries (Some left)) in
      record { carried_out = here; hitless = hitless-job job slots status (Some left) (Some now) taken_old taken_new events here; ends = ends (Some left) },
)

pub nothing-read : (job : RouterJob) (slots : DeviceSlots) (status : Status) (given : List (List ℕ)) (events : MadeOfBoth) (accepted : List ℕ) → RouterJobReadsInTime job slots status given given events accepted accepted
nothing-read NoJob slots status given events accepted = refl
nothing-read (Tells text) slots status given events accepted = refl
nothing-read (Routes version most mode placement trace large) slots status given events accepted =
    nothing-in-time (router_kind (router_reading version) (router_setting version most mode placement trace large) slots) status given events accepted
