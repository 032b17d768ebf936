-- The promise of the top call over every source, told or not, by the bytes that the source gave. A source that
-- foretells nothing is promised what each source is that may have given the same: the bytes given, and then any rest,
-- which is nothing where the source said that the input is at its end.
use Rattle.std.specs.Prelude.{◌≡◌, ℕ, Option, List, ◌++◌}
use Rattle.script_lines.specs.Given.{ByGiven}
use Rattle.script_runs.specs.declared.Status.{Status}
use Rattle.script_runs.specs.declared.Status.TheVariants.{ReadFault}
use Rattle.script_runs.specs.InTime.{ReadsLinesInTime}
use Rattle.tcam_device.specs.declared.Action.{Action}
use Rattle.tcam_device.specs.Flight.{writes_in}
use Rattle.trace_verify.specs.Verify.{IsNeeded, LeavesOpen}
use Rattle.tcam_cli.specs.Headline.{Job, NoJob, Tells, Reads, Makes, Verifies, IsCarriedOut, MayEnd, run_kind}
use Rattle.tcam_cli.specs.AllTheWay.{IsHitlessJob}

-- the promise over a source that had these bytes before and has those now
pub record IsPromised (job : Job) (device_slots : ℕ) (status : Status) (left_old left_new taken_old taken_new : Option (List ℕ)) (events : List Action) : Type 0 where
  pub carried_out : IsCarriedOut job device_slots status left_old left_new taken_old taken_new events
  pub hitless : IsHitlessJob job device_slots status left_old left_new (writes_in events)
  pub ends : MayEnd status job left_old

-- The promise by what was given alone.
abbrev pub IsPromisedByGiven : Job → ℕ → Status → List (List ℕ) → List (List ℕ) → Option (List ℕ) → Option (List ℕ) → List Action → Type 0
IsPromisedByGiven job device_slots status given_old given_new taken_old taken_new events =
    ByGiven given_old given_new (λ left_old left_new. IsPromised job device_slots status left_old left_new taken_old taken_new events)

-- Lines are carried out as soon as they are known, and their report is accepted: no read comes between, since the write
-- after it may fail, which ends the run. Where memory was wanting, no read came after that either, whatever the bytes
-- that were to come. The check of a trace reads only where the bytes before leave open what is told of it. A job without a
-- script or a trace of the source's reads nothing.
abbrev pub ReadsInTime : Job → ℕ → Status → List (List ℕ) → List (List ℕ) → List Action → List ℕ → List ℕ → Type 0
ReadsInTime NoJob device_slots status given_old given_new events accepted_old accepted_new = given_new ≡ given_old
ReadsInTime (Tells own) device_slots status given_old given_new events accepted_old accepted_new = given_new ≡ given_old
ReadsInTime (Makes setting seed rules batches) device_slots status given_old given_new events accepted_old accepted_new = given_new ≡ given_old
ReadsInTime (Reads setting) device_slots status given_old given_new events accepted_old accepted_new =
    ReadsLinesInTime (run_kind setting device_slots) status given_old given_new events accepted_old accepted_new
ReadsInTime Verifies device_slots status given_old given_new events accepted_old accepted_new =
    (pieces : List (List ℕ)) → given_new ≡ given_old ++ pieces → IsNeeded pieces × (status ≡ ReadFault → LeavesOpen pieces)
