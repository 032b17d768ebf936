-- A run over a blank device.
use Rattle.std.proofs.Common.{false, Bool, ◌≡◌, ℕ, ◌+◌, ◌-◌, ◌≤◌, ◌++◌, None, Option, List, [], length, replicate, refl, ap, ◌∙◌, arith}
use Rattle.std.proofs.lemmas.List.{length-replicate, replicate-append-replicate}
use Rattle.rule_model.specs.declared.words.Entry.{Entry}
use Rattle.rule_store.specs.declared.Mode.{Mode}
use Rattle.tcam_device.specs.State.{State, blank}
use Rattle.tcam_device.specs.View.{DeviceView}
use Rattle.batch_order.specs.declared.Placement.{Placement}
use Rattle.report_lines.specs.declared.Family.{Family}
use Rattle.replay.specs.Running.{begun}
use Rattle.resumed_runs.specs.Going.{CanGoOn}

-- the slots that aren't in use are blank too
blank-more : (slots device_slots : ℕ) → slots ≤ device_slots → replicate {A = Option Entry} slots None ++ replicate (device_slots - length (replicate {A = Option Entry} slots None)) None ≡ replicate device_slots None
blank-more slots device_slots within =
    let blanks : List (Option Entry) = replicate slots None in
    let all : slots + (device_slots - slots) ≡ device_slots = omega arith in
    ap (λ n. blanks ++ replicate (device_slots - n) None) (length-replicate slots None)
    ∙ replicate-append-replicate slots (device_slots - slots) None ∙ ap (λ n. replicate n None) all

-- it may be called
pub begun_going : (slots : ℕ) (mode : Mode) (placement : Placement) (family : Family) (trace : Bool) (depth : ℕ) (device : DeviceView)
    → slots ≤ device.slots → device.events ≡ [] → device.flight ≡ [] → CanGoOn (begun slots mode placement family trace depth false false) device
begun_going slots mode placement family trace depth device within nothing none = record {
  slots = within;
  whole = refl;
  words = refl;
  room = tt;
  in_flight = none;
  stands =
      let f : List (Option Entry) → State = λ s. record (blank device.slots) { slots = s } in
      rw nothing (ap f (blank-more slots device.slots within));
  current = rw none tt;
}
