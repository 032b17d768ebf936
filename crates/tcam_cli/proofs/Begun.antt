-- A run over a blank device stands at the start.
use Rattle.std.proofs.Common.{◌≡◌, Bool, ℕ, ◌+◌, ◌-◌, ◌≤◌, ◌++◌, None, Option, List, length, replicate, ap, ◌∙◌, arith}
use Rattle.std.proofs.lemmas.List.{length-replicate, replicate-append-replicate}
use Rattle.rule_model.specs.declared.words.Entry.{Entry}
use Rattle.rule_store.specs.declared.Mode.{Mode}
use Rattle.tcam_device.specs.State.{blank}
use Rattle.batch_order.specs.declared.Placement.{Placement}
use Rattle.report_lines.specs.declared.Family.{Family}
use Rattle.replay.specs.Run.{Progress, start}
use Rattle.replay.specs.Running.{begun, progress_of}

-- the slots that aren't in use are blank too
blank-more : (slots device_slots : ℕ) → slots ≤ device_slots → replicate {A = Option Entry} slots None ++ replicate (device_slots - length (replicate {A = Option Entry} slots None)) None ≡ replicate device_slots None
blank-more slots device_slots within =
    let blanks : List (Option Entry) = replicate slots None in
    let all : slots + (device_slots - slots) ≡ device_slots = omega arith in
    ap (λ n. blanks ++ replicate (device_slots - n) None) (length-replicate slots None)
    ∙ replicate-append-replicate slots (device_slots - slots) None ∙ ap (λ n. replicate n None) all

pub begins : (mode : Mode) (placement : Placement) (family : Family) (slots device_slots : ℕ) (trace : Bool) (depth : ℕ) (json names : Bool) → slots ≤ device_slots → progress_of device_slots (begun slots mode placement family trace depth json names) ≡ start device_slots
begins mode placement family slots device_slots trace depth json names within =
    let f : List (Option Entry) → Progress = λ s. record (start device_slots) { state = record (blank device_slots) { slots = s } } in
    ap f (blank-more slots device_slots within)
