-- Look-ups of two events see the old or the new set's answer all through a restart.
use Rattle.std.proofs.Common.{◌≡◌, ◌++◌, take, sym, ◌∙◌, ap, subst}
use Rattle.rule_store.specs.Batch.{set_after}
use Rattle.tcam_device.specs.Flight.{Pipeline, actions_in, writes_in}
use Rattle.tcam_device.specs.Hitless.{ShowsOldOrNew}
use Rattle.tcam_device.specs.State.{State, state_after, on_device}
use Rattle.commit_writes.specs.Proposal.{proposal}
use Rattle.commit_writes.specs.Bits.{bits_with}
use Rattle.commit_writes.specs.Segments.{live_behind}
use Rattle.commit_writes.proofs.Seen.{seen, fewer}
use Rattle.commit_writes.proofs.WritesIn.{writes_of_commit, writes_in-append}
use Rattle.readback.specs.Going.{needs_drain}
use Rattle.readback.specs.PlannedRest.{restart_writes}
use Rattle.readback.specs.Serving.{PlannedRestartsShowOldOrNew, stopped_ranges}
use Rattle.readback.proofs.Restart.{goes_on}
use Rattle.readback.proofs.Served.{restarts_serve}

pub restarts_show : PlannedRestartsShowOldOrNew
restarts_show device_slots mode bits rules batch state done left twin live slots entries planned rewrites erased flight events plan front current may =
    let wide = on_device device_slots state in
    let line : Pipeline = record { state = wide; flight = flight } in
    let before = stopped_ranges mode bits rules batch wide in
    let writes = restart_writes (proposal mode bits rules batch) state twin entries slots planned rewrites erased in
    let leads = (restarts_serve device_slots mode bits rules batch state done left twin live slots entries planned rewrites erased plan).0 (actions_in events) front in
    let same : writes ≡ writes_in (actions_in events) ++ writes_in front.0 =
    sym (writes_of_commit (needs_drain mode bits rules batch wide) writes) ∙ ap writes_in front.1 ∙ writes_in-append (actions_in events) front.0 in
    let Shown : State → Type 0 = λ now. ShowsOldOrNew now rules (set_after rules batch) in
    seen before (live_behind before (bits_with mode rules batch bits) (actions_in events)) rules (set_after rules batch) line events leads.0 current may
    (fewer wide Shown (writes_in (actions_in events)) (writes_in front.0)
    (λ n. subst (λ ws. Shown (state_after wide (take n ws))) same ((goes_on device_slots mode bits rules batch state done left twin live slots entries planned rewrites erased plan).during n)))
