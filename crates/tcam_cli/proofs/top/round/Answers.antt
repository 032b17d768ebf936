use Rattle.std.proofs.Common.{Err, ap, codes, sym, ◌∙◌, Ok, refl}
use Rattle.replay.specs.Running.{setting_of}
use Rattle.replay.proofs.between.Leaving.{leaves-as, leaves-line, uncounted}
use Rattle.tcam_cli.specs.Headline.{run_kind}
use Rattle.tcam_cli.proofs.FaultCounts.{closed-leaves, closes-leaves, some-leaves, stopped-leaves}
use Rattle.tcam_cli.proofs.Outcomes.{stops, stops-grows, stops-memory}
use Rattle.script_runs.proofs.Joined.{same-grows, closes-grows}
use Rattle.script_runs.proofs.Exits.{exit-bytes, exit-end, exit-read, goes-none, exit-word, exit-full}
use Rattle.script_runs.proofs.Rounds.{rounds-other, rounds-none, rests-same}
use Rattle.tcam_cli.proofs.Kind.{joins, grows-of}
use Rattle.tcam_cli.proofs.Exits.{closes-by, goes-on, exit-stopped, wants-next}
use Rattle.tcam_cli.proofs.InTime.{so-far-at}
use Rattle.tcam_cli.proofs.GivenRuns.{rounds-stopped}
use Rattle.tcam_cli.proofs.top.round.Goals as goal

pub returns-in-Err-Read-clause-gives : goal.returns-in-Err-Read-clause-gives
returns-in-Err-Read-clause-gives g c =
    let h = c.in-Err-Read in (
      h.ensures.gives.0,
      h.ensures.gives.1,
      λ which. rounds-other _ _ _ _ _ _ _ _ _ _ _ _ _ h.ensures.gives.2 (λ e. cc) (λ bytes left now start may s. same-grows joins _ _)
          (λ bytes taken begun now start may parts s.
          exit-read _ joins bytes _ begun _ _ start _ s c.next.new.self taken now (rw h.field-0-is at h.ensures.again) (λ going. rw h.field-0-is at (h.ensures.gives.2.hands going begun now may)) parts),
    )

pub returns-in-Err-ScriptTooLong-clause-gives : goal.returns-in-Err-ScriptTooLong-clause-gives
returns-in-Err-ScriptTooLong-clause-gives g c =
    let h = c.in-Err-ScriptTooLong in (
      h.ensures.gives.0,
      h.ensures.gives.1,
      λ which. rounds-other _ _ _ _ _ _ _ _ _ _ _ _ _ h.ensures.gives.2 c.fault.ensures.kind.3 (λ bytes left now start may s. closes-grows joins _ _ _ _ _ _ (c.fault.ensures.closes.closes which))
          (λ bytes taken begun now start may parts s.
          exit-bytes _ joins bytes _ begun _ _ start _ s taken now _ _ _ _ _ refl (rw h.field-0-is at h.ensures.again) (λ going. rw h.field-0-is at (h.ensures.gives.2.hands going begun now may)) (c.fault.ensures.closes.closes which)),
    )

pub returns-in-Err-TooLong-clause-gives : goal.returns-in-Err-TooLong-clause-gives
returns-in-Err-TooLong-clause-gives g c =
    let h = c.in-Err-TooLong in (
      h.ensures.gives.0,
      h.ensures.gives.1,
      λ which. rounds-other _ _ _ _ _ _ _ _ _ _ _ _ _ h.ensures.gives.2 c.fault-in-Err-TooLong.ensures.kind.3 (λ bytes left now start may s. closes-grows joins _ _ _ _ _ _ (c.fault-in-Err-TooLong.ensures.closes.closes which))
          (λ bytes taken begun now start may parts s.
          exit-bytes _ joins bytes _ begun _ _ start _ s taken now _ _ _ _ _ refl (rw h.field-0-is at h.ensures.again) (λ going. rw h.field-0-is at (h.ensures.gives.2.hands going begun now may)) (c.fault-in-Err-TooLong.ensures.closes.closes which)),
    )

pub returns-in-Err-BadByte-clause-gives : goal.returns-in-Err-BadByte-clause-gives
returns-in-Err-BadByte-clause-gives g c =
    let h = c.in-Err-BadByte in (
      h.ensures.gives.0,
      h.ensures.gives.1,
      λ which. rounds-other _ _ _ _ _ _ _ _ _ _ _ _ _ h.ensures.gives.2 c.fault-in-Err-BadByte.ensures.kind.3 (λ bytes left now start may s. closes-grows joins _ _ _ _ _ _ (c.fault-in-Err-BadByte.ensures.closes.closes which))
          (λ bytes taken begun now start may parts s.
          exit-bytes _ joins bytes _ begun _ _ start _ s taken now _ _ _ _ _ refl (rw h.field-0-is at h.ensures.again) (λ going. rw h.field-0-is at (h.ensures.gives.2.hands going begun now may)) (c.fault-in-Err-BadByte.ensures.closes.closes which)),
    )

pub returns-in-Ok-None-clause-gives : goal.returns-in-Ok-None-clause-gives
returns-in-Ok-None-clause-gives g c =
    let h = c.in-Ok-None in (
      h.ensures.gives.0,
      h.ensures.gives.1,
      λ which. rounds-other _ _ _ _ _ _ _ _ _ _ _ _ _ h.ensures.gives.2 c.finish.ensures.kind.3 (λ bytes left now start may s. closes-grows joins _ _ _ _ _ _ ((c.finish.ensures.closes (g.D.Writable.view c.args.device.now).slots).closes which))
          (λ bytes taken begun now start may parts s.
          exit-end _ joins bytes _ begun _ _ start _ s c.next.new.self taken now _ _ (λ going. rw h.field-0-is at (h.ensures.gives.2.hands going begun now may))
          (λ other. rests-same _ _ _ _ begun now h.ensures.gives.2 may other) ((c.finish.ensures.closes (g.D.Writable.view c.args.device.now).slots).closes which)),
    )

pub returns-in-Err-clause-gives : goal.returns-in-Err-clause-gives
returns-in-Err-clause-gives g c =
    let h = c.in-Ok-Some in (
      h.ensures.gives.0,
      h.ensures.gives.1,
      λ which. rounds-other _ _ _ _ _ _ _ _ _ _ _ _ _ h.ensures.gives.2 c.fault-in-Err.ensures.kind.3 (λ bytes left now start may s. closes-grows joins _ _ _ _ _ _ (c.fault-in-Err.ensures.closes.closes which))
          (λ bytes taken begun now start may parts s.
          exit-word _ joins bytes _ begun _ _ start _ s h.line c.next.new.self now (rw h.field-0-is at h.ensures.again) (λ going. rw h.field-0-is at (h.ensures.gives.2.hands going begun now may))
          taken _ _ _ c.in-Err.ensures.err (c.fault-in-Err.ensures.closes.closes which)),
    )

pub returns-in-Ok-None-read_act-clause-gives : goal.returns-in-Ok-None-read_act-clause-gives
returns-in-Ok-None-read_act-clause-gives g c =
    let h = c.in-Ok-Some in (
      h.ensures.gives.0,
      h.ensures.gives.1,
      λ which. rounds-none _ _ _ _ _ _ _ _ _ _ _ h.ensures.gives.2 (λ bytes left now start may s. same-grows joins _ _)
          (λ bytes begun now start may s.
          goes-none _ joins bytes _ begun _ _ start _ s h.line c.next.new.self now (rw h.field-0-is at h.ensures.again) (λ going. rw h.field-0-is at (h.ensures.gives.2.hands going begun now may))
          (c.in-Ok-None-read_act.ensures.ok ∙ ap Ok c.in-Ok-None-read_act.field-0-is)),
    )

pub returns-in-Ok-clause-gives : goal.returns-in-Ok-clause-gives
returns-in-Ok-clause-gives g c =
    let h = c.in-Ok-Some in
    let setting = setting_of c.args.run.now in
    let slots = (g.D.Writable.view c.args.device.now).slots in (
      h.ensures.gives.0,
      h.ensures.gives.1,
      λ which. rounds-none (run_kind setting slots) _ _ _ _ _ _ _ _ _ _ h.ensures.gives.2 (λ bytes left now start may s. grows-of setting slots _ _ _ _ _ _ (c.in-Ok.ensures.acts which (so-far-at setting slots _ _ _ _ _ _ _ s)).does)
          (λ bytes begun now start may s.
          goes-on setting slots bytes _ begun _ _ start _ s h.line c.next.new.self now (rw h.field-0-is at h.ensures.again) (λ going. rw h.field-0-is at (h.ensures.gives.2.hands going begun now may))
          _ (c.in-Ok-Some-read_act.ensures.ok ∙ ap Ok c.in-Ok-Some-read_act.field-0-is) (sym c.in-Ok.ensures.limit) _ _ _ (c.in-Ok.ensures.acts which)),
    )

pub returns-in-Err-BatchFull-clause-gives : goal.returns-in-Err-BatchFull-clause-gives
returns-in-Err-BatchFull-clause-gives g c =
    let h = c.in-Ok-Some in (
      h.ensures.gives.0,
      h.ensures.gives.1,
      λ which. rounds-other _ _ _ _ _ _ _ _ _ _ _ _ _ h.ensures.gives.2 c.fault-in-Err-BatchFull.ensures.kind.3 (λ bytes left now start may s.
          let same = rw c.in-Err-BatchFull.field-0-is at (c.in-Err-BatchFull.ensures.acts which) in
          rw same.events (closes-grows joins _ _ _ _ _ _ (rw same.report at (c.fault-in-Err-BatchFull.ensures.closes.closes which))))
          (λ bytes taken begun now start may parts s.
          let same = rw c.in-Err-BatchFull.field-0-is at (c.in-Err-BatchFull.ensures.acts which) in
          rw same.events (exit-full _ joins bytes _ begun _ _ start _ s h.line c.next.new.self now (rw h.field-0-is at h.ensures.again) (λ going. rw h.field-0-is at (h.ensures.gives.2.hands going begun now may))
          taken _ _ _ _ (c.in-Ok-Some-read_act.ensures.ok ∙ ap Ok c.in-Ok-Some-read_act.field-0-is) (sym (rw c.in-Err-BatchFull.field-0-is at c.in-Err-BatchFull.ensures.limit)) (closes-by c.args.run.now c.apply_by.new.run h.line.number (codes "batch full") _ _ _ same.run (rw same.report at (c.fault-in-Err-BatchFull.ensures.closes.closes which))))),
    )

pub returns-in-Err-ChangesPending-clause-gives : goal.returns-in-Err-ChangesPending-clause-gives
returns-in-Err-ChangesPending-clause-gives g c =
    let h = c.in-Ok-Some in (
      h.ensures.gives.0,
      h.ensures.gives.1,
      λ which. rounds-other _ _ _ _ _ _ _ _ _ _ _ _ _ h.ensures.gives.2 c.fault-in-Err-ChangesPending.ensures.kind.3 (λ bytes left now start may s.
          let same = rw c.in-Err-ChangesPending.field-0-is at (c.in-Err-ChangesPending.ensures.acts which) in
          rw same.events (closes-grows joins _ _ _ _ _ _ (rw same.report at (c.fault-in-Err-ChangesPending.ensures.closes.closes which))))
          (λ bytes taken begun now start may parts s.
          let same = rw c.in-Err-ChangesPending.field-0-is at (c.in-Err-ChangesPending.ensures.acts which) in
          rw same.events (exit-full _ joins bytes _ begun _ _ start _ s h.line c.next.new.self now (rw h.field-0-is at h.ensures.again) (λ going. rw h.field-0-is at (h.ensures.gives.2.hands going begun now may))
          taken _ _ _ _ (c.in-Ok-Some-read_act.ensures.ok ∙ ap Ok c.in-Ok-Some-read_act.field-0-is) (sym (rw c.in-Err-ChangesPending.field-0-is at c.in-Err-ChangesPending.ensures.limit)) (closes-by c.args.run.now c.apply_by.new.run h.line.number (codes "changes pending") _ _ _ same.run (rw same.report at (c.fault-in-Err-ChangesPending.ensures.closes.closes which))))),
    )

pub returns-in-Err-ProbesFull-clause-gives : goal.returns-in-Err-ProbesFull-clause-gives
returns-in-Err-ProbesFull-clause-gives g c =
    let h = c.in-Ok-Some in (
      h.ensures.gives.0,
      h.ensures.gives.1,
      λ which. rounds-other _ _ _ _ _ _ _ _ _ _ _ _ _ h.ensures.gives.2 c.fault-in-Err-ProbesFull.ensures.kind.3 (λ bytes left now start may s.
          let same = rw c.in-Err-ProbesFull.field-0-is at (c.in-Err-ProbesFull.ensures.acts which) in
          rw same.events (closes-grows joins _ _ _ _ _ _ (rw same.report at (c.fault-in-Err-ProbesFull.ensures.closes.closes which))))
          (λ bytes taken begun now start may parts s.
          let same = rw c.in-Err-ProbesFull.field-0-is at (c.in-Err-ProbesFull.ensures.acts which) in
          rw same.events (exit-full _ joins bytes _ begun _ _ start _ s h.line c.next.new.self now (rw h.field-0-is at h.ensures.again) (λ going. rw h.field-0-is at (h.ensures.gives.2.hands going begun now may))
          taken _ _ _ _ (c.in-Ok-Some-read_act.ensures.ok ∙ ap Ok c.in-Ok-Some-read_act.field-0-is) (sym (rw c.in-Err-ProbesFull.field-0-is at c.in-Err-ProbesFull.ensures.limit)) (closes-by c.args.run.now c.apply_by.new.run h.line.number (codes "too many probes") _ _ _ same.run (rw same.report at (c.fault-in-Err-ProbesFull.ensures.closes.closes which))))),
    )

pub returns-in-Err-Stopped-clause-gives : goal.returns-in-Err-Stopped-clause-gives
returns-in-Err-Stopped-clause-gives g c =
    let h = c.in-Ok-Some in
    let why = c.in-Err-Stopped.why in
    let is = c.in-Err-Stopped.field-0-is in
    let full = sym (rw is at c.in-Err-Stopped.ensures.limit) in (
      h.ensures.gives.0,
      h.ensures.gives.1,
      λ which.
          let comes = stops _ c.args.run.now _ c.apply_by.new.run why _ _ _ _ (rw is at (c.in-Err-Stopped.ensures.acts which)) in
          rw c.status_of_fault.ensures.status (rounds-stopped _ _ _ _ _ _ _ why _ _ _ _ _ _ h.ensures.gives.2
          (λ bytes left now start may s. stops-grows _ _ _ _ why _ _ _ _ (so-far-at _ _ _ _ _ _ _ _ _ s) comes)
          (λ bytes taken begun now start may parts s.
          exit-stopped _ _ bytes _ begun _ _ start _ s h.line c.next.new.self now (rw h.field-0-is at h.ensures.again) (λ going. rw h.field-0-is at (h.ensures.gives.2.hands going begun now may))
          _ (c.in-Ok-Some-read_act.ensures.ok ∙ ap Ok c.in-Ok-Some-read_act.field-0-is) full _ _ taken why comes)
          (λ memory bytes left now start may s.
          wants-next _ _ bytes _ left _ _ start _ s h.line c.next.new.self now (rw h.field-0-is at h.ensures.again) (λ going. rw h.field-0-is at (h.ensures.gives.2.hands going left now may))
          _ (c.in-Ok-Some-read_act.ensures.ok ∙ ap Ok c.in-Ok-Some-read_act.field-0-is) full _ _
          (stops-memory _ _ _ _ why _ _ _ _ memory (so-far-at _ _ _ _ _ _ _ _ _ s) comes))),
    )

pub returns-in-Err-Stopped-clause-leaves : goal.returns-in-Err-Stopped-clause-leaves
returns-in-Err-Stopped-clause-leaves g c =
    some-leaves _ _ _ _ _ _ _ (rw c.status_of_fault.ensures.status (stopped-leaves _ _ _ _ _ _ c.in-Err-Stopped.why (rw c.in-Err-Stopped.field-0-is at c.in-Err-Stopped.ensures.leaves)))

-- no commit is unfinished
pub unreachable-requires : goal.unreachable-requires
unreachable-requires g c =
    c.in-Err-Held.ensures.held c.in-Err-Held.field-0-0 (ap Err c.in-Err-Held.field-0-is)

pub returns-in-Err-ScriptTooLong-clause-leaves : goal.returns-in-Err-ScriptTooLong-clause-leaves
returns-in-Err-ScriptTooLong-clause-leaves g c = some-leaves _ _ _ _ _ _ _ (closed-leaves _ _ g.K.Sink.accepted _ _ (g.D.Writable.view c.args.device.now) _ _ _ c.fault.ensures.kind.2 c.fault.ensures.closes)

pub returns-in-Err-TooLong-clause-leaves : goal.returns-in-Err-TooLong-clause-leaves
returns-in-Err-TooLong-clause-leaves g c = some-leaves _ _ _ _ _ _ _ (closed-leaves _ _ g.K.Sink.accepted _ _ (g.D.Writable.view c.args.device.now) _ _ _ c.fault-in-Err-TooLong.ensures.kind.2 c.fault-in-Err-TooLong.ensures.closes)

pub returns-in-Err-BadByte-clause-leaves : goal.returns-in-Err-BadByte-clause-leaves
returns-in-Err-BadByte-clause-leaves g c = some-leaves _ _ _ _ _ _ _ (closed-leaves _ _ g.K.Sink.accepted _ _ (g.D.Writable.view c.args.device.now) _ _ _ c.fault-in-Err-BadByte.ensures.kind.2 c.fault-in-Err-BadByte.ensures.closes)

pub returns-in-Err-clause-leaves : goal.returns-in-Err-clause-leaves
returns-in-Err-clause-leaves g c = some-leaves _ _ _ _ _ _ _ (closed-leaves _ _ g.K.Sink.accepted _ _ (g.D.Writable.view c.args.device.now) _ _ _ c.fault-in-Err.ensures.kind.2 c.fault-in-Err.ensures.closes)

pub returns-in-Ok-None-clause-leaves : goal.returns-in-Ok-None-clause-leaves
returns-in-Ok-None-clause-leaves g c = some-leaves _ _ _ _ _ _ _ (closed-leaves _ _ g.K.Sink.accepted _ _ (g.D.Writable.view c.args.device.now) _ _ _ c.finish.ensures.kind.2 (c.finish.ensures.closes (g.D.Writable.view c.args.device.now).slots))

pub returns-in-Err-BatchFull-clause-leaves : goal.returns-in-Err-BatchFull-clause-leaves
returns-in-Err-BatchFull-clause-leaves g c =
    closes-leaves _ _ _ _ _ _ _ _ _ _ _ _ _ (rw c.in-Err-BatchFull.field-0-is at c.in-Err-BatchFull.ensures.leaves) (λ e. cc) (λ e. cc) c.fault-in-Err-BatchFull.ensures.closes c.fault-in-Err-BatchFull.ensures.kind.2

pub returns-in-Err-ChangesPending-clause-leaves : goal.returns-in-Err-ChangesPending-clause-leaves
returns-in-Err-ChangesPending-clause-leaves g c =
    closes-leaves _ _ _ _ _ _ _ _ _ _ _ _ _ (rw c.in-Err-ChangesPending.field-0-is at c.in-Err-ChangesPending.ensures.leaves) (λ e. cc) (λ e. cc) c.fault-in-Err-ChangesPending.ensures.closes c.fault-in-Err-ChangesPending.ensures.kind.2

pub returns-in-Err-ProbesFull-clause-leaves : goal.returns-in-Err-ProbesFull-clause-leaves
returns-in-Err-ProbesFull-clause-leaves g c =
    closes-leaves _ _ _ _ _ _ _ _ _ _ _ _ _ (rw c.in-Err-ProbesFull.field-0-is at c.in-Err-ProbesFull.ensures.leaves) (λ e. cc) (λ e. cc) c.fault-in-Err-ProbesFull.ensures.closes c.fault-in-Err-ProbesFull.ensures.kind.2

-- a line that does nothing leaves all
pub returns-in-Err-Read-clause-leaves : goal.returns-in-Err-Read-clause-leaves
returns-in-Err-Read-clause-leaves g c = leaves-line _ _ _ _ _ _ _ _ (λ some. some) refl refl refl (uncounted _ _ _ (λ e. cc) refl) (λ e. cc)

pub returns-in-Ok-None-read_act-clause-leaves : goal.returns-in-Ok-None-read_act-clause-leaves
returns-in-Ok-None-read_act-clause-leaves g c = leaves-line _ _ _ _ _ _ _ _ (λ some. some) refl refl refl (uncounted _ _ _ (λ e. cc) refl) (λ e. cc)

pub returns-in-Ok-clause-leaves : goal.returns-in-Ok-clause-leaves
returns-in-Ok-clause-leaves g c = leaves-as _ _ _ _ _ _ _ _ _ _ (λ e. absurd (cc)) (λ e. absurd (cc)) (λ e. absurd (cc)) (λ e. absurd (cc)) c.in-Ok.ensures.leaves
