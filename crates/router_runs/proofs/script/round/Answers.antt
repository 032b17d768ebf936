use Rattle.std.proofs.Common.{true, [], ap, sym, ◌∙◌, Ok, refl}
use Rattle.script_lines.specs.Given.{counted}
use Rattle.script_runs.proofs.Joined.{same-grows, closes-grows}
use Rattle.script_runs.proofs.Exits.{exit-bytes, exit-end, exit-read, goes-none, exit-word, exit-full}
use Rattle.script_runs.proofs.Rounds.{rounds-some, rounds-other, rounds-none, rests-same}
use Rattle.router.specs.Acting.{outside}
use Rattle.router.specs.Routing.{setting_of, slots_of}
use Rattle.router_reader.specs.Readings.{router_reading}
use Rattle.router_runs.specs.Runs.{router_kind}
use Rattle.router_runs.proofs.Counts.{counted-as, counted-then, not-counted, some-counted, some-same}
use Rattle.router_runs.proofs.Exits.{closes-same, does-nothing, due-part, ends-same, exit-line, exit-memory, exit-part, goes-on, grows-same, wants-next}
use Rattle.router_runs.proofs.Kind.{grows-of, joins}
use Rattle.router_runs.proofs.Leaving.{both-as, both-of, both-still, fails-as, never-fails}
use Rattle.router_runs.proofs.Sized.{fits-next}
use Rattle.router_runs.proofs.script.round.Goals as goal

pub returns-in-Err-Read-clause-gives : goal.returns-in-Err-Read-clause-gives
returns-in-Err-Read-clause-gives g c =
    let h = c.in-Err-Read in (
      h.ensures.gives.0,
      h.ensures.gives.1,
      λ which. rounds-other _ _ _ _ _ _ _ _ _ _ _ _ _ h.ensures.gives.2 (λ e. cc) (λ bytes left now start may s. same-grows joins _ _)
          (λ bytes taken begun now start may parts s.
          exit-read _ joins bytes _ begun _ _ start _ s c.next.new.self taken now (rw h.field-0-is at h.ensures.again) (λ going. rw h.field-0-is at (h.ensures.gives.2.hands going begun now may)) parts),
      λ e. cc,
    )

pub returns-in-Err-ScriptTooLong-clause-gives : goal.returns-in-Err-ScriptTooLong-clause-gives
returns-in-Err-ScriptTooLong-clause-gives g c =
    let h = c.in-Err-ScriptTooLong in (
      h.ensures.gives.0,
      h.ensures.gives.1,
      λ which. rounds-other _ _ _ _ _ _ _ _ _ _ _ _ _ h.ensures.gives.2 c.fault.ensures.kind.3 (λ bytes left now start may s. closes-grows joins _ _ _ _ _ _ (c.fault.ensures.closes.closes which))
          (λ bytes taken begun now start may parts s.
          exit-bytes _ joins bytes _ begun _ _ start _ s taken now _ _ _ _ _ refl (rw h.field-0-is at h.ensures.again) (λ going. rw h.field-0-is at (h.ensures.gives.2.hands going begun now may)) (c.fault.ensures.closes.closes which)),
      λ e. absurd (c.fault.ensures.kind.2 (some-same _ _ e)),
    )

pub returns-in-Err-TooLong-clause-gives : goal.returns-in-Err-TooLong-clause-gives
returns-in-Err-TooLong-clause-gives g c =
    let h = c.in-Err-TooLong in (
      h.ensures.gives.0,
      h.ensures.gives.1,
      λ which. rounds-other _ _ _ _ _ _ _ _ _ _ _ _ _ h.ensures.gives.2 c.fault-in-Err-TooLong.ensures.kind.3 (λ bytes left now start may s. closes-grows joins _ _ _ _ _ _ (c.fault-in-Err-TooLong.ensures.closes.closes which))
          (λ bytes taken begun now start may parts s.
          exit-bytes _ joins bytes _ begun _ _ start _ s taken now _ _ _ _ _ refl (rw h.field-0-is at h.ensures.again) (λ going. rw h.field-0-is at (h.ensures.gives.2.hands going begun now may)) (c.fault-in-Err-TooLong.ensures.closes.closes which)),
      λ e. absurd (c.fault-in-Err-TooLong.ensures.kind.2 (some-same _ _ e)),
    )

pub returns-in-Err-BadByte-clause-gives : goal.returns-in-Err-BadByte-clause-gives
returns-in-Err-BadByte-clause-gives g c =
    let h = c.in-Err-BadByte in (
      h.ensures.gives.0,
      h.ensures.gives.1,
      λ which. rounds-other _ _ _ _ _ _ _ _ _ _ _ _ _ h.ensures.gives.2 c.fault-in-Err-BadByte.ensures.kind.3 (λ bytes left now start may s. closes-grows joins _ _ _ _ _ _ (c.fault-in-Err-BadByte.ensures.closes.closes which))
          (λ bytes taken begun now start may parts s.
          exit-bytes _ joins bytes _ begun _ _ start _ s taken now _ _ _ _ _ refl (rw h.field-0-is at h.ensures.again) (λ going. rw h.field-0-is at (h.ensures.gives.2.hands going begun now may)) (c.fault-in-Err-BadByte.ensures.closes.closes which)),
      λ e. absurd (c.fault-in-Err-BadByte.ensures.kind.2 (some-same _ _ e)),
    )

pub returns-in-Ok-None-clause-gives : goal.returns-in-Ok-None-clause-gives
returns-in-Ok-None-clause-gives g c =
    let h = c.in-Ok-None in (
      h.ensures.gives.0,
      h.ensures.gives.1,
      λ which. rounds-other _ _ _ _ _ _ _ _ _ _ _ _ _ h.ensures.gives.2 c.finish.ensures.kind.3 (λ bytes left now start may s. closes-grows joins _ _ _ _ _ _ (c.finish.ensures.closes.closes which))
          (λ bytes taken begun now start may parts s.
          exit-end _ joins bytes _ begun _ _ start _ s c.next.new.self taken now _ _ (λ going. rw h.field-0-is at (h.ensures.gives.2.hands going begun now may))
          (λ other. rests-same _ _ _ _ begun now h.ensures.gives.2 may other) (c.finish.ensures.closes.closes which)),
      λ e. absurd (c.finish.ensures.kind.2 (some-same _ _ e)),
    )

pub returns-in-Err-clause-gives : goal.returns-in-Err-clause-gives
returns-in-Err-clause-gives g c =
    let h = c.in-Ok-Some in (
      h.ensures.gives.0,
      h.ensures.gives.1,
      λ which. rounds-other _ _ _ _ _ _ _ _ _ _ _ _ _ h.ensures.gives.2 c.fault-in-Err.ensures.kind.3 (λ bytes left now start may s. closes-grows joins _ _ _ _ _ _ (c.fault-in-Err.ensures.closes.closes which))
          (λ bytes taken begun now start may parts s.
          exit-word _ joins bytes _ begun _ _ start _ s h.line c.next.new.self now (rw h.field-0-is at h.ensures.again) (λ going. rw h.field-0-is at (h.ensures.gives.2.hands going begun now may))
          taken _ _ _ (rw c.version.ensures at c.in-Err.ensures.err) (c.fault-in-Err.ensures.closes.closes which)),
      λ e. absurd (c.fault-in-Err.ensures.kind.2 (some-same _ _ e)),
    )

pub returns-in-Ok-None-read_router_act-clause-gives : goal.returns-in-Ok-None-read_router_act-clause-gives
returns-in-Ok-None-read_router_act-clause-gives g c =
    let h = c.in-Ok-Some in (
      h.ensures.gives.0,
      h.ensures.gives.1,
      λ which. rounds-none _ _ _ _ _ _ _ _ _ _ _ h.ensures.gives.2 (λ bytes left now start may s. same-grows joins _ _)
          (λ bytes begun now start may s.
          goes-none _ joins bytes _ begun _ _ start _ s h.line c.next.new.self now (rw h.field-0-is at h.ensures.again) (λ going. rw h.field-0-is at (h.ensures.gives.2.hands going begun now may))
          ((rw c.version.ensures at c.in-Ok-None-read_router_act.ensures.ok) ∙ ap Ok c.in-Ok-None-read_router_act.field-0-is)),
      λ e. cc,
    )

pub returns-in-Ok-clause-gives : goal.returns-in-Ok-clause-gives
returns-in-Ok-clause-gives g c =
    let h = c.in-Ok-Some in
    let reading = router_reading c.args.router.now.version in
    let setting = setting_of c.args.router.now in
    let slots = slots_of (g.D.SplitDevice.slot_count c.args.list.now) (g.D.SplitDevice.slot_count c.args.routes.now) in (
      h.ensures.gives.0,
      h.ensures.gives.1,
      λ which.
          let before = outside (g.D.SplitDevice.events c.args.list.now) (g.D.SplitDevice.events c.args.routes.now) (counted which (g.K.Sink.taken c.args.sink.now) (g.K.Sink.accepted c.args.sink.now)) in
          let after = outside (g.D.SplitDevice.events c.apply.new.list) (g.D.SplitDevice.events c.apply.new.routes) (counted which (g.K.Sink.taken c.apply.new.sink) (g.K.Sink.accepted c.apply.new.sink)) in
          let made = c.in-Ok.ensures.acts which c.requires.at in
          rounds-none (router_kind reading setting slots) _ _ _ _ _ _ _ _ _ _ h.ensures.gives.2 (λ bytes left now start may s. grows-of reading setting slots made.effects [] before after made.does)
          (λ bytes begun now start may s.
          goes-on reading setting slots bytes _ begun _ before after start s h.line c.next.new.self now (rw h.field-0-is at h.ensures.again) (λ going. rw h.field-0-is at (h.ensures.gives.2.hands going begun now may))
          _ ((rw c.version.ensures at c.in-Ok-Some-read_router_act.ensures.ok) ∙ ap Ok c.in-Ok-Some-read_router_act.field-0-is) (sym (c.in-Ok.ensures.limit c.requires.stands.idle)) _ made),
      λ e. cc,
    )

pub returns-in-Err-Sink-clause-gives : goal.returns-in-Err-Sink-clause-gives
returns-in-Err-Sink-clause-gives g c =
    let h = c.in-Ok-Some in
    let reading = router_reading c.args.router.now.version in
    let setting = setting_of c.args.router.now in
    let slots = slots_of (g.D.SplitDevice.slot_count c.args.list.now) (g.D.SplitDevice.slot_count c.args.routes.now) in (
      h.ensures.gives.0,
      h.ensures.gives.1,
      λ which.
          let before = outside (g.D.SplitDevice.events c.args.list.now) (g.D.SplitDevice.events c.args.routes.now) (counted which (g.K.Sink.taken c.args.sink.now) (g.K.Sink.accepted c.args.sink.now)) in
          let after = outside (g.D.SplitDevice.events c.apply.new.list) (g.D.SplitDevice.events c.apply.new.routes) (counted which (g.K.Sink.taken c.apply.new.sink) (g.K.Sink.accepted c.apply.new.sink)) in
          let cuts = (rw c.in-Err-Sink.field-0-is at (c.in-Err-Sink.ensures.acts which)) c.requires.at in
          rounds-other (router_kind reading setting slots) _ _ _ _ _ _ _ _ _ _ _ _ h.ensures.gives.2 (λ e. cc) (λ bytes left now start may s. grows-of reading setting slots cuts.front cuts.partial before after cuts.does)
          (λ bytes taken begun now start may parts s.
          exit-line reading setting slots bytes _ begun _ before after start s h.line c.next.new.self now (rw h.field-0-is at h.ensures.again) (λ going. rw h.field-0-is at (h.ensures.gives.2.hands going begun now may))
          _ ((rw c.version.ensures at c.in-Ok-Some-read_router_act.ensures.ok) ∙ ap Ok c.in-Ok-Some-read_router_act.field-0-is) (sym (rw c.in-Err-Sink.field-0-is at (c.in-Err-Sink.ensures.limit c.requires.stands.idle))) taken cuts),
      λ e. cc,
    )

pub returns-in-Err-Device-clause-gives : goal.returns-in-Err-Device-clause-gives
returns-in-Err-Device-clause-gives g c =
    let h = c.in-Ok-Some in
    let reading = router_reading c.args.router.now.version in
    let setting = setting_of c.args.router.now in
    let slots = slots_of (g.D.SplitDevice.slot_count c.args.list.now) (g.D.SplitDevice.slot_count c.args.routes.now) in (
      h.ensures.gives.0,
      h.ensures.gives.1,
      λ which.
          let before = outside (g.D.SplitDevice.events c.args.list.now) (g.D.SplitDevice.events c.args.routes.now) (counted which (g.K.Sink.taken c.args.sink.now) (g.K.Sink.accepted c.args.sink.now)) in
          let after = outside (g.D.SplitDevice.events c.apply.new.list) (g.D.SplitDevice.events c.apply.new.routes) (counted which (g.K.Sink.taken c.apply.new.sink) (g.K.Sink.accepted c.apply.new.sink)) in
          let cuts = (rw c.in-Err-Device.field-0-is at (c.in-Err-Device.ensures.acts which)).1 c.requires.at in
          rounds-other (router_kind reading setting slots) _ _ _ _ _ _ _ _ _ _ _ _ h.ensures.gives.2 (λ e. cc) (λ bytes left now start may s. grows-of reading setting slots cuts.front [] before after cuts.does)
          (λ bytes taken begun now start may parts s.
          exit-part reading setting slots bytes _ begun _ before after start s h.line c.next.new.self now (rw h.field-0-is at h.ensures.again) (λ going. rw h.field-0-is at (h.ensures.gives.2.hands going begun now may))
          _ ((rw c.version.ensures at c.in-Ok-Some-read_router_act.ensures.ok) ∙ ap Ok c.in-Ok-Some-read_router_act.field-0-is) (sym (rw c.in-Err-Device.field-0-is at (c.in-Err-Device.ensures.limit c.requires.stands.idle))) taken _ _ cuts),
      λ _ bytes left now start may s.
          let before = outside (g.D.SplitDevice.events c.args.list.now) (g.D.SplitDevice.events c.args.routes.now) (g.K.Sink.taken c.args.sink.now) in
          let after = outside (g.D.SplitDevice.events c.apply.new.list) (g.D.SplitDevice.events c.apply.new.routes) (g.K.Sink.taken c.apply.new.sink) in
          let cuts = (rw c.in-Err-Device.field-0-is at (c.in-Err-Device.ensures.acts true)).1 c.requires.at in
          due-part reading setting slots bytes _ left _ before after start s h.line c.next.new.self now (rw h.field-0-is at h.ensures.again) (λ going. rw h.field-0-is at (h.ensures.gives.2.hands going left now may))
          _ ((rw c.version.ensures at c.in-Ok-Some-read_router_act.ensures.ok) ∙ ap Ok c.in-Ok-Some-read_router_act.field-0-is) (sym (rw c.in-Err-Device.field-0-is at (c.in-Err-Device.ensures.limit c.requires.stands.idle))) _ _ cuts,
    )

pub returns-in-Err-Memory-clause-gives : goal.returns-in-Err-Memory-clause-gives
returns-in-Err-Memory-clause-gives g c =
    let h = c.in-Ok-Some in
    let reading = router_reading c.args.router.now.version in
    let setting = setting_of c.args.router.now in
    let slots = slots_of (g.D.SplitDevice.slot_count c.args.list.now) (g.D.SplitDevice.slot_count c.args.routes.now) in (
      h.ensures.gives.0,
      h.ensures.gives.1,
      λ which.
          let before = outside (g.D.SplitDevice.events c.args.list.now) (g.D.SplitDevice.events c.args.routes.now) (counted which (g.K.Sink.taken c.args.sink.now) (g.K.Sink.accepted c.args.sink.now)) in
          let after = outside (g.D.SplitDevice.events c.apply.new.list) (g.D.SplitDevice.events c.apply.new.routes) (counted which (g.K.Sink.taken c.apply.new.sink) (g.K.Sink.accepted c.apply.new.sink)) in
          let wants = (rw c.in-Err-Memory.field-0-is at (c.in-Err-Memory.ensures.acts which)) in
          rounds-some (router_kind reading setting slots) _ _ _ _ _ _ _ _ _ _ _ _ h.ensures.gives.2
          (λ bytes left now start may s. grows-of reading setting slots [] [] before after (does-nothing before after wants.1.outside_is))
          (λ bytes taken begun now start may parts s.
          exit-memory reading setting slots bytes _ begun _ before after start s h.line c.next.new.self now (rw h.field-0-is at h.ensures.again) (λ going. rw h.field-0-is at (h.ensures.gives.2.hands going begun now may))
          _ ((rw c.version.ensures at c.in-Ok-Some-read_router_act.ensures.ok) ∙ ap Ok c.in-Ok-Some-read_router_act.field-0-is) (sym (rw c.in-Err-Memory.field-0-is at (c.in-Err-Memory.ensures.limit c.requires.stands.idle))) taken wants.0 wants.1.outside_is)
          (λ memory bytes left now start may s.
          wants-next reading setting slots bytes _ left _ before after start s h.line c.next.new.self now (rw h.field-0-is at h.ensures.again) (λ going. rw h.field-0-is at (h.ensures.gives.2.hands going left now may))
          _ ((rw c.version.ensures at c.in-Ok-Some-read_router_act.ensures.ok) ∙ ap Ok c.in-Ok-Some-read_router_act.field-0-is) (sym (rw c.in-Err-Memory.field-0-is at (c.in-Err-Memory.ensures.limit c.requires.stands.idle))) wants.0 wants.1.outside_is),
      λ e. cc,
    )

pub returns-in-Err-BatchFull-clause-gives : goal.returns-in-Err-BatchFull-clause-gives
returns-in-Err-BatchFull-clause-gives g c =
    let h = c.in-Ok-Some in
    let reading = router_reading c.args.router.now.version in
    let setting = setting_of c.args.router.now in
    let slots = slots_of (g.D.SplitDevice.slot_count c.args.list.now) (g.D.SplitDevice.slot_count c.args.routes.now) in (
      h.ensures.gives.0,
      h.ensures.gives.1,
      λ which.
          let before = outside (g.D.SplitDevice.events c.args.list.now) (g.D.SplitDevice.events c.args.routes.now) (counted which (g.K.Sink.taken c.args.sink.now) (g.K.Sink.accepted c.args.sink.now)) in
          let after = outside (g.D.SplitDevice.events c.apply.new.list) (g.D.SplitDevice.events c.apply.new.routes) (counted which (g.K.Sink.taken c.apply.new.sink) (g.K.Sink.accepted c.apply.new.sink)) in
          let same = (rw c.in-Err-BatchFull.field-0-is at (c.in-Err-BatchFull.ensures.acts which)).outside_is in
          let closes = c.fault-in-Err-BatchFull.ensures.closes.closes which in
          rounds-other (router_kind reading setting slots) _ _ _ _ _ _ _ _ _ _ _ _ h.ensures.gives.2 c.fault-in-Err-BatchFull.ensures.kind.3
          (λ bytes left now start may s. grows-same before after _ _ _ _ same closes)
          (λ bytes taken begun now start may parts s.
          ends-same reading setting slots bytes taken now _ before after start _ same
          (exit-full (router_kind reading setting slots) joins bytes _ begun _ _ start _ s h.line c.next.new.self now (rw h.field-0-is at h.ensures.again) (λ going. rw h.field-0-is at (h.ensures.gives.2.hands going begun now may))
          taken _ _ _ _ ((rw c.version.ensures at c.in-Ok-Some-read_router_act.ensures.ok) ∙ ap Ok c.in-Ok-Some-read_router_act.field-0-is) (sym (rw c.in-Err-BatchFull.field-0-is at (c.in-Err-BatchFull.ensures.limit c.requires.stands.idle))) (closes-same before after _ _ _ _ same closes))),
      λ e. absurd (c.fault-in-Err-BatchFull.ensures.kind.2 (some-same _ _ e)),
    )

pub returns-in-Err-Read-clause-devices : goal.returns-in-Err-Read-clause-devices
returns-in-Err-Read-clause-devices g c = both-still _ _ _ _ _ _ _ (never-fails _ _ (λ e. cc))

pub returns-in-Ok-None-read_router_act-clause-devices : goal.returns-in-Ok-None-read_router_act-clause-devices
returns-in-Ok-None-read_router_act-clause-devices g c = both-still _ _ _ _ _ _ _ (never-fails _ _ (λ e. cc))

pub returns-in-Err-ScriptTooLong-clause-devices : goal.returns-in-Err-ScriptTooLong-clause-devices
returns-in-Err-ScriptTooLong-clause-devices g c = both-still _ _ _ _ _ _ _ (never-fails _ _ (λ e. c.fault.ensures.kind.2 (some-same _ _ e)))

pub returns-in-Err-TooLong-clause-devices : goal.returns-in-Err-TooLong-clause-devices
returns-in-Err-TooLong-clause-devices g c = both-still _ _ _ _ _ _ _ (never-fails _ _ (λ e. c.fault-in-Err-TooLong.ensures.kind.2 (some-same _ _ e)))

pub returns-in-Err-BadByte-clause-devices : goal.returns-in-Err-BadByte-clause-devices
returns-in-Err-BadByte-clause-devices g c = both-still _ _ _ _ _ _ _ (never-fails _ _ (λ e. c.fault-in-Err-BadByte.ensures.kind.2 (some-same _ _ e)))

pub returns-in-Ok-None-clause-devices : goal.returns-in-Ok-None-clause-devices
returns-in-Ok-None-clause-devices g c = both-still _ _ _ _ _ _ _ (never-fails _ _ (λ e. c.finish.ensures.kind.2 (some-same _ _ e)))

pub returns-in-Err-clause-devices : goal.returns-in-Err-clause-devices
returns-in-Err-clause-devices g c = both-still _ _ _ _ _ _ _ (never-fails _ _ (λ e. c.fault-in-Err.ensures.kind.2 (some-same _ _ e)))

pub returns-in-Ok-clause-devices : goal.returns-in-Ok-clause-devices
returns-in-Ok-clause-devices g c =
    both-as _ _ _ _ _ _ _ _ _ _ (fails-as _ _ _ (λ e. cc)) (fails-as _ _ _ (λ e. cc)) (both-of _ _ _ _ _ _ _ _ c.apply.new.self _ c.in-Ok.ensures.list c.in-Ok.ensures.routes)

pub returns-in-Err-Sink-clause-devices : goal.returns-in-Err-Sink-clause-devices
returns-in-Err-Sink-clause-devices g c =
    both-as _ _ _ _ _ _ _ _ _ _ (fails-as _ _ _ (λ e. cc)) (fails-as _ _ _ (λ e. cc)) (both-of _ _ _ _ _ _ _ _ c.apply.new.self _ (rw c.in-Err-Sink.field-0-is at (c.in-Err-Sink.ensures.list)) (rw c.in-Err-Sink.field-0-is at (c.in-Err-Sink.ensures.routes)))

pub returns-in-Err-Memory-clause-devices : goal.returns-in-Err-Memory-clause-devices
returns-in-Err-Memory-clause-devices g c =
    both-as _ _ _ _ _ _ _ _ _ _ (fails-as _ _ _ (λ e. cc)) (fails-as _ _ _ (λ e. cc)) (both-of _ _ _ _ _ _ _ _ c.apply.new.self _ (rw c.in-Err-Memory.field-0-is at (c.in-Err-Memory.ensures.list)) (rw c.in-Err-Memory.field-0-is at (c.in-Err-Memory.ensures.routes)))

pub returns-in-Err-Device-clause-devices : goal.returns-in-Err-Device-clause-devices
returns-in-Err-Device-clause-devices g c =
    both-as _ _ _ _ _ _ _ _ _ _ (fails-as _ _ _ (λ e. refl)) (fails-as _ _ _ (λ e. refl)) (both-of _ _ _ _ _ _ _ _ c.apply.new.self _ (rw c.in-Err-Device.field-0-is at (c.in-Err-Device.ensures.list)) (rw c.in-Err-Device.field-0-is at (c.in-Err-Device.ensures.routes)))

pub returns-in-Err-BatchFull-clause-devices : goal.returns-in-Err-BatchFull-clause-devices
returns-in-Err-BatchFull-clause-devices g c =
    both-as _ _ _ _ _ _ _ _ _ _ (fails-as _ _ _ (λ e. cc)) (fails-as _ _ _ (λ e. absurd (c.fault-in-Err-BatchFull.ensures.kind.2 (some-same _ _ e)))) (both-of _ _ _ _ _ _ _ _ c.apply.new.self _ (rw c.in-Err-BatchFull.field-0-is at (c.in-Err-BatchFull.ensures.list)) (rw c.in-Err-BatchFull.field-0-is at (c.in-Err-BatchFull.ensures.routes)))

pub returns-in-Err-Read-clause-write : goal.returns-in-Err-Read-clause-write
returns-in-Err-Read-clause-write g c = not-counted _ _ (λ e. cc)

pub returns-in-Ok-None-read_router_act-clause-write : goal.returns-in-Ok-None-read_router_act-clause-write
returns-in-Ok-None-read_router_act-clause-write g c = not-counted _ _ (λ e. cc)

pub returns-in-Err-ScriptTooLong-clause-write : goal.returns-in-Err-ScriptTooLong-clause-write
returns-in-Err-ScriptTooLong-clause-write g c = some-counted _ _ _ _ c.fault.ensures.closes.cause

pub returns-in-Err-ScriptTooLong-clause-told : goal.returns-in-Err-ScriptTooLong-clause-told
returns-in-Err-ScriptTooLong-clause-told g c = c.fault.ensures.closes.told

pub returns-in-Err-TooLong-clause-write : goal.returns-in-Err-TooLong-clause-write
returns-in-Err-TooLong-clause-write g c = some-counted _ _ _ _ c.fault-in-Err-TooLong.ensures.closes.cause

pub returns-in-Err-TooLong-clause-told : goal.returns-in-Err-TooLong-clause-told
returns-in-Err-TooLong-clause-told g c = c.fault-in-Err-TooLong.ensures.closes.told

pub returns-in-Err-BadByte-clause-write : goal.returns-in-Err-BadByte-clause-write
returns-in-Err-BadByte-clause-write g c = some-counted _ _ _ _ c.fault-in-Err-BadByte.ensures.closes.cause

pub returns-in-Err-BadByte-clause-told : goal.returns-in-Err-BadByte-clause-told
returns-in-Err-BadByte-clause-told g c = c.fault-in-Err-BadByte.ensures.closes.told

pub returns-in-Ok-None-clause-write : goal.returns-in-Ok-None-clause-write
returns-in-Ok-None-clause-write g c = some-counted _ _ _ _ c.finish.ensures.closes.cause

pub returns-in-Ok-None-clause-told : goal.returns-in-Ok-None-clause-told
returns-in-Ok-None-clause-told g c = c.finish.ensures.closes.told

pub returns-in-Err-clause-write : goal.returns-in-Err-clause-write
returns-in-Err-clause-write g c = some-counted _ _ _ _ c.fault-in-Err.ensures.closes.cause

pub returns-in-Err-clause-told : goal.returns-in-Err-clause-told
returns-in-Err-clause-told g c = c.fault-in-Err.ensures.closes.told

pub returns-in-Ok-clause-write : goal.returns-in-Ok-clause-write
returns-in-Ok-clause-write g c = counted-as _ _ _ _ (λ e. cc) (λ e. cc) c.in-Ok.ensures.cause

pub returns-in-Err-Device-clause-write : goal.returns-in-Err-Device-clause-write
returns-in-Err-Device-clause-write g c = counted-as _ _ _ _ (λ e. cc) (λ e. cc) (rw c.in-Err-Device.field-0-is at (c.in-Err-Device.ensures.cause))

pub returns-in-Err-Memory-clause-write : goal.returns-in-Err-Memory-clause-write
returns-in-Err-Memory-clause-write g c = counted-as _ _ _ _ (λ e. cc) (λ e. cc) (rw c.in-Err-Memory.field-0-is at (c.in-Err-Memory.ensures.cause))

pub returns-in-Err-Sink-clause-write : goal.returns-in-Err-Sink-clause-write
returns-in-Err-Sink-clause-write g c = counted-as _ _ _ _ (λ e. refl) (λ e. refl) (rw c.in-Err-Sink.field-0-is at (c.in-Err-Sink.ensures.cause))

pub returns-in-Err-BatchFull-clause-write : goal.returns-in-Err-BatchFull-clause-write
returns-in-Err-BatchFull-clause-write g c =
    counted-then _ _ _ _ _ (λ e. cc) (rw c.in-Err-BatchFull.field-0-is at (c.in-Err-BatchFull.ensures.cause)) (some-counted _ _ _ _ c.fault-in-Err-BatchFull.ensures.closes.cause)

pub returns-in-Err-BatchFull-clause-told : goal.returns-in-Err-BatchFull-clause-told
returns-in-Err-BatchFull-clause-told g c = λ some. c.fault-in-Err-BatchFull.ensures.closes.told (c.in-Err-BatchFull.ensures.told some)

pub returns-in-Ok-clause-slots : goal.returns-in-Ok-clause-slots
returns-in-Ok-clause-slots g c =
    rw (c.in-Ok.ensures.list.slot_count, c.in-Ok.ensures.routes.slot_count) (fits-next c.args.router.now c.apply.new.self _ c.alike.ensures c.alike-in-Ok.ensures c.in-Ok.ensures.setting c.requires.slots)

pub returns-in-Ok-clause-at : goal.returns-in-Ok-clause-at
returns-in-Ok-clause-at g c = c.in-Ok.ensures.in_step c.requires.at

-- no commit is unfinished
pub unreachable-requires : goal.unreachable-requires
unreachable-requires g c = rw (c.in-Err-Held.field-0-is, c.requires.stands.idle.listed, c.requires.stands.idle.routed) at c.in-Err-Held.ensures.held
