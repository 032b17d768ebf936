use Rattle.std.proofs.Common.{refl, sym, subst}
use Rattle.script_lines.specs.Lines.{numbered}
use Rattle.script_runs.proofs.Rounds.{rests-same}
use Rattle.router_reader.specs.Readings.{router_reading}
use Rattle.explain_router.specs.declared.Counts.{Counts}
use Rattle.explain_router.specs.Explained.{IsStanding}
use Rattle.explain_router.proofs.Failures.{counted-err, counted-ok, not-counted, some-counted}
use Rattle.explain_router.proofs.Rounds.{byte-wrong, end-right, finish-right, rounds-ends, rounds-goes, stands-by, stop-right}
use Rattle.explain_router.proofs.round.Goals as goal

pub returns-in-Err-Read-clause-gives : goal.returns-in-Err-Read-clause-gives
returns-in-Err-Read-clause-gives g c =
    let h = c.in-Err-Read in
    (h.ensures.gives.0, h.ensures.gives.1, rounds-ends _ _ _ _ _ _ _ _ _ h.ensures.gives.2 (λ bytes left now may s. tt))

pub returns-in-Err-ScriptTooLong-clause-gives : goal.returns-in-Err-ScriptTooLong-clause-gives
returns-in-Err-ScriptTooLong-clause-gives g c =
    let h = c.in-Err-ScriptTooLong in (
      h.ensures.gives.0,
      h.ensures.gives.1,
      rounds-ends _ _ _ _ _ _ _ _ _ h.ensures.gives.2 (λ bytes left now may s.
          stop-right c.args.wanted bytes now _ c.stop.ensures.kind
          (byte-wrong c.args.counts.now.wrong c.args.wanted bytes _ left c.args.counts.now _ _ _ refl s (rw h.field-0-is at h.ensures.again) (λ going. rw h.field-0-is at (h.ensures.gives.2.hands going left now may)))),
    )

pub returns-in-Err-TooLong-clause-gives : goal.returns-in-Err-TooLong-clause-gives
returns-in-Err-TooLong-clause-gives g c =
    let h = c.in-Err-TooLong in (
      h.ensures.gives.0,
      h.ensures.gives.1,
      rounds-ends _ _ _ _ _ _ _ _ _ h.ensures.gives.2 (λ bytes left now may s.
          stop-right c.args.wanted bytes now _ c.stop-in-Err-TooLong.ensures.kind
          (byte-wrong c.args.counts.now.wrong c.args.wanted bytes _ left c.args.counts.now _ _ _ refl s (rw h.field-0-is at h.ensures.again) (λ going. rw h.field-0-is at (h.ensures.gives.2.hands going left now may)))),
    )

pub returns-in-Err-BadByte-clause-gives : goal.returns-in-Err-BadByte-clause-gives
returns-in-Err-BadByte-clause-gives g c =
    let h = c.in-Err-BadByte in (
      h.ensures.gives.0,
      h.ensures.gives.1,
      rounds-ends _ _ _ _ _ _ _ _ _ h.ensures.gives.2 (λ bytes left now may s.
          stop-right c.args.wanted bytes now _ c.stop-in-Err-BadByte.ensures.kind
          (byte-wrong c.args.counts.now.wrong c.args.wanted bytes _ left c.args.counts.now _ _ _ refl s (rw h.field-0-is at h.ensures.again) (λ going. rw h.field-0-is at (h.ensures.gives.2.hands going left now may)))),
    )

pub returns-in-Ok-None-clause-gives : goal.returns-in-Ok-None-clause-gives
returns-in-Ok-None-clause-gives g c =
    let h = c.in-Ok-None in (
      h.ensures.gives.0,
      h.ensures.gives.1,
      rounds-ends _ _ _ _ _ _ _ _ _ h.ensures.gives.2 (λ bytes left now may s.
          finish-right c.args.wanted bytes now _ _ c.finish.ensures.kind
          (end-right c.args.counts.now.wrong c.args.wanted bytes _ left now c.args.counts.now s
          (λ going. let hands = rw h.field-0-is at (h.ensures.gives.2.hands going left now may) in (hands.0, hands.1))
          (λ other. rests-same _ _ _ _ left now h.ensures.gives.2 may other))),
    )

pub returns-in-Err-clause-gives : goal.returns-in-Err-clause-gives
returns-in-Err-clause-gives g c =
    let h = c.in-Ok-Some in
    (h.ensures.gives.0, h.ensures.gives.1, rounds-ends _ _ _ _ _ _ _ _ _ h.ensures.gives.2 (λ bytes left now may s. tt))

pub returns-clause-gives : goal.returns-clause-gives
returns-clause-gives g c =
    let h = c.in-Ok-Some in
    (h.ensures.gives.0, h.ensures.gives.1, rounds-ends _ _ _ _ _ _ _ _ _ h.ensures.gives.2 (λ bytes left now may s. tt))

pub returns-in-Ok-write_text-clause-gives : goal.returns-in-Ok-write_text-clause-gives
returns-in-Ok-write_text-clause-gives g c =
    let h = c.in-Ok-Some in (
      h.ensures.gives.0,
      h.ensures.gives.1,
      rounds-goes _ _ _ _ _ _ _ h.ensures.gives.2 (λ bytes left now may s.
          subst (λ (n : Counts). IsStanding c.args.wanted bytes c.next.new.self now n) (sym c.in-Ok.ensures.next)
          (stands-by c.args.wanted bytes _ left (numbered h.line) c.next.new.self now c.args.counts.now (λ going. rw h.field-0-is at (h.ensures.gives.2.hands going left now may))
          c.args.counts.now.wrong h.line (router_reading c.args.wanted.version (numbered h.line).text) refl s (rw h.field-0-is at h.ensures.again) refl)),
    )

-- ---- failures of the sink

pub returns-in-Err-Read-clause-write : goal.returns-in-Err-Read-clause-write
returns-in-Err-Read-clause-write g c = not-counted _ _ (λ e. cc)

pub returns-in-Err-ScriptTooLong-clause-write : goal.returns-in-Err-ScriptTooLong-clause-write
returns-in-Err-ScriptTooLong-clause-write g c = some-counted _ _ _ _ c.stop.ensures.write

pub returns-in-Err-TooLong-clause-write : goal.returns-in-Err-TooLong-clause-write
returns-in-Err-TooLong-clause-write g c = some-counted _ _ _ _ c.stop-in-Err-TooLong.ensures.write

pub returns-in-Err-BadByte-clause-write : goal.returns-in-Err-BadByte-clause-write
returns-in-Err-BadByte-clause-write g c = some-counted _ _ _ _ c.stop-in-Err-BadByte.ensures.write

pub returns-in-Ok-None-clause-write : goal.returns-in-Ok-None-clause-write
returns-in-Ok-None-clause-write g c = some-counted _ _ _ _ c.finish.ensures.write

pub returns-in-Err-clause-write : goal.returns-in-Err-clause-write
returns-in-Err-clause-write g c = not-counted _ _ (λ e. cc)

pub returns-clause-write : goal.returns-clause-write
returns-clause-write g c = counted-err _ _ _ _ c.in-Err-write_text.ensures.cause refl

pub returns-in-Ok-write_text-clause-write : goal.returns-in-Ok-write_text-clause-write
returns-in-Ok-write_text-clause-write g c = counted-ok _ _ _ _ c.in-Ok-write_text.ensures.cause (λ e. cc)
