use Rattle.std.proofs.KnownBytes.{Appends-nil}
use Rattle.import_lines.specs.Import.{telling}
use Rattle.import_lines.proofs.Rounds.{no-script-end, line-anew, err-other, counted-other, round-read, round-too-long, round-bad-byte, round-end, round-line}
use Rattle.import_lines.proofs.Tells.{err-counted}
use Rattle.import_lines.proofs.importing.Importing.round.Goals as goal

pub returns-in-Err-Read-clause-gives : goal.returns-in-Err-Read-clause-gives
returns-in-Err-Read-clause-gives g c =
    let h = c.in-Err-Read in
    let by = rw h.field-0-is at h.ensures.gives.2 in
    let again = rw h.field-0-is at h.ensures.again in
    (h.ensures.gives.0, h.ensures.gives.1, λ which. round-read _ (telling g.F.LineFormat.told g.F.LineFormat.behind g.F.LineFormat.closing) c.args.lines.now _ c.args.number c.args.self.now _ _ c.requires.anew _ _ _ by again (Appends-nil _))

pub unreachable-requires : goal.unreachable-requires
unreachable-requires g c =
    let h = c.in-Err-ScriptTooLong in
    let by = rw h.field-0-is at h.ensures.gives.2 in
    let again = rw h.field-0-is at h.ensures.again in
    no-script-end _ _ _ _ c.requires.anew by again

pub returns-in-Err-TooLong-clause-gives : goal.returns-in-Err-TooLong-clause-gives
returns-in-Err-TooLong-clause-gives g c =
    let h = c.in-Err-TooLong in
    let by = rw h.field-0-is at h.ensures.gives.2 in
    let again = rw h.field-0-is at h.ensures.again in
    (h.ensures.gives.0, h.ensures.gives.1, λ which. round-too-long _ (telling g.F.LineFormat.told g.F.LineFormat.behind g.F.LineFormat.closing) c.args.lines.now _ c.args.number c.args.self.now _ _ c.requires.anew _ _ _ _ _ by again (c.stop.ensures.stops which))

pub returns-in-Err-BadByte-clause-gives : goal.returns-in-Err-BadByte-clause-gives
returns-in-Err-BadByte-clause-gives g c =
    let h = c.in-Err-BadByte in
    let by = rw h.field-0-is at h.ensures.gives.2 in
    let again = rw h.field-0-is at h.ensures.again in
    (h.ensures.gives.0, h.ensures.gives.1, λ which. round-bad-byte _ (telling g.F.LineFormat.told g.F.LineFormat.behind g.F.LineFormat.closing) c.args.lines.now _ c.args.number c.args.self.now _ _ c.requires.anew _ _ _ _ _ by again (c.stop-in-Err-BadByte.ensures.stops which))

pub returns-in-Ok-None-clause-gives : goal.returns-in-Ok-None-clause-gives
returns-in-Ok-None-clause-gives g c =
    let h = c.in-Ok-None in
    let by = rw h.field-0-is at h.ensures.gives.2 in
    (h.ensures.gives.0, h.ensures.gives.1, λ which. round-end _ (telling g.F.LineFormat.told g.F.LineFormat.behind g.F.LineFormat.closing) c.args.lines.now _ c.args.number c.args.self.now _ _ c.requires.anew _ _ _ _ by (c.close.ensures.closes which))

pub returns-clause-gives : goal.returns-clause-gives
returns-clause-gives g c =
    let h = c.in-Ok-Some in
    let by = rw h.field-0-is at h.ensures.gives.2 in
    let again = rw h.field-0-is at h.ensures.again in
    (h.ensures.gives.0, h.ensures.gives.1, λ which. round-line _ (telling g.F.LineFormat.told g.F.LineFormat.behind g.F.LineFormat.closing) c.args.lines.now _ c.args.number c.args.self.now _ _ c.requires.anew _ _ _ _ _ c.begin_anew.ensures by again (c.tell.ensures.tells which))

pub returns-clause-anew : goal.returns-clause-anew
returns-clause-anew g c = line-anew c.next.new.self _ c.in-Ok-Some.line c.tell.result c.begin_anew.ensures (rw c.in-Ok-Some.field-0-is at c.in-Ok-Some.ensures.stays)

pub returns-in-Err-TooLong-clause-read : goal.returns-in-Err-TooLong-clause-read
returns-in-Err-TooLong-clause-read g c = counted-other _ _ _ _ (err-other c.stop.result c.stop.ensures.kind) (λ e. cc) (rw c.in-Err-TooLong.field-0-is at c.in-Err-TooLong.ensures.cause)

pub returns-in-Err-BadByte-clause-read : goal.returns-in-Err-BadByte-clause-read
returns-in-Err-BadByte-clause-read g c =
    counted-other _ _ _ _ (err-other c.stop-in-Err-BadByte.result c.stop-in-Err-BadByte.ensures.kind) (λ e. cc) (rw c.in-Err-BadByte.field-0-is at c.in-Err-BadByte.ensures.cause)

pub returns-in-Ok-None-clause-read : goal.returns-in-Ok-None-clause-read
returns-in-Ok-None-clause-read g c = counted-other _ _ _ _ (err-other c.close.result c.close.ensures.kind) (λ e. cc) (rw c.in-Ok-None.field-0-is at c.in-Ok-None.ensures.cause)

pub returns-clause-read : goal.returns-clause-read
returns-clause-read g c = counted-other _ _ _ _ c.tell.ensures.kind (λ e. cc) (rw c.in-Ok-Some.field-0-is at c.in-Ok-Some.ensures.cause)

pub returns-in-Err-TooLong-clause-written : goal.returns-in-Err-TooLong-clause-written
returns-in-Err-TooLong-clause-written g c = err-counted _ _ _ _ c.stop.ensures.written

pub returns-in-Err-BadByte-clause-written : goal.returns-in-Err-BadByte-clause-written
returns-in-Err-BadByte-clause-written g c = err-counted _ _ _ _ c.stop-in-Err-BadByte.ensures.written

pub returns-in-Ok-None-clause-written : goal.returns-in-Ok-None-clause-written
returns-in-Ok-None-clause-written g c = err-counted _ _ _ _ c.close.ensures.written
