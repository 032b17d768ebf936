use Rattle.std.proofs.Common.{[], refl, sym, ap, ◌∙◌, subst, true}
use Rattle.std.proofs.KnownBytes.{Appends-nil}
use Rattle.fpm_frames.specs.Frames.{IsFrame}
use Rattle.fpm_frames.specs.Imported.{Standing, telling}
use Rattle.fpm_frames.proofs.Telling.{always, round-fault, round-frame, round-end, round-cut, round-unknown, writes-no}
use Rattle.fpm_frames.proofs.importing.Importing.round.Goals as goal

pub tell-requires : goal.tell-requires
tell-requires g c =
    let by = rw c.in-Frame.is at c.in-Ok.ensures.reads.2 in
    record { whole = subst IsFrame (sym c.as_slice.ensures.value) by.1.0; below = c.requires.below; room = c.requires.room }

pub returns-in-Err-Fault-clause-gives : goal.returns-in-Err-Fault-clause-gives
returns-in-Err-Fault-clause-gives g c =
    let h = c.in-Err-Fault in
    let by = rw h.field-0-is at h.ensures.reads.2 in
    (h.ensures.reads.0, h.ensures.reads.1, tt, λ which. round-fault _ (telling g.F.FrameFormat.told g.F.FrameFormat.behind) c.args.self.now c.args.self.now h.ensures.reads.0 [] _ by)

pub returns-in-Err-Memory-clause-gives : goal.returns-in-Err-Memory-clause-gives
returns-in-Err-Memory-clause-gives g c =
    let h = c.in-Err-Memory in
    (h.ensures.reads.0, h.ensures.reads.1, tt, λ which. ([], refl, Appends-nil _))

pub returns-in-Frame-clause-gives : goal.returns-in-Frame-clause-gives
returns-in-Frame-clause-gives g c =
    let x = c.in-Ok.ensures.reads in
    let by = rw c.in-Frame.is at x.2 in
    (x.0, x.1, always _ _ by.1.1, λ which. round-frame _ (telling g.F.FrameFormat.told g.F.FrameFormat.behind) c.args.self.now _ x.0 _ _ _ _ _ c.as_slice.ensures.value by (c.tell.ensures.tells which x.0))

pub returns-in-End-clause-gives : goal.returns-in-End-clause-gives
returns-in-End-clause-gives g c =
    let x = c.in-Ok.ensures.reads in
    let by = rw c.in-End.is at x.2 in
    (x.0, x.1, writes-no _ _ _ _ _ _ (c.close.ensures.closes true), λ which. round-end _ (telling g.F.FrameFormat.told g.F.FrameFormat.behind) c.args.self.now _ x.0 _ _ _ _ _ (ap (λ (a : Standing _). a.left_out) c.self.view_is) by (c.close.ensures.closes which))

pub returns-in-Cut-clause-gives : goal.returns-in-Cut-clause-gives
returns-in-Cut-clause-gives g c =
    let x = c.in-Ok.ensures.reads in
    let by = rw c.in-Cut.is at x.2 in
    (x.0, x.1, writes-no _ _ _ _ _ _ (c.stop.ensures.stops true), λ which. round-cut _ (telling g.F.FrameFormat.told g.F.FrameFormat.behind) c.args.self.now _ x.0 _ _ _ _ _ (ap (λ (a : Standing _). a.number) c.self-in-Cut.view_is) by (c.stop.ensures.stops which))

pub returns-in-Unknown-clause-gives : goal.returns-in-Unknown-clause-gives
returns-in-Unknown-clause-gives g c =
    let x = c.in-Ok.ensures.reads in
    let by = rw c.in-Unknown.is at x.2 in
    (x.0, x.1, writes-no _ _ _ _ _ _ (c.stop-in-Unknown.ensures.stops true), λ which. round-unknown _ (telling g.F.FrameFormat.told g.F.FrameFormat.behind) c.args.self.now _ x.0 _ _ _ _ _ c.in-Unknown.header _ (ap (λ (a : Standing _). a.number) c.self-in-Unknown.view_is) (c.as_bytes.ensures.value ∙ c.why.ensures) by (c.stop-in-Unknown.ensures.stops which))

pub returns-in-End-clause-number : goal.returns-in-End-clause-number
returns-in-End-clause-number g c = writes-no _ _ _ _ _ _ (c.close.ensures.closes true)

pub returns-in-Cut-clause-number : goal.returns-in-Cut-clause-number
returns-in-Cut-clause-number g c = writes-no _ _ _ _ _ _ (c.stop.ensures.stops true)

pub returns-in-Unknown-clause-number : goal.returns-in-Unknown-clause-number
returns-in-Unknown-clause-number g c = writes-no _ _ _ _ _ _ (c.stop-in-Unknown.ensures.stops true)
