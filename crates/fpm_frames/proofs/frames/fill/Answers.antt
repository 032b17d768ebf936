use Rattle.std.proofs.Common.{refl, arith, ◌∙◌, ◌++◌, ◌-◌}
use Rattle.fpm_frames.proofs.Reading.{read-none, read-more, fills-end, fills-failed, grown-by, wanted-by}
use Rattle.fpm_frames.proofs.Telling.{counted-err}
use Rattle.fpm_frames.proofs.frames.fill.Goals as goal

pub reads-init : goal.reads-init
reads-init g c = record { read = read-none _ _ _; within = c.requires; faults = refl }

pub reads-preserved : goal.reads-preserved
reads-preserved g c =
    let i = c.reads.invariant in
    let x = c.in-Ok.ensures in
    let grown = grown-by _ _ _ _ x.gains.0 c.if-read-eq0.false x.gains.2 in
    let most = wanted-by _ _ _ _ x.gains.0 c.if-read-eq0.false x.gains.2 in
    record {
      read = read-more _ _ _ _ _ _ _ _ _ _ i.read x.gains.0 x.gains.1 _ c.if-read-eq0.false x.gains.2;
      within = omega (arith, i.within, grown, most);
      faults = x.cause.stayed (λ e. cc) ∙ i.faults;
    }

pub returns-in-Err-clause-fills : goal.returns-in-Err-clause-fills
returns-in-Err-clause-fills g c =
    let i = c.reads.invariant in
    let x = c.in-Err.ensures in
    let done = fills-failed _ _ _ _ _ _ _ _ c.read_some.new.room.items (c.args.goal - c.len-held.result) i.read x.gains.0 x.gains.1 _ _ x.gains.2 i.within (λ e. c.if-held-goal.false (omega (arith, e, c.len-held.ensures, c.reads.room.ok.0))) in
    (i.read.pieces ++ x.gains.0, done.0, done.1)

pub returns-then-read-eq0-clause-fills : goal.returns-then-read-eq0-clause-fills
returns-then-read-eq0-clause-fills g c =
    let i = c.reads.invariant in
    let x = c.in-Ok.ensures in
    let done = fills-end _ _ _ _ _ _ _ _ _ _ i.read x.gains.0 x.gains.1 _ _ c.if-read-eq0.true x.gains.2 i.within (λ e. c.if-held-goal.false (omega (arith, e, c.len-held.ensures, c.reads.room.ok.0))) in
    (i.read.pieces ++ x.gains.0, done.0, done.1)

pub returns-then-held-goal-clause-fills : goal.returns-then-held-goal-clause-fills
returns-then-held-goal-clause-fills g c =
    let i = c.reads.invariant in
    (i.read.pieces, i.read.gives, (i.read.grown, omega (arith, c.len-held.ensures, c.if-held-goal.true, c.reads.room.ok.0), i.read.goes_on))

pub returns-in-Err-clause-cause : goal.returns-in-Err-clause-cause
returns-in-Err-clause-cause g c = counted-err _ _ _ _ _ _ _ c.reads.invariant.faults c.in-Err.ensures.cause
