use Rattle.std.proofs.Common.{[], refl, ◌++◌, ◌∷◌, ◌∙◌, arith}
use Rattle.std.proofs.KnownBytes.{Appends-nil}
use Rattle.script_lines.proofs.Turns.{gives-none}
use Rattle.fpm_frames.specs.Imported.{first_standing}
use Rattle.fpm_frames.proofs.Reading.{gives-more, on-both}
use Rattle.fpm_frames.proofs.Telling.{rounds-next, written-next, rounds-last, rounds-none, counted-last, none-counted}
use Rattle.fpm_frames.proofs.importing.import_frames.Goals as goal

pub loop-left-init : goal.loop-left-init
loop-left-init g c = record {
  below = omega arith;
  room = refl;
  gives = ([], gives-none _ _, (λ e. e), λ which. ([], record { are = tt; came = refl; at_is = refl; goes_on = λ e. e }, Appends-nil _));
  reads = refl;
  writes = refl;
}

pub round-requires : goal.round-requires
round-requires g c =
    let i = c.loop-left.invariant in
    record { below = i.below; room = omega (arith, i.room, c.loop-left-test.true) }

pub loop-left-preserved : goal.loop-left-preserved
loop-left-preserved g c =
    let i = c.loop-left.invariant in
    let t = c.in-Ok.ensures in
    record {
      below = t.below;
      room = omega (arith, i.room, t.number);
      gives = (
        i.gives.0 ++ t.gives.0,
        gives-more _ _ _ _ _ _ i.gives.0 t.gives.0 i.gives.1 i.gives.2 t.gives.1,
        on-both i.gives.0 t.gives.0 i.gives.2 t.gives.2,
        λ which. (
          (t.gives.3 which).0 ∷ (i.gives.3 which).0,
          rounds-next _ _ _ _ _ i.gives.0 t.gives.0 (i.gives.3 which).0 (i.gives.3 which).1 _ _ t.gives.2 (t.gives.3 which),
          written-next _ _ _ _ _ i.gives.0 t.gives.0 (i.gives.3 which).0 (i.gives.3 which).1 _ _ _ (t.gives.3 which) (i.gives.3 which).2,
        ),
      );
      reads = t.read.stayed (λ e. cc) ∙ i.reads;
      writes = t.written.stayed (λ e. cc) ∙ i.writes;
    }

pub returns-in-Err-clause-imports : goal.returns-in-Err-clause-imports
returns-in-Err-clause-imports g c =
    let i = c.loop-left.invariant in
    let t = c.in-Err.ensures in (
      i.gives.0 ++ t.gives.0,
      gives-more _ _ _ _ _ _ i.gives.0 t.gives.0 i.gives.1 i.gives.2 t.gives.1,
      λ which. rounds-last _ _ _ _ (first_standing c.args.leave_out c.args.format) i.gives.0 t.gives.0 (i.gives.3 which).0 (i.gives.3 which).1 _ _ _ _ (t.gives.3 which) (i.gives.3 which).2,
    )

pub returns-in-Err-clause-read : goal.returns-in-Err-clause-read
returns-in-Err-clause-read g c = counted-last _ _ _ _ _ c.loop-left.invariant.reads c.in-Err.ensures.read

pub returns-in-Err-clause-written : goal.returns-in-Err-clause-written
returns-in-Err-clause-written g c = counted-last _ _ _ _ _ c.loop-left.invariant.writes c.in-Err.ensures.written

pub returns-clause-imports : goal.returns-clause-imports
returns-clause-imports g c =
    let i = c.loop-left.invariant in
    (i.gives.0, i.gives.1, λ which. rounds-none _ _ _ _ i.gives.0 (i.gives.3 which).0 _ _ (i.gives.3 which).1 (i.gives.3 which).2)

pub returns-clause-read : goal.returns-clause-read
returns-clause-read g c = none-counted _ _ _ (λ e. cc) c.loop-left.invariant.reads

pub returns-clause-written : goal.returns-clause-written
returns-clause-written g c = none-counted _ _ _ (λ e. cc) c.loop-left.invariant.writes
