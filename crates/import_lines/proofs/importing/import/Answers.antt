use Rattle.std.proofs.Common.{true, [], ◌++◌, refl, ◌∙◌, arith}
use Rattle.std.proofs.KnownBytes.{Appends-nil, Appends-trans}
use Rattle.script_lines.proofs.Turns.{gives-none, gives-trans, no-more}
use Rattle.import_lines.proofs.Whole.{new-anew, rounds-first, rounds-next, rounds-last, rounds-none, counted-last, none-counted}
use Rattle.import_lines.proofs.importing.import.Goals as goal

pub rounds-init : goal.rounds-init
rounds-init g c = record {
  anew = new-anew _ c.new-lines.ensures;
  below = omega arith;
  gives = ([], gives-none _ _, λ which. ([], Appends-nil _, rounds-first _ _ _ _ _ _ c.new-lines.ensures refl));
  reads = refl;
  writes = refl;
}

pub rounds-preserved : goal.rounds-preserved
rounds-preserved g c =
    let i = c.rounds.invariant in
    let t = c.in-Ok.ensures in
    let ended = (i.gives.2 true).2.ended in
    record {
      anew = t.anew;
      below = omega (arith, t.below);
      gives = (
        i.gives.0 ++ t.gives.0,
        gives-trans _ _ _ _ _ _ i.gives.0 t.gives.0 i.gives.1 t.gives.1 (λ e. (t.gives.2 true).2.rests (no-more _ (ended e))) (λ e. t.rests (no-more _ (ended e))),
        λ which. (
          (i.gives.2 which).0 ++ (t.gives.2 which).0,
          Appends-trans _ _ _ _ _ (i.gives.2 which).1 (t.gives.2 which).1,
          rounds-next _ _ _ _ i.gives.0 t.gives.0 _ _ _ _ _ _ _ (i.gives.2 which).2 _ (t.gives.2 which).2,
        ),
      );
      reads = t.read.stayed (λ e. cc) ∙ i.reads;
      writes = t.written.stayed (λ e. cc) ∙ i.writes;
    }

pub returns-in-Err-clause-imports : goal.returns-in-Err-clause-imports
returns-in-Err-clause-imports g c =
    let i = c.rounds.invariant in
    let t = c.in-Err.ensures in
    let ended = (i.gives.2 true).2.ended in (
      i.gives.0 ++ t.gives.0,
      gives-trans _ _ _ _ _ _ i.gives.0 t.gives.0 i.gives.1 t.gives.1 (λ e. (t.gives.2 true).2.rests (no-more _ (ended e))) (λ e. t.rests (no-more _ (ended e))),
      λ which. rounds-last _ _ _ _ i.gives.0 t.gives.0 _ _ _ _ _ _ _ (i.gives.2 which).2 _ _ _ _ (t.gives.2 which).2 (i.gives.2 which).1 (t.gives.2 which).1,
    )

pub returns-in-Err-clause-read : goal.returns-in-Err-clause-read
returns-in-Err-clause-read g c = counted-last _ _ _ _ _ c.rounds.invariant.reads c.in-Err.ensures.read

pub returns-in-Err-clause-written : goal.returns-in-Err-clause-written
returns-in-Err-clause-written g c = counted-last _ _ _ _ _ c.rounds.invariant.writes c.in-Err.ensures.written

pub returns-then-number-clause-imports : goal.returns-then-number-clause-imports
returns-then-number-clause-imports g c =
    let i = c.rounds.invariant in
    let t = c.in-Ok.ensures in
    let ended = (i.gives.2 true).2.ended in (
      i.gives.0 ++ t.gives.0,
      gives-trans _ _ _ _ _ _ i.gives.0 t.gives.0 i.gives.1 t.gives.1 (λ e. (t.gives.2 true).2.rests (no-more _ (ended e))) (λ e. t.rests (no-more _ (ended e))),
      λ which. rounds-none _ _ _ _ _ _ _ _ _ _ _
          (rounds-next _ _ _ _ i.gives.0 t.gives.0 _ _ _ _ _ _ _ (i.gives.2 which).2 _ (t.gives.2 which).2)
          (Appends-trans _ _ _ _ _ (i.gives.2 which).1 (t.gives.2 which).1),
    )

pub returns-then-number-clause-read : goal.returns-then-number-clause-read
returns-then-number-clause-read g c = none-counted _ _ _ (λ e. cc) (c.in-Ok.ensures.read.stayed (λ e. cc) ∙ c.rounds.invariant.reads)

pub returns-then-number-clause-written : goal.returns-then-number-clause-written
returns-then-number-clause-written g c = none-counted _ _ _ (λ e. cc) (c.in-Ok.ensures.written.stayed (λ e. cc) ∙ c.rounds.invariant.writes)
