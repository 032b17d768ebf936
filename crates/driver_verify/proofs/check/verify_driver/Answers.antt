use Rattle.std.proofs.Common.{[], ◌++◌, refl, ap, ◌∙◌}
use Rattle.script_lines.proofs.Turns.{gives-none, gives-trans, no-more}
use Rattle.line_judge.specs.Followed.{Followed}
use Rattle.trace_verify.proofs.Whole.{new-anew, none-counted}
use Rattle.driver_verify.proofs.Whole.{stands-first, memory-told, stays, rounds-next, rounds-last, counted-last}
use Rattle.driver_verify.proofs.check.verify_driver.Goals as goal

pub returns-in-Err-clause-gives : goal.returns-in-Err-clause-gives
returns-in-Err-clause-gives g c = ([], gives-none _ _, memory-told c.args.by [])

pub rounds-init : goal.rounds-init
rounds-init g c = record {
  anew = new-anew _ c.new-lines.ensures;
  gives = (
    [],
    gives-none _ _,
    record {
      by_is = ap (λ (j : Followed). j.by) c.in-Ok.ensures;
      ended = λ e. absurd e;
      stands = λ text now may. stands-first c.args.by _ _ text now c.new-lines.ensures c.in-Ok.ensures may;
    },
  );
  reads = refl;
}

pub rounds-preserved : goal.rounds-preserved
rounds-preserved g c =
    let i = c.rounds.invariant in
    let t = c.in-Ok-round.ensures in
    record {
      anew = t.anew;
      gives = (
        i.gives.0 ++ t.gives.0,
        gives-trans _ _ _ _ _ _ i.gives.0 t.gives.0 i.gives.1 t.gives.1 (stays _ _ _ _ _ _ _ _ i.gives.2 t.gives.2) (λ e. t.rests (no-more _ (i.gives.2.ended e))),
        rounds-next _ _ _ _ _ _ _ _ i.gives.2 t.gives.2,
      );
      reads = t.read.stayed (λ e. cc) ∙ i.reads;
    }

pub returns-in-Err-round-clause-gives : goal.returns-in-Err-round-clause-gives
returns-in-Err-round-clause-gives g c =
    let i = c.rounds.invariant in
    let t = c.in-Err-round.ensures in (
      i.gives.0 ++ t.gives.0,
      gives-trans _ _ _ _ _ _ i.gives.0 t.gives.0 i.gives.1 t.gives.1 (stays _ _ _ _ _ _ _ _ i.gives.2 t.gives.2) (λ e. t.rests (no-more _ (i.gives.2.ended e))),
      rounds-last _ _ _ _ _ _ _ _ i.gives.2 t.gives.2,
    )

pub returns-in-Err-round-clause-cause : goal.returns-in-Err-round-clause-cause
returns-in-Err-round-clause-cause g c = counted-last _ _ _ _ c.rounds.invariant.reads c.in-Err-round.ensures.read

pub returns-then-number-clause-gives : goal.returns-then-number-clause-gives
returns-then-number-clause-gives g c =
    let i = c.rounds.invariant in
    let t = c.in-Ok-round.ensures in (
      i.gives.0 ++ t.gives.0,
      gives-trans _ _ _ _ _ _ i.gives.0 t.gives.0 i.gives.1 t.gives.1 (stays _ _ _ _ _ _ _ _ i.gives.2 t.gives.2) (λ e. t.rests (no-more _ (i.gives.2.ended e))),
      memory-told c.args.by (i.gives.0 ++ t.gives.0),
    )

pub returns-then-number-clause-cause : goal.returns-then-number-clause-cause
returns-then-number-clause-cause g c = none-counted _ _ _ (λ e. cc) (c.in-Ok-round.ensures.read.stayed (λ e. cc) ∙ c.rounds.invariant.reads)
