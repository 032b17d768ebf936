use Rattle.std.proofs.Common.{[], ◌++◌, inl, refl, ◌∙◌}
use Rattle.script_lines.proofs.Turns.{gives-none, gives-trans, no-more}
use Rattle.trace_verify.proofs.Whole.{new-anew, stands-first, nothing-read, Rounds, stays, rounds-next, rounds-last, rounds-none, counted-last, none-counted}
use Rattle.trace_verify.proofs.check.verify.Goals as goal

pub returns-in-Err-clause-gives : goal.returns-in-Err-clause-gives
returns-in-Err-clause-gives g c = ([], gives-none _ _, nothing-read)

pub rounds-init : goal.rounds-init
rounds-init g c = record {
  anew = new-anew _ c.new-lines.ensures;
  gives = ([], gives-none _ _, (λ e. absurd e), (λ text now may. stands-first _ _ text now c.new-lines.ensures c.in-Ok.ensures may), inl refl);
  reads = refl;
}

pub rounds-preserved : goal.rounds-preserved
rounds-preserved g c =
    let i = c.rounds.invariant in
    let t = c.in-Ok-round.ensures in
    let so_far : Rounds i.gives.0 c.rounds.lines c.rounds.number c.rounds.checker = record { ended = i.gives.2; stands = i.gives.3; needed = i.gives.4 } in
    let on = rounds-next _ _ _ _ _ _ _ so_far t.gives.2 in
    record {
      anew = t.anew;
      gives = (
        i.gives.0 ++ t.gives.0,
        gives-trans _ _ _ _ _ _ i.gives.0 t.gives.0 i.gives.1 t.gives.1 (stays _ _ _ _ _ _ _ so_far t.gives.2) (λ e. t.rests (no-more _ (i.gives.2 e))),
        on.ended,
        on.stands,
        on.needed,
      );
      reads = t.read.stayed (λ e. cc) ∙ i.reads;
    }

pub returns-in-Err-round-clause-gives : goal.returns-in-Err-round-clause-gives
returns-in-Err-round-clause-gives g c =
    let i = c.rounds.invariant in
    let t = c.in-Err-round.ensures in
    let so_far : Rounds i.gives.0 c.rounds.lines c.rounds.number c.rounds.checker = record { ended = i.gives.2; stands = i.gives.3; needed = i.gives.4 } in (
      i.gives.0 ++ t.gives.0,
      gives-trans _ _ _ _ _ _ i.gives.0 t.gives.0 i.gives.1 t.gives.1 (stays _ _ _ _ _ _ _ so_far t.gives.2) (λ e. t.rests (no-more _ (i.gives.2 e))),
      rounds-last _ _ _ _ _ _ _ so_far t.gives.2,
    )

pub returns-in-Err-round-clause-cause : goal.returns-in-Err-round-clause-cause
returns-in-Err-round-clause-cause g c = counted-last _ _ _ _ c.rounds.invariant.reads c.in-Err-round.ensures.read

pub returns-then-number-clause-gives : goal.returns-then-number-clause-gives
returns-then-number-clause-gives g c =
    let i = c.rounds.invariant in
    let t = c.in-Ok-round.ensures in
    let so_far : Rounds i.gives.0 c.rounds.lines c.rounds.number c.rounds.checker = record { ended = i.gives.2; stands = i.gives.3; needed = i.gives.4 } in
    let on = rounds-next _ _ _ _ _ _ _ so_far t.gives.2 in (
      i.gives.0 ++ t.gives.0,
      gives-trans _ _ _ _ _ _ i.gives.0 t.gives.0 i.gives.1 t.gives.1 (stays _ _ _ _ _ _ _ so_far t.gives.2) (λ e. t.rests (no-more _ (i.gives.2 e))),
      rounds-none _ _ _ _ on,
    )

pub returns-then-number-clause-cause : goal.returns-then-number-clause-cause
returns-then-number-clause-cause g c = none-counted _ _ _ (λ e. cc) (c.in-Ok-round.ensures.read.stayed (λ e. cc) ∙ c.rounds.invariant.reads)
