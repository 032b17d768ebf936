use Rattle.std.proofs.Common.{◌≡◌, ◌++◌, [], refl, ap, ◌∙◌, arith}
use Rattle.std.specs.List.{concat}
use Rattle.script_lines.specs.Given.{HasEnd}
use Rattle.script_lines.specs.Reader.{HeldBytes}
use Rattle.script_lines.proofs.Turns.{gives-none, gives-trans, may-first, may-second, ended-both, no-more}
use Rattle.report_lines.specs.declared.sizes.Sizes.{Sizes}
use Rattle.script_runs.proofs.Rounds.{counted-last, fresh}
use Rattle.explain_router.proofs.Rounds.{stands-first}
use Rattle.explain_router.proofs.explain_router_script.Goals as goal

pub rounds-init : goal.rounds-init
rounds-init g c = record {
  few = (omega arith, omega arith);
  within = let none = ap (λ (h : HeldBytes). h.before) c.of_at_most-lines.ensures in omega (arith, none);
  gives = ([], gives-none _ _, λ e. absurd e, λ text now may. stands-first c.args.wanted _ text now (c.of_at_most-lines.ensures ∙ ap (λ (s : Sizes). fresh s.bytes) c.sizes_by.ensures.sizes) may);
  reads = refl;
  writes = refl;
}

pub rounds-preserved : goal.rounds-preserved
rounds-preserved g c =
    let i = c.rounds.invariant in
    let t = c.in-None.ensures in
    let stays : HasEnd i.gives.0 → t.gives.0 ≡ [] = λ e. t.gives.2.rests (no-more _ (i.gives.2 e)) in
    record {
      few = t.few;
      within = t.goes.1;
      gives = (
        i.gives.0 ++ t.gives.0,
        gives-trans _ _ _ _ _ _ i.gives.0 t.gives.0 i.gives.1 t.gives.1 stays (λ e. (t.rests (no-more _ (i.gives.2 e))).0),
        λ e. ended-both _ _ i.gives.0 t.gives.0 e i.gives.2 (λ o. (t.rests o).1) t.gives.2.ended,
        λ text now may.
            t.gives.2.goes text (concat t.gives.0 ++ now) now (may-second text now i.gives.0 t.gives.0 may)
            (i.gives.3 text (concat t.gives.0 ++ now) (may-first text now i.gives.0 t.gives.0 may stays)),
      );
      reads = t.read.stayed (λ e. cc) ∙ i.reads;
      writes = t.write.stayed (λ e. cc) ∙ i.writes;
    }

pub returns-in-Some-clause-right : goal.returns-in-Some-clause-right
returns-in-Some-clause-right g c =
    let i = c.rounds.invariant in
    let t = c.in-Some.ensures in
    let stays : HasEnd i.gives.0 → t.gives.0 ≡ [] = λ e. t.gives.2.rests (no-more _ (i.gives.2 e)) in (
      i.gives.0 ++ t.gives.0,
      gives-trans _ _ _ _ _ _ i.gives.0 t.gives.0 i.gives.1 t.gives.1 stays (λ e. (t.rests (no-more _ (i.gives.2 e))).0),
      λ text after may.
          t.gives.2.ends text (concat t.gives.0 ++ after) after (may-second text after i.gives.0 t.gives.0 may)
          (i.gives.3 text (concat t.gives.0 ++ after) (may-first text after i.gives.0 t.gives.0 may stays)),
    )

pub returns-in-Some-clause-read : goal.returns-in-Some-clause-read
returns-in-Some-clause-read g c = counted-last _ _ _ _ _ c.rounds.invariant.reads c.in-Some.ensures.read

pub returns-in-Some-clause-write : goal.returns-in-Some-clause-write
returns-in-Some-clause-write g c = counted-last _ _ _ _ _ c.rounds.invariant.writes c.in-Some.ensures.write
