use Rattle.std.proofs.Common.{[], ◌∷◌, sym, ap, ◌∙◌}
use Rattle.std.specs.Prelude.{map}
use Rattle.std.proofs.lemmas.List.{map-append}
use Rattle.fpm_routes.specs.Changes.{Changing}
use Rattle.fpm_routes.specs.Views.{change_of}
use Rattle.fpm_routes.proofs.Parts.{made-done, made-err, made-on, changes-done, changes-cut, changes-bad, changes-on, read-ok, read-err}
use Rattle.fpm_routes.proofs.changes.read_changes.Goals as goal

pub loop-left-preserved : goal.loop-left-preserved
loop-left-preserved c =
    let change = c.in-Ok.change in
    record {
      made = made-on Changing _ _ _ _ c.loop-left.invariant.made _ (change_of change ∷ []) _
          (changes-on c.args.version c.loop-left.rest.now c.loop-left.left _ (change_of change) c.loop-left-test.true (sym c.is_done.ensures ∙ c.if-is_done.false) c.in-Some.ensures
          (read-ok _ change _ c.in-Ok.is c.in_ok-change.ensures))
          (ap (map change_of) c.in_ok-push-in-Ok.ensures.items ∙ map-append change_of c.loop-left.changes.items (change ∷ []));
    }

pub returns-then-is_done : goal.returns-then-is_done
returns-then-is_done c =
    made-done Changing _ _ _ _ c.loop-left.invariant.made (changes-done c.args.version c.loop-left.rest.now c.loop-left.left (sym c.is_done.ensures ∙ c.if-is_done.true))

pub returns-in-None : goal.returns-in-None
returns-in-None c =
    made-err Changing _ _ _ _ c.loop-left.invariant.made _
    (changes-cut c.args.version c.loop-left.rest.now c.loop-left.left _ c.loop-left-test.true (sym c.is_done.ensures ∙ c.if-is_done.false) c.in-None.ensures c.four_at.ensures)

pub returns-in-Err : goal.returns-in-Err
returns-in-Err c =
    made-err Changing _ _ _ _ c.loop-left.invariant.made _
    (changes-bad c.args.version c.loop-left.rest.now c.loop-left.left _ _ c.loop-left-test.true (sym c.is_done.ensures ∙ c.if-is_done.false) c.in-Some.ensures
    (read-err _ _ _ c.in-Err.is c.in_ok-change.ensures))
