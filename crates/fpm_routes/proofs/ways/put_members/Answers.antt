use Rattle.std.proofs.Common.{rules, ◌≡◌, sym, ◌∙◌, ℕ}
use Rattle.fpm_routes.specs.Bytes.{two_at}
use Rattle.fpm_routes.proofs.Parts.{made-done, made-err, made-on, members-done, members-cut, members-bad, members-on}
use Rattle.fpm_routes.proofs.ways.put_members.Goals as goal

pub loop-left-preserved : goal.loop-left-preserved
loop-left-preserved c = record {
  made = made-on ℕ _ _ _ _ c.loop-left.invariant.made _ _ _
      (members-on c.loop-left.rest.now c.loop-left.left _ c.loop-left-test.true (sym c.is_done.ensures ∙ c.if-is_done.false) c.in-Some.ensures c.in-Ok.ensures) c.in_ok-put_member_of.ensures;
}

pub returns-then-is_done : goal.returns-then-is_done
returns-then-is_done c = made-done ℕ _ _ _ _ c.loop-left.invariant.made (members-done c.loop-left.rest.now c.loop-left.left (sym c.is_done.ensures ∙ c.if-is_done.true))

pub returns-in-None : goal.returns-in-None
returns-in-None c =
    let size : c.from.result ≡ two_at 0 c.loop-left.rest.now = search rules in
    made-err ℕ _ _ _ _ c.loop-left.invariant.made _
    (members-cut c.loop-left.rest.now c.loop-left.left _ c.loop-left-test.true (sym c.is_done.ensures ∙ c.if-is_done.false) c.in-None.ensures size)

pub returns-in-Err : goal.returns-in-Err
returns-in-Err c =
    made-err ℕ _ _ _ _ c.loop-left.invariant.made _
    (members-bad c.loop-left.rest.now c.loop-left.left _ _ c.loop-left-test.true (sym c.is_done.ensures ∙ c.if-is_done.false) c.in-Some.ensures c.in-Err.ensures)
