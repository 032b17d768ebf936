use Rattle.std.proofs.Common.{rules, ◌≡◌, sym, ap, ◌∙◌}
use Rattle.fpm_routes.specs.declared.why.Why.TheVariants as why
use Rattle.fpm_routes.specs.Bytes.{two_at}
use Rattle.fpm_routes.specs.Attributes.{unsaid}
use Rattle.fpm_routes.proofs.Parts.{check-cut, check-bad, check-on}
use Rattle.fpm_routes.proofs.attributes.check.Goals as goal

pub loop-left-preserved : goal.loop-left-preserved
loop-left-preserved c = record {
  same = c.loop-left.invariant.same ∙ check-on c.args.at c.loop-left.rest.now c.loop-left.left _ c.loop-left-test.true (sym c.is_done.ensures ∙ c.if-is_done.false) c.in-Some.ensures c.in-Ok.ensures;
}

pub returns-in-None : goal.returns-in-None
returns-in-None c =
    let size : c.from.result ≡ two_at 0 c.loop-left.rest.now = search rules in
    c.unsaid.ensures ∙ ap (λ n. unsaid why.Cut n) size ∙ sym (c.loop-left.invariant.same ∙ check-cut c.args.at c.loop-left.rest.now c.loop-left.left c.loop-left-test.true (sym c.is_done.ensures ∙ c.if-is_done.false) c.in-None.ensures)

pub returns-in-Err : goal.returns-in-Err
returns-in-Err c =
    sym (c.loop-left.invariant.same ∙ check-bad c.args.at c.loop-left.rest.now c.loop-left.left _ _ c.loop-left-test.true (sym c.is_done.ensures ∙ c.if-is_done.false) c.in-Some.ensures c.in-Err.ensures)
