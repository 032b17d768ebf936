use Rattle.std.proofs.Common.{refl, sym, ◌∙◌, arith}
use Rattle.fpm_routes.proofs.Parts.{find-out, find-none, find-here, find-on}
use Rattle.fpm_routes.proofs.attributes.find.Goals as goal

pub loop-left-init : goal.loop-left-init
loop-left-init c = record { same = refl }

pub loop-left-preserved : goal.loop-left-preserved
loop-left-preserved c = record {
  same = c.loop-left.invariant.same ∙ find-on c.args.kind _ _ _ c.loop-left-test.true c.in-Some.ensures c.if-found-kind.false;
}

pub returns-in-None : goal.returns-in-None
returns-in-None c = c.loop-left.invariant.same ∙ find-none c.args.kind c.loop-left.rest.now c.loop-left.left c.in-None.ensures

pub returns-then-found-kind : goal.returns-then-found-kind
returns-then-found-kind c = c.loop-left.invariant.same ∙ find-here c.args.kind _ _ _ c.loop-left-test.true c.in-Some.ensures c.if-found-kind.true

pub returns : goal.returns
returns c = c.loop-left.invariant.same ∙ find-out c.args.kind c.loop-left.rest.now c.loop-left.left (omega (arith, c.loop-left-test.false))
