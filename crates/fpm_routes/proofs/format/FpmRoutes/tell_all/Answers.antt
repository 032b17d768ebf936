use Rattle.std.proofs.Common.{sym, ◌∙◌, arith}
use Rattle.fpm_routes.proofs.Lines.{text-on, known-on, text-end, known-end}
use Rattle.fpm_routes.proofs.format.FpmRoutes.tell_all.Goals as goal

pub loop-change-preserved : goal.loop-change-preserved
loop-change-preserved c =
    let one = c.change-item.result in
    record {
      text = c.loop-change.invariant.text
          ∙ text-on c.args.changes.now c.loop-change.change-index one one (omega arith) c.change-item.is c.loop-change.self c.tell.new.self c.loop-change.into.items c.tell.new.into.items
          c.in_ok-tell.ensures.text c.in_ok-tell.ensures.known;
      known = c.loop-change.invariant.known
          ∙ known-on c.args.changes.now c.loop-change.change-index one one (omega arith) c.change-item.is c.loop-change.self c.tell.new.self c.in_ok-tell.ensures.known;
    }

pub returns-clause-text : goal.returns-clause-text
returns-clause-text c =
    sym (c.loop-change.invariant.text ∙ text-end c.args.changes.now c.loop-change.change-index (omega arith) c.loop-change.self c.loop-change.into.items)

pub returns-clause-known : goal.returns-clause-known
returns-clause-known c =
    sym (c.loop-change.invariant.known ∙ known-end c.args.changes.now c.loop-change.change-index (omega arith) c.loop-change.self)
