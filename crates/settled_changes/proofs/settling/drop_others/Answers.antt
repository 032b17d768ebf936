use Rattle.std.proofs.Common.{not, sym, ap, ◌∙◌}
use Rattle.settled_changes.proofs.Whole.{drop-next, keep-next}
use Rattle.settled_changes.proofs.settling.drop_others.Goals as goal
use Rattle.settled_changes.proofs.settling.drop_others.Goals.{then-is_none+in_ok-push, else-is_none}

pub loop-i-preserved : goal.loop-i-preserved
loop-i-preserved c = elim c.if-is_none.branch [
  | then-is_none+in_ok-push w ↦
      drop-next c.args.rules.now.rules c.args.whole.now.rules c.loop-i.i c.at.result.now c.at.ensures c.args.requests.now.items c.loop-i.requests.items c.if-is_none.requests.items
      (sym c.rule.ensures.present ∙ c.is_none.ensures ∙ ap not w.if-is_none.true) c.loop-i.invariant (rw w.requests-is w.in_ok-push.ensures.items)
  | else-is_none w ↦
      rw w.requests-is (keep-next c.args.rules.now.rules c.args.whole.now.rules c.loop-i.i c.at.result.now c.at.ensures c.args.requests.now.items c.loop-i.requests.items
      (sym c.rule.ensures.present ∙ c.is_none.ensures ∙ ap not w.if-is_none.false) c.loop-i.invariant)
]
