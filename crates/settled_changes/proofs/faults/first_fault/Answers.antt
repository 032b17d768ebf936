use Rattle.std.proofs.Common.{◌≡◌, true, false, unwrap_or, Option, Some, sym, ap, subst, ◌∙◌}
use Rattle.std.specs.BTreeSet.{Updates, contains}
use Rattle.std.specs.Ordering.{nat_cmp}
use Rattle.rule_store.specs.declared.BatchFault.{BatchFault}
use Rattle.rule_store.specs.declared.BatchFault.TheVariants.{Twice}
use Rattle.rule_store.specs.Batch.{named_priority, batch_fault}
use Rattle.settled_changes.specs.Requests.{asked_priority}
use Rattle.settled_changes.proofs.FirstFault.{not-strict, known-same, mixed-strict, mixed-forgiving, known-strict, known-forgiving}
use Rattle.settled_changes.proofs.faults.first_fault.Goals as goal
use Rattle.settled_changes.proofs.faults.first_fault.Goals.{in-Strict+else-contains+in_ok-insert+in-Ok, in_default+else-contains-2+in_ok-insert-2}

pub returns-then-contains : goal.returns-then-contains
returns-then-contains c =
    let command = c.in-Strict.command in
    let own : c.priority-priority.result ≡ named_priority command = c.priority-priority.ensures ∙ ap asked_priority c.in-Strict.is in
    ap (λ (fault : BatchFault). let is : Option BatchFault = Some fault in is)
    (c.fault_behind.ensures ∙ ap (λ n. unwrap_or (batch_fault c.args.rules.now.rules c.loop-i.strict) (Twice n)) own)
    ∙ sym (mixed-strict c.args.rules.now.rules c.args.requests.now c.loop-i.i c.at-request.result c.at-request.ensures c.loop-i.strict c.loop-i.strictly c.loop-i.forgivingly c.loop-i.invariant
    command c.in-Strict.is (subst (λ n. contains nat_cmp c.loop-i.forgivingly n ≡ true) own (sym c.contains.ensures ∙ c.if-contains.true)))

pub returns-then-contains-2 : goal.returns-then-contains-2
returns-then-contains-2 c =
    let own = c.priority-priority.ensures in
    ap (λ (fault : BatchFault). let is : Option BatchFault = Some fault in is)
    (c.fault_behind-then-contains-2.ensures ∙ ap (λ n. unwrap_or (batch_fault c.args.rules.now.rules c.loop-i.strict) (Twice n)) own)
    ∙ sym (mixed-forgiving c.args.rules.now.rules c.args.requests.now c.loop-i.i c.at-request.result c.at-request.ensures c.loop-i.strict c.loop-i.strictly c.loop-i.forgivingly c.loop-i.invariant
    (not-strict c.at-request.result c.in_default.not-Strict) (subst (λ n. contains nat_cmp c.loop-i.strictly n ≡ true) own (sym c.contains-in_default.ensures ∙ c.if-contains-2.true)))

pub loop-i-preserved : goal.loop-i-preserved
loop-i-preserved c = elim c.match-request.branch [
  | in-Strict+else-contains+in_ok-insert+in-Ok w ↦
      let command = w.in-Strict.command in
      let own : c.priority-priority.result ≡ named_priority command = c.priority-priority.ensures ∙ ap asked_priority w.in-Strict.is in
      known-same c.args.rules.now.rules c.args.requests.now _ _ c.match-request.strict _ c.match-request.strictly _ c.match-request.forgivingly
      (w.strict-is ∙ w.in-Ok.ensures.pushed) w.strictly-is w.forgivingly-is
      (known-strict c.args.rules.now.rules c.args.requests.now c.loop-i.i c.at-request.result c.at-request.ensures c.loop-i.strict c.loop-i.strictly c.loop-i.forgivingly c.loop-i.invariant
      command w.insert.new.self w.in-Strict.is (subst (λ n. contains nat_cmp c.loop-i.forgivingly n ≡ false) own (sym w.contains.ensures ∙ w.if-contains.false))
      (subst (λ n. Updates nat_cmp c.loop-i.strictly w.insert.new.self n true) own w.in_ok-insert.ensures.updates))
  | in_default+else-contains-2+in_ok-insert-2 w ↦
      let own = c.priority-priority.ensures in
      known-same c.args.rules.now.rules c.args.requests.now _ _ c.match-request.strict _ c.match-request.strictly _ c.match-request.forgivingly
      w.strict-is w.strictly-is w.forgivingly-is
      (known-forgiving c.args.rules.now.rules c.args.requests.now c.loop-i.i c.at-request.result c.at-request.ensures c.loop-i.strict c.loop-i.strictly c.loop-i.forgivingly c.loop-i.invariant
      w.insert-in_default.new.self (not-strict c.at-request.result w.in_default.not-Strict)
      (subst (λ n. contains nat_cmp c.loop-i.strictly n ≡ false) own (sym w.contains-in_default.ensures ∙ w.if-contains-2.false))
      (subst (λ n. Updates nat_cmp c.loop-i.forgivingly w.insert-in_default.new.self n true) own w.in_ok-insert-2.ensures.updates))
]
