use Rattle.std.proofs.Common.{sym, ◌∙◌, arith}
use Rattle.rule_gen.proofs.Left.{commands_left-removal, commands_left-addition, commands_left-commit, commands_left-none}
use Rattle.rule_gen.proofs.maker.Maker.next.Goals as goal

pub returns-then-self-clause-end : goal.returns-then-self-clause-end
returns-then-self-clause-end c =
    (λ _. sym c.self.view_is ∙ commands_left-none _ _ _ _ _ _ (omega arith), λ _. cc)

pub returns-then-self-2-clause-next : goal.returns-then-self-2-clause-next
returns-then-self-2-clause-next c =
    rw (c.list_rank.ensures, c.sequence-sequence.ensures, ← c.self.view_is)
    (commands_left-removal _ _ _ _ _ _ (omega arith) c.if-self-2.true)

pub returns-then-self-2-clause-end : goal.returns-then-self-2-clause-end
returns-then-self-2-clause-end c = let next = returns-then-self-2-clause-next c in (λ e. cc, λ e. cc)

pub returns-then-self-3-clause-next : goal.returns-then-self-3-clause-next
returns-then-self-3-clause-next c =
    rw (c.rule-rule.ensures.state, c.rule-rule.ensures.rule, c.sequence.ensures, ← c.self.view_is)
    (commands_left-addition _ _ _ _ _ _ (omega arith) c.if-self-2.false c.if-self-3.true)

pub returns-then-self-3-clause-end : goal.returns-then-self-3-clause-end
returns-then-self-3-clause-end c = let next = returns-then-self-3-clause-next c in (λ e. cc, λ e. cc)

pub returns-clause-next : goal.returns-clause-next
returns-clause-next c =
    rw (← c.self.view_is) (commands_left-commit _ _ _ _ _ _ _ (omega arith) c.if-self-2.false c.if-self-3.false)

pub returns-clause-end : goal.returns-clause-end
returns-clause-end c = let next = returns-clause-next c in (λ e. cc, λ e. cc)
