use Rattle.std.proofs.Common.{sym, ap, ◌∙◌}
use Rattle.cisco_lists.specs.Walk.{taken}
use Rattle.cisco_lists.specs.Sides.{prefix_or}
use Rattle.cisco_lists.proofs.SideSteps.{side-from, side-any, side-host, side-group, side-prefix}
use Rattle.cisco_lists.proofs.sides.side.Goals as goal

pub returns-then-is_named : goal.returns-then-is_named
returns-then-is_named c =
    side-from c.args.at.now c.next-word.new.self c.next-word.result.now _ c.next-word.ensures.word c.next-word.ensures.behind (ap (λ b. taken b c.next-word.new.self) c.any.ensures ∙ side-any c.next-word.result.now c.next-word.new.self (sym c.is_named.ensures ∙ c.if-is_named.true))

pub returns-then-is_named-2 : goal.returns-then-is_named-2
returns-then-is_named-2 c =
    side-from c.args.at.now c.next-word.new.self c.next-word.result.now _ c.next-word.ensures.word c.next-word.ensures.behind (c.host.ensures ∙ side-host c.next-word.result.now c.next-word.new.self (sym c.is_named.ensures ∙ c.if-is_named.false) (sym c.is_named-2.ensures ∙ c.if-is_named-2.true))

pub returns-then-is_group : goal.returns-then-is_group
returns-then-is_group c =
    side-from c.args.at.now c.next-word.new.self c.next-word.result.now _ c.next-word.ensures.word c.next-word.ensures.behind
    (c.refuse.ensures ∙ side-group c.next-word.result.now c.next-word.new.self (sym c.is_named.ensures ∙ c.if-is_named.false) (sym c.is_named-2.ensures ∙ c.if-is_named-2.false) (sym c.is_group.ensures ∙ c.if-is_group.true))

pub returns-in-Ok : goal.returns-in-Ok
returns-in-Ok c =
    side-from c.args.at.now c.next-word.new.self c.next-word.result.now _ c.next-word.ensures.word c.next-word.ensures.behind
    (ap (λ r. prefix_or c.next-word.result.now r c.next-word.new.self) c.in-Ok.ensures
    ∙ side-prefix c.next-word.result.now c.next-word.new.self (sym c.is_named.ensures ∙ c.if-is_named.false) (sym c.is_named-2.ensures ∙ c.if-is_named-2.false) (sym c.is_group.ensures ∙ c.if-is_group.false))

pub returns-in-Err : goal.returns-in-Err
returns-in-Err c =
    side-from c.args.at.now c.next-word.new.self c.next-word.result.now _ c.next-word.ensures.word c.next-word.ensures.behind
    (c.wild.ensures ∙ ap (λ r. prefix_or c.next-word.result.now r c.next-word.new.self) c.in-Err.ensures
    ∙ side-prefix c.next-word.result.now c.next-word.new.self (sym c.is_named.ensures ∙ c.if-is_named.false) (sym c.is_named-2.ensures ∙ c.if-is_named-2.false) (sym c.is_group.ensures ∙ c.if-is_group.false))
