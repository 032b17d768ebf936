use Rattle.std.proofs.Common.{sym, ap, ◌∙◌}
use Rattle.cisco_lists.specs.declared.why.Why.TheVariants as why
use Rattle.cisco_lists.specs.Walk.{taken, failed}
use Rattle.cisco_lists.specs.Ports.{above_at, all_ports, below_at, but_at, range_at, several_at}
use Rattle.cisco_lists.proofs.PortSteps.{ports-at, ports-behind, ports-eq, ports-neq, ports-gt, ports-lt, ports-range, ports-group, ports-none}
use Rattle.cisco_lists.proofs.ports.ports_as.Goals as goal

pub returns-then-is_named : goal.returns-then-is_named
returns-then-is_named c =
    ports-at c.args.names c.args.at.now c.peek-word.result.now _ c.peek-word.ensures (ports-behind (several_at c.args.names) c.args.at.now c.next.new.self _ c.next.ensures.behind c.several.ensures ∙ ports-eq c.args.names c.peek-word.result.now c.args.at.now (sym c.is_named.ensures ∙ c.if-is_named.true))

pub returns-then-is_named-2 : goal.returns-then-is_named-2
returns-then-is_named-2 c =
    ports-at c.args.names c.args.at.now c.peek-word.result.now _ c.peek-word.ensures
    (ports-behind (but_at c.args.names) c.args.at.now c.next-then-is_named-2.new.self _ c.next-then-is_named-2.ensures.behind c.but.ensures ∙ ports-neq c.args.names c.peek-word.result.now c.args.at.now (sym c.is_named.ensures ∙ c.if-is_named.false) (sym c.is_named-2.ensures ∙ c.if-is_named-2.true))

pub returns-then-is_named-3 : goal.returns-then-is_named-3
returns-then-is_named-3 c =
    ports-at c.args.names c.args.at.now c.peek-word.result.now _ c.peek-word.ensures
    (ports-behind (above_at c.args.names) c.args.at.now c.next-then-is_named-3.new.self _ c.next-then-is_named-3.ensures.behind c.above.ensures
    ∙ ports-gt c.args.names c.peek-word.result.now c.args.at.now (sym c.is_named.ensures ∙ c.if-is_named.false) (sym c.is_named-2.ensures ∙ c.if-is_named-2.false) (sym c.is_named-3.ensures ∙ c.if-is_named-3.true))

pub returns-then-is_named-4 : goal.returns-then-is_named-4
returns-then-is_named-4 c =
    ports-at c.args.names c.args.at.now c.peek-word.result.now _ c.peek-word.ensures
    (ports-behind (below_at c.args.names) c.args.at.now c.next-then-is_named-4.new.self _ c.next-then-is_named-4.ensures.behind c.below.ensures
    ∙ ports-lt c.args.names c.peek-word.result.now c.args.at.now (sym c.is_named.ensures ∙ c.if-is_named.false) (sym c.is_named-2.ensures ∙ c.if-is_named-2.false) (sym c.is_named-3.ensures ∙ c.if-is_named-3.false) (sym c.is_named-4.ensures ∙ c.if-is_named-4.true))

pub returns-then-is_named-5 : goal.returns-then-is_named-5
returns-then-is_named-5 c =
    ports-at c.args.names c.args.at.now c.peek-word.result.now _ c.peek-word.ensures
    (ports-behind (range_at c.args.names) c.args.at.now c.next-then-is_named-5.new.self _ c.next-then-is_named-5.ensures.behind c.range.ensures
    ∙ ports-range c.args.names c.peek-word.result.now c.args.at.now (sym c.is_named.ensures ∙ c.if-is_named.false) (sym c.is_named-2.ensures ∙ c.if-is_named-2.false) (sym c.is_named-3.ensures ∙ c.if-is_named-3.false) (sym c.is_named-4.ensures ∙ c.if-is_named-4.false)
    (sym c.is_named-5.ensures ∙ c.if-is_named-5.true))

pub returns-then-is_group : goal.returns-then-is_group
returns-then-is_group c =
    ports-at c.args.names c.args.at.now c.peek-word.result.now _ c.peek-word.ensures
    (ap (λ s. taken s c.fail.new.self) c.all.ensures ∙ ap (taken all_ports) (c.fail.ensures ∙ ap (failed why.Group) c.next-then-is_group.ensures.behind)
    ∙ ports-group c.args.names c.peek-word.result.now c.args.at.now (sym c.is_named.ensures ∙ c.if-is_named.false) (sym c.is_named-2.ensures ∙ c.if-is_named-2.false) (sym c.is_named-3.ensures ∙ c.if-is_named-3.false) (sym c.is_named-4.ensures ∙ c.if-is_named-4.false)
    (sym c.is_named-5.ensures ∙ c.if-is_named-5.false) (sym c.is_group.ensures ∙ c.if-is_group.true))

pub returns : goal.returns
returns c =
    ports-at c.args.names c.args.at.now c.peek-word.result.now _ c.peek-word.ensures
    (ap (λ s. taken s c.args.at.now) c.all-2.ensures
    ∙ ports-none c.args.names c.peek-word.result.now c.args.at.now (sym c.is_named.ensures ∙ c.if-is_named.false) (sym c.is_named-2.ensures ∙ c.if-is_named-2.false) (sym c.is_named-3.ensures ∙ c.if-is_named-3.false) (sym c.is_named-4.ensures ∙ c.if-is_named-4.false)
    (sym c.is_named-5.ensures ∙ c.if-is_named-5.false) (sym c.is_group.ensures ∙ c.if-is_group.false))
