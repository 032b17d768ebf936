use Rattle.std.proofs.Common.{sym, ◌∙◌}
use Rattle.cisco_lists.specs.declared.why.Why.TheVariants as why
use Rattle.cisco_lists.specs.Lines.{line_outcome}
use Rattle.cisco_lists.proofs.Outcomes.{as-outcome, passed-outcome, unsaid-outcome, line-from, line-passed, line-ip, line-list, line-other, line-entry, line-unknown}
use Rattle.cisco_lists.proofs.format.CiscoList.take_line.Goals as goal

pub returns-then-is_passed : goal.returns-then-is_passed
returns-then-is_passed c =
    passed-outcome (line_outcome c.args.self.now c.args.text.now) c.args.self.now _
    (line-from c.args.self.now c.args.text.now c.next-word.result.now c.new-at.result c.next-word.new.self _ c.new-at.ensures c.next-word.ensures.word c.next-word.ensures.behind
    (line-passed c.args.self.now c.args.text.now c.next-word.result.now c.next-word.new.self (sym c.is_passed.ensures ∙ c.if-is_passed.true)))
    c.requires

pub returns-then-is_named : goal.returns-then-is_named
returns-then-is_named c =
    as-outcome _ _ (line_outcome c.args.self.now c.args.text.now) _ _ _
    (line-from c.args.self.now c.args.text.now c.next-word.result.now c.new-at.result c.next-word.new.self _ c.new-at.ensures c.next-word.ensures.word c.next-word.ensures.behind
    (line-ip c.args.self.now c.args.text.now c.next-word.result.now c.next-word.new.self (sym c.is_passed.ensures ∙ c.if-is_passed.false) (sym c.is_named.ensures ∙ c.if-is_named.true)))
    c.take_ip.ensures

pub returns-then-is_named-2 : goal.returns-then-is_named-2
returns-then-is_named-2 c =
    as-outcome _ _ (line_outcome c.args.self.now c.args.text.now) _ _ _
    (line-from c.args.self.now c.args.text.now c.next-word.result.now c.new-at.result c.next-word.new.self _ c.new-at.ensures c.next-word.ensures.word c.next-word.ensures.behind
    (line-list c.args.self.now c.args.text.now c.next-word.result.now c.next-word.new.self (sym c.is_passed.ensures ∙ c.if-is_passed.false) (sym c.is_named.ensures ∙ c.if-is_named.false) (sym c.is_named-2.ensures ∙ c.if-is_named-2.true)))
    c.take_numbered.ensures

pub returns-then-is_other : goal.returns-then-is_other
returns-then-is_other c =
    as-outcome _ _ (line_outcome c.args.self.now c.args.text.now) _ _ _
    (line-from c.args.self.now c.args.text.now c.next-word.result.now c.new-at.result c.next-word.new.self _ c.new-at.ensures c.next-word.ensures.word c.next-word.ensures.behind
    (line-other c.args.self.now c.args.text.now c.next-word.result.now c.next-word.new.self (sym c.is_passed.ensures ∙ c.if-is_passed.false) (sym c.is_named.ensures ∙ c.if-is_named.false) (sym c.is_named-2.ensures ∙ c.if-is_named-2.false)
    (sym c.is_other.ensures ∙ c.if-is_other.true)))
    c.take_other.ensures

pub returns-then-is_entry : goal.returns-then-is_entry
returns-then-is_entry c =
    as-outcome _ _ (line_outcome c.args.self.now c.args.text.now) _ _ _
    (line-from c.args.self.now c.args.text.now c.next-word.result.now c.new-at.result c.next-word.new.self _ c.new-at.ensures c.next-word.ensures.word c.next-word.ensures.behind
    (line-entry c.args.self.now c.args.text.now c.next-word.result.now c.next-word.new.self (sym c.is_passed.ensures ∙ c.if-is_passed.false) (sym c.is_named.ensures ∙ c.if-is_named.false) (sym c.is_named-2.ensures ∙ c.if-is_named-2.false)
    (sym c.is_other.ensures ∙ c.if-is_other.false) (sym c.is_entry.ensures ∙ c.if-is_entry.true)))
    c.take_place.ensures

pub returns : goal.returns
returns c =
    unsaid-outcome _ (line_outcome c.args.self.now c.args.text.now) why.Word c.next-word.result.now c.args.self.now _ c.unsaid.ensures.answer c.unsaid.ensures.text
    (line-from c.args.self.now c.args.text.now c.next-word.result.now c.new-at.result c.next-word.new.self _ c.new-at.ensures c.next-word.ensures.word c.next-word.ensures.behind
    (line-unknown c.args.self.now c.args.text.now c.next-word.result.now c.next-word.new.self (sym c.is_passed.ensures ∙ c.if-is_passed.false) (sym c.is_named.ensures ∙ c.if-is_named.false) (sym c.is_named-2.ensures ∙ c.if-is_named-2.false)
    (sym c.is_other.ensures ∙ c.if-is_other.false) (sym c.is_entry.ensures ∙ c.if-is_entry.false)))
