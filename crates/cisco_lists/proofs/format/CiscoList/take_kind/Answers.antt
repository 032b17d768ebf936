use Rattle.std.proofs.Common.{sym, ◌∙◌}
use Rattle.std.specs.Prelude.{codes}
use Rattle.cisco_lists.specs.declared.why.Why.TheVariants as why
use Rattle.cisco_lists.specs.Lines.{kind_outcome}
use Rattle.cisco_lists.proofs.Outcomes.{as-outcome, unsaid-outcome, kind-from, kind-none, kind-name, kind-more, kind-extended, kind-other}
use Rattle.cisco_lists.proofs.format.CiscoList.take_kind.Goals as goal

pub returns-then-is_empty : goal.returns-then-is_empty
returns-then-is_empty c =
    unsaid-outcome _ (kind_outcome c.args.self.now c.args.at.now) why.Value (codes "access-list") c.args.self.now _ c.unsaid.ensures.answer c.unsaid.ensures.text
    (kind-from c.args.self.now c.args.at.now c.next-kind.new.self c.next-name.new.self c.next-kind.result.now c.next-name.result.now c.next-more.result.now _ c.next-kind.ensures.word c.next-kind.ensures.behind c.next-name.ensures.word c.next-name.ensures.behind c.next-more.ensures.word
    (kind-none c.args.self.now c.next-kind.result.now c.next-name.result.now c.next-more.result.now (sym c.is_empty.ensures ∙ c.if-is_empty.true)))

pub returns-then-is_empty-2 : goal.returns-then-is_empty-2
returns-then-is_empty-2 c =
    as-outcome _ _ (kind_outcome c.args.self.now c.args.at.now) _ _ _
    (kind-from c.args.self.now c.args.at.now c.next-kind.new.self c.next-name.new.self c.next-kind.result.now c.next-name.result.now c.next-more.result.now _ c.next-kind.ensures.word c.next-kind.ensures.behind c.next-name.ensures.word c.next-name.ensures.behind c.next-more.ensures.word
    (kind-name c.args.self.now c.next-kind.result.now c.next-name.result.now c.next-more.result.now (sym c.is_empty.ensures ∙ c.if-is_empty.false) (sym c.is_empty-2.ensures ∙ c.if-is_empty-2.true)))
    c.take_header.ensures

pub returns-then-not-is_empty : goal.returns-then-not-is_empty
returns-then-not-is_empty c =
    unsaid-outcome _ (kind_outcome c.args.self.now c.args.at.now) why.Word c.next-more.result.now c.args.self.now _ c.unsaid-then-not-is_empty.ensures.answer c.unsaid-then-not-is_empty.ensures.text
    (kind-from c.args.self.now c.args.at.now c.next-kind.new.self c.next-name.new.self c.next-kind.result.now c.next-name.result.now c.next-more.result.now _ c.next-kind.ensures.word c.next-kind.ensures.behind c.next-name.ensures.word c.next-name.ensures.behind c.next-more.ensures.word
    (kind-more c.args.self.now c.next-kind.result.now c.next-name.result.now c.next-more.result.now (sym c.is_empty.ensures ∙ c.if-is_empty.false) (sym c.is_empty-2.ensures ∙ c.if-is_empty-2.false) (sym c.is_empty-3.ensures ∙ c.if-not-is_empty.true)))

pub returns-then-is_named : goal.returns-then-is_named
returns-then-is_named c =
    as-outcome _ _ (kind_outcome c.args.self.now c.args.at.now) _ _ _
    (kind-from c.args.self.now c.args.at.now c.next-kind.new.self c.next-name.new.self c.next-kind.result.now c.next-name.result.now c.next-more.result.now _ c.next-kind.ensures.word c.next-kind.ensures.behind c.next-name.ensures.word c.next-name.ensures.behind c.next-more.ensures.word
    (kind-extended c.args.self.now c.next-kind.result.now c.next-name.result.now c.next-more.result.now (sym c.is_empty.ensures ∙ c.if-is_empty.false) (sym c.is_empty-2.ensures ∙ c.if-is_empty-2.false) (sym c.is_empty-3.ensures ∙ c.if-not-is_empty.false)
    (sym c.is_named.ensures ∙ c.if-is_named.true)))
    c.take_header-then-is_named.ensures

pub returns : goal.returns
returns c =
    as-outcome _ _ (kind_outcome c.args.self.now c.args.at.now) _ _ _
    (kind-from c.args.self.now c.args.at.now c.next-kind.new.self c.next-name.new.self c.next-kind.result.now c.next-name.result.now c.next-more.result.now _ c.next-kind.ensures.word c.next-kind.ensures.behind c.next-name.ensures.word c.next-name.ensures.behind c.next-more.ensures.word
    (kind-other c.args.self.now c.next-kind.result.now c.next-name.result.now c.next-more.result.now (sym c.is_empty.ensures ∙ c.if-is_empty.false) (sym c.is_empty-2.ensures ∙ c.if-is_empty-2.false) (sym c.is_empty-3.ensures ∙ c.if-not-is_empty.false)
    (sym c.is_named.ensures ∙ c.if-is_named.false)))
    c.pass_kind.ensures
