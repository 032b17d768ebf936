use Rattle.std.proofs.Common.{sym, ◌∙◌}
use Rattle.cisco_lists.specs.declared.why.Why.TheVariants as why
use Rattle.cisco_lists.specs.Lines.{other_outcome}
use Rattle.cisco_lists.proofs.Outcomes.{as-outcome, unsaid-outcome, by-next, other-by, other-list, other-unknown}
use Rattle.cisco_lists.proofs.format.CiscoList.take_other.Goals as goal

pub returns-then-is_named : goal.returns-then-is_named
returns-then-is_named c =
    as-outcome _ _ (other_outcome c.args.self.now c.args.word.now c.args.at.now) _ _ _
    (by-next (other-by c.args.self.now c.args.word.now) c.args.at.now c.next-next.new.self c.next-next.result.now _ c.next-next.ensures.word c.next-next.ensures.behind (other-list c.args.self.now c.args.word.now c.next-next.result.now c.next-next.new.self (sym c.is_named.ensures ∙ c.if-is_named.true)))
    c.pass_kind.ensures

pub returns : goal.returns
returns c =
    unsaid-outcome _ (other_outcome c.args.self.now c.args.word.now c.args.at.now) why.Word c.args.word.now c.args.self.now _ c.unsaid.ensures.answer c.unsaid.ensures.text
    (by-next (other-by c.args.self.now c.args.word.now) c.args.at.now c.next-next.new.self c.next-next.result.now _ c.next-next.ensures.word c.next-next.ensures.behind (other-unknown c.args.self.now c.args.word.now c.next-next.result.now c.next-next.new.self (sym c.is_named.ensures ∙ c.if-is_named.false)))
