use Rattle.std.proofs.Common.{sym, ◌∙◌}
use Rattle.std.specs.Prelude.{codes}
use Rattle.cisco_lists.specs.declared.why.Why.TheVariants as why
use Rattle.cisco_lists.specs.Lines.{ip_outcome}
use Rattle.cisco_lists.proofs.Outcomes.{as-outcome, unsaid-outcome, by-next, ip-by, ip-list, ip-unknown}
use Rattle.cisco_lists.proofs.format.CiscoList.take_ip.Goals as goal

pub returns-then-is_named : goal.returns-then-is_named
returns-then-is_named c =
    as-outcome _ _ (ip_outcome c.args.self.now c.args.at.now) _ _ _
    (by-next (ip-by c.args.self.now) c.args.at.now c.next-word.new.self c.next-word.result.now _ c.next-word.ensures.word c.next-word.ensures.behind (ip-list c.args.self.now c.next-word.result.now c.next-word.new.self (sym c.is_named.ensures ∙ c.if-is_named.true)))
    c.take_kind.ensures

pub returns : goal.returns
returns c =
    unsaid-outcome _ (ip_outcome c.args.self.now c.args.at.now) why.Word (codes "ip") c.args.self.now _ c.unsaid.ensures.answer c.unsaid.ensures.text
    (by-next (ip-by c.args.self.now) c.args.at.now c.next-word.new.self c.next-word.result.now _ c.next-word.ensures.word c.next-word.ensures.behind (ip-unknown c.args.self.now c.next-word.result.now c.next-word.new.self (sym c.is_named.ensures ∙ c.if-is_named.false)))
