use Rattle.std.proofs.Common.{refl, sym, ◌∙◌}
use Rattle.cisco_lists.specs.declared.format.Choice.TheVariants as choice
use Rattle.std.specs.Prelude.{codes}
use Rattle.cisco_lists.specs.declared.why.Why.TheVariants as why
use Rattle.cisco_lists.specs.Telling.{named_line}
use Rattle.cisco_lists.specs.Lines.{numbered_by, numbered_outcome}
use Rattle.cisco_lists.proofs.Outcomes.{as-outcome, said-outcome, unsaid-outcome, by-next, numbered-none, numbered-of}
use Rattle.cisco_lists.proofs.format.CiscoList.take_numbered.Goals as goal

pub returns-then-is_empty : goal.returns-then-is_empty
returns-then-is_empty c =
    unsaid-outcome _ (numbered_outcome c.args.self.now c.args.text.now c.args.at.now) why.Value (codes "access-list") c.args.self.now _ c.unsaid.ensures.answer c.unsaid.ensures.text
    (by-next (numbered_by c.args.self.now c.args.text.now) c.args.at.now c.next-name.new.self c.next-name.result.now _ c.next-name.ensures.word c.next-name.ensures.behind (numbered-none c.args.self.now c.args.text.now c.next-name.result.now c.next-name.new.self (sym c.is_empty.ensures ∙ c.if-is_empty.true)))

pub returns-in-Chosen : goal.returns-in-Chosen
returns-in-Chosen c =
    as-outcome _ _ (numbered_outcome c.args.self.now c.args.text.now c.args.at.now) _ _ _
    (by-next (numbered_by c.args.self.now c.args.text.now) c.args.at.now c.next-name.new.self c.next-name.result.now _ c.next-name.ensures.word c.next-name.ensures.behind
    (numbered-of c.args.self.now c.args.text.now c.next-name.result.now c.next-name.new.self choice.Chosen (sym c.is_empty.ensures ∙ c.if-is_empty.false) c.in-Chosen.ensures))
    c.take_named.ensures

pub returns-in-Second : goal.returns-in-Second
returns-in-Second c =
    unsaid-outcome _ (numbered_outcome c.args.self.now c.args.text.now c.args.at.now) why.List c.next-name.result.now c.args.self.now _ c.unsaid-in-Second.ensures.answer c.unsaid-in-Second.ensures.text
    (by-next (numbered_by c.args.self.now c.args.text.now) c.args.at.now c.next-name.new.self c.next-name.result.now _ c.next-name.ensures.word c.next-name.ensures.behind
    (numbered-of c.args.self.now c.args.text.now c.next-name.result.now c.next-name.new.self choice.Second (sym c.is_empty.ensures ∙ c.if-is_empty.false) c.in-Second.ensures))

pub returns-in_ok-put_named-in-Another : goal.returns-in_ok-put_named-in-Another
returns-in_ok-put_named-in-Another c =
    said-outcome (numbered_outcome c.args.self.now c.args.text.now c.args.at.now) (named_line (codes "# another list: ") c.next-name.result.now) c.args.self.now _ _ _
    (by-next (numbered_by c.args.self.now c.args.text.now) c.args.at.now c.next-name.new.self c.next-name.result.now _ c.next-name.ensures.word c.next-name.ensures.behind
    (numbered-of c.args.self.now c.args.text.now c.next-name.result.now c.next-name.new.self choice.Another (sym c.is_empty.ensures ∙ c.if-is_empty.false) c.in-Another.ensures))
    c.requires c.in_ok-put_named-in-Another.ensures refl
