use Rattle.std.proofs.Common.{ap}
use Rattle.std.specs.Prelude.{codes}
use Rattle.cisco_lists.specs.declared.why.Why.TheVariants as why
use Rattle.cisco_lists.specs.Telling.{named_line}
use Rattle.cisco_lists.specs.Lines.{elsewhere, entered, header_as, header_outcome}
use Rattle.cisco_lists.proofs.Outcomes.{said-outcome, unsaid-outcome}
use Rattle.cisco_lists.proofs.format.CiscoList.take_header.Goals as goal

pub returns-in_ok-enter-in-Chosen : goal.returns-in_ok-enter-in-Chosen
returns-in_ok-enter-in-Chosen c =
    said-outcome (header_outcome c.args.self.now c.args.name.now) (named_line (codes "# list: ") c.args.name.now) (entered c.args.name.now c.args.self.now) _ _ _
    (ap (header_as c.args.self.now c.args.name.now) c.in-Chosen.ensures) c.requires c.in_ok-put_named-in-Chosen.ensures c.in_ok-enter-in-Chosen.ensures

pub returns-in-Second : goal.returns-in-Second
returns-in-Second c =
    unsaid-outcome _ (header_outcome c.args.self.now c.args.name.now) why.List c.args.name.now c.args.self.now _ c.unsaid.ensures.answer c.unsaid.ensures.text (ap (header_as c.args.self.now c.args.name.now) c.in-Second.ensures)

pub returns-in_ok-put_named-in-Another : goal.returns-in_ok-put_named-in-Another
returns-in_ok-put_named-in-Another c =
    said-outcome (header_outcome c.args.self.now c.args.name.now) (named_line (codes "# another list: ") c.args.name.now) (elsewhere c.args.self.now) _ _ _
    (ap (header_as c.args.self.now c.args.name.now) c.in-Another.ensures) c.requires c.in_ok-put_named-in-Another.ensures c.leave.ensures
