use Rattle.std.proofs.Common.{ap}
use Rattle.cisco_lists.specs.declared.why.Why.TheVariants as why
use Rattle.cisco_lists.specs.Lines.{place_outcome}
use Rattle.cisco_lists.proofs.Outcomes.{as-outcome, passed-outcome, unsaid-outcome, place-inside, place-outside}
use Rattle.cisco_lists.proofs.format.CiscoList.take_place.Goals as goal

pub returns-in-Inside : goal.returns-in-Inside
returns-in-Inside c = as-outcome _ _ (place_outcome c.args.self.now c.args.text.now c.args.self.now.place) _ _ _ (place-inside c.args.self.now c.args.text.now c.new-at.result c.new-at.ensures c.in-Inside.ensures) c.take_entry.ensures

pub returns-in-Outside : goal.returns-in-Outside
returns-in-Outside c =
    unsaid-outcome _ (place_outcome c.args.self.now c.args.text.now c.args.self.now.place) why.NoList c.peek.result.now c.args.self.now _ c.unsaid.ensures.answer c.unsaid.ensures.text (place-outside c.args.self.now c.args.text.now c.peek.result.now c.new-at.result c.new-at.ensures c.peek.ensures c.in-Outside.ensures)

pub returns-in-Elsewhere : goal.returns-in-Elsewhere
returns-in-Elsewhere c = passed-outcome (place_outcome c.args.self.now c.args.text.now c.args.self.now.place) c.args.self.now _ (ap (place_outcome c.args.self.now c.args.text.now) c.in-Elsewhere.ensures) c.requires
