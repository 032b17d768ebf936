use Rattle.std.proofs.Common.{sym, ◌∙◌}
use Rattle.cisco_lists.specs.Lines.{entry_outcome}
use Rattle.cisco_lists.proofs.Outcomes.{as-outcome, entry-number, entry-plain}
use Rattle.cisco_lists.proofs.format.CiscoList.take_entry.Goals as goal

pub returns-then-starts_number : goal.returns-then-starts_number
returns-then-starts_number c =
    as-outcome _ _ (entry_outcome c.args.self.now c.args.text.now c.args.at.now) _ _ _
    (entry-number c.args.self.now c.args.text.now c.peek.result.now c.next-word.result.now c.args.at.now c.next-word.new.self c.peek.ensures (sym c.starts_number.ensures ∙ c.if-starts_number.true) c.next-word.ensures.word c.next-word.ensures.behind)
    c.take_behind.ensures

pub returns : goal.returns
returns c = as-outcome _ _ (entry_outcome c.args.self.now c.args.text.now c.args.at.now) _ _ _ (entry-plain c.args.self.now c.args.text.now c.peek.result.now c.args.at.now c.peek.ensures (sym c.starts_number.ensures ∙ c.if-starts_number.false)) c.take_behind-2.ensures
