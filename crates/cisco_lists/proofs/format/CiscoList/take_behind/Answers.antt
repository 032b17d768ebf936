use Rattle.std.proofs.Common.{refl, sym, ◌∙◌}
use Rattle.cisco_lists.specs.Telling.{remark_text}
use Rattle.cisco_lists.specs.Lines.{numbered_entry}
use Rattle.cisco_lists.proofs.Outcomes.{as-outcome, said-outcome, unsaid-outcome, entry-remark, entry-whole, entry-fault}
use Rattle.cisco_lists.proofs.format.CiscoList.take_behind.Goals as goal

pub returns-then-is_named : goal.returns-then-is_named
returns-then-is_named c =
    said-outcome (numbered_entry c.args.self.now c.args.text.now c.args.word.now c.args.at.now) (remark_text c.args.text.now) c.args.self.now _ _ _ (entry-remark c.args.self.now c.args.text.now c.args.word.now c.peek.result.now c.args.at.now c.peek.ensures (sym c.is_named.ensures ∙ c.if-is_named.true)) c.requires c.in_ok-put_remark.ensures refl

pub returns-in-None : goal.returns-in-None
returns-in-None c =
    as-outcome _ _ (numbered_entry c.args.self.now c.args.text.now c.args.word.now c.args.at.now) _ _ _
    (entry-whole c.args.self.now c.args.text.now c.args.word.now c.peek.result.now c.args.at.now c.read_entry-entry.new.at c.read_entry-entry.result c.peek.ensures (sym c.is_named.ensures ∙ c.if-is_named.false) c.read_entry-entry.ensures c.in-None.ensures)
    c.place_entry.ensures

pub returns-in-Some : goal.returns-in-Some
returns-in-Some c =
    unsaid-outcome _ (numbered_entry c.args.self.now c.args.text.now c.args.word.now c.args.at.now) c.in-Some.why c.word.result.now c.args.self.now _ c.unsaid.ensures.answer c.unsaid.ensures.text
    (entry-fault c.args.self.now c.args.text.now c.args.word.now c.peek.result.now c.word.result.now c.args.at.now c.read_entry-entry.new.at c.read_entry-entry.result c.in-Some.why c.peek.ensures (sym c.is_named.ensures ∙ c.if-is_named.false) c.read_entry-entry.ensures c.in-Some.ensures c.word.ensures)
