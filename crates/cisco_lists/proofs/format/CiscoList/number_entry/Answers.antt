use Rattle.std.proofs.Common.{◌+◌, ◌-◌, Ok, arith}
use Rattle.cisco_lists.specs.declared.why.Why.TheVariants as why
use Rattle.cisco_lists.specs.Telling.{entry_text}
use Rattle.cisco_lists.specs.Lines.{placed}
use Rattle.cisco_lists.proofs.Outcomes.{said-outcome, unsaid-outcome, placed-fits, placed-over}
use Rattle.cisco_lists.proofs.format.CiscoList.number_entry.Goals as goal

pub returns-then-behind-gt4294967295 : goal.returns-then-behind-gt4294967295
returns-then-behind-gt4294967295 c =
    unsaid-outcome _ (placed c.args.self.now c.args.word.now c.args.entry.now (Ok c.args.number)) why.Number c.args.word.now c.args.self.now _ c.unsaid.ensures.answer c.unsaid.ensures.text (placed-over c.args.self.now c.args.word.now c.args.entry.now c.args.number c.count_of.result c.count_of.ensures.count (omega arith))

pub returns : goal.returns
returns c =
    said-outcome (placed c.args.self.now c.args.word.now c.args.entry.now (Ok c.args.number)) (entry_text c.args.number c.args.entry.now) (record c.args.self.now { counted = c.is_empty.result; last = c.args.number + c.count_of.result - 1 }) _ _ _ (placed-fits c.args.self.now c.args.word.now c.args.entry.now c.is_empty.result c.args.number c.count_of.result c.is_empty.ensures c.count_of.ensures.count (omega arith)) c.requires.empty c.in_ok-put_entry.ensures c.set_last.ensures
