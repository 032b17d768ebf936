use Rattle.std.proofs.Common.{Ok, Err}
use Rattle.cisco_lists.specs.Lines.{number_of, placed}
use Rattle.cisco_lists.proofs.Outcomes.{as-outcome, unsaid-outcome, placed-by}
use Rattle.cisco_lists.proofs.format.CiscoList.place_entry.Goals as goal

pub returns-in-Ok : goal.returns-in-Ok
returns-in-Ok c = as-outcome _ _ (placed c.args.self.now c.args.word.now c.args.entry.now (number_of c.args.self.now.counted c.args.self.now.last c.args.word.now)) _ _ _ (placed-by c.args.self.now c.args.word.now c.args.entry.now c.is_counted.result c.last.result (Ok c.in-Ok.number) c.is_counted.ensures c.last.ensures c.in-Ok.ensures.number) c.number_entry.ensures

pub returns-in-Err : goal.returns-in-Err
returns-in-Err c =
    unsaid-outcome _ (placed c.args.self.now c.args.word.now c.args.entry.now (number_of c.args.self.now.counted c.args.self.now.last c.args.word.now)) c.in-Err.why c.args.word.now c.args.self.now _ c.unsaid.ensures.answer c.unsaid.ensures.text (placed-by c.args.self.now c.args.word.now c.args.entry.now c.is_counted.result c.last.result (Err c.in-Err.why) c.is_counted.ensures c.last.ensures c.in-Err.ensures.number)
