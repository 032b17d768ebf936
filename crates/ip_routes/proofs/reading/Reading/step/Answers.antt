use Rattle.std.proofs.Common.{Ok, ap}
use Rattle.ip_routes.specs.declared.reading.Expects.TheVariants as expects
use Rattle.ip_routes.proofs.Steps.{step-by}
use Rattle.ip_routes.proofs.reading.Reading.step.Goals as goal

pub returns-in-Kind : goal.returns-in-Kind
returns-in-Kind c = step-by c.args.version c.args.self.now c.args.word.now expects.Kind _ c.in-Kind.ensures c.read_first.ensures

pub returns-in-Prefix : goal.returns-in-Prefix
returns-in-Prefix c = step-by c.args.version c.args.self.now c.args.word.now expects.Prefix _ c.in-Prefix.ensures c.read_prefix.ensures

pub returns-in-Attribute : goal.returns-in-Attribute
returns-in-Attribute c = step-by c.args.version c.args.self.now c.args.word.now expects.Attribute _ c.in-Attribute.ensures c.read_attribute.ensures

pub returns-in-Address : goal.returns-in-Address
returns-in-Address c = step-by c.args.version c.args.self.now c.args.word.now expects.Address _ c.in-Address.ensures c.read_address.ensures

pub returns-in-HopValue : goal.returns-in-HopValue
returns-in-HopValue c = step-by c.args.version c.args.self.now c.args.word.now expects.HopValue _ c.in-HopValue.ensures c.read_hop_value.ensures

pub returns-in-Skipped : goal.returns-in-Skipped
returns-in-Skipped c = step-by c.args.version c.args.self.now c.args.word.now expects.Skipped _ c.in-Skipped.ensures (ap Ok c.expect.ensures)

pub returns-in-Metric : goal.returns-in-Metric
returns-in-Metric c = step-by c.args.version c.args.self.now c.args.word.now expects.Metric _ c.in-Metric.ensures c.read_metric.ensures
