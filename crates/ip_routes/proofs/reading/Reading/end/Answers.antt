use Rattle.std.proofs.Common.{ap, ◌∙◌}
use Rattle.ip_routes.specs.Reading.{end_as}
use Rattle.ip_routes.proofs.reading.Reading.end.Goals as goal

pub returns-in-Kind : goal.returns-in-Kind
returns-in-Kind c = ap (λ e. end_as c.args.self.now e) c.in-Kind.ensures

pub returns-in-Prefix : goal.returns-in-Prefix
returns-in-Prefix c = ap (λ e. end_as c.args.self.now e) c.in-Prefix.ensures

pub returns-in-Attribute : goal.returns-in-Attribute
returns-in-Attribute c = c.end_hop.ensures ∙ ap (λ e. end_as c.args.self.now e) c.in-Attribute.ensures

pub returns-in-Address : goal.returns-in-Address
returns-in-Address c = ap (λ e. end_as c.args.self.now e) c.in-Address.ensures

pub returns-in-HopValue : goal.returns-in-HopValue
returns-in-HopValue c = ap (λ e. end_as c.args.self.now e) c.in-HopValue.ensures

pub returns-in-Skipped : goal.returns-in-Skipped
returns-in-Skipped c = ap (λ e. end_as c.args.self.now e) c.in-Skipped.ensures

pub returns-in-Metric : goal.returns-in-Metric
returns-in-Metric c = ap (λ e. end_as c.args.self.now e) c.in-Metric.ensures
