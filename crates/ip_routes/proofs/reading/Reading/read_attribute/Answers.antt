use Rattle.std.proofs.Common.{refl, ap, ◌∙◌, Ok, Err}
use Rattle.ip_routes.specs.declared.attributes.Attribute.TheVariants as attribute
use Rattle.ip_routes.specs.Reading.{expecting, put_hop}
use Rattle.ip_routes.proofs.Steps.{as-read}
use Rattle.ip_routes.proofs.reading.Reading.read_attribute.Goals as goal

pub returns-in-Hop : goal.returns-in-Hop
returns-in-Hop c = as-read c.args.version c.args.self.now c.args.word.now _ attribute.Hop _ c.gone.ensures c.in-Hop.ensures c.put_hop.ensures

pub returns-in-HopValue : goal.returns-in-HopValue
returns-in-HopValue c = as-read c.args.version c.args.self.now c.args.word.now _ attribute.HopValue _ c.gone.ensures c.in-HopValue.ensures (c.put_hop-in-HopValue.ensures ∙ ap (λ s. put_hop s c.args.word.now) (c.expect.ensures ∙ ap (λ e. expecting e c.args.self.now) c.behind_part.ensures))

pub returns-in-Flag : goal.returns-in-Flag
returns-in-Flag c = as-read c.args.version c.args.self.now c.args.word.now _ attribute.Flag _ c.gone.ensures c.in-Flag.ensures refl

pub returns-in-Skipped : goal.returns-in-Skipped
returns-in-Skipped c = as-read c.args.version c.args.self.now c.args.word.now _ attribute.Skipped _ c.gone.ensures c.in-Skipped.ensures (ap Ok c.expect-in-Skipped.ensures)

pub returns-in-Metric : goal.returns-in-Metric
returns-in-Metric c = as-read c.args.version c.args.self.now c.args.word.now _ attribute.Metric _ c.gone.ensures c.in-Metric.ensures (ap Ok c.expect-in-Metric.ensures)

pub returns-in-Unsaid : goal.returns-in-Unsaid
returns-in-Unsaid c = as-read c.args.version c.args.self.now c.args.word.now _ attribute.Unsaid _ c.gone.ensures c.in-Unsaid.ensures (ap Err c.why_of.ensures)
