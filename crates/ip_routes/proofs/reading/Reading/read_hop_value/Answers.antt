use Rattle.std.proofs.Common.{ap, ◌∙◌}
use Rattle.ip_routes.specs.Reading.{put_hop}
use Rattle.ip_routes.proofs.reading.Reading.read_hop_value.Goals as goal

pub returns : goal.returns
returns c = c.put_hop.ensures ∙ ap (λ s. put_hop s c.args.word.now) c.expect.ensures
