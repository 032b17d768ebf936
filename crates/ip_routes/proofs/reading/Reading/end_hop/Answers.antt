use Rattle.std.proofs.Common.{ap, ◌∙◌}
use Rattle.ip_routes.specs.Reading.{hop_of}
use Rattle.ip_routes.proofs.reading.Reading.end_hop.Goals as goal

pub returns-in-Unicast : goal.returns-in-Unicast
returns-in-Unicast c = c.end_unicast.ensures ∙ ap (λ k. hop_of k c.args.self.now.hop) c.in-Unicast.ensures

pub returns-in-Blackhole : goal.returns-in-Blackhole
returns-in-Blackhole c = ap (λ k. hop_of k c.args.self.now.hop) c.in-Blackhole.ensures

pub returns-in-Unreachable : goal.returns-in-Unreachable
returns-in-Unreachable c = ap (λ k. hop_of k c.args.self.now.hop) c.in-Unreachable.ensures

pub returns-in-Prohibit : goal.returns-in-Prohibit
returns-in-Prohibit c = ap (λ k. hop_of k c.args.self.now.hop) c.in-Prohibit.ensures
