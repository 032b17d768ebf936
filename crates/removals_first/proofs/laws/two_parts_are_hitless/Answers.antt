use Rattle.removals_first.proofs.TwoParts.{parts-hitless}
use Rattle.removals_first.proofs.laws.two_parts_are_hitless.Goals as goal

pub returns : goal.returns
returns c = parts-hitless
