use Rattle.removals_first.proofs.TwoParts.{parts-turn}
use Rattle.removals_first.proofs.laws.two_parts_turn_once.Goals as goal

pub returns : goal.returns
returns c = parts-turn
