use Rattle.std.proofs.Common.{◌≡◌, map}
use Rattle.order_chains.specs.Ends.{has_upper, without_those}
use Rattle.order_chains.specs.Pairs.{pairs_of}
use Rattle.order_chains.proofs.Edges.drop_below.Given as goal

abbrev pub invariant-loop-at : goal.invariant-loop-at
invariant-loop-at l = record {
  gone : map (without_those (has_upper l.id)) l.self.places ≡ map (without_those (has_upper l.id)) l.fn.self.places;
  ids : l.self.ids ≡ l.fn.self.ids;
}

abbrev pub decreases-loop-at : goal.decreases-loop-at
decreases-loop-at l = pairs_of l.self
