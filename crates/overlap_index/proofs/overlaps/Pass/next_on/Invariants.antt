use Rattle.std.proofs.Common.{◌≡◌, ◌-◌, length}
use Rattle.overlap_index.specs.Passing.{left_of_pass}
use Rattle.overlap_index.proofs.overlaps.Pass.next_on.Given as goal

-- what was passed over isn't on the side
abbrev pub invariant-loop-self : goal.invariant-loop-self
invariant-loop-self l = left_of_pass l.self ≡ left_of_pass l.initial.self

abbrev pub decreases-loop-self : goal.decreases-loop-self
decreases-loop-self l = length l.self.pieces.now - l.self.at
