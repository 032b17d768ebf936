use Rattle.std.proofs.Common.{◌≡◌, [], ◌∷◌, drop}
use Rattle.iptables.specs.Values.{any_tests, apart}
use Rattle.iptables.proofs.ports.apart.Given as goal

abbrev pub invariant-loop-range : goal.invariant-loop-range
invariant-loop-range l = record { left : apart l.side l.left.items (drop l.range-index l.ranges) ≡ apart l.side (any_tests ∷ []) l.ranges }
