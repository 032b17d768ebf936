-- What the tests of two ranks say.
use Rattle.std.proofs.Common.{ℕ, ◌<◌, ◌≤◌, IsTrue, IsFalse, is_lt, nat_cmp, arith}
use Rattle.std.proofs.lemmas.Grind.{common_steps}

pub below-lt : (rank other : ℕ) → IsTrue (is_lt (nat_cmp rank other)) → rank < other
below-lt rank other test = grind (arith, common_steps)

pub least-lt : (rank other : ℕ) → IsFalse (is_lt (nat_cmp rank other)) → other ≤ rank
least-lt rank other test = grind (arith, common_steps)
