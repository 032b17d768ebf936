use Rattle.std.proofs.Common.{◌≡◌, IsTrue, sym, subst}
use Rattle.std.specs.Prelude.{◌↔◌}
use Rattle.driver_trace.specs.Compared.{as_compared}
use Rattle.leak_search.proofs.Settling.{same_exact}
use Rattle.leak_search.proofs.settled.agree.Goals as goal

pub returns : goal.returns
returns c = subst (λ b. IsTrue b ↔ (as_compared c.args.by c.args.a.now ≡ as_compared c.args.by c.args.b.now)) (sym c.are_same.ensures) (same_exact c.args.by c.args.a.now c.args.b.now)
