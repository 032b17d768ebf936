use Rattle.split_order.proofs.Calls.{left_told, none_told}
use Rattle.split_order.proofs.manager.SplitManager.left.Goals as goal

pub returns-in-Some : goal.returns-in-Some
returns-in-Some c =
    rw (← c.self.view_is) (λ slots wide. left_told c.self.inside.since c.self.inside.progress.left _ c.self.invariant c.left.result _ _ c.in-Some.is c.left.ensures slots wide)

pub returns-in-None : goal.returns-in-None
returns-in-None c =
    rw (← c.self.view_is) (λ slots wide. none_told c.self.inside.since c.self.inside.progress.left _ c.self.invariant c.left.result _ c.in-None.is c.left.ensures slots wide)
