use Rattle.std.proofs.Common.{◌≡◌, ◌⊎◌, ℕ, Option, Some, subst}
use Rattle.placement.specs.Ready.{AreToldBut}
use Rattle.batch_order.proofs.Told.{followed_some, told_nothing}
use Rattle.batch_order.proofs.undoing.tell_if.Goals as goal

pub returns-in-Some-clause-told : goal.returns-in-Some-clause-told
returns-in-Some-clause-told c other are =
    followed_some other c.in-Some.id c.args.live.now c.tell.new.self c.args.arrangement.now c.tell.ensures.live c.tell.ensures.told c.tell.ensures.same
    (subst (λ (held : Option ℕ). AreToldBut (λ one. (other ≡ Some one) ⊎ (held ≡ Some one)) c.args.live.now.live c.args.live.now.told c.args.arrangement.now) c.in-Some.is are)

pub returns-in_default-clause-told : goal.returns-in_default-clause-told
returns-in_default-clause-told c other are =
    told_nothing other c.args.live.now.live c.args.live.now.told c.args.arrangement.now
    (subst (λ (held : Option ℕ). AreToldBut (λ one. (other ≡ Some one) ⊎ (held ≡ Some one)) c.args.live.now.live c.args.live.now.told c.args.arrangement.now) c.in_default.is are)
