-- What the loop comes to where there is a turn.
use Rattle.std.proofs.Common.{◌≡◌, ℕ, ◌+◌, ◌<◌, List, Some, Option, IfSome, Ok, length, ap, subst, arith}
use Rattle.tcam_device.specs.declared.Action.{Action}
use Rattle.tcam_device.specs.Flight.{writes_in}
use Rattle.batch_order.specs.Managed.{HeldCommit, Managed}
use Rattle.replay.specs.declared.watch.Count.{Count}
use Rattle.replay.specs.declared.steps.Ended.{Ended}
use Rattle.replay.specs.Pausing.{MakesUntil}
use Rattle.replay.specs.Running.{Watching}
use Rattle.replay.specs.Making.{snapshot}
use Rattle.replay.specs.Outside.{outside}

-- a commit that has more writes than come before its turn doesn't come to its end before that
pub not-ended : (ended : Ended) (Seen : Type 0) (after : ℕ) (begun now : Managed) (watch : Watching) (slots : ℕ) (count count_now : Count) (events events_now : List Action) (taken taken_now : Option (List ℕ))
    → IfSome begun.held (λ held. after < count.told + length (writes_in held.actions))
    → MakesUntil Seen (Some after) watch slots (snapshot begun count (outside events taken)) (snapshot now count_now (outside events_now taken_now)) (Ok (Some ended)) → ⊥
not-ended ended Seen after begun now watch slots count count_now events events_now taken taken_now more (all, within) =
    let enough : after < count.told + length (writes_in all.held.actions) = subst (λ held. IfSome held (λ (one : HeldCommit). after < count.told + length (writes_in one.actions))) all.held_is more in
    let size : length (writes_in all.actions) ≡ length (writes_in all.held.actions) = ap (λ actions. length (writes_in actions)) all.actions_are in
    let told = all.come.told in
    omega (arith, within, told, size, enough)
