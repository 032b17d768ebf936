use Rattle.std.proofs.Common.{◌≡◌, ℕ, ◌≤◌, subst}
use Rattle.commit_writes.specs.InFlight.{ServesLive}
use Rattle.batch_order.specs.Managed.{live_now}
use Rattle.split_device.specs.State.{undivided}
use Rattle.split_order.specs.Left.{state_on}
use Rattle.split_order.specs.Managed.{SplitManaged}
use Rattle.split_order.proofs.Calls.{rest_told}
use Rattle.split_order.proofs.Live.{left_timely, serves_live}
use Rattle.split_order.specs.Next.{ShowsOnWay}
use Rattle.split_order.proofs.Served.{serves_ahead, shows_on_way, split_serves}
use Rattle.split_order.proofs.manager.SplitManager.serving.Goals as goal

pub returns-clause-serves : goal.returns-clause-serves
returns-clause-serves c = rw (← c.self.view_is) (λ slots wide. split_serves c.self.inside.since c.self.inside.progress.left _ c.self.invariant c.serving.ensures.serves slots wide)

pub returns-clause-ahead : goal.returns-clause-ahead
returns-clause-ahead c = rw (← c.self.view_is) (λ slots wide. serves_ahead c.self.inside.since c.self.inside.progress.left _ c.self.invariant c.serving.ensures.serves slots wide)

pub returns-clause-way : goal.returns-clause-way
returns-clause-way c =
    let i = c.self.inside in
    let m : SplitManaged = record { whole = i.whole; events = i.events.items; made = i.progress.made; begun = i.progress.begun; counts = i.progress.counts } in
    let view : m ≡ c.args.self.now = c.self.view_is in
    subst (λ (one : SplitManaged). (slots : ℕ) → one.whole.slots ≤ slots → ShowsOnWay slots one) view
    (λ slots wide. shows_on_way i.since i.progress.left m c.self.invariant c.serving.ensures.serves slots wide)

pub returns-clause-live : goal.returns-clause-live
returns-clause-live c =
    let i = c.self.inside in
    let m : SplitManaged = record { whole = i.whole; events = i.events.items; made = i.progress.made; begun = i.progress.begun; counts = i.progress.counts } in
    let view : m ≡ c.args.self.now = c.self.view_is in
    subst (λ (one : SplitManaged). (slots : ℕ) → one.whole.slots ≤ slots → ServesLive (live_now one.whole) (undivided (state_on slots one))) view
    (λ slots wide. serves_live i.since i.progress.left m c.self.invariant slots wide c.serving.ensures.now)

pub returns-clause-timely : goal.returns-clause-timely
returns-clause-timely c = rw (← c.self.view_is) (λ slots wide. left_timely c.self.inside.since c.self.inside.progress.left _ c.self.invariant slots wide)

pub returns-clause-rest : goal.returns-clause-rest
returns-clause-rest c = rw (← c.self.view_is) (rest_told c.self.inside.since c.self.inside.progress.left _ c.self.invariant)
