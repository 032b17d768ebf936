use Rattle.std.proofs.Common.{◌≡◌, true, false, refl, sym, ◌∙◌}
use Rattle.split_order.specs.Left.{since_of}
use Rattle.split_order.specs.Managed.{SplitManaged}
use Rattle.split_order.proofs.Drained.{IsDrained, drains, kept_drained}
use Rattle.split_order.proofs.manager.SplitManager.note_drain.Goals as goal

pub invariant_of-self : goal.invariant_of-self
invariant_of-self c =
    let i = c.self.inside in
    let m : SplitManaged = record { whole = i.whole; events = i.events.items; made = i.progress.made; begun = i.progress.begun; counts = i.progress.counts } in
    let m' : SplitManaged = record { whole = i.whole; events = c.and-self-inside.result.items; made = i.progress.made; begun = true; counts = i.progress.counts } in
    let did : IsDrained m m' = record {
      events = c.and-self-inside.ensures;
      begun = refl;
      counts = refl;
      made = refl;
      on_own = λ own. absurd (let wrong : false ≡ true = sym c.if-not-drains_next.true ∙ (c.drains_next.ensures ∙ own) in cc);
      on_part = λ part. refl;
    } in
    kept_drained i.since c.drained.new.self i.progress.left m m' c.self.invariant (rw (← c.self.view_is) at c.requires) did c.drained.ensures.size (c.drained.ensures.since (since_of m) c.self.invariant.since_is)

pub returns-then-not-drains_next : goal.returns-then-not-drains_next
returns-then-not-drains_next c slots wide =
    let i = c.self.inside in
    let m : SplitManaged = record { whole = i.whole; events = i.events.items; made = i.progress.made; begun = i.progress.begun; counts = i.progress.counts } in
    let m' : SplitManaged = record { whole = i.whole; events = c.and-self-inside.result.items; made = i.progress.made; begun = true; counts = i.progress.counts } in
    let did : IsDrained m m' = record {
      events = c.and-self-inside.ensures;
      begun = refl;
      counts = refl;
      made = refl;
      on_own = λ own. absurd (let wrong : false ≡ true = sym c.if-not-drains_next.true ∙ (c.drains_next.ensures ∙ own) in cc);
      on_part = λ part. refl;
    } in
    rw (← c.self.view_is) (drains i.since c.drained.new.self i.progress.left m m' c.self.invariant (rw (← c.self.view_is) at c.requires) did slots (rw (← c.self.view_is) at wide))

pub invariant_of-self-2 : goal.invariant_of-self-2
invariant_of-self-2 c =
    let i = c.self.inside in
    let m : SplitManaged = record { whole = i.whole; events = i.events.items; made = i.progress.made; begun = i.progress.begun; counts = i.progress.counts } in
    let m' : SplitManaged = record { whole = c.pass.new.self; events = c.and-self-inside.result.items; made = i.progress.made; begun = true; counts = i.progress.counts } in
    let did : IsDrained m m' = record {
      events = c.and-self-inside.ensures;
      begun = refl;
      counts = refl;
      made = refl;
      on_own = λ own. (c.pass.result, c.pass.ensures);
      on_part = λ part. absurd (let wrong : true ≡ false = sym c.if-not-drains_next.false ∙ (c.drains_next.ensures ∙ part) in cc);
    } in
    kept_drained i.since c.drained.new.self i.progress.left m m' c.self.invariant (rw (← c.self.view_is) at c.requires) did c.drained.ensures.size (c.drained.ensures.since (since_of m) c.self.invariant.since_is)

pub returns : goal.returns
returns c slots wide =
    let i = c.self.inside in
    let m : SplitManaged = record { whole = i.whole; events = i.events.items; made = i.progress.made; begun = i.progress.begun; counts = i.progress.counts } in
    let m' : SplitManaged = record { whole = c.pass.new.self; events = c.and-self-inside.result.items; made = i.progress.made; begun = true; counts = i.progress.counts } in
    let did : IsDrained m m' = record {
      events = c.and-self-inside.ensures;
      begun = refl;
      counts = refl;
      made = refl;
      on_own = λ own. (c.pass.result, c.pass.ensures);
      on_part = λ part. absurd (let wrong : true ≡ false = sym c.if-not-drains_next.false ∙ (c.drains_next.ensures ∙ part) in cc);
    } in
    rw (← c.self.view_is) (drains i.since c.drained.new.self i.progress.left m m' c.self.invariant (rw (← c.self.view_is) at c.requires) did slots (rw (← c.self.view_is) at wide))
