use Rattle.std.proofs.Common.{◌≡◌, ◌+◌, Some, IsSome, true, false, refl, sym, subst, ◌∙◌, arith}
use Rattle.batch_order.specs.declared.Step.TheVariants.{Wrote}
use Rattle.split_order.specs.Managed.{SplitManaged}
use Rattle.split_order.specs.Next.{IsPartDue}
use Rattle.split_order.proofs.Advanced.{IsAdvanced, advances, kept_on}
use Rattle.split_order.proofs.Told.{one_left, part_in_use}
use Rattle.split_order.proofs.manager.SplitManager.advance.Goals as goal

pub note-requires : goal.note-requires
note-requires c =
    let i = c.self.inside in
    part_in_use i.since i.progress.left _ c.self.invariant c.args.due (rw (← c.self.view_is) at c.requires.0)

pub overflow_sub-self : goal.overflow_sub-self
overflow_sub-self c =
    let i = c.self.inside in
    one_left i.since i.progress.left _ c.self.invariant c.args.due.part (rw (← c.self.view_is) at c.requires.1)

pub pass_write-requires : goal.pass_write-requires
pass_write-requires c =
    let i = c.self.inside in
    let m : SplitManaged = record { whole = i.whole; events = i.events.items; made = i.progress.made; begun = i.progress.begun; counts = i.progress.counts } in
    let due : IsPartDue m (Some c.args.due) = rw (← c.self.view_is) at c.requires.0 in
    subst IsSome (sym due.1) refl

pub invariant_of-self : goal.invariant_of-self
invariant_of-self c =
    let i = c.self.inside in
    let m : SplitManaged = record { whole = i.whole; events = i.events.items; made = i.progress.made; begun = i.progress.begun; counts = i.progress.counts } in
    let m' : SplitManaged = record { whole = i.whole; events = c.and-self-inside.result.items; made = i.progress.made + 1; begun = true; counts = i.progress.counts } in
    let did : IsAdvanced m m' c.args.due = record {
      events = c.and-self-inside.ensures;
      begun = refl;
      counts = refl;
      right = c.serving.ensures.right;
      on_last = λ last. absurd (let wrong : true ≡ false = sym last ∙ c.if-not-due.true in cc);
      on_more = λ more. (omega arith, refl);
    } in
    kept_on i.since c.note.new.self i.progress.left m m' c.self.invariant c.args.due (rw (← c.self.view_is) at c.requires.0) (rw (← c.self.view_is) at c.requires.1) did c.note.ensures.size c.note.ensures.since

pub returns-then-not-due : goal.returns-then-not-due
returns-then-not-due c slots wide =
    let i = c.self.inside in
    let m : SplitManaged = record { whole = i.whole; events = i.events.items; made = i.progress.made; begun = i.progress.begun; counts = i.progress.counts } in
    let m' : SplitManaged = record { whole = i.whole; events = c.and-self-inside.result.items; made = i.progress.made + 1; begun = true; counts = i.progress.counts } in
    let did : IsAdvanced m m' c.args.due = record {
      events = c.and-self-inside.ensures;
      begun = refl;
      counts = refl;
      right = c.serving.ensures.right;
      on_last = λ last. absurd (let wrong : true ≡ false = sym last ∙ c.if-not-due.true in cc);
      on_more = λ more. (omega arith, refl);
    } in
    rw (← c.self.view_is) (advances i.since c.note.new.self i.progress.left m m' c.self.invariant c.args.due (rw (← c.self.view_is) at c.requires.0) (rw (← c.self.view_is) at c.requires.1) did slots (rw (← c.self.view_is) at wide))

pub invariant_of-self-2 : goal.invariant_of-self-2
invariant_of-self-2 c =
    let i = c.self.inside in
    let m : SplitManaged = record { whole = i.whole; events = i.events.items; made = i.progress.made; begun = i.progress.begun; counts = i.progress.counts } in
    let due : IsPartDue m (Some c.args.due) = rw (← c.self.view_is) at c.requires.0 in
    let m' : SplitManaged = record { whole = c.pass_write.new.self; events = c.and-self-inside.result.items; made = 0; begun = true; counts = i.progress.counts } in
    let did : IsAdvanced m m' c.args.due = record {
      events = c.and-self-inside.ensures;
      begun = refl;
      counts = refl;
      right = c.serving.ensures.right;
      on_last = λ last. (refl, (Wrote due.0, c.pass_write.ensures 0 due.0 due.1));
      on_more = λ more. absurd (let wrong : false ≡ true = sym more ∙ c.if-not-due.false in cc);
    } in
    kept_on i.since c.note.new.self i.progress.left m m' c.self.invariant c.args.due (rw (← c.self.view_is) at c.requires.0) (rw (← c.self.view_is) at c.requires.1) did c.note.ensures.size c.note.ensures.since

pub returns : goal.returns
returns c slots wide =
    let i = c.self.inside in
    let m : SplitManaged = record { whole = i.whole; events = i.events.items; made = i.progress.made; begun = i.progress.begun; counts = i.progress.counts } in
    let due : IsPartDue m (Some c.args.due) = rw (← c.self.view_is) at c.requires.0 in
    let m' : SplitManaged = record { whole = c.pass_write.new.self; events = c.and-self-inside.result.items; made = 0; begun = true; counts = i.progress.counts } in
    let did : IsAdvanced m m' c.args.due = record {
      events = c.and-self-inside.ensures;
      begun = refl;
      counts = refl;
      right = c.serving.ensures.right;
      on_last = λ last. (refl, (Wrote due.0, c.pass_write.ensures 0 due.0 due.1));
      on_more = λ more. absurd (let wrong : false ≡ true = sym more ∙ c.if-not-due.false in cc);
    } in
    rw (← c.self.view_is) (advances i.since c.note.new.self i.progress.left m m' c.self.invariant c.args.due (rw (← c.self.view_is) at c.requires.0) (rw (← c.self.view_is) at c.requires.1) did slots (rw (← c.self.view_is) at wide))
