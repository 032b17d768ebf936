use Rattle.std.proofs.Common.{sym, ap, subst}
use Rattle.std.specs.Prelude.{slice_get}
use Rattle.split_order.specs.declared.steps.Next.TheVariants as next
use Rattle.split_order.specs.Next.{IsNext}
use Rattle.split_order.proofs.manager.SplitManager.next_action.Goals as goal

pub returns-in-Nothing : goal.returns-in-Nothing
returns-in-Nothing c slots wide =
    let is : IsNext c.args.self.now next.Nothing = subst (IsNext c.args.self.now) c.in-Nothing.is c.next.ensures in
    sym (ap (λ some. slice_get some 0) (is slots wide))

pub returns-in-Drain : goal.returns-in-Drain
returns-in-Drain c slots wide =
    let is : IsNext c.args.self.now next.Drain = subst (IsNext c.args.self.now) c.in-Drain.is c.next.ensures in
    sym (ap (λ some. slice_get some 0) (is slots wide))

pub returns-in-Part : goal.returns-in-Part
returns-in-Part c slots wide =
    let is : IsNext c.args.self.now (next.Part c.in-Part.due) = subst (IsNext c.args.self.now) c.in-Part.is c.next.ensures in
    sym (ap (λ some. slice_get some 0) (is.1 slots wide))
