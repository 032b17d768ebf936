use Rattle.std.proofs.Common.{Contains, ap, subst, sym}
use Rattle.batch_order.proofs.entries.LiveEntries.id_of.Goals as goal

pub returns-clause-none : goal.returns-clause-none
returns-clause-none c none one member = c.id_of.ensures.none none one (subst (λ live. Contains live one) (sym (ap (λ v. v.live) c.self.view_is)) member)
