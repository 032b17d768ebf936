use Rattle.std.proofs.Common.{◌∙◌, sym}
use Rattle.rule_store.proofs.Faults.{fault-here, fault-later}
use Rattle.rule_store.proofs.stored.Store.check.Goals as goal

pub returns-in-Some : goal.returns-in-Some
returns-in-Some c =
    c.loop-i.invariant
    ∙ fault-here c.args.self.now.rules c.args.batch.now c.loop-i.i c.named.result c.named.ensures.command c.named.ensures.naming c.in-Some.fault (sym c.fault_of.ensures ∙ c.in-Some.is)

pub loop-i-preserved : goal.loop-i-preserved
loop-i-preserved c =
    c.loop-i.invariant
    ∙ fault-later c.args.self.now.rules c.args.batch.now c.loop-i.i c.named.result c.named.ensures.command c.named.ensures.naming (sym c.fault_of.ensures ∙ c.in_default.is)
