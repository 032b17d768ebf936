use Rattle.std.proofs.Common.{true, sym, subst, arith}
use Rattle.std.specs.Prelude.{option_copied}
use Rattle.std.proofs.lemmas.Result.{on_ok_weaker, IfErr-weaker}
use Rattle.tcam_device.specs.declared.Write.TheVariants as writes
use Rattle.trace_check.specs.Traced.{IsWritten, WriteStops}
use Rattle.trace_check.proofs.PiecesKept.{finds_rules}
use Rattle.trace_check.proofs.PlacedEntries.{entries_size}
use Rattle.trace_check.proofs.WritesTaken.{slot_written}
use Rattle.trace_check.proofs.trace.Trace.write_slot.Goals as goal

pub write-requires-clause-found : goal.write-requires-clause-found
write-requires-clause-found c =
    let t = c.args.self.now in finds_rules t.mode t.bits t.rules.rules t.batch c.args.commit c.requires.opened.kept.is

pub write-requires-clause-inside : goal.write-requires-clause-inside
write-requires-clause-inside c =
    let size = entries_size c.args.self.now.device.places in let is = c.requires.sized.size in let used = c.requires.used in omega arith

pub write-requires-clause-few : goal.write-requires-clause-few
write-requires-clause-few c =
    let size = entries_size c.args.self.now.device.places in let is = c.requires.sized.size in omega arith

pub returns-then-not-taken-clause-broken : goal.returns-then-not-taken-clause-broken
returns-then-not-taken-clause-broken c =
    let t = c.args.self.now in c.in-Ok.ensures.refused c.if-not-taken.true t.slots t.mode t.bits t.rules.rules t.batch c.requires.used c.requires.opened.kept

pub returns-clause-written : goal.returns-clause-written
returns-clause-written c =
    let t = c.args.self.now in
    let k = c.in-Ok.ensures.taken c.if-not-taken.false t.slots t.mode t.bits t.rules.rules t.batch c.requires.used c.requires.opened.kept in
    on_ok_weaker c.count_write.result (λ same. subst (IsWritten t (writes.Slot c.args.slot (option_copied c.args.entry)) true t.drained) (sym same)
    (slot_written t c.write.new.self c.write.new.device c.args.slot (option_copied c.args.entry) c.requires.sized k.0 k.1)) c.count_write.ensures.counted

pub returns-clause-broken : goal.returns-clause-broken
returns-clause-broken c =
    IfErr-weaker c.count_write.result _ _ (λ fault is. subst (WriteStops c.args.self.now (writes.Slot c.args.slot (option_copied c.args.entry))) (sym is) tt) c.count_write.ensures.memory
