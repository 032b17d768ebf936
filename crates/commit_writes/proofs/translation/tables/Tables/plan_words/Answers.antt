use Rattle.std.proofs.Common.{length, ap, arith, length-append}
use Rattle.std.proofs.lemmas.Result.{on_ok_weaker}
use Rattle.rule_model.specs.declared.Field.TheVariants.{Src, Dst}
use Rattle.commit_writes.specs.Shape.{field_writes}
use Rattle.commit_writes.proofs.WordWrites.{field_writes-few}
use Rattle.commit_writes.proofs.translation.tables.Tables.plan_words.Goals as goal

pub returns-clause-most : goal.returns-clause-most
returns-clause-most c =
    on_ok_weaker c.plan_field-2.result (λ is.
    let first = field_writes-few Src c.of.result.now c.deref.result.now in
    let second = field_writes-few Dst c.of-2.result.now c.deref-2.result.now in
    let sum = length-append c.plan_field.new.writes.items (field_writes Dst c.of-2.result.now c.deref-2.result.now) in
    let front = length-append c.args.words.now.items (field_writes Src c.of.result.now c.deref.result.now) in
    let whole = ap length is in
    let before = ap length c.in_ok-plan_field.ensures in
    let src = c.self.invariant.src_size in
    let dst = c.self.invariant.dst_size in
    let src_read = ap length c.deref.ensures.value in
    let dst_read = ap length c.deref-2.ensures.value in
    omega arith) c.plan_field-2.ensures
