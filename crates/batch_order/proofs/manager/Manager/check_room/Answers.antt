use Rattle.std.proofs.Common.{◌≡◌, Some, None, Err, IfErr, OnOk, sym, subst}
use Rattle.rule_store.specs.Batch.{batch_fault}
use Rattle.rule_store.specs.Verdict.{Accepted, Verdict, slots_verdict, verdict}
use Rattle.readback.specs.Judged.{judgement}
use Rattle.batch_order.specs.Kept.{IsManaged}
use Rattle.batch_order.proofs.planning.Judged.{bits_answer, dst_answer, src_answer}
use Rattle.batch_order.proofs.manager.Manager.check_room.Goals as goal

pub returns-in-Err-clause-short : goal.returns-in-Err-clause-short
returns-in-Err-clause-short c =
    let i = c.self.inside in
    let t = c.in-Some.translation in
    let is : i.translation ≡ Some t = cc in
    let managed : IsManaged (Some t) i.rules i.live i.arrangement i.held = subst (λ k. IsManaged k i.rules i.live i.arrangement i.held) is c.self.invariant.0 in
    let sound : batch_fault i.rules.rules c.args.batch.now ≡ None = rw (← c.self.view_is) at c.requires.sound in
    rw (← c.self.view_is, is) (src_answer t i.rules i.live i.arrangement i.held c.args.batch.now managed sound c.in-Err.short c.in-Err.ensures.short)

pub returns-in-Err-check_field-clause-short : goal.returns-in-Err-check_field-clause-short
returns-in-Err-check_field-clause-short c =
    let i = c.self.inside in
    let t = c.in-Some.translation in
    let is : i.translation ≡ Some t = cc in
    let managed : IsManaged (Some t) i.rules i.live i.arrangement i.held = subst (λ k. IsManaged k i.rules i.live i.arrangement i.held) is c.self.invariant.0 in
    let sound : batch_fault i.rules.rules c.args.batch.now ≡ None = rw (← c.self.view_is) at c.requires.sound in
    rw (← c.self.view_is, is) (dst_answer t i.rules i.live i.arrangement i.held c.args.batch.now managed sound c.in-Ok.ensures.fits c.in-Err-check_field.short c.in-Err-check_field.ensures.short)

pub returns-in-Ok-check_field-clause-fits : goal.returns-in-Ok-check_field-clause-fits
returns-in-Ok-check_field-clause-fits c =
    let i = c.self.inside in
    let t = c.in-Some.translation in
    let is : i.translation ≡ Some t = cc in
    let managed : IsManaged (Some t) i.rules i.live i.arrangement i.held = subst (λ k. IsManaged k i.rules i.live i.arrangement i.held) is c.self.invariant.0 in
    let sound : batch_fault i.rules.rules c.args.batch.now ≡ None = rw (← c.self.view_is) at c.requires.sound in
    let same : verdict c.args.self.now.slots c.args.self.now.mode c.args.self.now.rules c.args.batch.now ≡ slots_verdict c.args.self.now.slots c.args.self.now.mode c.args.self.now.rules c.args.batch.now =
    rw (← c.self.view_is, is) (bits_answer t i.rules i.live i.arrangement i.held c.args.batch.now managed sound c.in-Ok.ensures.fits c.in-Ok-check_field.ensures.fits) in
    subst (λ (v : Verdict). OnOk c.check_slots-in-Ok-check_field.result (v ≡ Accepted)) (sym same) c.check_slots-in-Ok-check_field.ensures.fits

pub returns-in-Ok-check_field-clause-short : goal.returns-in-Ok-check_field-clause-short
returns-in-Ok-check_field-clause-short c =
    let i = c.self.inside in
    let t = c.in-Some.translation in
    let is : i.translation ≡ Some t = cc in
    let managed : IsManaged (Some t) i.rules i.live i.arrangement i.held = subst (λ k. IsManaged k i.rules i.live i.arrangement i.held) is c.self.invariant.0 in
    let sound : batch_fault i.rules.rules c.args.batch.now ≡ None = rw (← c.self.view_is) at c.requires.sound in
    let same : verdict c.args.self.now.slots c.args.self.now.mode c.args.self.now.rules c.args.batch.now ≡ slots_verdict c.args.self.now.slots c.args.self.now.mode c.args.self.now.rules c.args.batch.now =
    rw (← c.self.view_is, is) (bits_answer t i.rules i.live i.arrangement i.held c.args.batch.now managed sound c.in-Ok.ensures.fits c.in-Ok-check_field.ensures.fits) in
    subst (λ (v : Verdict). IfErr c.check_slots-in-Ok-check_field.result (λ rejection. judgement v ≡ Err rejection)) (sym same) c.check_slots-in-Ok-check_field.ensures.short
