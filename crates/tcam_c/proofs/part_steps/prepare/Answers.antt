use Rattle.std.proofs.Common.{Ok, Err, le_refl, subst}
use Rattle.split_order.specs.Prepared.{JudgesSplit}
use Rattle.tcam_c.proofs.Parts.{handled_same, keeps_on, keeps_same, unsettled_planned}
use Rattle.tcam_c.proofs.part_steps.prepare.Goals as goal

pub settle-requires : goal.settle-requires
settle-requires c =
    let d = c.args.device.now in
    let n = c.prepare.new.device in
    unsettled_planned c.args.manager.now c.prepare.new.self c.args.batch.now c.in-Ok.counts d.slots n.slots d.spare n.spare d.events n.events d.flight n.flight c.requires.unsettled c.in-Ok.ensures.ready
    c.prepare.ensures.slot_count c.prepare.ensures.events c.prepare.ensures.flight c.in-Ok.ensures.reserved

pub returns-in-Ok : goal.returns-in-Ok
returns-in-Ok c =
    let old = c.args.manager.now in
    let d = c.args.device.now in
    let told = subst (λ r. JudgesSplit d.slots old old.whole.held c.args.batch.now r) c.in-Ok.is c.prepare.ensures.judged in
    record {
      judged = subst (λ n. JudgesSplit n old old.whole.held c.args.batch.now (Ok c.in-Ok.counts)) c.requires.unsettled.same_slots told;
      ready = record { planned = c.prepare.new.self; holds = c.in-Ok.ensures.ready; settled_is = c.settle.ensures.settled };
      refused = tt;
      keeps = keeps_on old c.prepare.new.self c.settle.new.manager c.in-Ok.ensures.current c.settle.ensures.keeps;
      driven = c.settle.ensures.driven;
      before = c.serving.ensures.serves old.whole.slots (le_refl _);
      serves = c.settle.ensures.serves;
    }

pub returns-in-Err : goal.returns-in-Err
returns-in-Err c =
    let old = c.args.manager.now in
    let new = c.prepare.new.self in
    let d = c.args.device.now in
    let n = c.prepare.new.device in
    let same = c.in-Err.ensures.refused in
    let told = subst (λ r. JudgesSplit d.slots old old.whole.held c.args.batch.now r) c.in-Err.is c.prepare.ensures.judged in
    record {
      judged = subst (λ n. JudgesSplit n old old.whole.held c.args.batch.now (Err c.in-Err.refusal)) c.requires.unsettled.same_slots told;
      ready = tt;
      refused = same;
      keeps = keeps_same old new same;
      driven = handled_same old new d.slots n.slots d.spare n.spare d.events n.events d.flight n.flight c.requires same c.prepare.ensures.slot_count c.prepare.ensures.events c.prepare.ensures.flight c.prepare.ensures.spare;
      before = c.serving.ensures.serves old.whole.slots (le_refl _);
      serves = rw same (c.serving.ensures.serves old.whole.slots (le_refl _));
    }
