-- Another manager goes on with the commit, or there is no memory for that.
use Rattle.std.proofs.Common.{◌≡◌, true, refl, rules, ◌∙◌}
use Rattle.readback.specs.declared.StageFault.TheVariants as stage_faults
use Rattle.batch_order.specs.declared.restarting.fault.RestartFault.TheVariants as restart_faults
use Rattle.replay.proofs.crash.Anew.{blank-shown, current-gone, is-gone, is-lost, memory-shown, progress-gone, run-gone, run-lost, setting-gone, unfinished-gone, wants-shown}
use Rattle.replay.proofs.crash.Over.{setting-lost}
use Rattle.replay.proofs.between.Runs.{marked-run}
use Rattle.replay.proofs.run.Run.restart.Goals as goal

pub invariant_of-self : goal.invariant_of-self
invariant_of-self g c = marked-run _ true c.self.invariant

pub restart-requires-clause-plain : goal.restart-requires-clause-plain
restart-requires-clause-plain g c =
    blank-shown _ c.args.after _ c.args.self.now c.self.view_is c.self.invariant c.requires.at_turn c.requires.slots _ (g.D.Writable.view c.args.device.now).events refl c.requires.stands
    c.setting-slots.result.1 c.setting-slots.ensures.mode

pub invariant_of-self-in-Ok-restart : goal.invariant_of-self-in-Ok-restart
invariant_of-self-in-Ok-restart g c =
    run-gone _ c.args.after _ c.args.self.now c.self.view_is c.self.invariant c.requires.at_turn c.requires.slots _ (g.D.Writable.view c.args.device.now).events refl c.requires.stands
    _ _ _ c.setting-slots.ensures.slots c.setting-slots.ensures.mode c.setting-slots.ensures.placement c.replace.result c.replace.ensures.value c.into_parts-parts.result c.into_parts-parts.ensures.parts
    c.in-Ok-restart.manager c.in-Ok-restart.ensures.answers

pub returns-in-Ok-restart-clause-turned : goal.returns-in-Ok-restart-clause-turned
returns-in-Ok-restart-clause-turned g c =
    is-gone _ c.args.after _ c.args.self.now c.self.view_is c.self.invariant c.requires.at_turn c.requires.slots _ (g.D.Writable.view c.args.device.now).events refl c.requires.stands
    _ _ _ c.setting-slots.ensures.slots c.setting-slots.ensures.mode c.setting-slots.ensures.placement c.replace.result c.replace.ensures.value c.into_parts-parts.result c.into_parts-parts.ensures.parts
    c.in-Ok-restart.manager c.in-Ok-restart.ensures.answers

pub returns-in-Ok-restart-clause-unfinished : goal.returns-in-Ok-restart-clause-unfinished
returns-in-Ok-restart-clause-unfinished g c =
    unfinished-gone _ c.args.after _ c.args.self.now c.self.view_is c.self.invariant c.requires.at_turn c.requires.slots _ (g.D.Writable.view c.args.device.now).events refl c.requires.stands
    _ _ _ c.setting-slots.ensures.slots c.setting-slots.ensures.mode c.setting-slots.ensures.placement c.replace.result c.replace.ensures.value c.into_parts-parts.result c.into_parts-parts.ensures.parts
    c.in-Ok-restart.manager c.in-Ok-restart.ensures.answers

pub returns-in-Ok-restart-clause-stands : goal.returns-in-Ok-restart-clause-stands
returns-in-Ok-restart-clause-stands g c =
    progress-gone _ c.args.after _ c.args.self.now c.self.view_is c.self.invariant c.requires.at_turn c.requires.slots _ (g.D.Writable.view c.args.device.now).events refl c.requires.stands
    _ _ _ c.setting-slots.ensures.slots c.setting-slots.ensures.mode c.setting-slots.ensures.placement c.replace.result c.replace.ensures.value c.into_parts-parts.result c.into_parts-parts.ensures.parts
    c.in-Ok-restart.manager c.in-Ok-restart.ensures.answers

pub returns-in-Ok-restart-clause-current : goal.returns-in-Ok-restart-clause-current
returns-in-Ok-restart-clause-current g c =
    current-gone _ c.args.after _ c.args.self.now c.self.view_is c.self.invariant c.requires.at_turn c.requires.slots _ (g.D.Writable.view c.args.device.now).events refl c.requires.stands
    _ _ _ c.setting-slots.ensures.slots c.setting-slots.ensures.mode c.setting-slots.ensures.placement c.replace.result c.replace.ensures.value c.into_parts-parts.result c.into_parts-parts.ensures.parts
    c.in-Ok-restart.manager c.in-Ok-restart.ensures.answers c.serving.ensures.right (g.D.Writable.view c.args.device.now).flight (g.D.Writable.view c.restart.new.device).flight c.in-Ok-restart.ensures.others.flight

pub invariant_of-self-in-Err-Stage-Memory-default : goal.invariant_of-self-in-Err-Stage-Memory-default
invariant_of-self-in-Err-Stage-Memory-default g c =
    run-lost _ c.args.after _ c.args.self.now c.self.view_is c.self.invariant c.requires.at_turn c.requires.slots _ (g.D.Writable.view c.args.device.now).events refl c.requires.stands
    _ _ _ c.setting-slots.ensures.slots c.setting-slots.ensures.mode c.setting-slots.ensures.placement c.replace.new.dest (c.replace.ensures.after ∙ c.in-Ok.ensures.fresh)

pub returns-in-Err-Stage-Memory-default-clause-lost : goal.returns-in-Err-Stage-Memory-default-clause-lost
returns-in-Err-Stage-Memory-default-clause-lost g c =
    is-lost _ c.args.after _ c.args.self.now c.self.view_is c.self.invariant c.requires.at_turn c.requires.slots _ (g.D.Writable.view c.args.device.now).events refl c.requires.stands
    _ _ _ c.setting-slots.ensures.slots c.setting-slots.ensures.mode c.setting-slots.ensures.placement c.replace.new.dest (c.replace.ensures.after ∙ c.in-Ok.ensures.fresh)

pub unreachable-requires : goal.unreachable-requires
unreachable-requires g c =
    let memory : c.in-Err-restart.field-0.0 ≡ restart_faults.Stage stage_faults.Memory =
    memory-shown _ c.args.after _ c.args.self.now c.self.view_is c.self.invariant c.requires.at_turn c.requires.slots _ (g.D.Writable.view c.args.device.now).events refl c.requires.stands
    _ _ _ c.setting-slots.ensures.slots c.setting-slots.ensures.mode c.setting-slots.ensures.placement c.replace.result c.replace.ensures.value c.into_parts-parts.result c.into_parts-parts.ensures.parts
    c.in-Err-restart.field-0.0 c.in-Err-restart.field-0.1 c.in-Err-restart.ensures.answers in
    search rules

pub returns-in-Ok-restart-clause-setting : goal.returns-in-Ok-restart-clause-setting
returns-in-Ok-restart-clause-setting g c =
    setting-gone _ c.args.after _ c.args.self.now c.self.view_is c.self.invariant c.requires.at_turn c.requires.slots _ (g.D.Writable.view c.args.device.now).events refl c.requires.stands
    _ _ _ c.setting-slots.ensures.slots c.setting-slots.ensures.mode c.setting-slots.ensures.placement c.replace.result c.replace.ensures.value c.into_parts-parts.result c.into_parts-parts.ensures.parts
    c.in-Ok-restart.manager c.in-Ok-restart.ensures.answers

pub returns-in-Err-Stage-Memory-default-clause-setting : goal.returns-in-Err-Stage-Memory-default-clause-setting
returns-in-Err-Stage-Memory-default-clause-setting g c =
    setting-lost c.args.self.now _ (is-lost _ c.args.after _ c.args.self.now c.self.view_is c.self.invariant c.requires.at_turn c.requires.slots _ (g.D.Writable.view c.args.device.now).events refl c.requires.stands
    _ _ _ c.setting-slots.ensures.slots c.setting-slots.ensures.mode c.setting-slots.ensures.placement c.replace.new.dest (c.replace.ensures.after ∙ c.in-Ok.ensures.fresh))

pub returns-in-Err-clause-wants : goal.returns-in-Err-clause-wants
returns-in-Err-clause-wants g c =
    wants-shown _ c.args.after _ c.args.self.now c.self.view_is c.self.invariant c.requires.at_turn c.requires.slots _ (g.D.Writable.view c.args.device.now).events refl c.requires.stands

pub returns-in-Err-Stage-Memory-default-clause-wants : goal.returns-in-Err-Stage-Memory-default-clause-wants
returns-in-Err-Stage-Memory-default-clause-wants g c =
    wants-shown _ c.args.after _ c.args.self.now c.self.view_is c.self.invariant c.requires.at_turn c.requires.slots _ (g.D.Writable.view c.args.device.now).events refl c.requires.stands
