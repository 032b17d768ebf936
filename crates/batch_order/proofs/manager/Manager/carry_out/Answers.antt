use Rattle.std.proofs.Common.{◌≡◌, ◌++◌, [], ◌∷◌, ℕ, List, Option, Some, None, IsSome, length, refl, sym, ap, subst, ◌∙◌, arith}
use Rattle.std.specs.Prelude.{option_map, unwrap_or}
use Rattle.rule_model.specs.declared.Rule.{Rule}
use Rattle.tcam_device.specs.declared.Write.{Write}
use Rattle.tcam_device.specs.declared.Action.TheVariants.{Written, Drained}
use Rattle.tcam_device.specs.State.{replay}
use Rattle.tcam_device.specs.Hitless.{ShowsOldOrNew}
use Rattle.tcam_device.specs.View.{DeviceView, HasMade, journal}
use Rattle.tcam_device.specs.Flight.{writes_in}
use Rattle.batch_order.specs.declared.Step.{Step}
use Rattle.batch_order.specs.declared.Step.TheVariants as step
use Rattle.batch_order.specs.declared.Unfinished.TheVariants as unfinished
use Rattle.batch_order.specs.Managed.{Managed, HeldCommit}
use Rattle.batch_order.specs.Steps.{Steps, actions_of, next_of}
use Rattle.batch_order.specs.CarriedOut.{IsServed, StopsBy, ahead, writes_left}
use Rattle.batch_order.proofs.Leaving.{leaves_more, same_leaves}
use Rattle.batch_order.proofs.Made.{journal_made, journal_same}
use Rattle.batch_order.proofs.served.Ahead.{by_journal}
use Rattle.batch_order.proofs.under_way.Onward.{IsSame, has_finished, has_idled, reverted, same}
use Rattle.batch_order.proofs.served.Served.{at-first, either, more}
use Rattle.batch_order.proofs.under_way.Stepped.{none_drained, room_after}
use Rattle.batch_order.proofs.under_way.Tried.{goes-drained, goes-start, goes-wrote, stood, waited}
use Rattle.batch_order.proofs.manager.Manager.carry_out.Goals as goal

pub carrying-init : goal.carrying-init
carrying-init g c =
    let view : DeviceView = g.D.Writable.view c.args.device.now in
    let m : Managed = c.args.self.now in
    record {
      goes = goes-start m view c.args.tries;
      slots = refl;
      room = c.requires.room;
      leaves = same_leaves m m view.spare view.spare refl (omega arith);
      way = λ begun way. way;
      on = λ on. on;
      served = λ on. at-first view.slots (journal view) m.rules (ahead m) (either (replay view.slots (journal view)) m.rules m.held (by_journal view.slots (journal view) m c.requires.slots c.serving.ensures.serves on));
      below = c.requires.tries;
      due = λ some. absurd (omega arith);
    }

pub carrying-preserved-in-Ok-Wrote : goal.carrying-preserved-in-Ok-Wrote
carrying-preserved-in-Ok-Wrote g c =
    let made = c.in-Ok-Wrote.ensures in
    let inv = c.carrying.invariant in
    let m : Managed = c.carrying.self in
    let m' : Managed = c.step.new.self in
    let old : Managed = c.args.self.now in
    let write : Write = c.in-Ok-Wrote.field-0-0 in
    let at : DeviceView = g.D.Writable.view c.carrying.device in
    let after : DeviceView = g.D.Writable.view c.step.new.device in
    let begun : DeviceView = g.D.Writable.view c.args.device.now in
    let flying : ℕ = length at.flight in
    let steps : Steps m flying m.held (step.Wrote write) m' = subst (λ (s : Step). Steps m flying m.held s m') c.in-Ok-Wrote.field-0-is made.stepped in
    let did : HasMade (Written write ∷ []) at after = subst (λ (s : Step). HasMade (actions_of s) at after) c.in-Ok-Wrote.field-0-is made.made in
    let longer : journal after ≡ journal at ++ write ∷ [] = journal_made (Written write ∷ []) at after did in
    let goes = goes-wrote old m m' flying write begun at after c.args.tries c.carrying.failures inv.goes steps did made.cause.stayed inv.below in
    let keeps : IsSame old m' = same old m' old.held goes.made refl goes.onward in
    record {
      goes = goes;
      slots = keeps.slots;
      room = room_after m flying m.held (step.Wrote write) m' at.spare after.spare refl steps inv.room did.spare;
      leaves = leaves_more old m m' begun.spare at.spare after.spare inv.leaves made.leaves;
      way = λ first way. made.way_back first (inv.way first way);
      on = λ on. made.stays_on (inv.on on);
      served = λ on.
          let shown : ShowsOldOrNew (replay after.slots (journal after)) m'.rules (ahead m') = either (replay after.slots (journal after)) m'.rules m'.held (made.serves (inv.on on)) in
          let shows : ShowsOldOrNew (replay after.slots (journal after)) old.rules (ahead old) =
          subst (λ (r : List Rule). ShowsOldOrNew (replay after.slots (journal after)) r (ahead old)) keeps.rules
          (subst (λ (r : List Rule). ShowsOldOrNew (replay after.slots (journal after)) m'.rules r) keeps.ahead shown) in
          let served : IsServed after.slots (journal begun) (journal at) old.rules (ahead old) = rw did.slots (inv.served on) in
          more after.slots (journal begun) (journal at) (journal after) old.rules (ahead old) write served longer shows;
      below = c.requires.tries;
      due = λ some. absurd (omega arith);
    }

pub carrying-preserved-in-Ok-Drained : goal.carrying-preserved-in-Ok-Drained
carrying-preserved-in-Ok-Drained g c =
    let made = c.in-Ok-Drained.ensures in
    let inv = c.carrying.invariant in
    let m : Managed = c.carrying.self in
    let m' : Managed = c.step.new.self in
    let old : Managed = c.args.self.now in
    let at : DeviceView = g.D.Writable.view c.carrying.device in
    let after : DeviceView = g.D.Writable.view c.step.new.device in
    let begun : DeviceView = g.D.Writable.view c.args.device.now in
    let flying : ℕ = length at.flight in
    let steps : Steps m flying m.held step.Drained m' = subst (λ (s : Step). Steps m flying m.held s m') c.in-Ok-Drained.field-0-is made.stepped in
    let did : HasMade (Drained ∷ []) at after = subst (λ (s : Step). HasMade (actions_of s) at after) c.in-Ok-Drained.field-0-is made.made in
    let goes = goes-drained old m m' flying begun at after c.args.tries c.carrying.failures inv.goes steps did made.cause.stayed in
    let keeps : IsSame old m' = same old m' old.held goes.made refl goes.onward in
    let none : next_of m.held ≡ None = none_drained m flying m.held m' steps in
    let stays : journal after ≡ journal at = journal_same (Drained ∷ []) at after did refl in
    record {
      goes = goes;
      slots = keeps.slots;
      room = room_after m flying m.held step.Drained m' at.spare after.spare refl steps inv.room did.spare;
      leaves = leaves_more old m m' begun.spare at.spare after.spare inv.leaves made.leaves;
      way = λ first way. made.way_back first (inv.way first way);
      on = λ on. made.stays_on (inv.on on);
      served = λ on.
          let served : IsServed at.slots (journal begun) (journal at) old.rules (ahead old) = inv.served on in
          subst (λ (ws : List Write). IsServed after.slots (journal begun) ws old.rules (ahead old)) (sym stays)
          (subst (λ (n : ℕ). IsServed n (journal begun) (journal at) old.rules (ahead old)) (sym did.slots) served);
      below = inv.below;
      due = λ some. absurd (let clash : IsSome (next_of m.held) = inv.due some in let no : IsSome {T = Write} None = subst (λ (n : Option Write). IsSome n) none clash in cc);
    }

-- how many writes are left where a commit is under way
left-of : (held : Option HeldCommit) → unwrap_or (option_map (λ (one : HeldCommit). length (writes_in one.actions)) held) 0 ≡ length (writes_left held)
left-of None = refl
left-of (Some held) = refl

pub returns-in-Ok-Reverted-clause-stopped : goal.returns-in-Ok-Reverted-clause-stopped
returns-in-Ok-Reverted-clause-stopped g c =
    let made = c.in-Ok-Reverted.ensures in
    let inv = c.carrying.invariant in
    let m : Managed = c.carrying.self in
    let m' : Managed = c.step.new.self in
    let at : DeviceView = g.D.Writable.view c.carrying.device in
    let after : DeviceView = g.D.Writable.view c.step.new.device in
    let begun : DeviceView = g.D.Writable.view c.args.device.now in
    let undone : ℕ = c.in-Ok-Reverted.undone in
    let flying : ℕ = length at.flight in
    let steps : Steps m flying m.held (step.Reverted undone) m' = subst (λ (s : Step). Steps m flying m.held s m') c.in-Ok-Reverted.field-0-is made.stepped in
    let did : HasMade [] at after = subst (λ (s : Step). HasMade (actions_of s) at after) c.in-Ok-Reverted.field-0-is made.made in
    (reverted c.args.self.now m m' flying undone c.args.self.now.held inv.goes.made (journal begun) (journal after) refl inv.goes.onward steps (journal_same [] at after did refl ∙ inv.goes.journal)).reverts

-- it has come to its end forward, or none was under way
pub returns-in-Ok-Finished-clause-done : goal.returns-in-Ok-Finished-clause-done
returns-in-Ok-Finished-clause-done g c =
    (has_finished c.args.self.now c.carrying.self c.step.new.self (length (g.D.Writable.view c.carrying.device).flight) c.in-Ok-Finished.done c.args.self.now.held c.carrying.invariant.goes.made refl c.carrying.invariant.goes.onward
    (subst (λ (s : Step). Steps c.carrying.self (length (g.D.Writable.view c.carrying.device).flight) c.carrying.self.held s c.step.new.self) c.in-Ok-Finished.field-0-is c.in-Ok-Finished.ensures.stepped)).done

pub returns-in-Ok-Finished-clause-was_forward : goal.returns-in-Ok-Finished-clause-was_forward
returns-in-Ok-Finished-clause-was_forward g c =
    (has_finished c.args.self.now c.carrying.self c.step.new.self (length (g.D.Writable.view c.carrying.device).flight) c.in-Ok-Finished.done c.args.self.now.held c.carrying.invariant.goes.made refl c.carrying.invariant.goes.onward
    (subst (λ (s : Step). Steps c.carrying.self (length (g.D.Writable.view c.carrying.device).flight) c.carrying.self.held s c.step.new.self) c.in-Ok-Finished.field-0-is c.in-Ok-Finished.ensures.stepped)).forward

pub returns-in-Ok-Finished-clause-finished : goal.returns-in-Ok-Finished-clause-finished
returns-in-Ok-Finished-clause-finished g c =
    (has_finished c.args.self.now c.carrying.self c.step.new.self (length (g.D.Writable.view c.carrying.device).flight) c.in-Ok-Finished.done c.args.self.now.held c.carrying.invariant.goes.made refl c.carrying.invariant.goes.onward
    (subst (λ (s : Step). Steps c.carrying.self (length (g.D.Writable.view c.carrying.device).flight) c.carrying.self.held s c.step.new.self) c.in-Ok-Finished.field-0-is c.in-Ok-Finished.ensures.stepped)).finished

pub returns-in-Ok-Idle-clause-done : goal.returns-in-Ok-Idle-clause-done
returns-in-Ok-Idle-clause-done g c =
    (has_idled c.args.self.now c.carrying.self c.step.new.self (length (g.D.Writable.view c.carrying.device).flight) c.args.self.now.held c.carrying.invariant.goes.made refl c.carrying.invariant.goes.onward
    (subst (λ (s : Step). Steps c.carrying.self (length (g.D.Writable.view c.carrying.device).flight) c.carrying.self.held s c.step.new.self) c.in-Ok-Idle.field-0-is c.in-Ok-Idle.ensures.stepped)).done

pub returns-in-Ok-Idle-clause-was_forward : goal.returns-in-Ok-Idle-clause-was_forward
returns-in-Ok-Idle-clause-was_forward g c =
    (has_idled c.args.self.now c.carrying.self c.step.new.self (length (g.D.Writable.view c.carrying.device).flight) c.args.self.now.held c.carrying.invariant.goes.made refl c.carrying.invariant.goes.onward
    (subst (λ (s : Step). Steps c.carrying.self (length (g.D.Writable.view c.carrying.device).flight) c.carrying.self.held s c.step.new.self) c.in-Ok-Idle.field-0-is c.in-Ok-Idle.ensures.stepped)).forward

pub returns-in-Ok-Idle-clause-finished : goal.returns-in-Ok-Idle-clause-finished
returns-in-Ok-Idle-clause-finished g c =
    (has_idled c.args.self.now c.carrying.self c.step.new.self (length (g.D.Writable.view c.carrying.device).flight) c.args.self.now.held c.carrying.invariant.goes.made refl c.carrying.invariant.goes.onward
    (subst (λ (s : Step). Steps c.carrying.self (length (g.D.Writable.view c.carrying.device).flight) c.carrying.self.held s c.step.new.self) c.in-Ok-Idle.field-0-is c.in-Ok-Idle.ensures.stepped)).finished

pub returns-in-Ok-Finished-clause-carried : goal.returns-in-Ok-Finished-clause-carried
returns-in-Ok-Finished-clause-carried g c =
    (stood c.args.self.now c.carrying.self c.step.new.self (length (g.D.Writable.view c.carrying.device).flight) c.in-Ok-Finished.field-0
    (g.D.Writable.view c.args.device.now) (g.D.Writable.view c.carrying.device) (g.D.Writable.view c.step.new.device) c.args.tries c.carrying.failures c.carrying.invariant.goes c.carrying.invariant.due
    (ap actions_of c.in-Ok-Finished.field-0-is) c.in-Ok-Finished.ensures.stepped c.in-Ok-Finished.ensures.made c.in-Ok-Finished.ensures.cause.stayed).carried

pub returns-in-Ok-Finished-clause-tried : goal.returns-in-Ok-Finished-clause-tried
returns-in-Ok-Finished-clause-tried g c =
    (stood c.args.self.now c.carrying.self c.step.new.self (length (g.D.Writable.view c.carrying.device).flight) c.in-Ok-Finished.field-0
    (g.D.Writable.view c.args.device.now) (g.D.Writable.view c.carrying.device) (g.D.Writable.view c.step.new.device) c.args.tries c.carrying.failures c.carrying.invariant.goes c.carrying.invariant.due
    (ap actions_of c.in-Ok-Finished.field-0-is) c.in-Ok-Finished.ensures.stepped c.in-Ok-Finished.ensures.made c.in-Ok-Finished.ensures.cause.stayed).tried ⊥ (λ stuck. stuck)

pub returns-in-Ok-Finished-clause-hitless : goal.returns-in-Ok-Finished-clause-hitless
returns-in-Ok-Finished-clause-hitless g c on =
    let begun : DeviceView = g.D.Writable.view c.args.device.now in
    let after : DeviceView = g.D.Writable.view c.step.new.device in
    let old : Managed = c.args.self.now in
    let same = (stood c.args.self.now c.carrying.self c.step.new.self (length (g.D.Writable.view c.carrying.device).flight) c.in-Ok-Finished.field-0
    (g.D.Writable.view c.args.device.now) (g.D.Writable.view c.carrying.device) (g.D.Writable.view c.step.new.device) c.args.tries c.carrying.failures c.carrying.invariant.goes c.carrying.invariant.due
    (ap actions_of c.in-Ok-Finished.field-0-is) c.in-Ok-Finished.ensures.stepped c.in-Ok-Finished.ensures.made c.in-Ok-Finished.ensures.cause.stayed).same in
    subst (λ (ws : List Write). IsServed after.slots (journal begun) ws old.rules (ahead old)) (sym same)
    (subst (λ (n : ℕ). IsServed n (journal begun) (journal (g.D.Writable.view c.carrying.device)) old.rules (ahead old)) (sym c.in-Ok-Finished.ensures.made.slots) (c.carrying.invariant.served on))

pub returns-in-Ok-Idle-clause-carried : goal.returns-in-Ok-Idle-clause-carried
returns-in-Ok-Idle-clause-carried g c =
    (stood c.args.self.now c.carrying.self c.step.new.self (length (g.D.Writable.view c.carrying.device).flight) c.in-Ok-Idle.field-0
    (g.D.Writable.view c.args.device.now) (g.D.Writable.view c.carrying.device) (g.D.Writable.view c.step.new.device) c.args.tries c.carrying.failures c.carrying.invariant.goes c.carrying.invariant.due
    (ap actions_of c.in-Ok-Idle.field-0-is) c.in-Ok-Idle.ensures.stepped c.in-Ok-Idle.ensures.made c.in-Ok-Idle.ensures.cause.stayed).carried

pub returns-in-Ok-Idle-clause-tried : goal.returns-in-Ok-Idle-clause-tried
returns-in-Ok-Idle-clause-tried g c =
    (stood c.args.self.now c.carrying.self c.step.new.self (length (g.D.Writable.view c.carrying.device).flight) c.in-Ok-Idle.field-0
    (g.D.Writable.view c.args.device.now) (g.D.Writable.view c.carrying.device) (g.D.Writable.view c.step.new.device) c.args.tries c.carrying.failures c.carrying.invariant.goes c.carrying.invariant.due
    (ap actions_of c.in-Ok-Idle.field-0-is) c.in-Ok-Idle.ensures.stepped c.in-Ok-Idle.ensures.made c.in-Ok-Idle.ensures.cause.stayed).tried ⊥ (λ stuck. stuck)

pub returns-in-Ok-Idle-clause-hitless : goal.returns-in-Ok-Idle-clause-hitless
returns-in-Ok-Idle-clause-hitless g c on =
    let begun : DeviceView = g.D.Writable.view c.args.device.now in
    let after : DeviceView = g.D.Writable.view c.step.new.device in
    let old : Managed = c.args.self.now in
    let same = (stood c.args.self.now c.carrying.self c.step.new.self (length (g.D.Writable.view c.carrying.device).flight) c.in-Ok-Idle.field-0
    (g.D.Writable.view c.args.device.now) (g.D.Writable.view c.carrying.device) (g.D.Writable.view c.step.new.device) c.args.tries c.carrying.failures c.carrying.invariant.goes c.carrying.invariant.due
    (ap actions_of c.in-Ok-Idle.field-0-is) c.in-Ok-Idle.ensures.stepped c.in-Ok-Idle.ensures.made c.in-Ok-Idle.ensures.cause.stayed).same in
    subst (λ (ws : List Write). IsServed after.slots (journal begun) ws old.rules (ahead old)) (sym same)
    (subst (λ (n : ℕ). IsServed n (journal begun) (journal (g.D.Writable.view c.carrying.device)) old.rules (ahead old)) (sym c.in-Ok-Idle.ensures.made.slots) (c.carrying.invariant.served on))

pub returns-in-Ok-Waiting-clause-carried : goal.returns-in-Ok-Waiting-clause-carried
returns-in-Ok-Waiting-clause-carried g c =
    (stood c.args.self.now c.carrying.self c.step.new.self (length (g.D.Writable.view c.carrying.device).flight) c.in-Ok-Waiting.field-0
    (g.D.Writable.view c.args.device.now) (g.D.Writable.view c.carrying.device) (g.D.Writable.view c.step.new.device) c.args.tries c.carrying.failures c.carrying.invariant.goes c.carrying.invariant.due
    (ap actions_of c.in-Ok-Waiting.field-0-is) c.in-Ok-Waiting.ensures.stepped c.in-Ok-Waiting.ensures.made c.in-Ok-Waiting.ensures.cause.stayed).carried

pub returns-in-Ok-Waiting-clause-tried : goal.returns-in-Ok-Waiting-clause-tried
returns-in-Ok-Waiting-clause-tried g c =
    (stood c.args.self.now c.carrying.self c.step.new.self (length (g.D.Writable.view c.carrying.device).flight) c.in-Ok-Waiting.field-0
    (g.D.Writable.view c.args.device.now) (g.D.Writable.view c.carrying.device) (g.D.Writable.view c.step.new.device) c.args.tries c.carrying.failures c.carrying.invariant.goes c.carrying.invariant.due
    (ap actions_of c.in-Ok-Waiting.field-0-is) c.in-Ok-Waiting.ensures.stepped c.in-Ok-Waiting.ensures.made c.in-Ok-Waiting.ensures.cause.stayed).tried ⊥ (λ stuck. stuck)

pub returns-in-Ok-Waiting-clause-hitless : goal.returns-in-Ok-Waiting-clause-hitless
returns-in-Ok-Waiting-clause-hitless g c on =
    let begun : DeviceView = g.D.Writable.view c.args.device.now in
    let after : DeviceView = g.D.Writable.view c.step.new.device in
    let old : Managed = c.args.self.now in
    let same = (stood c.args.self.now c.carrying.self c.step.new.self (length (g.D.Writable.view c.carrying.device).flight) c.in-Ok-Waiting.field-0
    (g.D.Writable.view c.args.device.now) (g.D.Writable.view c.carrying.device) (g.D.Writable.view c.step.new.device) c.args.tries c.carrying.failures c.carrying.invariant.goes c.carrying.invariant.due
    (ap actions_of c.in-Ok-Waiting.field-0-is) c.in-Ok-Waiting.ensures.stepped c.in-Ok-Waiting.ensures.made c.in-Ok-Waiting.ensures.cause.stayed).same in
    subst (λ (ws : List Write). IsServed after.slots (journal begun) ws old.rules (ahead old)) (sym same)
    (subst (λ (n : ℕ). IsServed n (journal begun) (journal (g.D.Writable.view c.carrying.device)) old.rules (ahead old)) (sym c.in-Ok-Waiting.ensures.made.slots) (c.carrying.invariant.served on))

pub returns-in-Ok-Reverted-clause-carried : goal.returns-in-Ok-Reverted-clause-carried
returns-in-Ok-Reverted-clause-carried g c =
    (stood c.args.self.now c.carrying.self c.step.new.self (length (g.D.Writable.view c.carrying.device).flight) c.in-Ok-Reverted.field-0
    (g.D.Writable.view c.args.device.now) (g.D.Writable.view c.carrying.device) (g.D.Writable.view c.step.new.device) c.args.tries c.carrying.failures c.carrying.invariant.goes c.carrying.invariant.due
    (ap actions_of c.in-Ok-Reverted.field-0-is) c.in-Ok-Reverted.ensures.stepped c.in-Ok-Reverted.ensures.made c.in-Ok-Reverted.ensures.cause.stayed).carried

pub returns-in-Ok-Reverted-clause-tried : goal.returns-in-Ok-Reverted-clause-tried
returns-in-Ok-Reverted-clause-tried g c =
    (stood c.args.self.now c.carrying.self c.step.new.self (length (g.D.Writable.view c.carrying.device).flight) c.in-Ok-Reverted.field-0
    (g.D.Writable.view c.args.device.now) (g.D.Writable.view c.carrying.device) (g.D.Writable.view c.step.new.device) c.args.tries c.carrying.failures c.carrying.invariant.goes c.carrying.invariant.due
    (ap actions_of c.in-Ok-Reverted.field-0-is) c.in-Ok-Reverted.ensures.stepped c.in-Ok-Reverted.ensures.made c.in-Ok-Reverted.ensures.cause.stayed).tried ⊥ (λ stuck. stuck)

pub returns-in-Ok-Reverted-clause-hitless : goal.returns-in-Ok-Reverted-clause-hitless
returns-in-Ok-Reverted-clause-hitless g c on =
    let begun : DeviceView = g.D.Writable.view c.args.device.now in
    let after : DeviceView = g.D.Writable.view c.step.new.device in
    let old : Managed = c.args.self.now in
    let same = (stood c.args.self.now c.carrying.self c.step.new.self (length (g.D.Writable.view c.carrying.device).flight) c.in-Ok-Reverted.field-0
    (g.D.Writable.view c.args.device.now) (g.D.Writable.view c.carrying.device) (g.D.Writable.view c.step.new.device) c.args.tries c.carrying.failures c.carrying.invariant.goes c.carrying.invariant.due
    (ap actions_of c.in-Ok-Reverted.field-0-is) c.in-Ok-Reverted.ensures.stepped c.in-Ok-Reverted.ensures.made c.in-Ok-Reverted.ensures.cause.stayed).same in
    subst (λ (ws : List Write). IsServed after.slots (journal begun) ws old.rules (ahead old)) (sym same)
    (subst (λ (n : ℕ). IsServed n (journal begun) (journal (g.D.Writable.view c.carrying.device)) old.rules (ahead old)) (sym c.in-Ok-Reverted.ensures.made.slots) (c.carrying.invariant.served on))

pub returns-in-Ok-Waiting-clause-stopped : goal.returns-in-Ok-Waiting-clause-stopped
returns-in-Ok-Waiting-clause-stopped g c =
    let inv = c.carrying.invariant in
    let m : Managed = c.carrying.self in
    let m' : Managed = c.step.new.self in
    let begun : DeviceView = g.D.Writable.view c.args.device.now in
    let at : DeviceView = g.D.Writable.view c.carrying.device in
    let after : DeviceView = g.D.Writable.view c.step.new.device in
    let words : ℕ = c.in-Ok-Waiting.words in
    let steps : Steps m (length at.flight) m.held (step.Waiting words) m' = subst (λ (s : Step). Steps m (length at.flight) m.held s m') c.in-Ok-Waiting.field-0-is c.in-Ok-Waiting.ensures.stepped in
    let told = (stood c.args.self.now c.carrying.self c.step.new.self (length (g.D.Writable.view c.carrying.device).flight) c.in-Ok-Waiting.field-0
    (g.D.Writable.view c.args.device.now) (g.D.Writable.view c.carrying.device) (g.D.Writable.view c.step.new.device) c.args.tries c.carrying.failures c.carrying.invariant.goes c.carrying.invariant.due
    (ap actions_of c.in-Ok-Waiting.field-0-is) c.in-Ok-Waiting.ensures.stepped c.in-Ok-Waiting.ensures.made c.in-Ok-Waiting.ensures.cause.stayed).told in
    let counted = c.left.ensures in
    let unwrapped = c.unwrap_or-left.ensures in
    let all = left-of m'.held in
    let left : c.unwrap_or-left.result ≡ length (writes_left m'.held) = cc in
    let so : StopsBy c.args.self.now m' (journal begun) (journal after) (length at.flight) (unfinished.Waiting words c.unwrap_or-left.result) =
    waited c.args.self.now m m' (length at.flight) words c.args.self.now.held inv.goes.made (journal begun) (journal after) c.unwrap_or-left.result refl inv.goes.onward steps left told in
    subst (λ (n : ℕ). StopsBy c.args.self.now m' (journal begun) (journal after) n (unfinished.Waiting words c.unwrap_or-left.result)) (ap length inv.goes.done.flight) so

pub returns-in-Ok-Finished-clause-leaves : goal.returns-in-Ok-Finished-clause-leaves
returns-in-Ok-Finished-clause-leaves g c =
    leaves_more c.args.self.now c.carrying.self c.step.new.self (g.D.Writable.view c.args.device.now).spare (g.D.Writable.view c.carrying.device).spare (g.D.Writable.view c.step.new.device).spare
    c.carrying.invariant.leaves c.in-Ok-Finished.ensures.leaves

pub returns-in-Ok-Idle-clause-leaves : goal.returns-in-Ok-Idle-clause-leaves
returns-in-Ok-Idle-clause-leaves g c =
    leaves_more c.args.self.now c.carrying.self c.step.new.self (g.D.Writable.view c.args.device.now).spare (g.D.Writable.view c.carrying.device).spare (g.D.Writable.view c.step.new.device).spare
    c.carrying.invariant.leaves c.in-Ok-Idle.ensures.leaves

pub returns-in-Ok-Waiting-clause-leaves : goal.returns-in-Ok-Waiting-clause-leaves
returns-in-Ok-Waiting-clause-leaves g c =
    leaves_more c.args.self.now c.carrying.self c.step.new.self (g.D.Writable.view c.args.device.now).spare (g.D.Writable.view c.carrying.device).spare (g.D.Writable.view c.step.new.device).spare
    c.carrying.invariant.leaves c.in-Ok-Waiting.ensures.leaves

pub returns-in-Ok-Reverted-clause-leaves : goal.returns-in-Ok-Reverted-clause-leaves
returns-in-Ok-Reverted-clause-leaves g c =
    leaves_more c.args.self.now c.carrying.self c.step.new.self (g.D.Writable.view c.args.device.now).spare (g.D.Writable.view c.carrying.device).spare (g.D.Writable.view c.step.new.device).spare
    c.carrying.invariant.leaves c.in-Ok-Reverted.ensures.leaves
