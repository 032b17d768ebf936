use Rattle.std.proofs.Common.{rules, ◌≡◌, ℕ, ◌-◌, ◌∙◌, [], List, length, drop, arith, sym, ap, subst}
use Rattle.std.proofs.lemmas.Grind.{common_steps}
use Rattle.std.proofs.lemmas.List.{drop_all}
use Rattle.slot_order.proofs.Writes.{slot_inside}
use Rattle.move_planner.proofs.Noted.{noted_none, noted_then}
use Rattle.move_planner.proofs.Outcomes.{on_err}
use Rattle.move_planner.proofs.Shifted.{AreShifted, NextMember, goes_to, made_by, next_member, shift_held, shift_on, shifted_none}
use Rattle.move_planner.proofs.chains.Chain.shift.Goals as goal

pub loop-i-init : goal.loop-i-init
loop-i-init c =
    let slots = c.args.slots.now in
    let plan = c.args.plan.now in
    let free = c.args.self.now.free in
    let members = c.args.self.now.members.items in
    let number : c.len-i.result ≡ length members = first_of (search rules, grind (arith, common_steps)) in
    let none : drop c.len-i.result members ≡ [] = drop_all c.len-i.result members (omega arith) in
    record {
      bound = omega arith;
      target = ap (goes_to free) (sym none);
      are = subst (λ (rest : List ℕ). AreShifted slots plan free rest slots plan) (sym none) (shifted_none slots plan free);
      noted = noted_none slots plan c.args.undo.now;
    }

pub at-requires : goal.at-requires
at-requires c =
    let m : NextMember c.args.slots.now c.args.self.now.free c.args.self.now.members.items (c.loop-i.i - 1) c.loop-i.i c.index-from.result.now =
    next_member _ _ _ _ _ _ c.requires (omega arith) (omega arith) c.index-from.ensures in
    let h = shift_held _ _ _ _ _ _ _ m c.loop-i.invariant.are.shifted in
    slot_inside c.loop-i.slots c.index-from.result.now h.0 h.1

pub loop-i-preserved-in_ok-make : goal.loop-i-preserved-in_ok-make
loop-i-preserved-in_ok-make c =
    let m : NextMember c.args.slots.now c.args.self.now.free c.args.self.now.members.items (c.loop-i.i - 1) c.loop-i.i c.index-from.result.now =
    next_member _ _ _ _ _ _ c.requires (omega arith) (omega arith) c.index-from.ensures in
    record {
      bound = omega arith;
      target = ap (goes_to c.args.self.now.free) (sym m.split);
      are = shift_on c.args.slots.now c.loop-i.slots c.args.plan.now c.loop-i.plan c.make.new.slots c.make.new.self c.args.self.now.free c.args.self.now.members.items
          (c.loop-i.i - 1) c.loop-i.i c.index-from.result.now c.loop-i.to c.in-Some.id c.requires m c.loop-i.invariant.target c.loop-i.invariant.are (sym c.in-Some.ensures)
          c.in_ok-make.ensures.plan c.in_ok-make.ensures.slots;
      noted = noted_then c.args.slots.now c.loop-i.slots c.make.new.slots c.args.plan.now c.loop-i.plan c.make.new.self c.args.undo.now c.loop-i.undo c.make.new.undo c.loop-i.invariant.noted c.make.ensures.noted;
    }

pub loop-i-preserved : goal.loop-i-preserved
loop-i-preserved c =
    let m : NextMember c.args.slots.now c.args.self.now.free c.args.self.now.members.items (c.loop-i.i - 1) c.loop-i.i c.index-from.result.now =
    next_member _ _ _ _ _ _ c.requires (omega arith) (omega arith) c.index-from.ensures in
    let h = shift_held _ _ _ _ _ _ _ m c.loop-i.invariant.are.shifted in
    absurd (c.in_default.not-Some h.0 (c.at.ensures ∙ h.1))

pub returns-in_err-make-clause-noted : goal.returns-in_err-make-clause-noted
returns-in_err-make-clause-noted c =
    noted_then c.args.slots.now c.loop-i.slots c.make.new.slots c.args.plan.now c.loop-i.plan c.make.new.self c.args.undo.now c.loop-i.undo c.make.new.undo c.loop-i.invariant.noted c.make.ensures.noted

pub returns-in_err-make-clause-made : goal.returns-in_err-make-clause-made
returns-in_err-make-clause-made c =
    let noted =
    noted_then c.args.slots.now c.loop-i.slots c.make.new.slots c.args.plan.now c.loop-i.plan c.make.new.self c.args.undo.now c.loop-i.undo c.make.new.undo c.loop-i.invariant.noted c.make.ensures.noted in
    on_err _ c.from_residual.result (made_by c.args.slots.now c.make.new.slots c.args.plan.now c.make.new.self noted.moves noted.gained noted.after)
