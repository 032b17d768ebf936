use Rattle.std.proofs.Common.{◌≡◌, ◌≤◌, ◌^◌, true, List, Option, Some, length, sym, ap, subst, ◌∙◌, arith}
use Rattle.std.proofs.lemmas.List.{length-map}
use Rattle.tcam_device.specs.declared.Write.{Write}
use Rattle.batch_order.specs.ByParts.{paired_number, parts_number}
use Rattle.batch_order.specs.CarriedOut.{writes_left}
use Rattle.batch_order.specs.Kept.{IsManaged, held_writes, settled_state}
use Rattle.batch_order.specs.Managed.{Managed}
use Rattle.batch_order.specs.Noting.{all_undo}
use Rattle.batch_order.specs.Planning.{all_writes, as_write, as_writes}
use Rattle.batch_order.specs.Steps.{is_unwritten}
use Rattle.batch_order.specs.declared.held.Held.{Held}
use Rattle.batch_order.proofs.under_way.Carried.{held_size, view_of}
use Rattle.batch_order.proofs.planning.Numbers.{left_whole, parts_counted}
use Rattle.batch_order.proofs.back.Restored.{length-restorings}
use Rattle.batch_order.proofs.under_way.Unwritten.{unwritten_is, unwritten_parts}
use Rattle.batch_order.proofs.manager.Manager.parts.Goals as goal

pub parts_of_all-requires : goal.parts_of_all-requires
parts_of_all-requires c =
    let i = c.self.inside in
    let held = c.in-Some.held in
    let was : i.held ≡ Some held = c.in-Some.is in
    let managed = subst (IsManaged i.translation i.rules i.live i.arrangement) was c.self.invariant.0 in
    let said : is_unwritten (view_of i.placement i.translation i.rules i.live i.arrangement i.held).held ≡ true = rw (← c.self.view_is) at c.requires.unwritten in
    let here = subst (λ (h : Option Held). is_unwritten (view_of i.placement i.translation i.rules i.live i.arrangement h).held ≡ true) was said in
    let one = unwritten_parts held (sym (unwritten_is i.translation i.rules i.live i.arrangement held managed) ∙ here) in
    let fewer : length (writes_left (view_of i.placement i.translation i.rules i.live i.arrangement i.held).held) ≤ 2 ^ 35 = rw (← c.self.view_is) at c.requires.few in
    let few = subst (λ (h : Option Held). length (writes_left (view_of i.placement i.translation i.rules i.live i.arrangement h).held) ≤ 2 ^ 35) was fewer in
    let all : length (held_writes i.live.entries held) ≤ 2 ^ 35 = subst (λ (some : List Write). length some ≤ 2 ^ 35) (left_whole i.translation i.rules i.live i.arrangement held one) few in
    let size : length (held_writes i.live.entries held) ≡ length (all_writes held.writes) = held_size i.live.entries held in
    let undo : length (as_writes i.live.entries held.rewrites.items (all_undo held.undo)) ≡ length (held_writes i.live.entries held) =
    ap length (managed.carried.way_back one.prepared).undo_is ∙ length-restorings (settled_state i.translation i.live.entries i.arrangement) (held_writes i.live.entries held) in
    let same : length (as_writes i.live.entries held.rewrites.items (all_undo held.undo)) ≡ length (all_undo held.undo) = length-map (all_undo held.undo) (as_write i.live.entries held.rewrites.items) in
    record {
      few = omega arith;
      size = omega arith;
    }

pub returns-in-Some : goal.returns-in-Some
returns-in-Some c =
    let i = c.self.inside in
    let held = c.in-Some.held in
    let was : i.held ≡ Some held = c.in-Some.is in
    let managed = subst (IsManaged i.translation i.rules i.live i.arrangement) was c.self.invariant.0 in
    let said : is_unwritten (view_of i.placement i.translation i.rules i.live i.arrangement i.held).held ≡ true = rw (← c.self.view_is) at c.requires.unwritten in
    let here = subst (λ (h : Option Held). is_unwritten (view_of i.placement i.translation i.rules i.live i.arrangement h).held ≡ true) was said in
    let one = unwritten_parts held (sym (unwritten_is i.translation i.rules i.live i.arrangement held managed) ∙ here) in
    let view : view_of i.placement i.translation i.rules i.live i.arrangement i.held ≡ c.args.self.now = c.self.view_is in
    let counted : c.parts_of_all.result ≡ paired_number (held_writes i.live.entries held) (as_writes i.live.entries held.rewrites.items (all_undo held.undo)) = rw c.deref.ensures.value at c.parts_of_all.ensures in
    subst (λ (m : Managed). c.parts_of_all.result ≡ parts_number m.state (writes_left m.held)) view
    (subst (λ (h : Option Held). c.parts_of_all.result ≡ parts_number (view_of i.placement i.translation i.rules i.live i.arrangement h).state (writes_left (view_of i.placement i.translation i.rules i.live i.arrangement h).held)) (sym was)
    (counted ∙ parts_counted i.translation i.rules i.live i.arrangement held managed one))
