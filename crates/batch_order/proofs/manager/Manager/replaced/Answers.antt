use Rattle.std.proofs.Common.{◌≡◌, List, Option, None, Some, slice_get, sym, ap, subst, ◌∙◌}
use Rattle.std.specs.Prelude.{option_map}
use Rattle.std.proofs.lemmas.Option.{slice_get-map}
use Rattle.tcam_device.specs.declared.Write.{Write}
use Rattle.commit_writes.specs.declared.Rewrite.{Rewrite}
use Rattle.commit_writes.specs.Undo.{restoring}
use Rattle.batch_order.specs.declared.held.Held.{Held}
use Rattle.batch_order.specs.declared.planned_writes.PlannedWrite.{PlannedWrite}
use Rattle.batch_order.specs.Kept.{IsManaged, undo_left}
use Rattle.batch_order.specs.Managed.{Managed}
use Rattle.batch_order.specs.Noting.{all_undo}
use Rattle.batch_order.specs.Planning.{as_write, as_writes}
use Rattle.batch_order.specs.Steps.{IsPlainlyForward, next_of}
use Rattle.batch_order.proofs.under_way.Carried.{view_of}
use Rattle.batch_order.proofs.back.Replaced.{restores_next}
use Rattle.batch_order.proofs.under_way.Ways.{forward_way}
use Rattle.batch_order.proofs.manager.Manager.replaced.Goals as goal

pub returns-in-Some-get : goal.returns-in-Some-get
returns-in-Some-get c write plain next =
    let i = c.self.inside in
    let held = c.in-Some.held in
    let entries = i.live.entries in
    let is : i.held ≡ Some held = c.in-Some.is in
    let managed : IsManaged i.translation i.rules i.live i.arrangement (Some held) = subst (IsManaged i.translation i.rules i.live i.arrangement) is c.self.invariant.0 in
    let view : view_of i.placement i.translation i.rules i.live i.arrangement i.held ≡ c.args.self.now = c.self.view_is in
    let forward : IsPlainlyForward (view_of i.placement i.translation i.rules i.live i.arrangement i.held).held = rw (← c.self.view_is) at plain in
    let straight = subst (λ (h : Option Held). IsPlainlyForward (view_of i.placement i.translation i.rules i.live i.arrangement h).held) is forward in
    let first : next_of (view_of i.placement i.translation i.rules i.live i.arrangement i.held).held ≡ Some write = rw (← c.self.view_is) at next in
    let due = subst (λ (h : Option Held). next_of (view_of i.placement i.translation i.rules i.live i.arrangement h).held ≡ Some write) is first in
    let restored = restores_next i.translation i.rules i.live i.arrangement held managed straight.0 (forward_way held.turned (undo_left i.translation i.arrangement i.live.entries held) straight.1) write due in
    let one : PlannedWrite = c.in-Some-get.planned in
    let planned : slice_get (all_undo held.undo) held.made ≡ Some one = sym c.get.ensures ∙ c.in-Some-get.is in
    let made : c.write_of.result ≡ as_write entries held.rewrites.items one = c.write_of.ensures ∙ ap (λ (rewrites : List Rewrite). as_write entries rewrites one) c.deref.ensures.value in
    let read : slice_get (as_writes entries held.rewrites.items (all_undo held.undo)) held.made ≡ Some c.write_of.result =
    slice_get-map (as_write entries held.rewrites.items) (all_undo held.undo) held.made
    ∙ (ap (λ (some : Option PlannedWrite). option_map (as_write entries held.rewrites.items) some) planned ∙ ap (λ (w : Write). Some w) (sym made)) in
    subst (λ (m : Managed). Some c.write_of.result ≡ Some (restoring m.state write)) view
    (subst (λ (h : Option Held). Some c.write_of.result ≡ Some (restoring (view_of i.placement i.translation i.rules i.live i.arrangement h).state write)) (sym is) (sym read ∙ restored))

pub returns-in-None-get : goal.returns-in-None-get
returns-in-None-get c write plain next =
    let i = c.self.inside in
    let held = c.in-Some.held in
    let entries = i.live.entries in
    let is : i.held ≡ Some held = c.in-Some.is in
    let managed : IsManaged i.translation i.rules i.live i.arrangement (Some held) = subst (IsManaged i.translation i.rules i.live i.arrangement) is c.self.invariant.0 in
    let forward : IsPlainlyForward (view_of i.placement i.translation i.rules i.live i.arrangement i.held).held = rw (← c.self.view_is) at plain in
    let straight = subst (λ (h : Option Held). IsPlainlyForward (view_of i.placement i.translation i.rules i.live i.arrangement h).held) is forward in
    let first : next_of (view_of i.placement i.translation i.rules i.live i.arrangement i.held).held ≡ Some write = rw (← c.self.view_is) at next in
    let due = subst (λ (h : Option Held). next_of (view_of i.placement i.translation i.rules i.live i.arrangement h).held ≡ Some write) is first in
    let restored = restores_next i.translation i.rules i.live i.arrangement held managed straight.0 (forward_way held.turned (undo_left i.translation i.arrangement i.live.entries held) straight.1) write due in
    let past : slice_get (as_writes entries held.rewrites.items (all_undo held.undo)) held.made ≡ None =
    slice_get-map (as_write entries held.rewrites.items) (all_undo held.undo) held.made
    ∙ ap (λ (some : Option PlannedWrite). option_map (as_write entries held.rewrites.items) some) (sym c.get.ensures ∙ c.in-None-get.is) in
    let clash = sym past ∙ restored in
    absurd (cc)
