use Rattle.std.proofs.Common.{◌≡◌, ◌<◌, ◌∙◌, [], ◌∷◌, ◌++◌, List, ℕ, map, Some, None, IsSome, length, get_or, arith, subst, sym, ap, append-nil}
use Rattle.std.specs.List.{AllByRecursion}
use Rattle.std.proofs.lemmas.List.{take_all}
use Rattle.slot_order.proofs.Lists.{all_append}
use Rattle.slot_pool.specs.Arrangement.{home_of}
use Rattle.tcam_device.specs.declared.Write.TheVariants.{Slot}
use Rattle.placement.specs.declared.Move.TheVariants.{Put, Erase}
use Rattle.commit_writes.specs.PlannedBatch.{erase_write}
use Rattle.batch_order.specs.declared.planned_writes.PlannedWrite.TheVariants.{Moved}
use Rattle.batch_order.specs.Noting.{GainsAtHome, put_at_home}
use Rattle.batch_order.specs.Planning.{IsStanding, IsWithin, as_writes}
use Rattle.batch_order.proofs.planning.Meant.{as_append}
use Rattle.batch_order.proofs.back.Gained.{gains_more, gains_none, move_next}
use Rattle.batch_order.proofs.arranged.Walked.{all_at, number_is}
use Rattle.batch_order.proofs.ids.Standing.{home_inside, home_is, write_next}
use Rattle.batch_order.proofs.plan.plan_erases.Goals as goal

pub unwrap-slot-requires : goal.unwrap-slot-requires
unwrap-slot-requires c =
    let ids = c.args.ids.now in
    let within : c.loop-id.id-index < length ids = omega arith in
    subst IsSome (sym c.home.ensures) (all_at (IsStanding c.args.arrangement.now) ids c.loop-id.id-index (get_or ids c.loop-id.id-index 0) c.requires.standing within (number_is ids c.loop-id.id-index within))

pub loop-id-preserved : goal.loop-id-preserved
loop-id-preserved c =
    let slots = c.args.arrangement.now in
    let one = get_or c.args.ids.now c.loop-id.id-index 0 in
    let at = c.unwrap-slot.result in
    let within : c.loop-id.id-index < length c.args.ids.now = omega arith in
    let found : home_of slots one ≡ Some at = sym c.home.ensures ∙ c.unwrap-slot.ensures in
    record {
      writes = λ entries rewrites.
          write_next (erase_write slots) c.args.ids.now c.loop-id.id-index one (Slot at None) (as_writes entries rewrites c.args.writes.now.items) (as_writes entries rewrites c.loop-id.writes.items) _ within
          (number_is c.args.ids.now c.loop-id.id-index within) (ap (λ n. Slot n None) (home_is slots one at found)) (c.loop-id.invariant.writes entries rewrites)
          (ap (as_writes entries rewrites) c.in_ok-push.ensures.items ∙ as_append entries rewrites c.loop-id.writes.items (Moved (Erase at) ∷ []));
      within = subst (AllByRecursion (IsWithin (length slots))) (sym c.in_ok-push.ensures.items)
          (all_append (IsWithin (length slots)) c.loop-id.writes.items (Moved (Erase at) ∷ []) c.loop-id.invariant.within (home_inside slots one at found, tt));
      at_home = gains_more slots c.args.ids.now c.loop-id.id-index one (Moved (Erase at)) c.args.writes.now.items c.loop-id.writes.items _ within (number_is c.args.ids.now c.loop-id.id-index within)
          c.loop-id.invariant.at_home (λ entries rewrites. (None, ap (λ n. Slot n None) (sym (home_is slots one at found)))) c.in_ok-push.ensures.items;
      noted = move_next (put_at_home slots) c.args.ids.now c.loop-id.id-index one (Put at one) c.args.undo.now c.loop-id.undo _ within (number_is c.args.ids.now c.loop-id.id-index within)
          (ap (λ n. Put n one) (home_is slots one at found)) c.loop-id.invariant.noted c.in_ok-push-2.ensures.pushed;
    }

pub loop-id-init : goal.loop-id-init
loop-id-init c = record {
  writes = λ entries rewrites. sym (append-nil (as_writes entries rewrites c.args.writes.now.items));
  within = c.requires.within;
  at_home = gains_none c.args.arrangement.now c.args.writes.now.items;
  noted = sym (append-nil c.args.undo.now);
}

pub returns-clause-writes : goal.returns-clause-writes
returns-clause-writes c = λ entries rewrites.
    c.loop-id.invariant.writes entries rewrites
    ∙ ap (λ (some : List ℕ). as_writes entries rewrites c.args.writes.now.items ++ map (erase_write c.args.arrangement.now) some) (take_all c.loop-id.id-index c.args.ids.now (omega arith))

pub returns-clause-at_home : goal.returns-clause-at_home
returns-clause-at_home c =
    subst (λ (ids : List ℕ). GainsAtHome c.args.arrangement.now ids c.args.writes.now.items c.loop-id.writes.items) (take_all c.loop-id.id-index c.args.ids.now (omega arith)) c.loop-id.invariant.at_home

pub returns-clause-noted : goal.returns-clause-noted
returns-clause-noted c =
    c.loop-id.invariant.noted ∙ ap (λ (ids : List ℕ). c.args.undo.now ++ map (put_at_home c.args.arrangement.now) ids) (take_all c.loop-id.id-index c.args.ids.now (omega arith))
