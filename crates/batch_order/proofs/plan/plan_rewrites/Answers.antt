use Rattle.std.proofs.Common.{◌≡◌, ◌<◌, ◌∙◌, ◌++◌, [], ◌∷◌, List, ℕ, Option, Some, length, map, slice_get, arith, subst, sym, ap, append-nil}
use Rattle.std.specs.Prelude.{option_map}
use Rattle.std.specs.List.{AllByRecursion}
use Rattle.std.proofs.lemmas.List.{get_or-map, length-map, take_all}
use Rattle.std.proofs.lemmas.Option.{slice_get-get_or}
use Rattle.slot_order.proofs.Lists.{all_append}
use Rattle.slot_pool.specs.Arrangement.{home_of}
use Rattle.placement.specs.declared.Move.TheVariants.{Put}
use Rattle.tcam_device.specs.declared.Write.TheVariants.{Slot}
use Rattle.commit_writes.specs.declared.Rewrite.{Rewrite}
use Rattle.commit_writes.specs.PlannedBatch.{rewrite_write}
use Rattle.batch_order.specs.declared.planned_writes.PlannedWrite.TheVariants.{Rewritten}
use Rattle.batch_order.specs.Noting.{GainsAtHome, put_at_home}
use Rattle.batch_order.specs.Planning.{IsWithin, as_writes}
use Rattle.batch_order.proofs.planning.Meant.{as_append}
use Rattle.batch_order.proofs.back.Gained.{gains_more, gains_none, move_next}
use Rattle.batch_order.proofs.ids.Standing.{home_inside, home_is, write_next}
use Rattle.batch_order.proofs.plan.plan_rewrites.Goals as goal

pub loop-place-preserved : goal.loop-place-preserved
loop-place-preserved c =
    let slots = c.args.arrangement.now in
    let rewrites = c.args.rewrites.now in
    let place = c.loop-place.place in
    let one = c.index-rewrites-place.result in
    let at = c.unwrap-slot.result in
    let inside : place < length rewrites = omega arith in
    let found : home_of slots one.id ≡ Some at = sym c.home.ensures ∙ c.unwrap-slot.ensures in
    let read : slice_get rewrites place ≡ Some one = slice_get-get_or rewrites place one inside ∙ ap (λ (r : Rewrite). Some r) (sym c.index-rewrites-place.is) in
    record {
      writes = λ entries.
          write_next (rewrite_write slots) rewrites place one (Slot at (Some one.entry)) (as_writes entries rewrites c.args.writes.now.items) (as_writes entries rewrites c.loop-place.writes.items) _ inside
          (sym c.index-rewrites-place.is) (ap (λ n. Slot n (Some one.entry)) (home_is slots one.id at found)) (c.loop-place.invariant.writes entries)
          (ap (as_writes entries rewrites) c.in_ok-push.ensures.items ∙ (as_append entries rewrites c.loop-place.writes.items (Rewritten at place ∷ [])
          ∙ ap (λ (some : Option Rewrite). as_writes entries rewrites c.loop-place.writes.items ++ Slot at (option_map (λ (r : Rewrite). r.entry) some) ∷ []) read));
      within = subst (AllByRecursion (IsWithin (length slots))) (sym c.in_ok-push.ensures.items)
          (all_append (IsWithin (length slots)) c.loop-place.writes.items (Rewritten at place ∷ []) c.loop-place.invariant.within (home_inside slots one.id at found, tt));
      at_home = gains_more slots (map (λ (r : Rewrite). r.id) rewrites) place one.id (Rewritten at place) c.args.writes.now.items c.loop-place.writes.items _
          (let many = length-map rewrites (λ (r : Rewrite). r.id) in omega arith)
          (get_or-map (λ (r : Rewrite). r.id) rewrites place one one.id inside ∙ ap (λ (r : Rewrite). r.id) (sym c.index-rewrites-place.is))
          c.loop-place.invariant.at_home (λ entries some. (option_map (λ (r : Rewrite). r.entry) (slice_get some place), ap (λ n. Slot n (option_map (λ (r : Rewrite). r.entry) (slice_get some place))) (sym (home_is slots one.id at found))))
          c.in_ok-push.ensures.items;
      noted = move_next (λ (r : Rewrite). put_at_home slots r.id) rewrites place one (Put at one.id) c.args.undo.now c.loop-place.undo _ inside (sym c.index-rewrites-place.is)
          (ap (λ n. Put n one.id) (home_is slots one.id at found)) c.loop-place.invariant.noted c.in_ok-push-2.ensures.pushed;
    }

pub loop-place-init : goal.loop-place-init
loop-place-init c = record {
  writes = λ entries. sym (append-nil (as_writes entries c.args.rewrites.now c.args.writes.now.items));
  within = c.requires.within;
  at_home = gains_none c.args.arrangement.now c.args.writes.now.items;
  noted = sym (append-nil c.args.undo.now);
}

pub returns-clause-writes : goal.returns-clause-writes
returns-clause-writes c = λ entries.
    c.loop-place.invariant.writes entries
    ∙ ap (λ (some : List Rewrite). as_writes entries c.args.rewrites.now c.args.writes.now.items ++ map (rewrite_write c.args.arrangement.now) some) (take_all c.loop-place.place c.args.rewrites.now (omega arith))

pub returns-clause-at_home : goal.returns-clause-at_home
returns-clause-at_home c =
    let ids = map (λ (r : Rewrite). r.id) c.args.rewrites.now in
    subst (λ (some : List ℕ). GainsAtHome c.args.arrangement.now some c.args.writes.now.items c.loop-place.writes.items)
    (take_all c.loop-place.place ids (let many = length-map c.args.rewrites.now (λ (r : Rewrite). r.id) in omega arith)) c.loop-place.invariant.at_home

pub returns-clause-noted : goal.returns-clause-noted
returns-clause-noted c =
    c.loop-place.invariant.noted
    ∙ ap (λ (some : List Rewrite). c.args.undo.now ++ map (λ (r : Rewrite). put_at_home c.args.arrangement.now r.id) some) (take_all c.loop-place.place c.args.rewrites.now (omega arith))
