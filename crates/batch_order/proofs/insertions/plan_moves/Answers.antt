use Rattle.std.proofs.Common.{◌≡◌, ◌+◌, ◌<◌, ◌≤◌, ◌∙◌, ◌++◌, List, ℕ, drop, take, length, map, max, arith, refl, subst, sym, ap}
use Rattle.std.specs.List.{AllByRecursion}
use Rattle.std.proofs.lemmas.List.{length-append, take_all}
use Rattle.slot_order.proofs.Lists.{all_append}
use Rattle.placement.specs.Live.{is_above, rank_in}
use Rattle.slot_pool.specs.Arrangement.{Slots}
use Rattle.placement.specs.declared.Move.{Move}
use Rattle.placement.specs.Placement.{Aiming, IsPlacement, IsInOrder, after_moves, span_of}
use Rattle.placement.specs.Insertion.{IsLive, StandOnce, free_slots, moves_since}
use Rattle.placement.specs.Ready.{IsReady}
use Rattle.batch_order.specs.ByParts.{insertion_parts, moves_put}
use Rattle.batch_order.specs.Entries.{AreFollowed, Entries}
use Rattle.batch_order.specs.declared.planned_writes.PlannedWrite.TheVariants.{Moved}
use Rattle.batch_order.specs.declared.planned_writes.PlannedWrites.{PlannedWrites}
use Rattle.batch_order.specs.declared.undoing.PlannedUndo.{PlannedUndo}
use Rattle.move_planner.specs.Noted.{AreNoted, IsInside}
use Rattle.batch_order.specs.Planning.{IsLastLive, IsWithin, all_writes}
use Rattle.batch_order.proofs.arranged.Inside.{moves_inside}
use Rattle.batch_order.proofs.Listed.{more_moved}
use Rattle.batch_order.proofs.Told.{told_followed, told_in}
use Rattle.batch_order.proofs.arranged.Unchanged.{settled_same}
use Rattle.batch_order.proofs.planning.Meant.{moves_within}
use Rattle.batch_order.proofs.arranged.Settled.{settled_again, size_after}
use Rattle.batch_order.proofs.planning.Few.{puts_few}
use Rattle.batch_order.proofs.insertions.plan_moves.Goals as goal

free_one : (kept : Entries) (slots : Slots) (id : ℕ) → IsLastLive kept slots id → 0 < free_slots slots
free_one kept slots id new = let count = new.count in let room = new.room in omega arith

-- the last live id is ready to be placed
ready : (kept : Entries) (slots : Slots) (id : ℕ) → IsLastLive kept slots id → IsReady (record { slots = kept.slots; live = kept.live; told = kept.told }) id slots
ready kept slots id new = record {
  few = (let size = new.size in let few = new.few in omega arith);
  free = free_one kept slots id new;
  live = new.live;
  apart = new.apart;
  standing = new.standing;
  order = new.order;
}

pub plan_insert-planned-requires-clause-free : goal.plan_insert-planned-requires-clause-free
plan_insert-planned-requires-clause-free c = free_one c.args.live.now c.args.arrangement.now c.args.id c.requires.new

pub plan_insert-planned-requires-clause-told : goal.plan_insert-planned-requires-clause-told
plan_insert-planned-requires-clause-told c =
    told_in c.args.live.now c.index.result.now.live c.index.result.now.told c.args.arrangement.now c.index.ensures.live c.index.ensures.told c.requires.new.told

-- its moves stay inside
inside : (kept : Entries) (slots : Slots) (aiming : Aiming) (id : ℕ) (moves : List Move) → IsLastLive kept slots id → IsPlacement (is_above kept.live) (rank_in kept.live) aiming id slots moves → AllByRecursion (IsInside kept.slots) moves
inside kept slots aiming id moves new placement =
    subst (λ n. AllByRecursion (IsInside n) moves) new.size (moves_inside (record { slots = kept.slots; live = kept.live; told = kept.told }) id slots moves (ready kept slots id new) placement)

-- its moves are few,
pub puts_from-puts-requires : goal.puts_from-puts-requires
puts_from-puts-requires c =
    let old = c.args.plan.now.writes in
    let m = moves_since old.moves c.plan_insert-planned.new.plan in
    let short = c.in_ok-keep_short.ensures.short in
    let writes = rw c.in_ok-insert.was at c.plan_insert-planned.ensures.writes in
    let first = c.len-first.ensures.count in
    let all : length c.plan_insert-planned.new.plan ≡ length old.moves + length m = ap length c.plan_insert-planned.ensures.plan ∙ length-append old.moves m in
    omega arith

-- so what they put can be counted
pub count-requires-clause-few_puts : goal.count-requires-clause-few_puts
count-requires-clause-few_puts c =
    let old = c.args.plan.now.writes in
    let m = moves_since old.moves c.plan_insert-planned.new.plan in
    let short = c.in_ok-keep_short.ensures.short in
    let writes = rw c.in_ok-insert.was at c.plan_insert-planned.ensures.writes in
    let puts : c.puts_from-puts.result ≡ moves_put m = c.puts_from-puts.ensures ∙ ap (λ (n : ℕ). moves_put (drop n c.plan_insert-planned.new.plan)) c.len-first.ensures.count in
    let fewer = puts_few m in
    omega arith

pub returns-clause-plannable : goal.returns-clause-plannable
returns-clause-plannable c =
    let kept = c.args.live.now in
    let slots = c.args.arrangement.now in
    let old = c.args.plan.now.writes in
    let did = c.plan_insert-planned in
    let m = moves_since old.moves did.new.plan in
    let live = c.index.ensures.live in
    let live_is = c.follow-2.ensures.live ∙ c.follow.ensures.live in
    let slots_is = c.follow-2.ensures.slots ∙ c.follow.ensures.slots in
    let placement : IsPlacement (is_above kept.live) (rank_in kept.live) (record { aim = c.args.aim; coming = c.args.coming.now }) c.args.id slots m =
    subst (λ l. IsPlacement (is_above l) (rank_in l) (record { aim = c.args.aim; coming = c.args.coming.now }) c.args.id slots m) live (rw c.in_ok-insert.was at did.ensures.placement) in
    let pushed : all_writes c.count.new.self.writes ≡ all_writes old ++ map Moved m =
    ap all_writes c.count.ensures.writes ∙ more_moved old.words.items old.moves did.new.plan m old.changes.items c.requires.no_changes did.ensures.plan in
    let after : did.new.slots ≡ after_moves slots m = did.ensures.slots in
    let orders : (n : ℕ) → n ≤ length m → IsInOrder (is_above c.index.result.now.live) (after_moves slots (take n m)) = rw c.in_ok-insert.was at did.ensures.order in
    let order : IsInOrder (is_above kept.live) did.new.slots =
    subst (λ l. IsInOrder (is_above l) did.new.slots) live
    (subst (IsInOrder (is_above c.index.result.now.live)) (ap (after_moves slots) (take_all (length m) m (omega arith)) ∙ sym after) (orders (length m) (omega arith))) in
    record {
      settled = settled_same kept c.follow-2.new.self did.new.slots
          (settled_again kept slots did.new.slots c.args.id c.requires.new (ap length after ∙ size_after slots m)
          (subst (λ l. StandOnce (IsLive l) did.new.slots) live (rw c.in_ok-insert.was at did.ensures.standing)) order (rw c.in_ok-insert.was at did.ensures.free)) live_is slots_is;
      no_changes = ap (λ (writes : PlannedWrites). writes.changes.items) c.count.ensures.writes ∙ c.requires.no_changes;
      within = subst (λ (n : ℕ). AllByRecursion (IsWithin n) (all_writes c.count.new.self.writes)) (sym slots_is) (subst (AllByRecursion (IsWithin kept.slots)) (sym pushed)
          (all_append (IsWithin kept.slots) (all_writes old) (map Moved m) c.requires.within (moves_within kept.slots m (inside kept slots (record { aim = c.args.aim; coming = c.args.coming.now }) c.args.id m c.requires.new placement))));
      told = told_followed kept c.follow.new.self c.follow-2.new.self slots did.new.slots old.moves did.new.plan c.args.plan.now.undo.moves did.new.undo did.ensures.noted c.requires.new.told
          (subst (λ (n : ℕ). AreFollowed kept c.follow.new.self did.new.slots (drop n did.new.plan)) c.len-first.ensures.count c.follow.ensures.told)
          (subst (λ (n : ℕ). AreFollowed c.follow.new.self c.follow-2.new.self did.new.slots (drop n did.new.undo)) c.len-noted.ensures.count c.follow-2.ensures.told);
    }

pub returns-clause-inserted : goal.returns-clause-inserted
returns-clause-inserted c =
    let kept = c.args.live.now in
    let slots = c.args.arrangement.now in
    let old = c.args.plan.now.writes in
    let did = c.plan_insert-planned in
    let m = moves_since old.moves did.new.plan in
    let live = c.index.ensures.live in
    record {
      moves = m;
      placement = subst (λ l. IsPlacement (is_above l) (rank_in l) (record { aim = c.args.aim; coming = c.args.coming.now }) c.args.id slots m) live (rw c.in_ok-insert.was at did.ensures.placement);
      slots_are = did.ensures.slots;
      writes = ap all_writes c.count.ensures.writes ∙ more_moved old.words.items old.moves did.new.plan m old.changes.items c.requires.no_changes did.ensures.plan;
      words = c.count.ensures.words;
      most = c.count.ensures.most ∙ ap (max c.args.plan.now.most) (rw c.in_ok-insert.was at did.ensures.writes);
      span = c.count.ensures.span ∙ ap (max c.args.plan.now.span) (subst (λ l. c.in_ok-insert.insert.span ≡ span_of (is_above l) slots c.args.id) live (rw c.in_ok-insert.was at did.ensures.span));
      most_parts = c.count.ensures.most_parts
          ∙ ap (λ (n : ℕ). max c.args.plan.now.most_parts (insertion_parts n))
          (c.puts_from-puts.ensures ∙ ap (λ (n : ℕ). moves_put (drop n did.new.plan)) c.len-first.ensures.count);
    }

pub returns-clause-noted : goal.returns-clause-noted
returns-clause-noted c =
    let slots = c.args.arrangement.now in
    let old = c.args.plan.now.writes in
    let did = c.plan_insert-planned in
    record {
      moves = subst (λ (writes : PlannedWrites). AreNoted slots did.new.slots old.moves writes.moves c.args.plan.now.undo.moves c.count.new.self.undo.moves) (sym c.count.ensures.writes)
          (subst (λ (undo : PlannedUndo). AreNoted slots did.new.slots old.moves did.new.plan c.args.plan.now.undo.moves undo.moves) (sym c.count.ensures.undo) did.ensures.noted);
      words = ap (λ (writes : PlannedWrites). writes.words.items) c.count.ensures.writes;
      changes = ap (λ (writes : PlannedWrites). writes.changes.items) c.count.ensures.writes;
      undo_words = ap (λ (undo : PlannedUndo). undo.words.items) c.count.ensures.undo;
      undo_changes = ap (λ (undo : PlannedUndo). undo.changes) c.count.ensures.undo;
    }

pub returns-clause-told : goal.returns-clause-told
returns-clause-told c = (returns-clause-plannable c).told

pub returns-in_err-insert-clause-told : goal.returns-in_err-insert-clause-told
returns-in_err-insert-clause-told c =
    let did = c.plan_insert-planned in
    told_followed c.args.live.now c.follow.new.self c.follow-2.new.self c.args.arrangement.now did.new.slots c.args.plan.now.writes.moves did.new.plan c.args.plan.now.undo.moves did.new.undo did.ensures.noted c.requires.new.told
    (subst (λ (n : ℕ). AreFollowed c.args.live.now c.follow.new.self did.new.slots (drop n did.new.plan)) c.len-first.ensures.count c.follow.ensures.told)
    (subst (λ (n : ℕ). AreFollowed c.follow.new.self c.follow-2.new.self did.new.slots (drop n did.new.undo)) c.len-noted.ensures.count c.follow-2.ensures.told)

pub returns-in_err-keep_short-clause-told : goal.returns-in_err-keep_short-clause-told
returns-in_err-keep_short-clause-told c =
    let did = c.plan_insert-planned in
    told_followed c.args.live.now c.follow.new.self c.follow-2.new.self c.args.arrangement.now did.new.slots c.args.plan.now.writes.moves did.new.plan c.args.plan.now.undo.moves did.new.undo did.ensures.noted c.requires.new.told
    (subst (λ (n : ℕ). AreFollowed c.args.live.now c.follow.new.self did.new.slots (drop n did.new.plan)) c.len-first.ensures.count c.follow.ensures.told)
    (subst (λ (n : ℕ). AreFollowed c.follow.new.self c.follow-2.new.self did.new.slots (drop n did.new.undo)) c.len-noted.ensures.count c.follow-2.ensures.told)

pub returns-in_err-insert-clause-noted : goal.returns-in_err-insert-clause-noted
returns-in_err-insert-clause-noted c = record { moves = c.plan_insert-planned.ensures.noted; words = refl; changes = refl; undo_words = refl; undo_changes = refl }

pub returns-in_err-keep_short-clause-noted : goal.returns-in_err-keep_short-clause-noted
returns-in_err-keep_short-clause-noted c = record { moves = c.plan_insert-planned.ensures.noted; words = refl; changes = refl; undo_words = refl; undo_changes = refl }
