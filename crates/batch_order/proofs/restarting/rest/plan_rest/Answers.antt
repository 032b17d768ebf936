use Rattle.std.proofs.Common.{ℕ, IsTrue, List, sym, subst}
use Rattle.std.specs.List.{AllByRecursion}
use Rattle.placement.specs.declared.LivePiece.{LivePiece}
use Rattle.placement.specs.Live.{is_live}
use Rattle.batch_order.specs.Planning.{IsWithin, all_writes}
use Rattle.batch_order.proofs.arranged.Cleared.{all_stand}
use Rattle.batch_order.proofs.planning.Leading.{changed_stand, still_changed, still_live}
use Rattle.batch_order.proofs.restarting.rest.plan_rest.Goals as goal

pub plan_changes-requires-clause-rewritten : goal.plan_changes-requires-clause-rewritten
plan_changes-requires-clause-rewritten g c =
    let live = c.args.live.now.live in
    let new = c.plan_insertions.new.live in
    let rewrites = c.args.parts.now.rewrites.items in
    let adds = c.in_ok-ids.ensures.adds in
    let changed : AllByRecursion (λ rewrite. IsTrue (is_live new.live rewrite.id)) rewrites =
    subst (λ (l : List LivePiece). AllByRecursion (λ rewrite. IsTrue (is_live l rewrite.id)) rewrites) (sym adds.live) (still_changed live adds.made rewrites c.requires.rewritten) in
    changed_stand new c.plan_insertions.new.arrangement rewrites c.in_ok-ids.ensures.plannable.settled changed

pub plan_changes-requires-clause-erased : goal.plan_changes-requires-clause-erased
plan_changes-requires-clause-erased g c =
    let live = c.args.live.now.live in
    let new = c.plan_insertions.new.live in
    let erased = c.args.parts.now.erased.items in
    let adds = c.in_ok-ids.ensures.adds in
    let gone : AllByRecursion (λ id. IsTrue (is_live new.live id)) erased =
    subst (λ (l : List LivePiece). AllByRecursion (λ id. IsTrue (is_live l id)) erased) (sym adds.live) (still_live live adds.made erased c.requires.erased) in
    all_stand new c.plan_insertions.new.arrangement erased c.in_ok-ids.ensures.plannable.settled gone

pub plan_changes-requires-clause-within : goal.plan_changes-requires-clause-within
plan_changes-requires-clause-within g c =
    let plannable = c.in_ok-ids.ensures.plannable in
    subst (λ (n : ℕ). AllByRecursion (IsWithin n) (all_writes c.plan_insertions.new.plan.writes)) (sym plannable.settled.size) plannable.within

pub returns-clause-planned : goal.returns-clause-planned
returns-clause-planned g c =
    let first = c.in_ok-ids.ensures in
    let rest = c.in_ok-plan_changes.ensures in
    record {
      between = c.plan_insertions.new.plan;
      inserted = rw c.deref.ensures.value at first.planned;
      settled = first.plannable.settled;
      within = rest.within;
      writes = rest.writes;
      words = rest.words;
      most = rest.most;
      span = rest.span;
      most_parts = rest.most_parts;
      few = rest.few;
    }

pub returns-clause-told : goal.returns-clause-told
returns-clause-told g c = c.in_ok-ids.ensures.plannable.told
