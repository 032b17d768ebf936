use Rattle.std.proofs.Common.{◌≡◌, ◌++◌, List, length, map, refl, ap, append_assoc, ◌∙◌}
use Rattle.placement.specs.declared.Move.{Move}
use Rattle.tcam_device.specs.declared.Write.{Write}
use Rattle.commit_writes.specs.declared.Rewrite.{Rewrite}
use Rattle.commit_writes.specs.PlannedBatch.{erase_write, rewrite_write}
use Rattle.batch_order.specs.Noting.{put_at_home}
use Rattle.batch_order.specs.Planning.{IsWithin, as_writes}
use Rattle.batch_order.proofs.back.Gained.{gains_then}
use Rattle.batch_order.proofs.Listed.{all_changes, all_with, more_changes}
use Rattle.batch_order.proofs.plan.plan_changes.Goals as goal

pub plan_rewrites-requires-clause-within : goal.plan_rewrites-requires-clause-within
plan_rewrites-requires-clause-within c =
    let old = c.args.plan.now.writes in
    all_changes (IsWithin (length c.args.arrangement.now)) old.words.items old.moves old.changes.items c.requires.within

pub returns-clause-within : goal.returns-clause-within
returns-clause-within c =
    let old = c.args.plan.now.writes in
    all_with (IsWithin (length c.args.arrangement.now)) old.words.items old.moves old.changes.items c.plan_erases.new.writes.items c.requires.within c.in_ok-plan_erases.ensures.within

pub returns-clause-writes : goal.returns-clause-writes
returns-clause-writes c entries =
    let rewrites = c.args.parts.now.rewrites.items in
    let first = c.in_ok-plan_rewrites.ensures.writes in
    let second = c.in_ok-plan_erases.ensures.writes in
    let old = c.args.plan.now.writes in
    let before = old.changes.items in
    let results = map (rewrite_write c.args.arrangement.now) rewrites in
    let erases = map (erase_write c.args.arrangement.now) c.args.parts.now.erased.items in
    let all : as_writes entries rewrites c.plan_erases.new.writes.items ≡ as_writes entries rewrites before ++ (results ++ erases) =
    (rw c.deref-2.ensures.value at second) entries rewrites
    ∙ (ap (λ (w : List Write). w ++ erases) ((rw c.deref.ensures.value at first) entries) ∙ append_assoc (as_writes entries rewrites before) results erases) in
    more_changes entries rewrites old.words.items old.moves before c.plan_erases.new.writes.items (results ++ erases) all

pub returns-clause-at_home : goal.returns-clause-at_home
returns-clause-at_home c =
    let slots = c.args.arrangement.now in
    let rewrites = c.args.parts.now.rewrites.items in
    gains_then slots (map (λ (rewrite : Rewrite). rewrite.id) rewrites) c.args.parts.now.erased.items c.args.plan.now.writes.changes.items c.plan_rewrites.new.writes.items c.plan_erases.new.writes.items
    (rw c.deref.ensures.value at c.in_ok-plan_rewrites.ensures.at_home) (rw c.deref-2.ensures.value at c.in_ok-plan_erases.ensures.at_home)

pub returns-clause-noted : goal.returns-clause-noted
returns-clause-noted c =
    let slots = c.args.arrangement.now in
    let first = map (λ (rewrite : Rewrite). put_at_home slots rewrite.id) c.args.parts.now.rewrites.items in
    let second = map (put_at_home slots) c.args.parts.now.erased.items in
    (rw c.deref-2.ensures.value at c.in_ok-plan_erases.ensures.noted)
    ∙ (ap (λ (some : List Move). some ++ second) (rw c.deref.ensures.value at c.in_ok-plan_rewrites.ensures.noted) ∙ append_assoc c.args.plan.now.undo.changes first second)

pub returns-clause-others : goal.returns-clause-others
returns-clause-others c = record { words = refl; moves = refl; undo_words = refl; undo_moves = refl }

pub returns-in_err-plan_rewrites-clause-others : goal.returns-in_err-plan_rewrites-clause-others
returns-in_err-plan_rewrites-clause-others c = record { words = refl; moves = refl; undo_words = refl; undo_moves = refl }

pub returns-in_err-keep_few-clause-others : goal.returns-in_err-keep_few-clause-others
returns-in_err-keep_few-clause-others c = record { words = refl; moves = refl; undo_words = refl; undo_moves = refl }

pub returns-in_err-plan_erases-clause-others : goal.returns-in_err-plan_erases-clause-others
returns-in_err-plan_erases-clause-others c = record { words = refl; moves = refl; undo_words = refl; undo_moves = refl }
