use Rattle.std.proofs.Common.{◌≡◌, [], ◌++◌, ℕ, IsTrue, List, Contains, length, map, Option, Some, sym, ap, ap₂, subst, ◌∙◌}
use Rattle.std.specs.List.{AllByRecursion}
use Rattle.slot_order.specs.Order.{slot}
use Rattle.slot_order.proofs.Lists.{AllByRecursion-member, all_append}
use Rattle.slot_pool.specs.Arrangement.{Slots}
use Rattle.placement.specs.declared.LivePiece.{LivePiece}
use Rattle.placement.specs.declared.Move.{Move}
use Rattle.placement.specs.Live.{is_live}
use Rattle.rule_store.specs.Verdict.{entries_of}
use Rattle.rule_store.specs.declared.Mode.{Mode}
use Rattle.move_planner.specs.Noted.{AreNoted, IsInside, backs_of, taken_back}
use Rattle.move_planner.proofs.Noted.{back_again}
use Rattle.commit_writes.specs.declared.Rewrite.{Rewrite}
use Rattle.commit_writes.specs.PlannedBatch.{home_slot}
use Rattle.rule_model.specs.declared.words.Entry.{Entry}
use Rattle.batch_order.specs.Entries.{AddsIds, Entries, KeepEntries}
use Rattle.batch_order.specs.Noting.{changed_ids}
use Rattle.batch_order.specs.Planning.{IsSettled, IsWithin, all_writes}
use Rattle.batch_order.proofs.arranged.Cleared.{all_stand}
use Rattle.batch_order.proofs.back.Noted.{all_restored, all_taken, ids_all, stands_home}
use Rattle.batch_order.proofs.back.TakenBack.{noted_inside}
use Rattle.batch_order.proofs.planning.Leading.{changed_stand, still_changed, still_live}
use Rattle.batch_order.proofs.planning.Refused.{adds_first, kept_back}
use Rattle.batch_order.proofs.writes.plan_writes.Goals as goal

pub plan_additions-requires : goal.plan_additions-requires
plan_additions-requires c = record {
  standing = c.requires.standing ∙ ap (λ (m : Mode). entries_of m c.args.rules.now.rules) (sym c.encoding-mode.ensures);
  room = rw c.deref.ensures.value c.requires.room;
  encodable = rw c.deref.ensures.value c.requires.encodable;
  plannable = c.requires.plannable;
}

-- what is rewritten and what is erased are live ids, with the new ones too,
changed_live : (old new : Entries) (ids : List ℕ) (rewrites : List Rewrite) → AddsIds old new ids → AllByRecursion (λ rewrite. IsTrue (is_live old.live rewrite.id)) rewrites
    → AllByRecursion (λ rewrite. IsTrue (is_live new.live rewrite.id)) rewrites
changed_live old new ids rewrites adds live =
    subst (λ (l : List LivePiece). AllByRecursion (λ rewrite. IsTrue (is_live l rewrite.id)) rewrites) (sym adds.live) (still_changed old.live adds.made rewrites live)

gone_live : (old new : Entries) (ids erased : List ℕ) → AddsIds old new ids → AllByRecursion (λ id. IsTrue (is_live old.live id)) erased → AllByRecursion (λ id. IsTrue (is_live new.live id)) erased
gone_live old new ids erased adds live = subst (λ (l : List LivePiece). AllByRecursion (λ id. IsTrue (is_live l id)) erased) (sym adds.live) (still_live old.live adds.made erased live)

-- and each of them stands at its home
stand : (old new : Entries) (slots : Slots) (ids : List ℕ) (rewrites : List Rewrite) (erased : List ℕ) → AddsIds old new ids → IsSettled new slots
    → AllByRecursion (λ rewrite. IsTrue (is_live old.live rewrite.id)) rewrites → AllByRecursion (λ id. IsTrue (is_live old.live id)) erased
    → (id : ℕ) → Contains (changed_ids rewrites erased) id → slot slots (home_slot slots id) ≡ Some id
stand old new slots ids rewrites erased adds settled rewritten gone id member =
    let live = all_append (λ id. IsTrue (is_live new.live id)) (map (λ (rewrite : Rewrite). rewrite.id) rewrites) erased
    (ids_all (λ id. IsTrue (is_live new.live id)) rewrites (changed_live old new ids rewrites adds rewritten)) (gone_live old new ids erased adds gone) in
    stands_home new slots id settled (AllByRecursion-member (λ id. IsTrue (is_live new.live id)) (changed_ids rewrites erased) id live member)

pub plan_behind-requires : goal.plan_behind-requires
plan_behind-requires c =
    let new = c.plan_additions.new.live in
    let plannable = c.in-Ok.ensures.plannable in
    let parts = c.args.parts.now in
    let noted = c.plan_additions.ensures.noted in
    record {
      few = c.requires.few;
      rewritten = changed_stand new c.plan_additions.new.arrangement parts.rewrites.items plannable.settled (changed_live c.args.live.now new c.in-Ok.ids.items parts.rewrites.items c.in-Ok.ensures.adds c.requires.rewritten);
      erased = all_stand new c.plan_additions.new.arrangement parts.erased.items plannable.settled (gone_live c.args.live.now new c.in-Ok.ids.items parts.erased.items c.in-Ok.ensures.adds c.requires.erased);
      within = subst (λ (n : ℕ). AllByRecursion (IsWithin n) (all_writes c.plan_additions.new.plan.writes)) (sym plannable.settled.size) plannable.within;
      covers = λ cover. noted.words ∙ c.requires.begins.covers cover;
      unnoted = noted.undo_words ∙ c.requires.begins.unnoted.no_words;
    }

pub returns-in-Ok-plan_behind-clause-planned : goal.returns-in-Ok-plan_behind-clause-planned
returns-in-Ok-plan_behind-clause-planned c =
    let first = c.in-Ok.ensures in
    let rest = c.in-Ok-plan_behind.ensures.changed in
    record {
      between = c.plan_additions.new.plan;
      inserted = rw (c.deref.ensures.value, c.encoding-mode.ensures) at first.planned;
      settled = first.plannable.settled;
      within = rest.within;
      writes = rest.writes;
      words = rest.words;
      most = rest.most;
      span = rest.span;
      most_parts = rest.most_parts;
      few = rest.few;
    }

pub returns-in-Ok-plan_behind-clause-undo : goal.returns-in-Ok-plan_behind-clause-undo
returns-in-Ok-plan_behind-clause-undo c =
    all_restored c.args.translation.now c.args.arrangement.now c.plan_additions.new.arrangement c.args.plan.now c.plan_additions.new.plan c.plan_behind.new.plan c.args.parts.now.rewrites.items c.args.parts.now.erased.items
    c.requires.begins c.requires.plannable.no_changes c.plan_additions.ensures.noted c.in-Ok-plan_behind.ensures.changed c.in-Ok-plan_behind.ensures.noted c.plan_behind.ensures.moves c.requires.apart (stand c.args.live.now c.plan_additions.new.live c.plan_additions.new.arrangement c.in-Ok.ids.items c.args.parts.now.rewrites.items c.args.parts.now.erased.items c.in-Ok.ensures.adds c.in-Ok.ensures.plannable.settled c.requires.rewritten c.requires.erased)

pub returns-in-Ok-plan_behind-clause-takes_back : goal.returns-in-Ok-plan_behind-clause-takes_back
returns-in-Ok-plan_behind-clause-takes_back c =
    all_taken c.args.translation.now c.args.arrangement.now c.plan_additions.new.arrangement c.args.plan.now c.plan_additions.new.plan c.plan_behind.new.plan c.args.parts.now.rewrites.items c.args.parts.now.erased.items
    c.requires.begins c.requires.plannable.no_changes c.plan_additions.ensures.noted c.in-Ok-plan_behind.ensures.changed c.in-Ok-plan_behind.ensures.noted c.plan_behind.ensures.moves c.requires.apart (stand c.args.live.now c.plan_additions.new.live c.plan_additions.new.arrangement c.in-Ok.ids.items c.args.parts.now.rewrites.items c.args.parts.now.erased.items c.in-Ok.ensures.adds c.in-Ok.ensures.plannable.settled c.requires.rewritten c.requires.erased)
    c.plan_additions.new.live c.in-Ok.ensures.plannable.settled (gone_live c.args.live.now c.plan_additions.new.live c.in-Ok.ids.items c.args.parts.now.erased.items c.in-Ok.ensures.adds c.requires.erased)

pub returns-in-Err-plan_behind-clause-kept : goal.returns-in-Err-plan_behind-clause-kept
returns-in-Err-plan_behind-clause-kept c =
    subst (λ (entries : List (Option Entry)). KeepEntries c.args.live.now.live c.args.live.now.entries entries) (sym c.put_back.ensures.entries)
    (kept_back c.args.live.now c.plan_additions.new.live c.forget_all.new.live c.plan_additions.ensures.kept c.forget_all.ensures.kept
    (c.forget_all.ensures.live ∙ adds_first c.args.live.now c.plan_additions.new.live c.in-Ok.ids.items c.in-Ok.ensures.adds))

pub returns-in-Err-clause-kept : goal.returns-in-Err-clause-kept
returns-in-Err-clause-kept c =
    subst (λ (entries : List (Option Entry)). KeepEntries c.args.live.now.live c.args.live.now.entries entries) (sym c.put_back-in-Err.ensures.entries) c.plan_additions.ensures.kept

-- what is noted of the moves takes the arrangement back
moves_back : (slots slots' : Slots) (plan plan' undo undo' : List Move) (noted : AreNoted slots slots' plan plan' undo undo') → undo ≡ [] → taken_back slots' undo' ≡ slots
moves_back slots slots' plan plan' undo undo' noted none =
    ap₂ taken_back noted.after (noted.noted ∙ ap (λ (some : List Move). some ++ backs_of slots noted.moves) none) ∙ back_again slots noted.moves

pub returns-in-Err-plan_behind-clause-back : goal.returns-in-Err-plan_behind-clause-back
returns-in-Err-plan_behind-clause-back c =
    c.put_back.ensures.exact ∙ (ap (taken_back c.plan_additions.new.arrangement) c.plan_behind.ensures.moves
    ∙ moves_back c.args.arrangement.now c.plan_additions.new.arrangement _ _ _ _ c.plan_additions.ensures.noted.moves c.requires.begins.unnoted.no_moves)

pub returns-in-Err-clause-back : goal.returns-in-Err-clause-back
returns-in-Err-clause-back c =
    c.put_back-in-Err.ensures.exact ∙ moves_back c.args.arrangement.now c.plan_additions.new.arrangement _ _ _ _ c.plan_additions.ensures.noted.moves c.requires.begins.unnoted.no_moves

pub returns-in-Err-plan_behind-clause-told : goal.returns-in-Err-plan_behind-clause-told
returns-in-Err-plan_behind-clause-told c = c.put_back.ensures.told (c.forget_all.ensures.told c.plan_additions.new.arrangement c.plan_additions.ensures.told)

pub returns-in-Err-clause-told : goal.returns-in-Err-clause-told
returns-in-Err-clause-told c = c.put_back-in-Err.ensures.told c.plan_additions.ensures.told

pub put_back-requires : goal.put_back-requires
put_back-requires c =
    let noted = c.plan_additions.ensures.noted.moves in
    subst (AllByRecursion (IsInside (length c.plan_additions.new.arrangement))) (sym c.plan_behind.ensures.moves)
    (noted_inside _ _ _ _ _ _ noted c.requires.begins.unnoted.no_moves)

pub put_back-requires-in-Err : goal.put_back-requires-in-Err
put_back-requires-in-Err c = noted_inside _ _ _ _ _ _ c.plan_additions.ensures.noted.moves c.requires.begins.unnoted.no_moves
