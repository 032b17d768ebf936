use Rattle.std.proofs.Common.{◌≡◌, ℕ, ◌∙◌, ◌++◌, List, [], ◌∷◌, Option, max, refl, sym, subst, ap, true}
use Rattle.slot_pool.specs.Arrangement.{Slots}
use Rattle.placement.specs.declared.LivePiece.{LivePiece}
use Rattle.placement.specs.Live.{is_live, is_above, rank_in, without_id}
use Rattle.placement.specs.Placement.{Aiming, IsPlacement, span_of}
use Rattle.rule_model.specs.declared.words.Entry.{Entry}
use Rattle.rule_model.specs.Entry.{RankedPiece}
use Rattle.commit_writes.specs.Planned.{entry_at}
use Rattle.batch_order.specs.declared.plan.Plan.{Plan}
use Rattle.batch_order.specs.Entries.{AreTold, Entries, KeepEntries}
use Rattle.batch_order.specs.Planning.{ArePlannedSince, IsInserted}
use Rattle.batch_order.proofs.back.Gained.{notes_none}
use Rattle.batch_order.proofs.planning.Since.{planned_one}
use Rattle.batch_order.proofs.arranged.Entered.{kept_set}
use Rattle.batch_order.proofs.arranged.Settled.{last_live, live_new, without_last}
use Rattle.batch_order.proofs.insertions.plan_piece.Goals as goal

-- an insertion into the same entries
inserted_as : (kept kept' : Entries) (slots slots' : Slots) (aiming : Aiming) (id : ℕ) (plan plan' : Plan) → kept'.live ≡ kept.live → IsInserted kept slots slots' aiming id plan plan' → IsInserted kept' slots slots' aiming id plan plan'
inserted_as kept kept' slots slots' aiming id plan plan' same inserted = record {
  moves = inserted.moves;
  placement = subst (λ (l : List LivePiece). IsPlacement (is_above l) (rank_in l) aiming id slots inserted.moves) (sym same) inserted.placement;
  slots_are = inserted.slots_are;
  writes = inserted.writes;
  words = inserted.words;
  most = inserted.most;
  span = subst (λ (l : List LivePiece). plan'.span ≡ max plan.span (span_of (is_above l) slots id)) (sym same) inserted.span;
  most_parts = inserted.most_parts;
}

pub plan_moves-requires-clause-new : goal.plan_moves-requires-clause-new
plan_moves-requires-clause-new c =
    let one : LivePiece = record { id = c.in_ok-id.id; piece = c.ranked.inside.piece; rank = c.ranked.inside.rank } in
    last_live c.args.live.now c.add.new.self c.args.arrangement.now one c.requires.plannable.settled c.requires.room c.in_ok-id.ensures.id c.in_ok-id.ensures.absent c.in_ok-id.ensures.live c.add.ensures.slots c.in_ok-id.ensures.told
    c.requires.plannable.told

pub plan_moves-requires-clause-within : goal.plan_moves-requires-clause-within
plan_moves-requires-clause-within c = rw c.add.ensures.slots c.requires.plannable.within

pub forget-requires : goal.forget-requires
forget-requires c =
    let one : LivePiece = record { id = c.in_ok-id.id; piece = c.ranked.inside.piece; rank = c.ranked.inside.rank } in
    let now : is_live (c.args.live.now.live ++ one ∷ []) one.id ≡ true = live_new c.args.live.now.live one in
    rw (c.plan_moves.ensures.live, c.in_ok-id.ensures.live) now

pub returns-in-Err-clause-refused : goal.returns-in-Err-clause-refused
returns-in-Err-clause-refused c =
    let one : LivePiece = record { id = c.in_ok-id.id; piece = c.ranked.inside.piece; rank = c.ranked.inside.rank } in
    c.forget.ensures.live ∙ (ap (λ l. without_id l c.in_ok-id.id) (c.plan_moves.ensures.live ∙ c.in_ok-id.ensures.live) ∙ without_last c.args.live.now.live one c.in_ok-id.ensures.absent)

pub returns-in-Err-clause-told : goal.returns-in-Err-clause-told
returns-in-Err-clause-told c = c.forget.ensures.told c.plan_moves.new.arrangement c.plan_moves.ensures.told

pub returns-in_err-id-clause-told : goal.returns-in_err-id-clause-told
returns-in_err-id-clause-told c = subst (λ (kept : Entries). AreTold kept c.args.arrangement.now) (sym c.in_err-id.ensures.refused) c.requires.plannable.told

pub returns-in-Ok-clause-planned : goal.returns-in-Ok-clause-planned
returns-in-Ok-clause-planned c =
    let one : LivePiece = record { id = c.in_ok-id.id; piece = c.ranked.inside.piece; rank = c.ranked.inside.rank } in
    let kept = kept_set c.args.live.now.live c.args.live.now.entries c.args.live.now.entries c.in_ok-id.id _ c.in_ok-id.ensures.absent (λ id now. refl) in
    subst (λ (ranked : RankedPiece). ArePlannedSince c.args.live.now c.plan_moves.new.live c.args.arrangement.now c.plan_moves.new.arrangement c.args.plan.now c.plan_moves.new.plan (ranked ∷ []) (record { aim = c.args.aim; coming = c.args.coming.now } ∷ [])) c.ranked.view_is
    (planned_one c.args.live.now c.plan_moves.new.live c.args.arrangement.now c.plan_moves.new.arrangement one c.ranked.inside.result (record { aim = c.args.aim; coming = c.args.coming.now }) c.args.plan.now c.plan_moves.new.plan c.in_ok-id.ensures.absent
    (c.plan_moves.ensures.live ∙ c.in_ok-id.ensures.live) (ap (λ (entries : List (Option Entry)). entry_at entries c.in_ok-id.id) c.plan_moves.ensures.entries ∙ c.in_ok-id.ensures.entry)
    (subst (KeepEntries c.args.live.now.live c.args.live.now.entries) (sym (c.plan_moves.ensures.entries ∙ c.in_ok-id.ensures.entries)) kept)
    (inserted_as c.add.new.self c.plan_moves.new.live c.args.arrangement.now c.plan_moves.new.arrangement (record { aim = c.args.aim; coming = c.args.coming.now }) c.in_ok-id.id c.args.plan.now c.plan_moves.new.plan c.plan_moves.ensures.live c.in-Ok.ensures.inserted))

pub returns-in_err-id-clause-noted : goal.returns-in_err-id-clause-noted
returns-in_err-id-clause-noted c = notes_none c.args.arrangement.now c.args.plan.now
