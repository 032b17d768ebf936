use Rattle.std.proofs.Common.{◌≡◌, ℕ, ◌+◌, ◌<◌, ◌∷◌, ◌++◌, true, false, List, [], Option, Some, None, length, slice_set, le_refl, refl, sym, ◌∙◌, ap, subst, arith, length-set}
use Rattle.slot_order.specs.Order.{slot}
use Rattle.slot_order.proofs.Writes.{slot_other}
use Rattle.slot_pool.specs.Arrangement.{Slots}
use Rattle.rule_model.specs.Entry.{RankedPiece, entry_for}
use Rattle.placement.specs.declared.LivePiece.{LivePiece}
use Rattle.commit_writes.specs.Planned.{entry_at}
use Rattle.std.proofs.lemmas.Bool.{both_ways}
use Rattle.rule_model.specs.declared.words.Entry.{Entry}
use Rattle.placement.specs.Live.{is_live}
use Rattle.placement.proofs.Above.{is_live_from}
use Rattle.batch_order.specs.Entries.{AreTold, Entries}
use Rattle.batch_order.proofs.Told.{no_home, told_added, told_placed}
use Rattle.batch_order.specs.Standing.{AreStanding, without_twin}
use Rattle.batch_order.proofs.ids.Placed.{placed_more, placed_over}
use Rattle.batch_order.proofs.restarted.Twinned.{of_all}
use Rattle.batch_order.proofs.restarting.standing.standing_in.Goals.{in-Some+in_ok-id, in_default}
use Rattle.batch_order.proofs.restarting.standing.standing_in.Goals as goal

pub add-requires-clause-encodable : goal.add-requires-clause-encodable
add-requires-clause-encodable c =
    let x : RankedPiece = record { piece = c.ranked.inside.piece; rank = c.ranked.inside.rank; result = c.ranked.inside.result } in
    let here : slot (without_twin c.args.twin c.args.places.now) c.loop-slot.slot ≡ Some x = sym c.piece_at.ensures ∙ (c.in-Some.is ∙ ap (λ (r : RankedPiece). Some r) (sym c.ranked.view_is)) in
    c.requires.encodable c.loop-slot.slot x (of_all c.args.twin c.args.places.now c.loop-slot.slot x here)

pub put-requires-clause-free : goal.put-requires-clause-free
put-requires-clause-free c = c.loop-slot.invariant.3 c.loop-slot.slot (le_refl c.loop-slot.slot)

-- an id that isn't live stands in no slot
stands_not : (count : ℕ) (places : List (Option RankedPiece)) (kept : Entries) (slots : Slots) (id : ℕ) → AreStanding count places kept slots → is_live kept.live id ≡ false → (at : ℕ) → slot slots at ≡ Some id → ⊥
stands_not count places kept slots id standing absent at here =
    let one = (standing.stands at id here).3 in
    both_ways (is_live kept.live id) absent (subst (λ (k : ℕ). is_live kept.live k ≡ true) one.id_is (is_live_from kept.live one.one one.live))

pub loop-slot-preserved : goal.loop-slot-preserved
loop-slot-preserved c = elim c.match-piece_at.branch [
  | in-Some+in_ok-id w ↦
      let places = without_twin c.args.twin c.args.places.now in
      let x : RankedPiece = record { piece = w.ranked.inside.piece; rank = w.ranked.inside.rank; result = w.ranked.inside.result } in
      let place : slot places c.loop-slot.slot ≡ Some x = sym c.piece_at.ensures ∙ (w.in-Some.is ∙ ap (λ (r : RankedPiece). Some r) (sym w.ranked.view_is)) in
      let one : LivePiece = record { id = w.in_ok-id.id; piece = x.piece; rank = x.rank } in
      let inside : c.loop-slot.slot < length c.loop-slot.arrangement = (let size = c.loop-slot.invariant.2 in let below = c.loop-slot-test.true in omega arith) in
      let live : c.match-piece_at.live.live ≡ c.loop-slot.live.live ++ one ∷ [] = ap (λ (e : Entries). e.live) w.live-is ∙ (w.tell.ensures.live ∙ w.in_ok-id.ensures.live) in
      let entries : c.match-piece_at.live.entries ≡ slice_set c.loop-slot.live.entries one.id (Some (entry_for x)) = ap (λ (e : Entries). e.entries) w.live-is ∙ (w.tell.ensures.entries ∙ w.in_ok-id.ensures.entries) in
      let entry : entry_at c.match-piece_at.live.entries one.id ≡ Some (entry_for x) = ap (λ (e : Entries). entry_at e.entries one.id) w.live-is ∙ (ap (λ (all : List (Option Entry)). entry_at all one.id) w.tell.ensures.entries ∙ w.in_ok-id.ensures.entry) in
      let same : c.match-piece_at.live.slots ≡ c.loop-slot.live.slots = ap (λ (e : Entries). e.slots) w.live-is ∙ (w.tell.ensures.slots ∙ w.in_ok-id.ensures.slots) in
      let put : c.match-piece_at.arrangement ≡ slice_set c.loop-slot.arrangement c.loop-slot.slot (Some one.id) = w.arrangement-is ∙ w.put.ensures in (
        placed_more c.loop-slot.slot places c.loop-slot.live c.match-piece_at.live c.loop-slot.arrangement c.match-piece_at.arrangement x one c.loop-slot.invariant.0 place inside refl refl w.in_ok-id.ensures.absent live entries entry same put,
        same ∙ c.loop-slot.invariant.1,
        ap length put ∙ (length-set c.loop-slot.arrangement c.loop-slot.slot (Some one.id) ∙ c.loop-slot.invariant.2),
        λ at past. ap (λ (s : Slots). slot s at) put ∙ (slot_other c.loop-slot.arrangement c.loop-slot.slot (Some one.id) at (λ (e : at ≡ c.loop-slot.slot). omega arith) ∙ c.loop-slot.invariant.3 at (omega arith)),
        subst (λ (e : Entries). AreTold e c.match-piece_at.arrangement) (sym w.live-is) (subst (λ (s : Slots). AreTold w.tell.new.self s) (sym w.arrangement-is)
            (told_placed w.add.new.self w.tell.new.self c.loop-slot.arrangement w.put.new.self c.loop-slot.slot one.id (c.loop-slot.invariant.3 c.loop-slot.slot (le_refl c.loop-slot.slot)) w.put.ensures
            w.tell.ensures.live w.tell.ensures.told w.tell.ensures.same
            (told_added c.loop-slot.live w.add.new.self c.loop-slot.arrangement one w.in_ok-id.ensures.live w.in_ok-id.ensures.told
            (no_home c.loop-slot.arrangement one.id (stands_not c.loop-slot.slot places c.loop-slot.live c.loop-slot.arrangement one.id c.loop-slot.invariant.0 w.in_ok-id.ensures.absent)) c.loop-slot.invariant.4))),
      )
  | in_default w ↦
      let places = without_twin c.args.twin c.args.places.now in
      let none : slot places c.loop-slot.slot ≡ None = sym c.piece_at.ensures ∙ w.in_default.is in
      let all : AreStanding (c.loop-slot.slot + 1) places c.loop-slot.live c.loop-slot.arrangement = placed_over c.loop-slot.slot places c.loop-slot.live c.loop-slot.arrangement c.loop-slot.invariant.0 none in (
        subst (λ (s : Slots). AreStanding (c.loop-slot.slot + 1) places c.match-piece_at.live s) (sym w.arrangement-is) (subst (λ (e : Entries). AreStanding (c.loop-slot.slot + 1) places e c.loop-slot.arrangement) (sym w.live-is) all),
        ap (λ (e : Entries). e.slots) w.live-is ∙ c.loop-slot.invariant.1,
        ap length w.arrangement-is ∙ c.loop-slot.invariant.2,
        λ at past. ap (λ (s : Slots). slot s at) w.arrangement-is ∙ c.loop-slot.invariant.3 at (omega arith),
        subst (λ (s : Slots). AreTold c.match-piece_at.live s) (sym w.arrangement-is) (subst (λ (e : Entries). AreTold e c.loop-slot.arrangement) (sym w.live-is) c.loop-slot.invariant.4),
      )
]

pub returns-clause-told : goal.returns-clause-told
returns-clause-told c = c.loop-slot.invariant.4
