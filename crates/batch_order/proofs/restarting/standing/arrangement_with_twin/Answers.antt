use Rattle.std.proofs.Common.{◌≡◌, ℕ, ◌<◌, IfSome, Option, Some, length, sym, ◌∙◌, ap, subst, arith}
use Rattle.slot_order.specs.Order.{slot}
use Rattle.rule_model.specs.Entry.{RankedPiece}
use Rattle.batch_order.proofs.restarted.Twinned.{read_slot, twin_id, some_found}
use Rattle.batch_order.proofs.restarting.standing.arrangement_with_twin.Goals as goal

pub unwrap-id-requires : goal.unwrap-id-requires
unwrap-id-requires c =
    let x : RankedPiece = record { piece = c.ranked.inside.piece; rank = c.ranked.inside.rank; result = c.ranked.inside.result } in
    let below : c.in-Some.slot < length c.args.standing.now.arrangement = subst (λ (t : Option ℕ). IfSome t (λ at. at < length c.args.standing.now.arrangement)) c.in-Some.is c.requires.inside in
    let size = c.requires.size in
    let here : slot c.args.places.now c.in-Some.slot ≡ Some c.in-Some-places.ranked = read_slot c.args.places.now c.in-Some.slot _ c.in-Some-places.ranked (omega arith) c.in-Some-places.is in
    let own : slot c.args.places.now c.in-Some.slot ≡ Some x = here ∙ ap (λ (r : RankedPiece). Some r) (sym c.ranked.view_is) in
    let has = twin_id c.args.twin c.args.places.now c.args.standing.now.live.live c.in-Some.slot x c.requires.has_id c.in-Some.is own in
    some_found c.id_of.result (λ none. c.id_of.ensures.none none has.0 has.1 has.2 has.3)
