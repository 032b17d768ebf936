use Rattle.std.proofs.Common.{◌∙◌, None, IsSome, take, get_or, set, arith, subst, sym, ap}
use Rattle.commit_writes.specs.PlannedBatch.{home_slot, erased_slots}
use Rattle.batch_order.specs.Planning.{IsStanding}
use Rattle.batch_order.proofs.arranged.Walked.{next_number}
use Rattle.batch_order.proofs.ids.Standing.{home_at, home_inside, home_is, stands_still, erased_next}
use Rattle.batch_order.proofs.Told.{told_gone}
use Rattle.batch_order.proofs.plan.erase_all.Goals as goal

pub unwrap-slot-requires : goal.unwrap-slot-requires
unwrap-slot-requires c =
    let slots = c.args.arrangement.now in
    let done = take c.loop-id.id-index c.args.ids.now in
    let id = get_or c.args.ids.now c.loop-id.id-index 0 in
    let w = next_number (IsStanding slots) c.args.ids.now c.loop-id.id-index c.requires.distinct c.requires.standing (omega arith) in
    subst IsSome (sym c.home.ensures) (subst (λ now. IsStanding now id) (sym c.loop-id.invariant.slots) (stands_still slots done id w.before w.apart w.other w.here))

pub erase-requires : goal.erase-requires
erase-requires c = home_inside c.loop-id.arrangement (get_or c.args.ids.now c.loop-id.id-index 0) c.unwrap-slot.result (sym c.home.ensures ∙ c.unwrap-slot.ensures)

pub loop-id-preserved : goal.loop-id-preserved
loop-id-preserved c =
    let slots = c.args.arrangement.now in
    let was = c.loop-id.invariant in
    let done = take c.loop-id.id-index c.args.ids.now in
    let id = get_or c.args.ids.now c.loop-id.id-index 0 in
    let home = sym c.home.ensures ∙ c.unwrap-slot.ensures in
    let at = home_is c.loop-id.arrangement id c.unwrap-slot.result home in
    let here = home_at c.loop-id.arrangement id c.unwrap-slot.result home in
    record {
      slots = c.erase.ensures ∙ ap (λ n. set c.loop-id.arrangement n None) (sym at) ∙ ap (λ now. set now (home_slot now id) None) was.slots
          ∙ sym (erased_next slots done id) ∙ ap (erased_slots slots) (sym (next_number (IsStanding slots) c.args.ids.now c.loop-id.id-index c.requires.distinct c.requires.standing (omega arith)).more);
      live = c.tell.ensures.live ∙ was.live;
      entries = c.tell.ensures.entries ∙ was.entries;
      number = c.tell.ensures.slots ∙ was.number;
      told = λ told. told_gone c.loop-id.live c.tell.new.self c.loop-id.arrangement c.erase.new.self c.unwrap-slot.result id here c.erase.ensures c.tell.ensures.live c.tell.ensures.told c.tell.ensures.same (was.told told);
    }
