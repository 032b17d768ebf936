use Rattle.std.proofs.Common.{◌≡◌, ◌+◌, ◌-◌, List, drop, length, refl, subst, ◌∙◌}
use Rattle.tcam_device.specs.State.{State}
use Rattle.tcam_device.specs.View.{device_state, journal}
use Rattle.rule_model.specs.Entry.{RankedPiece}
use Rattle.commit_writes.specs.PlannedBatch.{erased_slots}
use Rattle.readback.proofs.ReadSlots.{replay_slots}
use Rattle.batch_order.specs.Arranged.{arranged_at}
use Rattle.batch_order.specs.declared.plan.Plan.{Plan}
use Rattle.batch_order.specs.declared.restarting.resuming.Rest.{Rest}
use Rattle.batch_order.specs.Kept.{bits_of}
use Rattle.batch_order.specs.Placing.{aims_from}
use Rattle.batch_order.specs.Planning.{AreAllPlanned}
use Rattle.batch_order.proofs.arranged.Cleared.{all_stand}
use Rattle.batch_order.proofs.restarted.PlannedOn.{all_planned_on, erased_apart, erased_still, first_plannable, first_planned, fits_kept, inserted_encodable, needed_meanwhile, rewrites_few, rewritten_encodable}
use Rattle.batch_order.proofs.planning.Retold.{AreSame, adds_same, all_same}
use Rattle.batch_order.proofs.planning.Taken.{ids_live, rewrites_live}
use Rattle.batch_order.proofs.restarting.resuming.plan_all.Goals as goal

pub plan_words-requires-clause-src : goal.plan_words-requires-clause-src
plan_words-requires-clause-src g c = (fits_kept c.args.translation.now c.args.mode c.args.rules.now.rules c.args.batch.now c.requires.mode c.requires.stopped.can).0

pub plan_words-requires-clause-dst : goal.plan_words-requires-clause-dst
plan_words-requires-clause-dst g c = (fits_kept c.args.translation.now c.args.mode c.args.rules.now.rules c.args.batch.now c.requires.mode c.requires.stopped.can).1

pub parts_left-requires-clause-encodable : goal.parts_left-requires-clause-encodable
parts_left-requires-clause-encodable g c =
    let state : State = device_state (g.D.Writable.view c.args.device.now) in
    let was = c.args.standing.now in
    rewritten_encodable c.args.mode (bits_of c.args.translation.now) c.args.rules.now.rules c.args.batch.now state c.args.shown.now was.live was.arrangement c.requires.stopped c.requires.read

pub plan_rest-requires-clause-encodable : goal.plan_rest-requires-clause-encodable
plan_rest-requires-clause-encodable g c =
    let state : State = device_state (g.D.Writable.view c.args.device.now) in
    let was = c.args.standing.now in
    rw c.in_ok-left.ensures.inserted
    (inserted_encodable c.args.mode (bits_of c.args.translation.now) c.args.rules.now.rules c.args.batch.now state c.args.shown.now was.live was.arrangement c.requires.stopped c.requires.read)

pub plan_rest-requires-clause-plannable : goal.plan_rest-requires-clause-plannable
plan_rest-requires-clause-plannable g c =
    let state : State = device_state (g.D.Writable.view c.args.device.now) in
    let was = c.args.standing.now in
    let begun = c.plan_words.new.plan in
    let plan : Plan = record { writes = c.plan_twin.new.writes; undo = begun.undo; words = begun.words; most = begun.most; span = begun.span; most_parts = begun.most_parts; sides = begun.sides } in
    first_plannable c.args.mode (bits_of c.args.translation.now) c.args.rules.now.rules c.args.batch.now state c.args.shown.now was.live was.arrangement c.requires.stopped c.requires.read plan
    (first_planned c.args.translation.now c.args.mode c.args.rules.now.rules c.args.batch.now state c.args.shown.now.stage.twin begun plan c.requires.mode c.requires.stopped.can c.requires.tables
    c.in_ok-bits.ensures.writes c.in_ok-bits.ensures.words (c.plan_words.ensures.most ∙ c.new-plan.ensures.most) (c.plan_words.ensures.span ∙ c.new-plan.ensures.span)
    c.in_ok-plan_twin.ensures.writes c.plan_twin.ensures.no_changes refl refl refl) c.requires.told

pub plan_rest-requires-clause-few : goal.plan_rest-requires-clause-few
plan_rest-requires-clause-few g c =
    let state : State = device_state (g.D.Writable.view c.args.device.now) in
    let was = c.args.standing.now in
    rewrites_few c.args.mode (bits_of c.args.translation.now) c.args.rules.now.rules c.args.batch.now state c.args.shown.now was.live was.arrangement c.requires.stopped c.requires.read
    c.in_ok-left.left.rewrites.items c.in_ok-left.ensures.rewrites

pub plan_rest-requires-clause-rewritten : goal.plan_rest-requires-clause-rewritten
plan_rest-requires-clause-rewritten g c =
    let shown = c.args.shown.now in
    rewrites_live c.args.standing.now.live.live (drop (shown.stage.done - length shown.inserted.items) shown.rewritten.items) c.in_ok-left.left.rewrites.items c.in_ok-left.ensures.rewrites

pub plan_rest-requires-clause-erased : goal.plan_rest-requires-clause-erased
plan_rest-requires-clause-erased g c =
    let shown = c.args.shown.now in
    ids_live c.args.standing.now.live.live (drop (shown.stage.done - length shown.inserted.items - length shown.rewritten.items) shown.erased.items) c.in_ok-left.left.erased.items c.in_ok-left.ensures.erased

pub erase_all-requires-clause-distinct : goal.erase_all-requires-clause-distinct
erase_all-requires-clause-distinct g c =
    let state : State = device_state (g.D.Writable.view c.args.device.now) in
    let was = c.args.standing.now in
    rw c.deref.ensures.value
    (erased_apart c.args.mode (bits_of c.args.translation.now) c.args.rules.now.rules c.args.batch.now state c.args.shown.now was.live was.arrangement c.requires.stopped c.requires.read
    c.in_ok-left.left.erased.items c.in_ok-left.ensures.erased)

pub erase_all-requires-clause-standing : goal.erase_all-requires-clause-standing
erase_all-requires-clause-standing g c =
    let state : State = device_state (g.D.Writable.view c.args.device.now) in
    let was = c.args.standing.now in
    let erased = c.in_ok-left.left.erased.items in
    rw c.deref.ensures.value
    (all_stand c.plan_rest.new.live c.plan_rest.new.arrangement erased c.in_ok-ids.ensures.planned.settled
    (erased_still c.args.mode (bits_of c.args.translation.now) c.args.rules.now.rules c.args.batch.now state c.args.shown.now was.live was.arrangement c.requires.stopped c.requires.read
    c.plan_rest.new.live c.in_ok-ids.ids.items c.in_ok-ids.ensures.adds erased c.in_ok-left.ensures.erased))

pub returns-clause-planned : goal.returns-clause-planned
returns-clause-planned g c =
    let size = (g.D.Writable.view c.args.device.now).slots in
    let state : State = device_state (g.D.Writable.view c.args.device.now) in
    let was = c.args.standing.now in
    let shown = c.args.shown.now in
    let left = c.in_ok-left.left in
    let begun = c.plan_words.new.plan in
    let plan : Plan = record { writes = c.plan_twin.new.writes; undo = begun.undo; words = begun.words; most = begun.most; span = begun.span; most_parts = begun.most_parts; sides = begun.sides } in
    let arranged : c.erase_all.new.arrangement ≡ erased_slots c.plan_rest.new.arrangement left.erased.items = rw c.deref.ensures.value at c.erase_all.ensures.slots in
    let same : AreSame c.plan_rest.new.live c.erase_all.new.live = record { live = c.erase_all.ensures.live; entries = c.erase_all.ensures.entries; slots = c.erase_all.ensures.number } in
    let rest : Rest = record { plan = c.plan_rest.new.plan; bits = c.in_ok-bits.bits; left = left; ids = c.in_ok-ids.ids } in
    all_planned_on c.args.mode (bits_of c.args.translation.now) c.args.rules.now.rules c.args.batch.now state shown was.live was.arrangement c.requires.stopped c.requires.read
    c.args.placement size (replay_slots size (journal (g.D.Writable.view c.args.device.now))) c.erase_all.new.live c.plan_rest.new.arrangement c.erase_all.new.arrangement plan rest
    (first_planned c.args.translation.now c.args.mode c.args.rules.now.rules c.args.batch.now state shown.stage.twin begun plan c.requires.mode c.requires.stopped.can c.requires.tables
    c.in_ok-bits.ensures.writes c.in_ok-bits.ensures.words (c.plan_words.ensures.most ∙ c.new-plan.ensures.most) (c.plan_words.ensures.span ∙ c.new-plan.ensures.span)
    c.in_ok-plan_twin.ensures.writes c.plan_twin.ensures.no_changes refl refl refl)
    (all_same (arranged_at was.live was.arrangement) c.plan_rest.new.live c.erase_all.new.live c.plan_rest.new.arrangement plan c.plan_rest.new.plan _ _ left.rewrites.items left.erased.items same
    (subst (λ (some : List RankedPiece). AreAllPlanned (arranged_at was.live was.arrangement) (arranged_at c.plan_rest.new.live c.plan_rest.new.arrangement) plan c.plan_rest.new.plan some
    (aims_from c.args.placement c.args.mode (length was.arrangement) c.args.rules.now.rules (length was.live.live + length some) shown.stage.done some) left.rewrites.items left.erased.items)
    c.in_ok-left.ensures.inserted c.in_ok-ids.ensures.planned))
    (adds_same was.live c.plan_rest.new.live c.erase_all.new.live c.in_ok-ids.ids.items same c.in_ok-ids.ensures.adds) c.in_ok-left.ensures.rewrites c.in_ok-left.ensures.erased
    arranged
    (c.in_ok-bits.ensures.coded ∙ c.requires.mode)
    (c.in_ok-bits.ensures.during ∙ needed_meanwhile c.args.translation.now c.args.mode c.args.rules.now.rules c.args.batch.now c.requires.mode c.requires.stopped.can)

pub returns-clause-told : goal.returns-clause-told
returns-clause-told g c = c.erase_all.ensures.told c.in_ok-ids.ensures.told
