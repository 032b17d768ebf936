use Rattle.std.proofs.Common.{◌≡◌, ◌≤◌, false, List, Option, Some, length, sym, subst, ap, arith, ◌∙◌}
use Rattle.rule_store.specs.Batch.{most_commands}
use Rattle.slot_pool.specs.Arrangement.{Slots}
use Rattle.rule_model.specs.Entry.{RankedPiece}
use Rattle.tcam_device.specs.View.{device_state}
use Rattle.batch_order.specs.declared.held.Held.{Held}
use Rattle.batch_order.specs.CarriedOut.{HasRoomBothWays, HasRoomLeft}
use Rattle.batch_order.specs.Kept.{IsManaged}
use Rattle.batch_order.specs.Restart.{Resumes}
use Rattle.batch_order.specs.Standing.{AreEncodable, AreStanding, HasPieceOf, managed_by, without_twin}
use Rattle.batch_order.specs.Stopped.{held_from}
use Rattle.batch_order.proofs.restarted.ReadAgain.{has_piece_of}
use Rattle.batch_order.proofs.restarted.Restarts.{IsMade, few_rules, made_now, places_encodable, places_many, read_now, stopped_by, stopped_now}
use Rattle.batch_order.proofs.restarting.resuming.resume.Given.{Over}
use Rattle.batch_order.proofs.restarting.resuming.resume.Goals as goal
use Rattle.batch_order.proofs.restarting.resuming.resume.Goals.{After-hold-held}

pub standing_in-requires-clause-places : goal.standing_in-requires-clause-places
standing_in-requires-clause-places g c =
    let r = c.requires in
    subst (λ (places : List (Option RankedPiece)). c.args.slots ≤ length places) (sym c.deref.ensures.value)
    (places_many (stopped_by r.least r.most r.slots r.is_state r.can r.accepted r.found r.shown r.encodable))

pub standing_in-requires-clause-encodable : goal.standing_in-requires-clause-encodable
standing_in-requires-clause-encodable g c =
    let r = c.requires in
    subst AreEncodable (sym c.deref.ensures.value) (places_encodable (stopped_by r.least r.most r.slots r.is_state r.can r.accepted r.found r.shown r.encodable))

pub arrangement_with_twin-requires : goal.arrangement_with_twin-requires
arrangement_with_twin-requires g c =
    let r = c.requires in
    let shown = c.args.shown.now in
    let live = c.in_ok-standing.standing.live in
    let arranged = c.in_ok-standing.standing.arrangement in
    let standing : AreStanding c.args.slots (without_twin shown.stage.twin shown.places.items) live arranged =
    subst (λ (places : List (Option RankedPiece)). AreStanding c.args.slots (without_twin shown.stage.twin places) live arranged) c.deref.ensures.value c.in_ok-standing.ensures.standing in
    subst (λ (places : List (Option RankedPiece)). HasPieceOf shown.stage.twin places live arranged) (sym c.deref-2.ensures.value)
    (has_piece_of _ _ _ _ _ _ shown live arranged (stopped_by r.least r.most r.slots r.is_state r.can r.accepted r.found r.shown r.encodable) standing c.in_ok-standing.ensures.slots)

pub plan_all-requires-clause-stopped : goal.plan_all-requires-clause-stopped
plan_all-requires-clause-stopped g c =
    let r = c.requires in
    let read = c.in_ok-translation.ensures in
    let stand = c.in_ok-standing.ensures in
    stopped_now c.args.parts.now r.is_state (stopped_by r.least r.most r.slots r.is_state r.can r.accepted r.found r.shown r.encodable) c.in_ok-translation.translation read.mode read.bits read.tables r.plain
    c.deref.ensures.value stand.standing stand.slots c.are_apart.ensures

pub plan_all-requires-clause-read : goal.plan_all-requires-clause-read
plan_all-requires-clause-read g c =
    let r = c.requires in
    let read = c.in_ok-translation.ensures in
    let stand = c.in_ok-standing.ensures in
    read_now c.args.parts.now r.is_state (stopped_by r.least r.most r.slots r.is_state r.can r.accepted r.found r.shown r.encodable) c.in_ok-translation.translation read.mode read.bits read.tables r.plain
    c.deref.ensures.value stand.standing stand.slots c.are_apart.ensures

pub reserve-requires : goal.reserve-requires
reserve-requires g c =
    let r = c.requires in
    let few = few_rules (stopped_by r.least r.most r.slots r.is_state r.can r.accepted r.found r.shown r.encodable) in
    let most : c.len.result ≤ most_commands = c.len.ensures.most in
    omega arith

-- what is held in the end stands as the plan leads to
held_so : (g : Over) (c : After-hold-held g)
    → c.hold-held.result ≡ held_from c.in_ok-rest.rest c.drain_of-drain.result.0 c.drain_of-drain.result.1 c.in_ok-commands.commands c.plan_all.new.standing.arrangement c.hold-held.result.undo
held_so g c =
    c.hold-held.ensures.held
    ∙ ap (λ (slots : Slots). held_from c.in_ok-rest.rest c.drain_of-drain.result.0 c.drain_of-drain.result.1 c.in_ok-commands.commands slots c.hold-held.result.undo) c.of-end.ensures

-- what it makes in the end
made : (g : Over) (c : After-hold-held g)
    → IsMade c.args.slots c.args.mode c.args.placement c.args.parts.now c.args.batch.now (g.D.Writable.view c.args.device.now).slots
    (device_state (g.D.Writable.view c.args.device.now)) (g.D.Writable.view c.plan_all.new.device).spare
    c.in_ok-translation.translation c.reserve.new.self c.plan_all.new.standing.live c.in_ok-before.before c.hold-held.result
made g c =
    let r = c.requires in
    let read = c.in_ok-translation.ensures in
    let stand = c.in_ok-standing.ensures in
    let drain = c.drain_of-drain in
    let room : length c.args.batch.now ≤ c.reserve.new.self.spare = (let n : c.len.result ≡ length c.args.batch.now = c.len.ensures.count in let e : c.len.result ≤ c.reserve.new.self.spare = c.in_ok-reserve.ensures.enough in omega arith) in
    made_now c.args.parts.now r.is_state (stopped_by r.least r.most r.slots r.is_state r.can r.accepted r.found r.shown r.encodable) c.in_ok-translation.translation read.mode read.bits read.tables r.plain
    c.deref.ensures.value stand.standing stand.slots c.are_apart.ensures c.args.placement c.in_ok-before.before c.deref-2.ensures.value c.in_ok-before.ensures c.in_ok-rest.ensures.planned c.reserve.new.self c.reserve.ensures.rules room
    c.gives_bits-new.result c.has_begun.result drain.result.0 drain.result.1 c.gives_bits-new.ensures c.has_begun.ensures drain.ensures.awaits drain.ensures.drained
    c.in_ok-commands.commands c.in_ok-commands.ensures c.hold-held.result (held_so g c) (g.D.Writable.view c.plan_all.new.device).spare c.in_ok-rest.ensures.enough

pub returns-clause-managed : goal.returns-clause-managed
returns-clause-managed g c =
    subst (λ (found : Slots). IsManaged c.in_ok-translation.translation c.reserve.new.self c.plan_all.new.standing.live found (Some c.hold-held.result)) (sym c.of_gone-stood.ensures) (made g c).managed

pub returns-clause-resumes : goal.returns-clause-resumes
returns-clause-resumes g c =
    subst (λ (found : Slots). Resumes c.args.slots c.args.mode c.args.placement c.args.parts.now c.args.batch.now (g.D.Writable.view c.args.device.now).slots (device_state (g.D.Writable.view c.args.device.now))
    (managed_by c.args.placement c.in_ok-translation.translation c.reserve.new.self c.plan_all.new.standing.live found (Some c.hold-held.result))) (sym c.of_gone-stood.ensures) (made g c).resumes

pub returns-clause-reserved : goal.returns-clause-reserved
returns-clause-reserved g c =
    subst (λ (found : Slots). HasRoomLeft (managed_by c.args.placement c.in_ok-translation.translation c.reserve.new.self c.plan_all.new.standing.live found (Some c.hold-held.result)).held (g.D.Writable.view c.plan_all.new.device).spare)
    (sym c.of_gone-stood.ensures) (made g c).reserved

pub returns-clause-both_ways : goal.returns-clause-both_ways
returns-clause-both_ways g c =
    subst (λ (found : Slots). HasRoomBothWays (managed_by c.args.placement c.in_ok-translation.translation c.reserve.new.self c.plan_all.new.standing.live found (Some c.hold-held.result)).held (g.D.Writable.view c.plan_all.new.device).spare)
    (sym c.of_gone-stood.ensures) (made g c).both_ways

pub returns-clause-stands : goal.returns-clause-stands
returns-clause-stands g c =
    let is = held_so g c in
    (sym (ap (λ (h : Held). h.arrangement) is), λ prepared. absurd (let no : c.hold-held.result.prepared ≡ false = ap (λ (h : Held). h.prepared) is in cc))
