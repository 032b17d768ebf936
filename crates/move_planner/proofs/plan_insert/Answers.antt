use Rattle.std.proofs.Common.{◌≡◌, ◌+◌, ◌-◌, ◌*◌, ◌≤◌, arith, sym, subst}
use Rattle.placement.specs.Live.{is_above, rank_in}
use Rattle.slot_moves.specs.Cuts.{wrong_side}
use Rattle.placement.specs.Placement.{span_of}
use Rattle.placement.specs.Insertion.{StandOnce, IsLive, moves_since}
use Rattle.placement.proofs.Readied.{ready_from}
use Rattle.move_planner.proofs.Inserted.{wholly, counted}
use Rattle.move_planner.proofs.Noted.{noted_then}
use Rattle.move_planner.proofs.Alone.{placement_alone}
use Rattle.move_planner.proofs.plan_insert.Goals as goal

pub returns-clause-placement : goal.returns-clause-placement
returns-clause-placement c =
    let ready = ready_from c.args.index.now c.args.id c.args.slots.now c.requires.few c.requires.free c.requires.live c.find_gap-gap.ensures.apart c.requires.standing c.requires.order in
    (wholly c.args.index.now (record { aim = c.args.aim; coming = c.args.coming.now }) c.args.id c.args.slots.now c.clear_gap.new.slots c.place.new.slots c.args.plan.now c.clear_gap.new.plan c.place.new.plan ready c.in_ok-gap.ensures.clear c.in_ok-place.ensures.placed).placement

pub returns-clause-order : goal.returns-clause-order
returns-clause-order c =
    let ready = ready_from c.args.index.now c.args.id c.args.slots.now c.requires.few c.requires.free c.requires.live c.find_gap-gap.ensures.apart c.requires.standing c.requires.order in
    (wholly c.args.index.now (record { aim = c.args.aim; coming = c.args.coming.now }) c.args.id c.args.slots.now c.clear_gap.new.slots c.place.new.slots c.args.plan.now c.clear_gap.new.plan c.place.new.plan ready c.in_ok-gap.ensures.clear c.in_ok-place.ensures.placed).inserted.order

pub returns-clause-standing : goal.returns-clause-standing
returns-clause-standing c =
    let ready = ready_from c.args.index.now c.args.id c.args.slots.now c.requires.few c.requires.free c.requires.live c.find_gap-gap.ensures.apart c.requires.standing c.requires.order in
    let w = wholly c.args.index.now (record { aim = c.args.aim; coming = c.args.coming.now }) c.args.id c.args.slots.now c.clear_gap.new.slots c.place.new.slots c.args.plan.now c.clear_gap.new.plan c.place.new.plan ready c.in_ok-gap.ensures.clear c.in_ok-place.ensures.placed in
    subst (StandOnce (IsLive c.args.index.now.live)) (sym w.made.1) w.inserted.standing

pub returns-clause-bound : goal.returns-clause-bound
returns-clause-bound c = λ m bound.
    let same : c.span-span.result ≡ span_of (is_above c.args.index.now.live) c.args.slots.now c.args.id = (let s = c.find_gap-gap.ensures.start in let e = c.find_gap-gap.ensures.end in let n = c.span-span.ensures in omega arith) in
    let ready = ready_from c.args.index.now c.args.id c.args.slots.now c.requires.few c.requires.free c.requires.live c.find_gap-gap.ensures.apart c.requires.standing c.requires.order in
    let w = wholly c.args.index.now (record { aim = c.args.aim; coming = c.args.coming.now }) c.args.id c.args.slots.now c.clear_gap.new.slots c.place.new.slots c.args.plan.now c.clear_gap.new.plan c.place.new.plan ready c.in_ok-gap.ensures.clear c.in_ok-place.ensures.placed in
    let n = counted c.args.index.now c.args.id c.args.slots.now c.place.new.slots c.args.plan.now c.place.new.plan ready w in
    let k = w.inserted.bound m bound in
    let count = n.count in
    subst (λ s. c.len.result - c.len-before.result ≤ m * (1 + s)) (sym same) (omega arith)

pub returns-clause-cut : goal.returns-clause-cut
returns-clause-cut c = λ m boundary behind before bound sides low high room.
    let ready = ready_from c.args.index.now c.args.id c.args.slots.now c.requires.few c.requires.free c.requires.live c.find_gap-gap.ensures.apart c.requires.standing c.requires.order in
    let w = wholly c.args.index.now (record { aim = c.args.aim; coming = c.args.coming.now }) c.args.id c.args.slots.now c.clear_gap.new.slots c.place.new.slots c.args.plan.now c.clear_gap.new.plan c.place.new.plan ready c.in_ok-gap.ensures.clear c.in_ok-place.ensures.placed in
    let n = counted c.args.index.now c.args.id c.args.slots.now c.place.new.slots c.args.plan.now c.place.new.plan ready w in
    let k = w.inserted.cut m boundary behind before bound sides low high room in
    let count = n.count in omega arith

pub returns-clause-parted : goal.returns-clause-parted
returns-clause-parted c = λ behind before sides crossed.
    let same : c.span-span.result ≡ span_of (is_above c.args.index.now.live) c.args.slots.now c.args.id = (let s = c.find_gap-gap.ensures.start in let e = c.find_gap-gap.ensures.end in let n = c.span-span.ensures in omega arith) in
    let ready = ready_from c.args.index.now c.args.id c.args.slots.now c.requires.few c.requires.free c.requires.live c.find_gap-gap.ensures.apart c.requires.standing c.requires.order in
    let w = wholly c.args.index.now (record { aim = c.args.aim; coming = c.args.coming.now }) c.args.id c.args.slots.now c.clear_gap.new.slots c.place.new.slots c.args.plan.now c.clear_gap.new.plan c.place.new.plan ready c.in_ok-gap.ensures.clear c.in_ok-place.ensures.placed in
    let k = w.inserted.parted behind before sides crossed in
    (k.0, k.1, subst (λ n. wrong_side behind before k.0 c.args.slots.now ≤ n) (sym same) k.2)

pub returns-clause-alone : goal.returns-clause-alone
returns-clause-alone c = λ moves placement.
    let ready = ready_from c.args.index.now c.args.id c.args.slots.now c.requires.few c.requires.free c.requires.live c.find_gap-gap.ensures.apart c.requires.standing c.requires.order in
    let w = wholly c.args.index.now (record { aim = c.args.aim; coming = c.args.coming.now }) c.args.id c.args.slots.now c.clear_gap.new.slots c.place.new.slots c.args.plan.now c.clear_gap.new.plan c.place.new.plan ready c.in_ok-gap.ensures.clear c.in_ok-place.ensures.placed in
    placement_alone (is_above c.args.index.now.live) (rank_in c.args.index.now.live) (record { aim = c.args.aim; coming = c.args.coming.now }) c.args.id c.args.slots.now moves (moves_since c.args.plan.now c.place.new.plan) placement w.placement

pub returns-in_err-place-clause-noted : goal.returns-in_err-place-clause-noted
returns-in_err-place-clause-noted c =
    noted_then c.args.slots.now c.clear_gap.new.slots c.place.new.slots c.args.plan.now c.clear_gap.new.plan c.place.new.plan c.args.undo.now c.clear_gap.new.undo c.place.new.undo c.clear_gap.ensures.noted c.place.ensures.noted

pub returns-clause-noted : goal.returns-clause-noted
returns-clause-noted c =
    noted_then c.args.slots.now c.clear_gap.new.slots c.place.new.slots c.args.plan.now c.clear_gap.new.plan c.place.new.plan c.args.undo.now c.clear_gap.new.undo c.place.new.undo c.clear_gap.ensures.noted c.place.ensures.noted
