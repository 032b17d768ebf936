use Rattle.std.proofs.Common.{◌≡◌, ◌+◌, ◌-◌, false, replicate, length, le_refl, arith, sym, ◌∙◌, subst, ap}
use Rattle.std.proofs.lemmas.Bool.{both_ways}
use Rattle.std.proofs.lemmas.List.{length-replicate}
use Rattle.placement.specs.Live.{is_above}
use Rattle.move_planner.proofs.Pushed.{lead_start, lead_skip, lead_step, lead_end}
use Rattle.move_planner.proofs.Marks.{Hit, no_hit, hit_is, hit_from}
use Rattle.move_planner.proofs.sides.mark_before.Goals as goal

pub loop-slot-init : goal.loop-slot-init
loop-slot-init c =
    let count = c.args.end - c.args.start in
    let none : c.restart.new.self ≡ replicate count false = c.in_ok-restart.ensures.unmarked in
    record {
      low = c.requires.order;
      high = le_refl c.args.end;
      so_far = lead_start (is_above c.args.index.now.live) c.args.slots.now c.args.id c.args.start c.args.end c.restart.new.self c.mark_above.new.marks
          (ap length none ∙ length-replicate count false) (λ at e. no_hit count c.args.start at (subst (λ m. Hit m c.args.start at) none e)) c.mark_above.ensures;
    }

pub loop-slot-preserved-in-Some-at : goal.loop-slot-preserved-in-Some-at
loop-slot-preserved-in-Some-at c =
    let above = is_above c.args.index.now.live in
    let marks = c.loop-slot.marks in
    let slot = c.in-Some.slot in
    let end = c.loop-slot.invariant.high in
    let low = c.in-Some.ensures.0 in let high = c.in-Some.ensures.1 in
    let hit = hit_from marks c.args.start slot low c.in-Some.ensures.2 in
    let here = lead_skip above c.args.slots.now c.args.id c.args.start c.args.end (slot + 1) c.loop-slot.to marks
    (λ at a b e. both_ways _ (c.in-Some.ensures.3 at (omega arith) b) (hit_is marks c.args.start at e)) c.loop-slot.invariant.so_far in
    record {
      low = low;
      high = omega arith;
      so_far = lead_step c.args.index.now c.args.id c.args.slots.now c.requires.ready c.args.start c.args.end slot c.in-Some-at.held marks c.mark_above-in-Some-at.new.marks hit
          (sym c.in-Some-at.ensures) c.mark_above-in-Some-at.ensures here;
    }

pub returns : goal.returns
returns c =
    let marks = c.loop-slot.marks in
    lead_end c.args.index.now c.args.id c.args.slots.now c.requires.ready c.args.start c.args.end marks c.requires.to
    (lead_skip (is_above c.args.index.now.live) c.args.slots.now c.args.id c.args.start c.args.end c.args.start c.loop-slot.to marks
    (λ at a b e. both_ways _ (c.in_default.ensures at a b) (hit_is marks c.args.start at e)) c.loop-slot.invariant.so_far)
