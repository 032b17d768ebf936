use Rattle.std.proofs.Common.{◌≡◌, ◌+◌, ◌-◌, false, replicate, length, le_refl, arith, sym, ◌∙◌, subst, ap}
use Rattle.std.proofs.lemmas.Bool.{both_ways}
use Rattle.std.proofs.lemmas.List.{length-replicate}
use Rattle.placement.specs.Live.{is_above}
use Rattle.move_planner.proofs.Pushed.{LedSoFar, led_start, led_skip, led_step, led_end}
use Rattle.move_planner.proofs.Marks.{Hit, no_hit, hit_is, hit_from}
use Rattle.move_planner.proofs.sides.mark_behind.Goals as goal
use Rattle.move_planner.proofs.sides.mark_behind.Goals.{in-Some-at, in_default-at}

pub loop-slot-init : goal.loop-slot-init
loop-slot-init c =
    let count = c.args.end - c.args.start in
    let none : c.restart.new.self ≡ replicate count false = c.in_ok-restart.ensures.unmarked in
    record {
      low = le_refl c.args.start;
      high = c.requires.order;
      so_far = led_start (is_above c.args.index.now.live) c.args.slots.now c.args.id c.args.start c.args.end c.restart.new.self c.mark_below.new.marks
          (ap length none ∙ length-replicate count false) (λ at e. no_hit count c.args.start at (subst (λ m. Hit m c.args.start at) none e)) c.mark_below.ensures;
    }

pub loop-slot-preserved : goal.loop-slot-preserved
loop-slot-preserved c =
    let above = is_above c.args.index.now.live in
    let marks = c.loop-slot.marks in
    let slot = c.in-Some.slot in
    let begun = c.loop-slot.invariant.low in
    let low = c.in-Some.ensures.0 in let high = c.in-Some.ensures.1 in
    let hit = hit_from marks c.args.start slot (omega arith) c.in-Some.ensures.2 in
    let here = led_skip above c.args.slots.now c.args.id c.args.start c.args.end c.loop-slot.from slot marks
    (λ at a b e. both_ways _ (c.in-Some.ensures.3 at a b) (hit_is marks c.args.start at e)) c.loop-slot.invariant.so_far in
    record {
      low = omega arith;
      high = omega arith;
      so_far = elim c.match-at.branch [
        | in-Some-at w ↦
            subst (LedSoFar above c.args.slots.now c.args.id c.args.start c.args.end (slot + 1)) (sym w.marks-is)
            (led_step c.args.index.now c.args.id c.args.slots.now c.requires.ready c.args.start c.args.end slot w.in-Some-at.held marks w.mark_below-in-Some-at.new.marks hit
            (sym w.in-Some-at.ensures) w.mark_below-in-Some-at.ensures here)
        | in_default-at w ↦ let led = here.sound slot hit in absurd (w.in_default-at.not-Some led.0 (c.at.ensures ∙ led.1))
      ];
    }

pub returns : goal.returns
returns c =
    let marks = c.loop-slot.marks in
    led_end c.args.index.now c.args.id c.args.slots.now c.requires.ready c.args.start c.args.end marks c.requires.from
    (led_skip (is_above c.args.index.now.live) c.args.slots.now c.args.id c.args.start c.args.end c.loop-slot.from c.args.end marks
    (λ at a b e. both_ways _ (c.in_default.ensures at a b) (hit_is marks c.args.start at e)) c.loop-slot.invariant.so_far)
