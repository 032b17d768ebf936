use Rattle.std.proofs.Common.{Some, ap, ◌+◌, ◌≤◌, ◌∙◌, ℕ, List, take, length, get_or, sym, subst}
use Rattle.std.proofs.lemmas.List.{get_or_default}
use Rattle.std.proofs.lemmas.Option.{slice_get-get_or}
use Rattle.tcam_device.specs.View.{DeviceView}
use Rattle.lookup_turns.specs.declared.Turn.{Turn}
use Rattle.rule_model.specs.RuleSet.{Answer}
use Rattle.lookup_turns.specs.declared.Turn.TheVariants.{Step}
use Rattle.lookup_turns.specs.Turns.{AreDriven}
use Rattle.lookup_turns.proofs.Drives.{driven_more, few_more}
use Rattle.lookup_turns.proofs.turns.drive.Goals as goal

pub loop-place-preserved : goal.loop-place-preserved
loop-place-preserved g c =
    let before = c.loop-place.invariant in
    let once = c.turn_once.ensures in
    let turn = get_or c.args.turns.now c.loop-place.place Step in
    let begun : DeviceView = g.D.Writable.view c.args.device.now in
    let after : DeviceView = g.D.Writable.view c.turn_once.new.device in
    record {
      driven = subst (λ (answers : List (ℕ × Answer)). AreDriven begun after c.args.manager.now (take (c.loop-place.place + 1) c.args.turns.now) answers c.turn_once.new.manager) (sym c.note.ensures.items)
          (driven_more begun (g.D.Writable.view c.loop-place.device) after c.args.manager.now c.loop-place.manager c.turn_once.new.manager c.args.turns.now c.loop-place.place turn
          c.loop-place.answers.items c.in-Ok-turn_once.answered before.driven c.in-Ok-turn_once.ensures.turned c.loop-place-test.true
          (get_or_default c.args.turns.now c.loop-place.place Step turn c.loop-place-test.true));
      few = subst (λ (answers : List (ℕ × Answer)). length answers ≤ c.loop-place.place + 1) (sym c.note.ensures.items)
          (few_more c.loop-place.answers.items c.loop-place.place c.in-Ok-turn_once.answered before.few);
      capacity = subst (λ n. length c.args.turns.now ≤ n) (sym c.note.ensures.capacity) before.capacity;
      slots = once.slots;
      room = once.room;
      on = once.on;
      current = once.current;
      both = λ both. once.both_ways (before.both both);
      way = λ begun way. once.way_back begun (before.way begun way);
      faults = c.in-Ok-turn_once.ensures.cause.stayed ∙ before.faults;
    }

pub returns-in-Err-turn_once-clause-stands : goal.returns-in-Err-turn_once-clause-stands
returns-in-Err-turn_once-clause-stands g c _ =
    let before = c.loop-place.invariant in
    let inside = c.loop-place-test.true in
    let failed = c.in-Err-turn_once.ensures in
    let turns : List Turn = c.args.turns.now in
    let so_far = before.driven in
    record {
      place = c.loop-place.place;
      inside = inside;
      answers = c.loop-place.answers.items;
      stands = record {
        actions = so_far.actions;
        driven = rw (failed.failed, failed.unmade.flight) so_far.driven;
        events = failed.unmade.events ∙ so_far.events;
        slots = failed.unmade.slots ∙ so_far.slots;
      };
      step = slice_get-get_or turns c.loop-place.place Step inside ∙ ap (λ (turn : Turn). Some turn) failed.step;
      due = rw failed.failed failed.due;
    }
