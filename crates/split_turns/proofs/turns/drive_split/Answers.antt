use Rattle.std.proofs.Common.{◌≡◌, [], Some, ap, ◌+◌, ◌≤◌, ◌∙◌, ℕ, List, take, length, get_or, refl, sym, subst, arith, rules}
use Rattle.std.proofs.lemmas.List.{get_or_default}
use Rattle.std.proofs.lemmas.Option.{slice_get-get_or}
use Rattle.rule_model.specs.RuleSet.{Answer}
use Rattle.split_turns.specs.declared.SplitTurn.{SplitTurn}
use Rattle.split_turns.specs.declared.SplitTurn.TheVariants.{Step}
use Rattle.split_turns.specs.Seen.{TurnsOn}
use Rattle.split_turns.proofs.Drives.{SoFar, driven_more, few_more, none_so_far}
use Rattle.split_turns.proofs.turns.drive_split.Goals as goal

pub loop-place-init : goal.loop-place-init
loop-place-init g c =
    let none : c.reserve.new.self.items ≡ [] = c.reserve.ensures.items ∙ c.new-answers.ensures.items in
    record {
      so_far = none_so_far (g.D.SplitDevice.slot_count c.args.device.now) c.args.manager.now (g.D.SplitDevice.flight c.args.device.now) c.reserve.new.self.items c.requires.read none;
      few = subst (λ (answers : List (ℕ × Answer)). length answers ≤ 0) (sym none) (omega arith);
      capacity = search rules;
      slots = c.requires.slots;
      spare = refl;
      room = c.requires.room;
      on = c.requires.on;
      current = c.requires.current;
      slot_count = refl;
      faults = refl;
    }

pub loop-place-preserved : goal.loop-place-preserved
loop-place-preserved g c =
    let before = c.loop-place.invariant in
    let once = c.turn_once.ensures in
    let turn = get_or c.args.turns.now c.loop-place.place Step in
    let turned = subst (λ (n : ℕ). TurnsOn n c.loop-place.manager (g.D.SplitDevice.flight c.loop-place.device) turn c.in-Ok-turn_once.answered c.turn_once.new.manager
    (g.D.SplitDevice.flight c.turn_once.new.device)) before.slot_count c.in-Ok-turn_once.ensures.turned in
    record {
      so_far = subst (λ (answers : List (ℕ × Answer)). SoFar (g.D.SplitDevice.slot_count c.args.device.now) c.args.manager.now (g.D.SplitDevice.flight c.args.device.now)
          (take (c.loop-place.place + 1) c.args.turns.now) answers c.turn_once.new.manager (g.D.SplitDevice.flight c.turn_once.new.device)) (sym c.note.ensures.items)
          (driven_more _ _ _ _ _ _ _ c.args.turns.now c.loop-place.place turn c.loop-place.answers.items c.in-Ok-turn_once.answered before.so_far turned c.loop-place-test.true
          (get_or_default c.args.turns.now c.loop-place.place Step turn c.loop-place-test.true));
      few = subst (λ (answers : List (ℕ × Answer)). length answers ≤ c.loop-place.place + 1) (sym c.note.ensures.items)
          (few_more c.loop-place.answers.items c.loop-place.place c.in-Ok-turn_once.answered before.few);
      capacity = subst (λ n. length c.args.turns.now ≤ n) (sym c.note.ensures.capacity) before.capacity;
      slots = once.slots;
      spare = once.spare ∙ before.spare;
      room = once.room;
      on = once.on;
      current = once.current;
      slot_count = once.slot_count ∙ before.slot_count;
      faults = c.in-Ok-turn_once.ensures.cause.stayed ∙ before.faults;
    }

pub returns-in-Err-turn_once-clause-stands : goal.returns-in-Err-turn_once-clause-stands
returns-in-Err-turn_once-clause-stands g c _ =
    let before = c.loop-place.invariant in
    let inside = c.loop-place-test.true in
    let failed = c.in-Err-turn_once.ensures in
    let turns : List SplitTurn = c.args.turns.now in
    record {
      place = c.loop-place.place;
      inside = inside;
      answers = c.loop-place.answers.items;
      stands = rw (failed.failed, failed.flight_err) before.so_far.driven;
      step = slice_get-get_or turns c.loop-place.place Step inside ∙ ap (λ (turn : SplitTurn). Some turn) failed.step;
      due = rw (failed.failed, ← before.slot_count) failed.due;
    }
