use Rattle.std.proofs.Common.{true, ap, ◌∙◌, arith}
use Rattle.resumed_runs.proofs.Going.{told_words, whole_left, words_left, lost_behind}
use Rattle.resumed_runs.proofs.apply.Goals as goal

pub apply-requires-clause-told : goal.apply-requires-clause-told
apply-requires-clause-told g c = told_words _ _ c.args.act.now c.requires.going.words

pub returns-clause-going : goal.returns-clause-going
returns-clause-going g c sound memory =
    let kept = ap (λ setting. setting.slots) c.apply.ensures.setting in
    let count = c.apply.ensures.leaves.slots in
    let inside = c.requires.going.slots in
    let whole = whole_left c.args.act.now c.apply.result _ c.apply.ensures.broken sound memory in
    let step = c.apply.ensures.in_step whole c.requires.going.stands c.requires.going.current in record {
      slots = omega arith;
      whole = whole;
      words = ap (λ setting. setting.json) c.apply.ensures.setting ∙ c.requires.going.words;
      room = c.apply.ensures.room c.requires.going.room;
      in_flight = words_left (g.D.Writable.view c.args.device.now).slots c.args.run.now c.apply.new.self c.args.act.now c.apply.result _ _ _ _ (g.D.Writable.view c.args.device.now).flight
          (g.D.Writable.view c.apply.new.device).flight sound memory (c.apply.ensures.acts true) c.apply.ensures.idle c.apply.ensures.in_flight c.requires.going.in_flight;
      stands = rw count step.0;
      current = step.1;
    }

pub returns-clause-lost : goal.returns-clause-lost
returns-clause-lost g c wants done =
    lost_behind (g.D.Writable.view c.args.device.now).slots c.args.run.now c.apply.new.self c.args.act.now c.apply.result _ _ _ _ wants (c.apply.ensures.acts true) done
