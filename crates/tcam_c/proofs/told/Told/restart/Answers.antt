use Rattle.std.proofs.Common.{ap, refl, ◌∙◌}
use Rattle.readback.specs.declared.Parts.{Parts}
use Rattle.tcam_c.proofs.Restarted.{same_account}
use Rattle.tcam_c.proofs.told.Told.restart.Goals as goal

pub returns-in-Ok-clause-goes_on : goal.returns-in-Ok-clause-goes_on
returns-in-Ok-clause-goes_on c =
    let s = c.self.inside in
    rw (← c.self.view_is) record {
      parts = record { rules = s.rules; src = c.map.result; dst = c.map-2.result };
      are_parts = record { rules = refl; bits = λ i. record { src = c.map.ensures i; dst = c.map-2.ensures i } };
      restarted = c.in-Ok.ensures.settled.0;
      answers = c.in-Ok.ensures.settled.1;
      manager = c.led.ensures.manager ∙ c.in-Ok.ensures.settled.2;
      events = c.led.ensures.events ∙ c.in-Ok.ensures.events;
      serves = c.led.ensures.serves;
    }

pub returns-in-Err-clause-refused : goal.returns-in-Err-clause-refused
returns-in-Err-clause-refused c =
    let s = c.self.inside in
    let answers = c.in-Err.ensures.settled in (
      rw (← c.self.view_is) record {
        parts = record { rules = s.rules; src = c.map.result; dst = c.map-2.result };
        are_parts = record { rules = refl; bits = λ i. record { src = c.map.ensures i; dst = c.map-2.ensures i } };
        back = c.in-Err.parts;
        answers = answers;
      },
      same_account s.mode s.placement (record { src = s.src; dst = s.dst }) c.restart.new.device.slots s.device.slots c.in-Err.parts.rules.rules s.rules.rules
          c.restart.new.device.events s.device.events c.in-Err.ensures.slots (ap (λ (parts : Parts). parts.rules.rules) answers.0) c.in-Err.ensures.events ∙ c.self.view_is,
    )
