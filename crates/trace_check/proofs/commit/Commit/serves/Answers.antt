use Rattle.std.proofs.Common.{inr}
use Rattle.std.proofs.lemmas.Bool.{both_ways}
use Rattle.trace_check.specs.Kept.{device_state}
use Rattle.trace_check.proofs.ComesFound.{none_live, some_live, live_some}
use Rattle.trace_check.proofs.commit.Commit.serves.Goals as goal

pub returns-in-None-clause-right : goal.returns-in-None-clause-right
returns-in-None-clause-right c _ _ = inr (none_live (device_state c.args.device.now) c.args.self.now.live c.in-None.is)

pub returns-in-Some-clause-right : goal.returns-in-Some-clause-right
returns-in-Some-clause-right c true_is _ = inr (some_live (device_state c.args.device.now) c.args.self.now.live c.in-Some.during c.in-Some.is (c.is_translated.ensures.0 true_is))

pub returns-in-Some-clause-wrong : goal.returns-in-Some-clause-wrong
returns-in-Some-clause-wrong c false_is = (
  c.if-not-puts.false,
  c.if-self.false,
  λ right. both_ways c.is_translated.result false_is (c.is_translated.ensures.1 (live_some (device_state c.args.device.now) c.args.self.now.live c.in-Some.during c.in-Some.is right)),
)
