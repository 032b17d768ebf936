use Rattle.std.proofs.Common.{arith, sym, subst}
use Rattle.std.proofs.lemmas.Result.{on_ok_weaker}
use Rattle.tcam_device.specs.declared.Write.TheVariants as writes
use Rattle.tcam_device.specs.State.{apply}
use Rattle.line_judge.specs.Tracked.{IsJudgedEvent}
use Rattle.line_judge.proofs.FollowedLines.{slot_followed}
use Rattle.line_judge.proofs.track.Track.follow_slot.Goals as goal

pub put-stood-requires : goal.put-stood-requires
put-stood-requires c = let size = c.requires.open.sized in let used = c.requires.used in omega arith

pub returns-clause-written : goal.returns-clause-written
returns-clause-written c =
    on_ok_weaker c.count_write.result (λ same. subst (IsJudgedEvent c.args.self.now (apply c.args.self.now.device (writes.Slot c.args.slot c.args.content.now))) (sym same)
    (slot_followed c.args.self.now c.requires.open c.put-stood.new.self c.args.slot c.args.content.now c.put-stood.ensures.state c.requires.shown)) c.count_write.ensures.counted
