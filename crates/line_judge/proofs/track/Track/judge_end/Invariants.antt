use Rattle.std.proofs.Common.{◌≡◌, ℕ, ◌<◌, Some}
use Rattle.std.specs.Prelude.{slice_get}
use Rattle.rule_store.specs.declared.Command.{Command}
use Rattle.rule_store.specs.Batch.{named_priority}
use Rattle.line_judge.specs.Tracked.{AreRightAt}
use Rattle.line_judge.proofs.track.Track.judge_end.Given as goal

-- the rules of the first commands are judged
abbrev pub invariant-loop-i : goal.invariant-loop-i
invariant-loop-i l =
    (j : ℕ) (command : Command) → j < l.i → slice_get l.self.batch j ≡ Some command
    → AreRightAt l.self.by l.asked (record { state = l.self.device; old = l.self.rules; new = l.ahead }) (named_priority command)
