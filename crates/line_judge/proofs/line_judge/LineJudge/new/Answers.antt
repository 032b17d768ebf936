use Rattle.std.proofs.Common.{sym, subst}
use Rattle.line_judge.proofs.Followed.{first_followed}
use Rattle.line_judge.specs.Tracked.{IsRightTrack}
use Rattle.line_judge.proofs.line_judge.LineJudge.new.Goals as goal

pub invariant_of-result : goal.invariant_of-result
invariant_of-result c = subst (λ place. IsRightTrack place c.in_ok-track.track) (sym c.in_ok-track.ensures.place) c.in_ok-track.ensures.right

pub returns : goal.returns
returns c = first_followed c.args.by c.in_ok-track.track c.in_ok-track.ensures.by c.in_ok-track.ensures.place c.in_ok-track.ensures.known
