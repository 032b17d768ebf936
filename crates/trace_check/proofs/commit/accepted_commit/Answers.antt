use Rattle.std.proofs.Common.{sym, ◌∙◌, subst, ap}
use Rattle.commit_writes.specs.Bits.{bits_with}
use Rattle.trace_check.specs.Kept.{IsCommitOf, MayJudge}
use Rattle.trace_check.proofs.commit.accepted_commit.Goals as goal

pub commit_of-requires-clause-may : goal.commit_of-requires-clause-may
commit_of-requires-clause-may c = subst (λ m. MayJudge m c.args.bits.now c.args.rules.now.rules c.args.batch.now) (sym c.live_meanwhile-live.ensures.coded) c.requires

pub commit_of-requires-clause-during : goal.commit_of-requires-clause-during
commit_of-requires-clause-during c =
    c.live_meanwhile-live.ensures.during ∙ ap (λ m. bits_with m c.args.rules.now.rules c.args.batch.now c.args.bits.now) (sym c.live_meanwhile-live.ensures.coded)

pub returns-in-Ok-clause-commit : goal.returns-in-Ok-clause-commit
returns-in-Ok-clause-commit c =
    subst (λ m. IsCommitOf m c.args.bits.now c.args.rules.now.rules c.args.batch.now c.in-Ok.commit) c.live_meanwhile-live.ensures.coded c.in-Ok.ensures.commit
