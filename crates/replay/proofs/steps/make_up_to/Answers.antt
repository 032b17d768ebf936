-- Where a commit has more writes than come before its turn the loop comes to that, or a part before it fails.
use Rattle.std.proofs.Common.{true}
use Rattle.replay.proofs.making.Wrapped.{not-ended}
use Rattle.replay.proofs.steps.make_up_to.Goals as goal

pub unreachable-requires : goal.unreachable-requires
unreachable-requires g c =
    let made = rw c.in-Ok-Some.field-0-is at (c.in-Ok-Some.ensures.makes true) in
    not-ended c.in-Ok-Some.field-0-0 _ c.args.after c.args.manager.now _ _ _ c.args.count.now _ _ _ _ _ c.requires.more made

pub returns-in-Ok-None-clause-makes : goal.returns-in-Ok-None-clause-makes
returns-in-Ok-None-clause-makes g c = λ which. let made = rw c.in-Ok-None.field-0-is at (c.in-Ok-None.ensures.makes which) in made
