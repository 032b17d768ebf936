-- An act that is no commit.
use Rattle.std.proofs.Common.{rules, ◌≢◌}
use Rattle.replay.specs.declared.Act.TheVariants.{Commit}
use Rattle.replay.specs.Running.{progress_of, setting_of}
use Rattle.tcam_cli.proofs.TwoParts.{comes-one, in-one}
use Rattle.tcam_cli.proofs.in_two.apply_by.Goals as goal

pub returns-else-eq-clause-acts : goal.returns-else-eq-clause-acts
returns-else-eq-clause-acts g c = λ which.
    let other : c.args.act.now ≢ Commit = search rules in
    let slots = (g.D.Writable.view c.args.device.now).slots in
    comes-one slots c.args.run.now c.args.act.now c.apply.new.self c.apply.result _ _ _ _
    (in-one (setting_of c.args.run.now) (progress_of slots c.args.run.now) c.args.act.now other) (c.apply.ensures.acts which)
