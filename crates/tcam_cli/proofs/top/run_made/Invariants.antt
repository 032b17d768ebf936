use Rattle.std.proofs.Common.{◌≡◌, ◌+◌, ◌*◌, ◌≤◌, [], Bool, false, None, length}
use Rattle.script_lines.specs.Given.{counted}
use Rattle.rule_gen.specs.Batches.{AreBatches}
use Rattle.rule_gen.specs.Made.{made_commands}
use Rattle.replay.specs.Outside.{Leaves}
use Rattle.settled_changes.specs.Requested.{changes_in}
use Rattle.replay.specs.Running.{progress_of, setting_of}
use Rattle.tcam_cli.proofs.MadeRuns.{MadeSoFar}
use Rattle.tcam_cli.proofs.top.run_made.Given as goal

abbrev pub invariant-acts : goal.invariant-acts
invariant-acts g l = record {
  setting : setting_of l.run ≡ setting_of l.fn.run;
  idle : l.run.manager.held ≡ None;
  whole : l.run.broken ≡ false;
  commits : l.run.commits + length l.maker ≤ 513 * 64;
  room : AreBatches (2 * l.rules) (changes_in l.run.pending l.run.asked) l.maker;
  made : (which : Bool) → MadeSoFar (setting_of l.fn.run) (g.D.Writable.view l.fn.device).slots (made_commands l.seed l.rules l.batches) l.maker (progress_of (g.D.Writable.view l.fn.device).slots l.run)
      (g.D.Writable.view l.device).events (counted which (g.K.Sink.taken l.fn.sink) (g.K.Sink.accepted l.fn.sink)) (counted which (g.K.Sink.taken l.sink) (g.K.Sink.accepted l.sink));
  none_in_flight : (g.D.Writable.view l.device).flight ≡ [];
  leaves : Leaves g.K.Sink.taken g.K.Sink.faults l.fn.sink l.sink (g.D.Writable.view l.fn.device) (g.D.Writable.view l.device) ⊥ ⊥;
}

abbrev pub decreases-acts : goal.decreases-acts
decreases-acts g l = length l.maker
