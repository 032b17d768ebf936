use Rattle.std.proofs.Common.{Bool, ◌≡◌, ◌≤◌, IsSome, length}
use Rattle.std.specs.Io.KnownBytes.{Appends}
use Rattle.script_lines.specs.Given.{counted}
use Rattle.replay.specs.Effects.{printed}
use Rattle.replay.specs.Running.{setting_of}
use Rattle.replay.proofs.lines.Opened.{opening}
use Rattle.replay.proofs.run.Run.tell_commands.Given as goal

abbrev pub invariant-loop-place : goal.invariant-loop-place
invariant-loop-place g l = record {
  told : (which : Bool) → Appends (counted which (g.K.Sink.taken l.fn.sink) (g.K.Sink.accepted l.fn.sink)) (counted which (g.K.Sink.taken l.sink) (g.K.Sink.accepted l.sink))
      (printed (opening (setting_of l.self) l.self.commits l.self.pending l.place));
  within : l.place ≤ length l.self.pending;
  stays : IsSome (g.K.Sink.taken l.fn.sink) → IsSome (g.K.Sink.taken l.sink);
  faults : g.K.Sink.faults l.sink ≡ g.K.Sink.faults l.fn.sink;
}
