use Rattle.std.proofs.Common.{◌≡◌, ◌-◌, ℕ, [], Bool, List}
use Rattle.script_lines.specs.Given.{HasEnd, MayGive, GivesPieces, counted}
use Rattle.script_lines.specs.declared.Over.TheVariants as over
use Rattle.replay.specs.Carried.{IsAt}
use Rattle.replay.specs.Outside.{Leaves}
use Rattle.replay.specs.Running.{progress_of, setting_of}
use Rattle.tcam_cli.specs.Rounds.{IsBetweenLines}
use Rattle.script_runs.proofs.InTime.{InTime, StandsAt}
use Rattle.tcam_cli.specs.Headline.{run_kind}
use Rattle.tcam_cli.proofs.top.run_script.Given as goal

abbrev pub invariant-acts : goal.invariant-acts
invariant-acts g l = record {
  setting : setting_of l.run ≡ setting_of l.fn.run;
  stands : IsBetweenLines l.lines l.run;
  at : IsAt (g.D.Writable.view l.device).slots (g.D.Writable.view l.device).events (progress_of (g.D.Writable.view l.device).slots l.run);
  gives : (pieces : List (List ℕ)) × GivesPieces (g.S.Source.given l.fn.source) (g.S.Source.given l.source) (g.S.Source.left l.fn.source) (g.S.Source.left l.source) pieces
      × (HasEnd pieces → l.lines.over ≡ over.Ended)
      × ((which : Bool) (left now : List ℕ) → MayGive left pieces now
      → StandsAt (run_kind (setting_of l.fn.run) (g.D.Writable.view l.fn.device).slots) pieces left l.lines now (progress_of (g.D.Writable.view l.fn.device).slots l.run)
      (g.D.Writable.view l.device).events (counted which (g.K.Sink.taken l.fn.sink) (g.K.Sink.accepted l.fn.sink)) (counted which (g.K.Sink.taken l.sink) (g.K.Sink.accepted l.sink)))
      × InTime (run_kind (setting_of l.fn.run) (g.D.Writable.view l.fn.device).slots) pieces (g.D.Writable.view l.device).events (g.K.Sink.accepted l.fn.sink) (g.K.Sink.accepted l.sink);
  none_in_flight : (g.D.Writable.view l.device).flight ≡ [];
  leaves : Leaves g.K.Sink.taken g.K.Sink.faults l.fn.sink l.sink (g.D.Writable.view l.fn.device) (g.D.Writable.view l.device) ⊥ ⊥;
  reads : g.S.Source.faults l.source ≡ g.S.Source.faults l.fn.source;
}

abbrev pub decreases-acts : goal.decreases-acts
decreases-acts g l = 268435456 - l.lines.before
