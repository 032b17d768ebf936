use Rattle.std.proofs.Common.{◌≡◌, ◌-◌, ℕ, Bool, List, IsSome}
use Rattle.script_lines.specs.Given.{HasEnd, MayGive, GivesPieces, counted}
use Rattle.script_lines.specs.declared.Over.TheVariants as over
use Rattle.script_runs.proofs.InTime.{InTime, StandsAt}
use Rattle.split_device.specs.Flight.{no_flight}
use Rattle.router.specs.Routing.{AreAt, FitsBoth, progress_of, setting_of, slots_of}
use Rattle.router.specs.Taken.{made_on}
use Rattle.router_reader.specs.Readings.{router_reading}
use Rattle.router_runs.specs.Runs.{router_kind}
use Rattle.router_runs.specs.Rounds.{IsRouterBetweenLines, LeavesBoth}
use Rattle.router_runs.proofs.script.run_router_script.Given as goal

abbrev pub invariant-acts : goal.invariant-acts
invariant-acts g l = record {
  setting : setting_of l.router ≡ setting_of l.fn.router;
  version : l.router.version ≡ l.fn.router.version;
  slots : FitsBoth l.router (slots_of (g.D.SplitDevice.slot_count l.list) (g.D.SplitDevice.slot_count l.routes));
  stands : IsRouterBetweenLines l.lines l.router;
  at : AreAt l.router (g.D.SplitDevice.events l.list) (g.D.SplitDevice.events l.routes);
  gives : (pieces : List (List ℕ)) × GivesPieces (g.S.Source.given l.fn.source) (g.S.Source.given l.source) (g.S.Source.left l.fn.source) (g.S.Source.left l.source) pieces
      × (HasEnd pieces → l.lines.over ≡ over.Ended)
      × ((which : Bool) (left now : List ℕ) → MayGive left pieces now
      → StandsAt (router_kind (router_reading l.fn.router.version) (setting_of l.fn.router) (slots_of (g.D.SplitDevice.slot_count l.fn.list) (g.D.SplitDevice.slot_count l.fn.routes))) pieces left l.lines now (progress_of l.router)
      (made_on (g.D.SplitDevice.events l.list) (g.D.SplitDevice.events l.routes)) (counted which (g.K.Sink.taken l.fn.sink) (g.K.Sink.accepted l.fn.sink)) (counted which (g.K.Sink.taken l.sink) (g.K.Sink.accepted l.sink)))
      × InTime (router_kind (router_reading l.fn.router.version) (setting_of l.fn.router) (slots_of (g.D.SplitDevice.slot_count l.fn.list) (g.D.SplitDevice.slot_count l.fn.routes))) pieces
      (made_on (g.D.SplitDevice.events l.list) (g.D.SplitDevice.events l.routes)) (g.K.Sink.accepted l.fn.sink) (g.K.Sink.accepted l.sink);
  none_in_flight : (g.D.SplitDevice.flight l.list ≡ no_flight) × (g.D.SplitDevice.flight l.routes ≡ no_flight);
  told : IsSome (g.K.Sink.taken l.fn.sink) → IsSome (g.K.Sink.taken l.sink);
  devices : LeavesBoth g.D.SplitDevice.slot_count g.D.SplitDevice.events g.D.SplitDevice.flight g.D.SplitDevice.faults l.fn.list l.list l.fn.routes l.routes (λ which. ⊥);
  writes : g.K.Sink.faults l.sink ≡ g.K.Sink.faults l.fn.sink;
  reads : g.S.Source.faults l.source ≡ g.S.Source.faults l.fn.source;
}

abbrev pub decreases-acts : goal.decreases-acts
decreases-acts g l = 268435456 - l.lines.before
