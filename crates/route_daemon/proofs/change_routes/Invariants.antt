use Rattle.std.proofs.Common.{◌≡◌, ◌≤◌, [], None}
use Rattle.batch_order.specs.Managed.{IsOn}
use Rattle.route_daemon.proofs.change_routes.Given as goal
use Rattle.tcam_device.specs.View.{journal}

abbrev pub invariant-loop-network : goal.invariant-loop-network
invariant-loop-network g l = (l.manager.slots ≤ (g.D.Writable.view l.device).slots)
    × IsOn (g.D.Writable.view l.device).slots (journal (g.D.Writable.view l.device)) l.manager
    × ((g.D.Writable.view l.device).flight ≡ [])
    × (l.manager.held ≡ None)
