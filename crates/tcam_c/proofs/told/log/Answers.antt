use Rattle.std.proofs.Common.{◌++◌, ◌∷◌, [], List, ap, ◌∙◌}
use Rattle.tcam_device.specs.declared.Action.{Action}
use Rattle.tcam_device.specs.Flight.{writes_in}
use Rattle.batch_order.proofs.Made.{journal_made}
use Rattle.tcam_c.proofs.Due.{never_failed, never_rose}
use Rattle.tcam_c.proofs.told.log.Goals as goal

pub unreachable-requires : goal.unreachable-requires
unreachable-requires c =
    let before = c.hardware-before.ensures.put in
    let after = c.hardware-after.ensures.put in
    never_rose _ _ (before.faults_are ∙ never_failed _ _ before.calls _ before.are_calls) (after.faults_are ∙ never_failed _ _ after.calls _ after.are_calls) c.in-Err.ensures.cause.failed

pub returns-clause-journal : goal.returns-clause-journal
returns-clause-journal c =
    journal_made _ _ _ c.in-Ok.ensures.made ∙ ap (λ (events : List Action). writes_in events ++ c.args.write ∷ []) c.reserve.ensures.others.events
