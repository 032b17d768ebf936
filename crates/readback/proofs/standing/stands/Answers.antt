use Rattle.std.proofs.Common.{◌≡◌, sym, ◌∙◌, ap}
use Rattle.rule_model.specs.Entry.{entry_for}
use Rattle.tcam_device.specs.Insertion.{holds_match}
use Rattle.readback.proofs.Walks.{any_at, none_yet}
use Rattle.readback.proofs.standing.stands.Goals as goal

pub returns-then-holds_match : goal.returns-then-holds_match
returns-then-holds_match c =
    let entry : c.piece.inside.entry ≡ entry_for c.args.piece.now = c.piece.invariant ∙ ap entry_for c.piece.view_is in
    sym (any_at (holds_match (entry_for c.args.piece.now)) c.args.held.now c.loop-slot.slot-index c.slot-item.result c.loop-slot-test.true c.slot-item.is
    (ap (λ e. holds_match e c.slot-item.result) (sym entry) ∙ (sym c.holds_match.ensures ∙ c.if-holds_match.true)))

pub loop-slot-preserved : goal.loop-slot-preserved
loop-slot-preserved c =
    let entry : c.piece.inside.entry ≡ entry_for c.args.piece.now = c.piece.invariant ∙ ap entry_for c.piece.view_is in
    none_yet (holds_match (entry_for c.args.piece.now)) c.args.held.now c.loop-slot.slot-index c.slot-item.result c.loop-slot-test.true c.slot-item.is c.loop-slot.invariant
    (ap (λ e. holds_match e c.slot-item.result) (sym entry) ∙ (sym c.holds_match.ensures ∙ c.if-holds_match.false))
