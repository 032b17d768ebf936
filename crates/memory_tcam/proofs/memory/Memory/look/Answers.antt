use Rattle.std.proofs.Common.{◌∙◌, ap}
use Rattle.slot_order.specs.Order.{first_hit}
use Rattle.rule_model.specs.Entry.{hits}
use Rattle.tcam_device.specs.State.{told}
use Rattle.tcam_device.proofs.Flights.{made_now}
use Rattle.memory_tcam.specs.Tcam.{RoomyState}
use Rattle.memory_tcam.proofs.memory.Memory.look.Goals as goal

pub returns : goal.returns
returns c =
    c.find.ensures ∙ ap (λ (m : RoomyState). told (first_hit hits m.state.slots c.word.result)) c.self.view_is
    ∙ ap (λ w. told (first_hit hits c.args.self.now.state.slots w)) c.word.ensures ∙ made_now c.args.self.now.state c.args.key.now
