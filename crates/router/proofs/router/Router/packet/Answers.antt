-- Each device answers as the rules of its table, and the line is written, or a part of it.
use Rattle.std.proofs.Common.{ℕ, List, Option, subst}
use Rattle.std.specs.Io.KnownBytes.{Appends}
use Rattle.script_lines.specs.Given.{counted}
use Rattle.report_lines.specs.Outside.{AppendsPart}
use Rattle.router.specs.Text.{packet_line}
use Rattle.router.specs.Routing.{Routing, slots_of}
use Rattle.router.proofs.Acts.{packet_carries, packet_cuts, packet_tells}
use Rattle.router.proofs.router.Router.packet.Goals as goal

pub returns-in-Ok-clause-acts : goal.returns-in-Ok-clause-acts
returns-in-Ok-clause-acts g c = λ which.
    let list = g.D.SplitDevice.events c.args.list.now in
    let routes = g.D.SplitDevice.events c.args.routes.now in
    let slots = slots_of (g.D.SplitDevice.slot_count c.args.list.now) (g.D.SplitDevice.slot_count c.args.routes.now) in
    let told_old : Option (List ℕ) = counted which (g.K.Sink.taken c.args.sink.now) (g.K.Sink.accepted c.args.sink.now) in
    let told_new : Option (List ℕ) = counted which (g.K.Sink.taken c.write_packet.new.sink) (g.K.Sink.accepted c.write_packet.new.sink) in
    packet_carries slots c.args.self.now c.args.key.now c.look.result c.look-2.result list routes told_old told_new
    (packet_tells slots _ c.args.self.now c.args.key.now list routes c.look.result c.look-2.result c.self.view_is c.requires.slots c.requires.idle c.key_fields.ensures c.serving.ensures.serves c.serving-2.ensures.serves c.look.ensures c.look-2.ensures)
    (subst (λ (r : Routing). Appends told_old told_new (packet_line r.version c.look.result c.look-2.result)) c.self.view_is (c.in-Ok.ensures.whole which))

pub returns-in-Err-clause-acts : goal.returns-in-Err-clause-acts
returns-in-Err-clause-acts g c = λ which.
    let list = g.D.SplitDevice.events c.args.list.now in
    let routes = g.D.SplitDevice.events c.args.routes.now in
    let slots = slots_of (g.D.SplitDevice.slot_count c.args.list.now) (g.D.SplitDevice.slot_count c.args.routes.now) in
    let told_old : Option (List ℕ) = counted which (g.K.Sink.taken c.args.sink.now) (g.K.Sink.accepted c.args.sink.now) in
    let told_new : Option (List ℕ) = counted which (g.K.Sink.taken c.write_packet.new.sink) (g.K.Sink.accepted c.write_packet.new.sink) in
    packet_cuts slots c.args.self.now c.args.key.now c.look.result c.look-2.result list routes told_old told_new
    (packet_tells slots _ c.args.self.now c.args.key.now list routes c.look.result c.look-2.result c.self.view_is c.requires.slots c.requires.idle c.key_fields.ensures c.serving.ensures.serves c.serving-2.ensures.serves c.look.ensures c.look-2.ensures)
    (subst (λ (r : Routing). AppendsPart told_old told_new (packet_line r.version c.look.result c.look-2.result)) c.self.view_is (c.in-Err.ensures.part which))
