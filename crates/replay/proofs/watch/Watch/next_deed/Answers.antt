-- The write that is due is told of where names are wanted.
use Rattle.std.proofs.Common.{◌≡◌, true, false, None, Some, sym, ap, ◌∙◌}
use Rattle.tcam_device.specs.View.{device_state}
use Rattle.batch_order.specs.Steps.{next_of}
use Rattle.replay.specs.Naming.{next_deed}
use Rattle.replay.specs.Running.{Watching}
use Rattle.replay.proofs.making.Deeds.{deed-named, deed-unnamed}
use Rattle.replay.proofs.making.Holders.{in-use-more}
use Rattle.replay.proofs.watch.Watch.next_deed.Goals as goal

pub deed_of-requires : goal.deed_of-requires
deed_of-requires g c = in-use-more _ _ c.in-Some.write c.requires c.in-Some.ensures.in_use

pub returns-then-not-self : goal.returns-then-not-self
returns-then-not-self g c =
    let off : c.args.self.now.names ≡ false = ap (λ (watch : Watching). watch.names) (sym c.self.view_is) ∙ c.if-not-self.true in
    sym (deed-unnamed c.args.self.now.names (device_state (g.D.Writable.view c.args.device.now)) (next_of c.args.manager.now.held) off)

pub returns-in-None : goal.returns-in-None
returns-in-None g c =
    let next : next_of c.args.manager.now.held ≡ None = cc in
    sym (ap (next_deed c.args.self.now.names (device_state (g.D.Writable.view c.args.device.now))) next)

pub returns-in-Some : goal.returns-in-Some
returns-in-Some g c =
    let on : c.args.self.now.names ≡ true = ap (λ (watch : Watching). watch.names) (sym c.self.view_is) ∙ c.if-not-self.false in
    let next : next_of c.args.manager.now.held ≡ Some c.in-Some.write = cc in
    ap Some c.deed_of.ensures ∙ sym (deed-named c.args.self.now.names (device_state (g.D.Writable.view c.args.device.now)) (next_of c.args.manager.now.held) c.in-Some.write on next)
