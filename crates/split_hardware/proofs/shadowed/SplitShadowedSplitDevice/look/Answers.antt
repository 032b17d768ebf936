use Rattle.std.proofs.Common.{◌∙◌, ap}
use Rattle.split_device.specs.State.{split_lookup}
use Rattle.split_hardware.proofs.shadowed.SplitShadowedSplitDevice.look.Goals as goal

pub returns : goal.returns
returns g c = rw (← c.self.view_is) (c.look.ensures ∙ ap (λ state. split_lookup state c.args.key.now) c.self.invariant.0.follows)
