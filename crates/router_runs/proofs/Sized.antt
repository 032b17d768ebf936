-- A router uses as many slots of each device as before.
use Rattle.std.proofs.Common.{◌≡◌, ℕ, ◌≤◌, sym, ap, subst, ◌∙◌}
use Rattle.router.specs.Run.{DeviceSlots, Setting}
use Rattle.router.specs.Routing.{FitsBoth, IsRouter, Routing, setting_of}

pub fits-next : (old new : Routing) (slots : DeviceSlots) → IsRouter old → IsRouter new → setting_of new ≡ setting_of old → FitsBoth old slots → FitsBoth new slots
fits-next old new slots was is same fits =
    let listed : new.listed.whole.slots ≡ old.listed.whole.slots = ap (λ (setting : Setting). setting.slots) same in
    let routed : new.routed.whole.slots ≡ old.routed.whole.slots = is.slots ∙ listed ∙ sym was.slots in
    record {
      listed = subst (λ (n : ℕ). n ≤ slots.listed) (sym listed) fits.listed;
      routed = subst (λ (n : ℕ). n ≤ slots.routed) (sym routed) fits.routed;
    }
