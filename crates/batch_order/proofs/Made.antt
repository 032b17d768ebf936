-- What was made on a device, and its journal and state then.
use Rattle.std.proofs.Common.{◌≡◌, ◌+◌, List, [], ◌++◌, length, refl, sym, ap, subst, ◌∙◌, append-nil, append_assoc, arith}
use Rattle.std.proofs.lemmas.List.{length-append}
use Rattle.tcam_device.specs.declared.Write.{Write}
use Rattle.tcam_device.specs.declared.Action.{Action}
use Rattle.tcam_device.specs.Flight.{writes_in}
use Rattle.tcam_device.specs.View.{DeviceView, HasMade, IsUntouched, journal}
use Rattle.commit_writes.proofs.WritesIn.{writes_in-append}

pub nothing_made : (view : DeviceView) → HasMade [] view view
nothing_made view = record { events = sym (append-nil view.events); spare = omega arith; flight = refl; slots = refl }

pub made_more : (first more : List Action) (before now after : DeviceView) → HasMade first before now → HasMade more now after → HasMade (first ++ more) before after
made_more first more before now after one two =
    let size : length (first ++ more) ≡ length first + length more = length-append first more in
    let used = one.spare in
    let spent = two.spare in
    record {
      events = two.events ∙ (ap (λ (events : List Action). events ++ more) one.events ∙ append_assoc before.events first more);
      spare = omega arith;
      flight = two.flight ∙ one.flight;
      slots = two.slots ∙ one.slots;
    }

-- what made no action left the device as it was
pub untouched : (actions : List Action) (old new : DeviceView) → actions ≡ [] → HasMade actions old new → IsUntouched old new
untouched actions old new none made =
    let all : HasMade [] old new = subst (λ (xs : List Action). HasMade xs old new) none made in
    let spare : new.spare + 0 ≡ old.spare = all.spare in
    record { events = all.events ∙ append-nil old.events; spare = omega arith; flight = all.flight; slots = all.slots }

-- the writes of what was made are the journal's last ones
pub journal_made : (actions : List Action) (old new : DeviceView) → HasMade actions old new → journal new ≡ journal old ++ writes_in actions
journal_made actions old new made = ap writes_in made.events ∙ writes_in-append old.events actions

pub journal_same : (actions : List Action) (old new : DeviceView) → HasMade actions old new → writes_in actions ≡ [] → journal new ≡ journal old
journal_same actions old new made none =
    journal_made actions old new made ∙ ap (λ (ws : List Write). journal old ++ ws) none ∙ append-nil (journal old)
