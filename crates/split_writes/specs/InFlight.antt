-- Words in flight on a device with split results: while it serves the live ranges that they are current for, each finds the
-- slot that its key finds.
use Rattle.std.specs.Prelude.{◌≡◌, ◌+◌, ◌<◌, List, [], ◌∷◌, length}
use Rattle.rule_model.specs.Key.{IsKey}
use Rattle.tcam_device.specs.Flight.{most_in_flight}
use Rattle.commit_writes.specs.Bits.{FieldBits}
use Rattle.commit_writes.specs.InFlight.{ArePartOf, ServesLive}
use Rattle.split_device.specs.State.{SplitState, undivided, split_apply}
use Rattle.split_device.specs.declared.SplitAction.{SplitAction}
use Rattle.split_device.specs.declared.SplitAction.TheVariants.{Written, Drained}
use Rattle.split_device.specs.Flight.{Event, Makes, Translates, Searches, Reads, Pipeline, happens}

-- While some writes and drains are made the device serves live ranges, of which the last ones are live in the end. A write may
-- leave fewer of them live, and a drain others, since nothing is in flight then.
abbrev pub ServingTo : FieldBits → SplitState → List SplitAction → FieldBits → Type 0
ServingTo bits state [] last = ServesLive bits (undivided state) × ArePartOf last bits
ServingTo bits state (Written write ∷ made) last =
    ServesLive bits (undivided state) × ((next : FieldBits) × ArePartOf next bits × ServingTo next (split_apply state write) made last)
ServingTo bits state (Drained ∷ made) last =
    ServesLive bits (undivided state) × ((next : FieldBits) × ServingTo next state made last)

-- the writes and drains among some events
abbrev pub made_in : List Event → List SplitAction
made_in [] = []
made_in (Makes made ∷ events) = made ∷ made_in events
made_in (Translates key ∷ events) = made_in events
made_in (Searches ∷ events) = made_in events
made_in (Reads ∷ events) = made_in events

-- the event may come: a drain only with nothing in flight, a translation with room for a word, a search with a word and a read
-- with a found slot
abbrev pub MayCome : Pipeline → Event → Type 0
MayCome line (Makes (Written write)) = Unit {0}
MayCome line (Makes Drained) = (line.words ≡ []) × (line.looks ≡ [])
MayCome line (Translates key) = IsKey key × (length line.words + length line.looks < most_in_flight)
MayCome line Searches = 0 < length line.words
MayCome line Reads = 0 < length line.looks

-- each event may come when it does
abbrev pub MayGo : Pipeline → List Event → Type 0
MayGo line [] = Unit {0}
MayGo line (event ∷ events) = MayCome line event × MayGo (happens line event) events
