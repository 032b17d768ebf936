-- Words in flight that are current: they answer as their keys' words by the tables now would.
use Rattle.std.specs.Prelude.{◌≡◌, ℕ, ◌<◌, ◌^◌, ◌⊎◌, Some, List, [], ◌∷◌, slice_index}
use Rattle.std.specs.List.{AllByRecursion}
use Rattle.slot_order.specs.Order.{slot}
use Rattle.rule_model.specs.declared.Key.{Key}
use Rattle.rule_model.specs.declared.Rule.{Rule}
use Rattle.rule_model.specs.Key.{IsKey}
use Rattle.rule_model.specs.PortRange.{PortRange, is_bit_set, range_holds}
use Rattle.rule_model.specs.RuleSet.{Answer, answer}
use Rattle.rule_model.specs.declared.words.Word.{Word}
use Rattle.rule_model.specs.declared.words.Entry.{Entry}
use Rattle.rule_model.specs.Word.{word_of}
use Rattle.rule_model.specs.Entry.{hits}
use Rattle.range_bits.specs.LiveRanges.{LiveRanges, range_at}
use Rattle.tcam_device.specs.State.{State, apply, state_after, lookup}
use Rattle.tcam_device.specs.Order.{IsTranslated}
use Rattle.commit_writes.specs.Bits.{FieldBits}
use Rattle.tcam_device.specs.declared.Action.{Action}
use Rattle.tcam_device.specs.declared.Action.TheVariants.{Written, Drained}
use Rattle.tcam_device.specs.Flight.{Event, Flight, Pipeline, MayGo, actions_in, writes_in, happens, searches}

-- a table's word for a port is right: each live bit is set exactly where its range holds the port
abbrev pub HasBits : LiveRanges → ℕ → ℕ → Type 0
HasBits live port word =
    (bit : ℕ) (range : PortRange) → range_at live bit ≡ Some range → is_bit_set word bit ≡ range_holds range port

-- A word in flight is current for live ranges: all its lanes but the last are those of its key's word, and in the last one
-- each live bit is set exactly where its range holds the key's port.
pub record IsCurrent (bits : FieldBits) (key : Key) (word : Word) : Type 0 where
  pub valid : IsKey key
  pub srcbits : ℕ
  pub dstbits : ℕ
  pub src_fits : srcbits < 2 ^ 16
  pub dst_fits : dstbits < 2 ^ 16
  pub lanes : word ≡ word_of key srcbits dstbits
  pub src_live : HasBits bits.src key.sport srcbits
  pub dst_live : HasBits bits.dst key.dport dstbits

-- each word in flight is current
abbrev pub AreCurrent : FieldBits → Flight → Type 0
AreCurrent bits flight = AllByRecursion (λ flying. IsCurrent bits flying.0 flying.1) flight

-- some live ranges are live in others too, at the same bits
pub record ArePartOf (less more : FieldBits) : Type 0 where
  pub src : (bit : ℕ) (range : PortRange) → range_at less.src bit ≡ Some range → range_at more.src bit ≡ Some range
  pub dst : (bit : ℕ) (range : PortRange) → range_at less.dst bit ≡ Some range → range_at more.dst bit ≡ Some range

-- an entry tests live bits alone: of two words that are current for one key it hits both or neither
abbrev pub TestsLive : FieldBits → Entry → Type 0
TestsLive bits entry =
    (key : Key) (a b : Word) → IsCurrent bits key a → IsCurrent bits key b → hits entry a ≡ hits entry b

-- The device serves live ranges: its tables have words of 16 bits in which each live bit is right, and its entries test no
-- other bit.
pub record ServesLive (bits : FieldBits) (state : State) : Type 0 where
  pub src_words : (port : ℕ) → slice_index state.src port < 2 ^ 16
  pub dst_words : (port : ℕ) → slice_index state.dst port < 2 ^ 16
  pub src_right : (bit : ℕ) (range : PortRange) → range_at bits.src bit ≡ Some range → IsTranslated state.src bit range
  pub dst_right : (bit : ℕ) (range : PortRange) → range_at bits.dst bit ≡ Some range → IsTranslated state.dst bit range
  pub tested : (at : ℕ) (entry : Entry) → slot state.slots at ≡ Some entry → TestsLive bits entry

-- While some actions are made the device serves live ranges, of which the last ones are live in the end. A write may leave
-- fewer of them live, and a drain others, since no word is in flight then.
abbrev pub ServingTo : FieldBits → State → List Action → FieldBits → Type 0
ServingTo bits state [] last = ServesLive bits state × ArePartOf last bits
ServingTo bits state (Written write ∷ actions) last =
    ServesLive bits state × ((next : FieldBits) × ArePartOf next bits × ServingTo next (apply state write) actions last)
ServingTo bits state (Drained ∷ actions) last =
    ServesLive bits state × ((next : FieldBits) × ServingTo next state actions last)

-- and behind them it serves the last ones
abbrev pub LeadsTo : FieldBits → State → List Action → FieldBits → Type 0
LeadsTo bits state actions last = ServingTo bits state actions last × ServesLive last (state_after state (writes_in actions))

-- a search answers what an undivided look-up of its key would answer in the state at that moment
abbrev pub IsLookUp : State × Key × Answer → Type 0
IsLookUp (state, key, found) = found ≡ lookup state key

-- and so the answer of the old set or that of the new one
abbrev pub IsOldOrNew : List Rule → List Rule → State × Key × Answer → Type 0
IsOldOrNew old new (state, key, found) = (found ≡ answer old key) ⊎ (found ≡ answer new key)

-- Whatever stands between: where the device serves the live ranges that the words in flight are current for, each search
-- answers what an undivided look-up of its key would answer in the state at that moment.
abbrev pub AnswerAsLookUps : Type 0
AnswerAsLookUps =
    (bits last : FieldBits) (line : Pipeline) (events : List Event) → ServingTo bits line.state (actions_in events) last
    → AreCurrent bits line.flight → MayGo line events → AllByRecursion IsLookUp (searches line events)

-- the pipeline after some events
abbrev pub after_events : Pipeline → List Event → Pipeline
after_events line [] = line
after_events line (event ∷ events) = after_events (happens line event) events

-- And the words that are in flight then, those translated meanwhile among them, are current for the last ranges.
abbrev pub StayCurrent : Type 0
StayCurrent =
    (bits last : FieldBits) (line : Pipeline) (events : List Event) → ServingTo bits line.state (actions_in events) last
    → AreCurrent bits line.flight → MayGo line events → AreCurrent last (after_events line events).flight
