-- Words in flight that are current are of keys, and so is what is read of them.
use Rattle.std.proofs.Common.{List, [], ◌∷◌, map, drop}
use Rattle.std.specs.List.{AllByRecursion}
use Rattle.slot_order.proofs.Lists.{all_append}
use Rattle.rule_model.specs.declared.Key.{Key}
use Rattle.rule_model.specs.Key.{IsKey}
use Rattle.rule_model.specs.declared.words.Word.{Word}
use Rattle.tcam_device.specs.State.{search_word}
use Rattle.commit_writes.specs.Bits.{FieldBits}
use Rattle.commit_writes.specs.InFlight.{AreCurrent}
use Rattle.split_device.specs.State.{SplitState, undivided, split_apply}
use Rattle.split_device.specs.declared.SplitAction.TheVariants.{Written, Drained}
use Rattle.split_device.specs.Flight.{Event, Makes, Translates, Searches, Reads, Look, Pipeline, Answered, with_moment, begun_looks, happens, after_events, read_looks, reads}
use Rattle.split_writes.specs.InFlight.{MayCome, MayGo}

-- the keys of words in flight, and of look-ups that wait
abbrev pub AreKeys : List (Key × Word) → Type 0
AreKeys words = AllByRecursion (λ flying. IsKey flying.0) words

abbrev pub AreOfKeys : List Look → Type 0
AreOfKeys looks = AllByRecursion (λ look. IsKey look.key) looks

pub current_keys : (bits : FieldBits) (words : List (Key × Word)) → AreCurrent bits words → AreKeys words
current_keys bits [] all = tt
current_keys bits (one ∷ words) all = (all.0.valid, current_keys bits words all.1)

moment_keys : (state : SplitState) (looks : List Look) → AreOfKeys looks → AreOfKeys (map (with_moment state) looks)
moment_keys state [] keys = tt
moment_keys state (look ∷ looks) keys = (keys.0, moment_keys state looks keys.1)

begun_keys : (state : SplitState) (words : List (Key × Word)) → AreKeys words → AreOfKeys (begun_looks state words)
begun_keys state [] keys = tt
begun_keys state (oldest ∷ words) keys = (keys.0, tt)

fewer_words : (words : List (Key × Word)) → AreKeys words → AreKeys (drop 1 words)
fewer_words [] keys = tt
fewer_words (word ∷ words) keys = keys.1

fewer_looks : (looks : List Look) → AreOfKeys looks → AreOfKeys (drop 1 looks)
fewer_looks [] keys = tt
fewer_looks (look ∷ looks) keys = keys.1

read_keys : (state : SplitState) (looks : List Look) → AreOfKeys looks → AllByRecursion (λ (read : Answered). IsKey read.key) (read_looks state looks)
read_keys state [] keys = tt
read_keys state (look ∷ looks) keys = (keys.0, tt)

-- stay keys
event_keys : (line : Pipeline) (event : Event) → MayCome line event → AreKeys line.words × AreOfKeys line.looks → AreKeys (happens line event).words × AreOfKeys (happens line event).looks
event_keys line (Makes (Written write)) may keys = (keys.0, moment_keys (split_apply line.state write) line.looks keys.1)
event_keys line (Makes Drained) may keys = keys
event_keys line (Translates key) may keys = (all_append (λ (flying : Key × Word). IsKey flying.0) line.words ((key, search_word (undivided line.state) key) ∷ []) keys.0 (may.0, tt), keys.1)
event_keys line Searches may keys = (
  fewer_words line.words keys.0,
  all_append (λ (look : Look). IsKey look.key) line.looks (begun_looks line.state line.words) keys.1 (begun_keys line.state line.words keys.0),
)
event_keys line Reads may keys = (keys.0, fewer_looks line.looks keys.1)

pub keys_after : (line : Pipeline) (events : List Event) → MayGo line events → AreKeys line.words × AreOfKeys line.looks → AreOfKeys (after_events line events).looks
keys_after line [] may keys = keys.1
keys_after line (event ∷ events) may keys = keys_after (happens line event) events may.1 (event_keys line event may.0 keys)

-- and so what is read is of keys
pub reads_of_keys : (line : Pipeline) (events : List Event) → MayGo line events → AreKeys line.words × AreOfKeys line.looks → AllByRecursion (λ (read : Answered). IsKey read.key) (reads line events)
reads_of_keys line [] may keys = tt
reads_of_keys line (Reads ∷ events) may keys =
    all_append (λ (read : Answered). IsKey read.key) (read_looks line.state line.looks) (reads (happens line Reads) events)
    (read_keys line.state line.looks keys.1) (reads_of_keys (happens line Reads) events may.1 (event_keys line Reads may.0 keys))
reads_of_keys line (Makes made ∷ events) may keys = reads_of_keys (happens line (Makes made)) events may.1 (event_keys line (Makes made) may.0 keys)
reads_of_keys line (Translates key ∷ events) may keys = reads_of_keys (happens line (Translates key)) events may.1 (event_keys line (Translates key) may.0 keys)
reads_of_keys line (Searches ∷ events) may keys = reads_of_keys (happens line Searches) events may.1 (event_keys line Searches may.0 keys)
