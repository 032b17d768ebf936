-- What a device tells of its flight is the flight of the pipeline, without the moments.
use Rattle.std.proofs.Common.{◌≡◌, List, [], ◌∷◌, ◌++◌, map, drop, Option, ℕ, refl, ◌∙◌, ap}
use Rattle.rule_model.specs.declared.Key.{Key}
use Rattle.rule_model.specs.declared.words.Word.{Word}
use Rattle.split_device.specs.State.{SplitState, split_apply}
use Rattle.split_device.specs.declared.SplitAction.TheVariants.{Written, Drained}
use Rattle.split_device.specs.Flight.{found_slots, flight_after, oldest_read, read_looks, first_answer, Event, Makes, Translates, Searches, Reads, Look, Pipeline, with_moment, begun_looks, happens, flight_of}
use Rattle.split_device.specs.Laws.{DevicesArePipelines}

abbrev told_look : Look → Key × Option ℕ
told_look look = (look.key, look.slot)

told_moments : (state : SplitState) (looks : List Look) → map told_look (map (with_moment state) looks) ≡ map told_look looks
told_moments state [] = refl
told_moments state (look ∷ looks) = ap (λ rest. told_look look ∷ rest) (told_moments state looks)

told_append : (xs ys : List Look) → map told_look (xs ++ ys) ≡ map told_look xs ++ map told_look ys
told_append [] ys = refl
told_append (x ∷ xs) ys = ap (λ rest. told_look x ∷ rest) (told_append xs ys)

told_begun : (state : SplitState) (words : List (Key × Word)) → map told_look (begun_looks state words) ≡ found_slots state words
told_begun state [] = refl
told_begun state (oldest ∷ words) = refl

told_drop : (looks : List Look) → map told_look (drop 1 looks) ≡ drop 1 (map told_look looks)
told_drop [] = refl
told_drop (look ∷ looks) = refl

-- after each event
pub flight_happens : (line : Pipeline) (event : Event) → flight_of (happens line event) ≡ flight_after line.state (flight_of line) event
flight_happens line (Makes (Written write)) = ap (λ found. record { words = line.words; found = found }) (told_moments (split_apply line.state write) line.looks)
flight_happens line (Makes Drained) = refl
flight_happens line (Translates key) = refl
flight_happens line Searches =
    ap (λ found. record { words = drop 1 line.words; found = found })
    (told_append line.looks (begun_looks line.state line.words) ∙ ap (λ more. map told_look line.looks ++ more) (told_begun line.state line.words))
flight_happens line Reads = ap (λ found. record { words = line.words; found = found }) (told_drop line.looks)

-- and what is read is what the pipeline's look-up is answered
read_told : (state : SplitState) (looks : List Look) → oldest_read state (map told_look looks) ≡ first_answer (read_looks state looks)
read_told state [] = refl
read_told state (look ∷ looks) = refl

pub devices_are_pipelines : DevicesArePipelines
devices_are_pipelines line event = (flight_happens line event, read_told line.state line.looks)
