-- The words in flight of a run's probes, and what their searches print: words that only the contracts of calls need.
use Rattle.std.specs.Prelude.{◌≡◌, ℕ, zero, suc, ◌+◌, ◌==◌, true, false, List, [], ◌∷◌, ◌++◌, length, take, drop, map}
use Rattle.rule_model.specs.declared.Key.{Key}
use Rattle.rule_model.specs.declared.words.Word.{Word}
use Rattle.tcam_device.specs.declared.Action.{Action}
use Rattle.tcam_device.specs.State.{State, replay, search_word, on_device}
use Rattle.tcam_device.specs.Flight.{Flight, word_answer, writes_in}
use Rattle.commit_writes.specs.InFlight.{AreCurrent}
use Rattle.batch_order.specs.Managed.{Managed, live_now}
use Rattle.report_lines.specs.declared.Family.{Family}
use Rattle.replay.specs.Effects.{Effect, Prints}
use Rattle.replay.specs.Text.{probe_line}

-- the probes so many times, one after the other
abbrev pub repeated : List Key → ℕ → List Key
repeated probes zero = []
repeated probes (suc more) = probes ++ repeated probes more

-- the words in flight are those of the probes of so many writes
abbrev pub AreOf : List Key → ℕ → Flight → Type 0
AreOf probes waiting flight = map {B = Key} (λ flying. flying.0) flight ≡ repeated probes waiting

-- The device is the manager's, and the words in flight are current: so each search answers as a look-up does.
pub record IsSeen (device_slots : ℕ) (events : List Action) (flight : Flight) (manager : Managed) : Type 0 where
  pub on : on_device device_slots manager.state ≡ replay device_slots (writes_in events)
  pub current : AreCurrent (live_now manager) flight

-- the words of some probes by the tables of a state
abbrev pub probe_words : State → List Key → Flight
probe_words state probes = map {B = Key × Word} (λ key. (key, search_word state key)) probes

-- the lines of words that are searched, one for each, in their order
abbrev pub found_lines : Family → ℕ → State → ℕ → Flight → List Effect
found_lines family number state probe [] = []
found_lines family number state probe (flying ∷ flight) =
    Prints (probe_line family number probe (word_answer state flying.1)) ∷ found_lines family number state (probe + 1) flight

-- and of those of so many writes, each of so many words
abbrev pub found_all : Family → ℕ → State → ℕ → ℕ → Flight → List Effect
found_all family number state size zero flight = []
found_all family number state size (suc more) flight =
    found_lines family number state 1 (take size flight) ++ found_all family number state size more (drop size flight)

-- after a write the words of all probes are behind those in flight, and with those of so many writes before they are
-- searched
abbrev pub found_after : Family → List Key → ℕ → ℕ → ℕ → State → Flight → List Effect
found_after family probes depth number waiting state flight =
    elim (waiting == depth) [
      | true ↦ found_lines family number state 1 (take (length probes) (flight ++ probe_words state probes))
      | false ↦ []
    ]

-- what is left in flight then
abbrev pub flight_left : List Key → ℕ → ℕ → State → Flight → Flight
flight_left probes depth waiting state flight =
    elim (waiting == depth) [
      | true ↦ drop (length probes) (flight ++ probe_words state probes)
      | false ↦ flight ++ probe_words state probes
    ]
