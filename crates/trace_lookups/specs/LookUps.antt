-- Look-ups of two events over a trace: a key's word is made by the tables at one moment, and searched in the slots at a later
-- one.
use Rattle.std.specs.Prelude.{◌≡◌, ◌≢◌, ◌⊎◌, ℕ, Bool, Some, None, List, [], ◌∷◌, ◌++◌}
use Rattle.std.specs.List.{AllByRecursion}
use Rattle.rule_model.specs.declared.IpVersion.{IpVersion}
use Rattle.rule_model.specs.declared.Key.{Key}
use Rattle.rule_model.specs.Key.{IsKey}
use Rattle.rule_model.specs.RuleSet.{Answer, answer}
use Rattle.rule_store.specs.Batch.{set_after}
use Rattle.tcam_device.specs.declared.Action.{Action}
use Rattle.tcam_device.specs.declared.Action.TheVariants.{Written, Drained}
use Rattle.tcam_device.specs.declared.Write.TheVariants as write
use Rattle.tcam_device.specs.Flight.{Event, Pipeline, MayGo, actions_in, searches, word_answer}
use Rattle.tcam_device.specs.State.{State, blank, lookup, search_word}
use Rattle.commit_writes.specs.Bits.{no_bits}
use Rattle.commit_writes.specs.InFlight.{IsLookUp, ServingTo}
use Rattle.commit_writes.specs.Segments.{IsFrontOf}
use Rattle.trace_file.specs.declared.TraceLine.{TraceLine}
use Rattle.trace_file.specs.declared.TraceLine.TheVariants.{Head, Put, Erase, Table, Drain}
use Rattle.trace_file.specs.Forms.{IsTraceLine}
use Rattle.trace_check.specs.declared.places.Place.{Place}
use Rattle.trace_check.specs.declared.places.Place.TheVariants.{AtStart}
use Rattle.trace_check.specs.Orderly.{Tracing, untraced, traced_on, Follow, IsOrderly}
use Rattle.trace_check.specs.Checked.{Checked, nothing_checked, TakesAll}

-- the lines may stand one behind the other from the start on: they are a trace, or the first lines of one
abbrev pub BeginTrace : List TraceLine → Type 0
BeginTrace lines = (end : Place) × Follow untraced AtStart lines end

-- what is known behind some lines
abbrev pub known_behind : Tracing → List TraceLine → Tracing
known_behind now [] = now
known_behind now (line ∷ lines) = known_behind (traced_on now line) lines

-- no drain stands among some lines
abbrev pub HasNoDrain : List TraceLine → Type 0
HasNoDrain lines = AllByRecursion (λ line. line ≢ Drain) lines

-- what the slots now answer a key's word that the tables made then
abbrev pub late_answer : State → State → Key → Answer
late_answer made now key = word_answer now (search_word made key)

-- A look-up whose word was made at one moment of a trace and is searched at another one: it answers as an undivided one does
-- now. That is the answer of the set before the commit that is under way now or of the set after it, by its commands so far;
-- between two commits both are the set that there is.
pub record AnswersAsNow (made now : Tracing) (key : Key) : Type 0 where
  pub as_look_up : late_answer made.state now.state key ≡ lookup now.state key
  pub old_or_new :
      (late_answer made.state now.state key ≡ answer now.rules key) ⊎ (late_answer made.state now.state key ≡ answer (set_after now.rules now.batch) key)

-- Each look-up of two events over a trace is served so: the word of any key is made behind the first lines, whichever these
-- are, and searched behind some more, among which no drain stands.
abbrev pub ServesLookUps : List TraceLine → Type 0
ServesLookUps lines =
    (first between later : List TraceLine) (key : Key) → lines ≡ first ++ (between ++ later) → HasNoDrain between → IsKey key
    → AnswersAsNow (known_behind untraced first) (known_behind untraced (first ++ between)) key

-- So it is over every orderly trace, by covers and by bits, and over the first lines of one,
abbrev pub OrderlyTracesServeLookUps : Type 0
OrderlyTracesServeLookUps =
    (lines : List TraceLine) → AllByRecursion IsTraceLine lines → BeginTrace lines → IsOrderly lines → ServesLookUps lines

-- and so over lines that a checker took, wherever it stands.
abbrev pub TakenTracesServeLookUps : Type 0
TakenTracesServeLookUps =
    (lines : List TraceLine) (end : Checked) → AllByRecursion IsTraceLine lines → TakesAll nothing_checked lines end → ServesLookUps lines

-- the writes and drains of some lines
abbrev pub trace_actions : List TraceLine → List Action
trace_actions [] = []
trace_actions (Put slot entry ∷ lines) = Written (write.Slot slot (Some entry)) ∷ trace_actions lines
trace_actions (Erase slot ∷ lines) = Written (write.Slot slot None) ∷ trace_actions lines
trace_actions (Table field port word ∷ lines) = Written (write.Table field port word) ∷ trace_actions lines
trace_actions (Drain ∷ lines) = Drained ∷ trace_actions lines
trace_actions (line ∷ lines) = trace_actions lines

-- In the words of what the device serves: the writes and drains of an orderly trace, or of its first lines, serve live ranges
-- all the way, and those of the set that is known behind them in the end.
abbrev pub OrderlyTracesServe : Type 0
OrderlyTracesServe =
    (version : IpVersion) (acl bits : Bool) (slots : ℕ) (lines : List TraceLine) → AllByRecursion IsTraceLine (Head version acl bits slots ∷ lines)
    → BeginTrace (Head version acl bits slots ∷ lines) → IsOrderly (Head version acl bits slots ∷ lines)
    → ServingTo no_bits (blank slots) (trace_actions lines) (known_behind untraced (Head version acl bits slots ∷ lines)).bits

-- a search has the answer of the set before the commit that is under way, or of the set after it, at a moment of the trace at
-- which the device is as at the search
abbrev pub IsOldOrNewOver : List TraceLine → State × Key × Answer → Type 0
IsOldOrNewOver lines (state, key, found) =
    (first : List TraceLine) × (later : List TraceLine) × (lines ≡ first ++ later) × ((known_behind untraced first).state ≡ state)
    × ((found ≡ answer (known_behind untraced first).rules key)
    ⊎ (found ≡ answer (set_after (known_behind untraced first).rules (known_behind untraced first).batch) key))

-- So over a device without a word in flight at first: while these are made in their order, all of them or the first, and
-- translations and searches stand anywhere between, each search answers what an undivided look-up of its key would answer at
-- that moment, and that is the old or the new set's answer.
abbrev pub OrderlyTracesAnswerAsLookUps : Type 0
OrderlyTracesAnswerAsLookUps =
    (version : IpVersion) (acl bits : Bool) (slots : ℕ) (lines : List TraceLine) (events : List Event) → AllByRecursion IsTraceLine (Head version acl bits slots ∷ lines)
    → BeginTrace (Head version acl bits slots ∷ lines) → IsOrderly (Head version acl bits slots ∷ lines)
    → let line : Pipeline = record { state = blank slots; flight = [] } in
    IsFrontOf (actions_in events) (trace_actions lines) → MayGo line events
    → AllByRecursion IsLookUp (searches line events) × AllByRecursion (IsOldOrNewOver (Head version acl bits slots ∷ lines)) (searches line events)
