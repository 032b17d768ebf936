-- What a judge of lines keeps, when that is right, and what each line makes of it.
use Rattle.std.specs.Prelude.{◌≡◌, ◌≢◌, ◌⊎◌, ℕ, ◌+◌, true, false, IsTrue, IfSome, IsSome, Option, Some, None, Result, Ok, Err, List, [], ◌∷◌, ◌++◌, Contains, length, slice_get}
use Rattle.slot_order.specs.Order.{slot}
use Rattle.rule_model.specs.declared.Key.{Key}
use Rattle.rule_model.specs.Key.{IsKey}
use Rattle.rule_model.specs.Rule.{rule_matches}
use Rattle.rule_model.specs.RuleSet.{answer}
use Rattle.rule_model.specs.declared.Rule.{Rule}
use Rattle.rule_model.specs.declared.words.Entry.{Entry}
use Rattle.rule_store.specs.declared.Command.{Command}
use Rattle.rule_store.specs.Batch.{IsSound, named_priority, set_after}
use Rattle.tcam_device.specs.State.{State, lookup}
use Rattle.trace_check.specs.declared.places.Place.{Place}
use Rattle.trace_check.specs.declared.places.Place.TheVariants.{AtStart, Between, InBatch, InEvents, AtEnd}
use Rattle.trace_check.specs.Places.{place_by}
use Rattle.driver_trace.specs.declared.Asked.{Asked}
use Rattle.driver_trace.specs.declared.Asked.TheVariants.{OldOrNew, Nothing}
use Rattle.driver_trace.specs.declared.Compared.{Compared}
use Rattle.driver_trace.specs.declared.DriverLine.{DriverLine}
use Rattle.driver_trace.specs.Compared.{ShowsBy, ShowsOldOrNewBy}
use Rattle.driver_trace.specs.DriverLines.{driver_kind}
use Rattle.driver_trace.specs.Judged.{IsHitlessLine, IsLeak, IsLeakAt, IsWrong, asked_by}
use Rattle.driver_trace.specs.Known.{Known, agrees, known_on, rules_ahead}
use Rattle.word_cubes.specs.declared.Cube.{Cube}
use Rattle.write_judge.specs.Judging.{IsRightIn, StateBetween}
use Rattle.line_judge.specs.declared.LineFault.{LineFault}
use Rattle.line_judge.specs.declared.LineFault.TheVariants.{Misplaced, Leaks, NotJudged, Memory}
use Rattle.line_judge.specs.declared.track.Track.{Track}

-- what is known
abbrev pub known_of : Track → Known
known_of track =
    record {
      version = track.version;
      slots = track.slots;
      rules = track.rules;
      batch = track.batch;
      state = track.device;
      writes = track.writes;
      commits = track.commits;
    }

-- Between commits no command is pending, and the device shows the set; so it does among the commands of one, which are
-- sound; and among its events it shows the set or the one that it leads to.
abbrev pub IsShownAt : Compared → Place → Known → Type 0
IsShownAt by AtStart now = (now.batch ≡ []) × ShowsBy by now.state now.rules
IsShownAt by (Between n) now = (now.batch ≡ []) × ShowsBy by now.state now.rules
IsShownAt by (InBatch n k) now = IsSound now.rules now.batch × ShowsBy by now.state now.rules
IsShownAt by (InEvents n) now = IsSound now.rules now.batch × ShowsOldOrNewBy by now.state now.rules (rules_ahead now)
IsShownAt by AtEnd now = Unit {0}

-- What is kept of a trace that stands at a place is right.
pub record IsRightTrack (place : Place) (track : Track) : Type 0 where
  pub sized : length track.device.slots ≡ track.slots
  pub shown : IsShownAt track.by place (known_of track)
  pub ahead : IfSome track.ahead (λ set. set ≡ set_after track.rules track.batch)

-- what a line may be asked: what is kept is right, and it may stand but for what is known
pub record MayBeTaken (track : Track) (line : DriverLine) : Type 0 where
  pub right : IsRightTrack track.place track
  pub stands : IsSome (place_by track.slots track.place (driver_kind line))

-- A line was taken: it agrees with what is known, is hitless, and what is kept is right behind it.
pub record TakesLine (before : Track) (line : DriverLine) (after : Track) : Type 0 where
  pub agreed : agrees (known_of before) line ≡ true
  pub hitless : IsHitlessLine before.by (known_of before) line
  pub knows : known_of after ≡ known_on (known_of before) line
  pub same : after.by ≡ before.by
  pub right : (next : Place) → place_by before.slots before.place (driver_kind line) ≡ Some next → IsRightTrack next after

-- It wasn't: it doesn't agree with what is known; or a packet gets a wrong answer behind it, or it wasn't judged; or there
-- was no memory.
abbrev pub StopsAt : Track → DriverLine → LineFault → Type 0
StopsAt before line Misplaced = agrees (known_of before) line ≡ false
StopsAt before line (Leaks leak) = (agrees (known_of before) line ≡ true) × IsLeakAt before.by (known_of before) line leak
StopsAt before line NotJudged = (agrees (known_of before) line ≡ true) × (asked_by line ≢ Nothing)
StopsAt before line Memory = Unit {0}

-- the device of a track between its set and the one that the commit under way leads to
abbrev pub between : Track → StateBetween
between track = record { state = track.device; old = track.rules; new = set_after track.rules track.batch }

-- the words that an entry hits
abbrev pub entry_cube : Entry → Cube
entry_cube entry = record { value = entry.value; mask = entry.mask }

-- no key that a slot's entry hits gets a wrong answer
abbrev pub IsRightWhereHit : Compared → Asked → StateBetween → Option Entry → Type 0
IsRightWhereHit by asked now None = Unit {0}
IsRightWhereHit by asked now (Some entry) = IsRightIn by asked now (entry_cube entry)

-- why a judgement didn't come to an end: a key gets a wrong answer, or it isn't known
abbrev pub IsFaultOf : Compared → Asked → StateBetween → LineFault → Type 0
IsFaultOf by asked now Misplaced = ⊥
IsFaultOf by asked now (Leaks leak) = IsLeak by now.state now.old now.new asked leak
IsFaultOf by asked now NotJudged = Unit {0}
IsFaultOf by asked now Memory = Unit {0}

-- the set that the commit under way leads to is known, if it is there
abbrev pub IsAhead : Track → Type 0
IsAhead track = IfSome track.ahead (λ set. set ≡ set_after track.rules track.batch)

-- A commit is under way, whose batch is sound: the device shows the set, or the one that the commit leads to.
pub record IsOpen (track : Track) : Type 0 where
  pub sized : length track.device.slots ≡ track.slots
  pub sound : IsSound track.rules track.batch
  pub shown : ShowsOldOrNewBy track.by track.device track.rules (set_after track.rules track.batch)
  pub ahead : IsAhead track

-- One event more was judged: the device has another state, which is right.
pub record IsJudgedEvent (before : Track) (state : State) (after : Track) : Type 0 where
  pub open_again : IsOpen after
  pub by_is : after.by ≡ before.by
  pub known : known_of after ≡ record (known_of before) { state = state; writes = before.writes + 1 }
  pub slots_are : after.slots ≡ before.slots
  pub shows : ShowsOldOrNewBy before.by state before.rules (set_after before.rules before.batch)

-- why an event wasn't
abbrev pub IsEventFault : Track → State → LineFault → Type 0
IsEventFault before state fault =
    IsFaultOf before.by OldOrNew (record { state = state; old = before.rules; new = set_after before.rules before.batch }) fault

-- what a judgement of a cube's keys comes to: they are right, or why it isn't known
abbrev pub IsOutcome : {U : Type 0} → Compared → Asked → StateBetween → Cube → Result U LineFault → Type 0
IsOutcome by asked now cube (Ok done) = IsRightIn by asked now cube
IsOutcome by asked now cube (Err fault) = IsFaultOf by asked now fault

-- of the keys that a slot's entry hits,
abbrev pub IsHeldOutcome : {U : Type 0} → Compared → StateBetween → Option Entry → Result U LineFault → Type 0
IsHeldOutcome by now content (Ok done) = IsRightWhereHit by OldOrNew now content
IsHeldOutcome by now content (Err fault) = IsFaultOf by OldOrNew now fault

-- or some entry of a block
abbrev pub AreRightWhereHit : Compared → StateBetween → List (Option Entry) → Type 0
AreRightWhereHit by now block = (at : ℕ) → IsRightWhereHit by OldOrNew now (slot block at)

abbrev pub IsBlockOutcome : {U : Type 0} → Compared → StateBetween → List (Option Entry) → Result U LineFault → Type 0
IsBlockOutcome by now block (Ok done) = AreRightWhereHit by now block
IsBlockOutcome by now block (Err fault) = IsFaultOf by OldOrNew now fault

-- no key that the rule matches gets a wrong answer
abbrev pub IsRightWhereMatched : Compared → Asked → StateBetween → Rule → Type 0
IsRightWhereMatched by asked now rule =
    (key : Key) → IsKey key → IsTrue (rule_matches rule key) → IsWrong by (lookup now.state key) (answer now.old key) (answer now.new key) asked → ⊥

-- of the keys that a set's rule of a priority matches,
abbrev pub IsRuleOutcome : {U : Type 0} → Compared → Asked → StateBetween → List Rule → ℕ → Result U LineFault → Type 0
IsRuleOutcome by asked now set priority (Ok done) =
    (rule : Rule) → Contains set rule → rule.priority ≡ priority → IsRightWhereMatched by asked now rule
IsRuleOutcome by asked now set priority (Err fault) = IsFaultOf by asked now fault

-- or one of either set,
abbrev pub AreRightAt : Compared → Asked → StateBetween → ℕ → Type 0
AreRightAt by asked now priority =
    (rule : Rule) → Contains now.old rule ⊎ Contains now.new rule → rule.priority ≡ priority → IsRightWhereMatched by asked now rule

abbrev pub IsPriorityOutcome : {U : Type 0} → Compared → Asked → StateBetween → ℕ → Result U LineFault → Type 0
IsPriorityOutcome by asked now priority (Ok done) = AreRightAt by asked now priority
IsPriorityOutcome by asked now priority (Err fault) = IsFaultOf by asked now fault

-- or one whose priority a command names
abbrev pub IsEndOutcome : {U : Type 0} → Compared → Asked → StateBetween → List Command → Result U LineFault → Type 0
IsEndOutcome by asked now batch (Ok done) =
    (i : ℕ) (command : Command) → slice_get batch i ≡ Some command → AreRightAt by asked now (named_priority command)
IsEndOutcome by asked now batch (Err fault) = IsFaultOf by asked now fault

-- a command isn't taken: it can't be meant, or there was no memory
abbrev pub IsPushFault : Track → Command → LineFault → Type 0
IsPushFault before command Misplaced = IsSound before.rules (before.batch ++ command ∷ []) → ⊥
IsPushFault before command (Leaks leak) = ⊥
IsPushFault before command NotJudged = ⊥
IsPushFault before command Memory = Unit {0}

-- The commit came to an end with this set, which every key gets its answer of.
pub record IsEndedWith (before : Track) (rules : List Rule) (after : Track) : Type 0 where
  pub shows : ShowsBy before.by before.device rules
  pub by_is : after.by ≡ before.by
  pub known : known_of after ≡ record (known_of before) { rules = rules; batch = []; commits = before.commits + 1 }
  pub ahead : after.ahead ≡ None
