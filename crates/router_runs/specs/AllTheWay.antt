-- What packets see of one table of a router in the course of a run, in the words of rule sets: the acts lead from set to set, and
-- before the first, between any two and after the last part or drain of its device an undivided look-up of every key gets the answer
-- of one of these sets or of the next one.
use Rattle.std.specs.Prelude.{◌≡◌, ◌≢◌, ℕ, suc, ◌+◌, ◌≤◌, ◌⊎◌, false, Some, List, [], ◌∷◌, ◌++◌, take, slice_get}
use Rattle.rule_model.specs.declared.Key.{Key}
use Rattle.rule_model.specs.declared.Rule.{Rule}
use Rattle.rule_model.specs.Key.{IsKey}
use Rattle.rule_model.specs.RuleSet.{answer}
use Rattle.script_runs.specs.declared.Status.{Status}
use Rattle.script_runs.specs.declared.Status.TheVariants.{Done, Refused, Script as ScriptFault, ReadFault, WriteFault, DeviceFault, Memory, Usage}
use Rattle.script_runs.specs.Script.{Script, acts_of}
use Rattle.script_runs.specs.Places.{IsFirstPast}
use Rattle.split_device.specs.declared.SplitAction.{SplitAction}
use Rattle.split_device.specs.State.{SplitState, blank_split, split_after, split_lookup}
use Rattle.split_device.specs.Flight.{written}
use Rattle.router.specs.declared.Side.{Side}
use Rattle.router.specs.declared.RouterAct.{RouterAct}
use Rattle.router.specs.Run.{Setting}
use Rattle.router_runs.specs.RuleLists.{no_rules, table_sets, table_sets_through}

-- the state after some parts and drains
abbrev pub state_past : SplitState → List SplitAction → SplitState
state_past state events = split_after state (written events)

-- an undivided look-up of every key gets the answer of the set
abbrev pub LooksUp : SplitState → List Rule → Type 0
LooksUp state rules = (key : Key) → IsKey key → split_lookup state key ≡ answer rules key

-- or the answer of one of two
abbrev pub LooksUpEither : SplitState → List Rule → List Rule → Type 0
LooksUpEither state old new = (key : Key) → IsKey key → (split_lookup state key ≡ answer old key) ⊎ (split_lookup state key ≡ answer new key)

-- of the set at this place, or of the next one, where there is one
abbrev pub LooksUpSetOrNext : SplitState → List (List Rule) → ℕ → Type 0
LooksUpSetOrNext state sets place =
    (old : List Rule) × (new : List Rule) × (slice_get sets place ≡ Some old)
    × ((slice_get sets (place + 1) ≡ Some new) ⊎ (new ≡ old)) × LooksUpEither state old new

-- Before the first and after each of the events every key has the answer of one of the sets or of the next one, and the places of
-- these sets come in their order: none is gone back to. And where a place is first come to or passed, every key has the answer of the
-- set there: so a commit's last part leaves its new set, and no commit is made together with the next.
pub record LooksUpAllTheWay (state : SplitState) (sets : List (List Rule)) (events : List SplitAction) : Type 0 where
  pub place : ℕ → ℕ
  pub rises : (n m : ℕ) → n ≤ m → place n ≤ place m
  pub answers : (n : ℕ) → LooksUpSetOrNext (state_past state (take n events)) sets (place n)
  pub whole : (k n : ℕ) (rules : List Rule) → slice_get sets (suc k) ≡ Some rules → IsFirstPast place k n → LooksUp (state_past state (take n events)) rules

-- Every key has the answer of the first set after some of the events, that of the second after some more, and so on: each set is
-- shown whole, in turn.
abbrev pub AreLookedUpInTurn : SplitState → List (List Rule) → List SplitAction → Type 0
AreLookedUpInTurn state [] events = Unit {0}
AreLookedUpInTurn state (rules ∷ sets) events =
    (made : List SplitAction) × (behind : List SplitAction) × (events ≡ made ++ behind) × LooksUp (state_past state made) rules
    × AreLookedUpInTurn (state_past state made) sets behind

-- the sets are shown in turn, and after all of the events every key has the answer of the last one
pub record EndsAtLastSet (state : SplitState) (sets : List (List Rule)) (events : List SplitAction) : Type 0 where
  pub front : List (List Rule)
  pub rules : List Rule
  pub sets_are : sets ≡ front ++ rules ∷ []
  pub shows : LooksUp (state_past state events) rules
  pub in_turn : AreLookedUpInTurn state sets events

-- These acts are the first of the script, and so are their sets. All of them are carried out, so the events end at the last of their
-- sets.
pub record EndsAfterActs (state : SplitState) (which : Side) (setting : Setting) (script : Script RouterAct) (done : List RouterAct) (events : List SplitAction) : Type 0 where
  pub later : List RouterAct
  pub acts : acts_of script ≡ done ++ later
  pub behind : List (List Rule)
  pub sets : table_sets which setting script ≡ table_sets_through which setting no_rules done ++ behind
  pub answers : LooksUpAllTheWay state (table_sets_through which setting no_rules done) events
  pub ends : EndsAtLastSet state (table_sets_through which setting no_rules done) events

-- some first acts of the script are carried out whole: all, none, or any number of them
abbrev pub EndsAfterSomeActs : SplitState → Side → Setting → Script RouterAct → List SplitAction → Type 0
EndsAfterSomeActs state which setting script events = (done : List RouterAct) × EndsAfterActs state which setting script done events

-- Where the events of a table's device end, by the run's status: at the last set of the script, of what came of it, or of some first
-- acts. Memory is wanting only before a commit's first part, and without a trace a commit prints its line after its last: so neither
-- leaves a commit half made. A part that fails each time may, and so may a line of a trace, of one table, at which the run is cut: its
-- events then end within a commit, where each key has the answer of the set before it or of the one after it (`answers` of
-- IsHitlessTable), and nothing more can be said. The other table's part of that commit is made whole by then, or not begun.
abbrev pub EndsByStatus : SplitState → Side → Side → Setting → Script RouterAct → Script RouterAct → Status → List SplitAction → Type 0
EndsByStatus state cut which setting script came Done events = EndsAtLastSet state (table_sets which setting script) events
EndsByStatus state cut which setting script came Refused events = EndsAtLastSet state (table_sets which setting script) events
EndsByStatus state cut which setting script came ScriptFault events = EndsAtLastSet state (table_sets which setting script) events
EndsByStatus state cut which setting script came ReadFault events = EndsAfterActs state which setting script (acts_of came) events
EndsByStatus state cut which setting script came WriteFault events =
    (setting.trace ≡ false) ⊎ (which ≢ cut) → EndsAfterSomeActs state which setting script events
EndsByStatus state cut which setting script came DeviceFault events = which ≢ cut → EndsAfterSomeActs state which setting script events
EndsByStatus state cut which setting script came Memory events = EndsAfterSomeActs state which setting script events
EndsByStatus state cut which setting script came Usage events = ⊥

-- What packets see of one table, on a device of so many slots that was blank, of a run that is cut, if it is, at the table `cut`.
pub record IsHitlessTable (cut which : Side) (setting : Setting) (slots : ℕ) (script came : Script RouterAct) (status : Status) (events : List SplitAction) : Type 0 where
  pub answers : LooksUpAllTheWay (blank_split slots) (table_sets which setting script) events
  pub ends : EndsByStatus (blank_split slots) cut which setting script came status events
