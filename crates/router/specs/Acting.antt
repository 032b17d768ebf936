-- What a router does by one act, to its devices and to a sink that may tell or not.
use Rattle.std.specs.Prelude.{◌≡◌, ℕ, ◌++◌, ◌∷◌, Option, None, Some, IsSome, is_some, Result, Ok, Err, List, [], if◌then◌else◌}
use Rattle.std.specs.Io.KnownBytes.{Appends}
use Rattle.split_device.specs.declared.SplitAction.{SplitAction}
use Rattle.split_device.specs.declared.SplitAction.TheVariants.{Written}
use Rattle.split_device.specs.declared.SplitWrite.{SplitWrite}
use Rattle.router.specs.declared.Side.{Side}
use Rattle.router.specs.declared.Side.TheVariants as side
use Rattle.router.specs.declared.RouterAct.{RouterAct}
use Rattle.router.specs.declared.RouterFault.{RouterFault}
use Rattle.router.specs.declared.RouterFault.TheVariants.{BatchFull, Sink, Device, Memory, Held}
use Rattle.router.specs.Run.{DeviceSlots, Effect, HasEffects, IsCutStep, Makes, Prints, Progress, Setting, TakesMemory, made_of_list, made_of_routes, printed, writes_of}
use Rattle.router.specs.Routing.{AreAt, Routing, held_left, progress_of, setting_of}

-- what was made of both devices since they were blank, and what the sink took
pub record Outside : Type 0 where
  pub list : List SplitAction
  pub routes : List SplitAction
  pub taken : Option (List ℕ)

abbrev pub outside : List SplitAction → List SplitAction → Option (List ℕ) → Outside
outside list routes taken = record { list = list; routes = routes; taken = taken }

-- these effects and a part of a further line came about
pub record Does (effects : List Effect) (partial : List ℕ) (before after : Outside) : Type 0 where
  pub list : after.list ≡ before.list ++ made_of_list effects
  pub routes : after.routes ≡ before.routes ++ made_of_routes effects
  pub report : Appends before.taken after.taken (printed effects ++ partial)

-- the act is carried out, and the run stands there
pub record Carries (setting : Setting) (slots : DeviceSlots) (old : Progress) (act : RouterAct) (new : Progress) (before after : Outside) : Type 0 where
  pub effects : List Effect
  pub step : HasEffects setting slots old act effects new
  pub does : Does effects [] before after

-- it is cut at a line that the sink didn't take whole
pub record CutsAtLine (setting : Setting) (slots : DeviceSlots) (old : Progress) (act : RouterAct) (before after : Outside) : Type 0 where
  pub front : List Effect
  pub partial : List ℕ
  pub rest : List ℕ
  pub cut : IsCutStep setting slots old act front (Prints (partial ++ rest))
  pub does : Does front partial before after

-- It is cut at a part that this table's device didn't take: from that one on so many parts are left, of both tables.
pub record CutsAtPart (setting : Setting) (slots : DeviceSlots) (old : Progress) (act : RouterAct) (which : Side) (left : Option ℕ) (before after : Outside) : Type 0 where
  pub front : List Effect
  pub part : SplitWrite
  pub cut : IsCutStep setting slots old act front (Makes which (Written part))
  pub does : Does front [] before after
  pub left_is : left ≡ Some (writes_of (Makes which (Written part) ∷ cut.back))

-- the pending batches and the counts are as before
pub record KeepsCounts (old new : Routing) : Type 0 where
  pub list_batch : new.list_batch ≡ old.list_batch
  pub route_batch : new.route_batch ≡ old.route_batch
  pub commits : new.commits ≡ old.commits
  pub writes : new.writes ≡ old.writes
  pub refused : new.refused ≡ old.refused

-- nothing is done, not of the router, of its devices, or of the sink
pub record NothingIsDone (old new : Routing) (before after : Outside) : Type 0 where
  pub router : new ≡ old
  pub outside_is : after ≡ before

-- the table whose part failed where the rest of a commit is held: the list where its plan is held still, and else the routes
abbrev pub failed_side : Routing → Side
failed_side router = if is_some router.listed.whole.held then side.List else side.Routes

-- What an act comes to, by the answer. Where the devices are where the router stands, the act is carried out, or cut at the
-- line or at the part that failed. For want of memory or of room, or while a commit is unfinished, nothing is done.
abbrev pub ComesTo : DeviceSlots → Routing → RouterAct → Routing → Result (Unit {0}) RouterFault → Outside → Outside → Type 0
ComesTo slots old act new (Ok done) before after =
    AreAt old before.list before.routes → Carries (setting_of old) slots (progress_of old) act (progress_of new) before after
ComesTo slots old act new (Err Sink) before after =
    AreAt old before.list before.routes → CutsAtLine (setting_of old) slots (progress_of old) act before after
ComesTo slots old act new (Err Device) before after =
    KeepsCounts old new
    × (AreAt old before.list before.routes → CutsAtPart (setting_of old) slots (progress_of old) act (failed_side new) (held_left slots new) before after)
ComesTo slots old act new (Err Memory) before after = TakesMemory (setting_of old) (progress_of old) act × NothingIsDone old new before after
ComesTo slots old act new (Err BatchFull) before after = NothingIsDone old new before after
ComesTo slots old act new (Err (Held left)) before after = NothingIsDone old new before after

-- held is answered with what is left of an unfinished commit, and else never
abbrev pub IsNotHeld : Result (Unit {0}) RouterFault → Type 0
IsNotHeld (Ok done) = Unit {0}
IsNotHeld (Err Sink) = Unit {0}
IsNotHeld (Err Device) = Unit {0}
IsNotHeld (Err Memory) = Unit {0}
IsNotHeld (Err BatchFull) = Unit {0}
IsNotHeld (Err (Held left)) = ⊥

abbrev pub AnswersHeld : Option ℕ → Result (Unit {0}) RouterFault → Type 0
AnswersHeld (Some left) result = result ≡ Err (Held left)
AnswersHeld None result = IsNotHeld result

-- A part of this table's device failed at each try: of the list's where its plan is held still, and else of the routes'.
abbrev pub FailedAt : Side → Routing → Result (Unit {0}) RouterFault → Type 0
FailedAt side.List new result = (result ≡ Err Device) × IsSome new.listed.whole.held
FailedAt side.Routes new result = (result ≡ Err Device) × (new.listed.whole.held ≡ None)
