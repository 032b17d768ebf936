-- What a run does by one act, to a device and to a sink that may tell or not.
use Rattle.std.specs.Prelude.{◌≡◌, ℕ, ◌++◌, Option, List, [], ◌∷◌}
use Rattle.std.specs.Io.KnownBytes.{Appends}
use Rattle.tcam_device.specs.declared.Write.{Write}
use Rattle.tcam_device.specs.declared.Action.{Action}
use Rattle.tcam_device.specs.declared.Action.TheVariants.{Written}
use Rattle.tcam_device.specs.State.{replay}
use Rattle.tcam_device.specs.Flight.{writes_in}
use Rattle.replay.specs.declared.Act.{Act}
use Rattle.replay.specs.Effects.{Setting, Effect, Acts, Prints, events_in, printed}
use Rattle.replay.specs.Run.{Progress, HasEffects, IsCutStep, TakesMemory}

-- the device is where the run stands
abbrev pub IsAt : ℕ → List Action → Progress → Type 0
IsAt slots events progress = progress.state ≡ replay slots (writes_in events)

-- these effects and a part of a further line came about
pub record Does (effects : List Effect) (partial : List ℕ) (events_old events_new : List Action) (taken_old taken_new : Option (List ℕ)) : Type 0 where
  pub events : events_new ≡ events_old ++ events_in effects
  pub report : Appends taken_old taken_new (printed effects ++ partial)

-- the act is carried out, and the run stands there
pub record Carries (setting : Setting) (old : Progress) (act : Act) (new : Progress) (events_old events_new : List Action) (taken_old taken_new : Option (List ℕ)) : Type 0 where
  pub effects : List Effect
  pub step : HasEffects setting old act effects new
  pub does : Does effects [] events_old events_new taken_old taken_new

-- it is cut at a line that the sink didn't take whole
pub record CutsAtLine (setting : Setting) (old : Progress) (act : Act) (events_old events_new : List Action) (taken_old taken_new : Option (List ℕ)) : Type 0 where
  pub front : List Effect
  pub partial : List ℕ
  pub rest : List ℕ
  pub cut : IsCutStep setting old act front (Prints (partial ++ rest))
  pub does : Does front partial events_old events_new taken_old taken_new

-- it is cut at a write that the device didn't take
pub record CutsAtWrite (setting : Setting) (old : Progress) (act : Act) (events_old events_new : List Action) (taken_old taken_new : Option (List ℕ)) : Type 0 where
  pub front : List Effect
  pub write : Write
  pub cut : IsCutStep setting old act front (Acts (Written write))
  pub does : Does front [] events_old events_new taken_old taken_new

-- it wants memory, behind these effects
pub record Wants (setting : Setting) (old : Progress) (act : Act) (events_old events_new : List Action) (taken_old taken_new : Option (List ℕ)) : Type 0 where
  pub effects : List Effect
  pub needs : TakesMemory setting old act effects
  pub does : Does effects [] events_old events_new taken_old taken_new

-- effects came about up to a line that the sink didn't take whole
pub record CutsEffects (effects : List Effect) (events_old events_new : List Action) (taken_old taken_new : Option (List ℕ)) : Type 0 where
  pub front : List Effect
  pub partial : List ℕ
  pub rest : List ℕ
  pub back : List Effect
  pub cut : effects ≡ front ++ Prints (partial ++ rest) ∷ back
  pub does : Does front partial events_old events_new taken_old taken_new
