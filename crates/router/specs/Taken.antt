-- A commit that both tables have taken, and one that isn't planned.
use Rattle.std.specs.Prelude.{◌≡◌, ◌⊎◌, ◌+◌, ◌++◌, ℕ, Bool, Option, List}
use Rattle.rule_model.specs.declared.IpVersion.{IpVersion}
use Rattle.rule_store.specs.Verdict.{Verdict, Accepted}
use Rattle.batch_order.specs.declared.Refusal.{Refusal}
use Rattle.batch_order.specs.declared.Refusal.TheVariants as refusal
use Rattle.split_writes.specs.declared.SplitDone.{SplitDone}
use Rattle.split_device.specs.declared.SplitAction.{SplitAction}
use Rattle.split_order.specs.CarriedOut.{finished_split}
use Rattle.split_order.specs.Left.{left_of}
use Rattle.split_order.specs.Prepared.{HoldsSplit}
use Rattle.report_lines.specs.Told.{verdict_told}
use Rattle.router.specs.declared.Side.{Side}
use Rattle.router.specs.declared.Side.TheVariants as side
use Rattle.router.specs.declared.committing.Unplanned.{Unplanned}
use Rattle.router.specs.declared.committing.Unplanned.TheVariants.{Memory, Refused}
use Rattle.router.specs.Run.{DeviceSlots, drains_in, verdict_of}
use Rattle.router.specs.declared.carrying.Halt.{Halt}
use Rattle.router.specs.declared.carrying.Halt.TheVariants as halt
use Rattle.router.specs.Carried.{AreTold, AreToldButOne, IsCutAt, IsStuckAt}
use Rattle.router.specs.Routing.{IsIdle, IsRouter, Routing, progress_of, setting_of}

-- the verdicts on both pending batches
abbrev pub list_verdict : Routing → Verdict
list_verdict router = verdict_of (setting_of router) (progress_of router).listed

abbrev pub route_verdict : Routing → Verdict
route_verdict router = verdict_of (setting_of router) (progress_of router).routed

-- Both tables of a router hold the plans of their pending batches, with so many parts.
pub record AreBothTaken (before now : Routing) (listed routed : ℕ) : Type 0 where
  pub router : IsRouter before
  pub idle : IsIdle before
  pub list_accepted : list_verdict before ≡ Accepted
  pub route_accepted : route_verdict before ≡ Accepted
  pub list_counts : SplitDone
  pub list_holds : HoldsSplit before.listed before.list_batch list_counts now.listed
  pub listed_is : listed ≡ list_counts.writes
  pub route_counts : SplitDone
  pub route_holds : HoldsSplit before.routed before.route_batch route_counts now.routed
  pub routed_is : routed ≡ route_counts.writes
  pub now_is : now ≡ record before { listed = now.listed; routed = now.routed }

-- Why a commit isn't planned: its batch is accepted by the list, and memory is wanting; or a table refuses, the routes where
-- the list doesn't.
abbrev pub IsUnplannedBy : Routing → Unplanned → Type 0
IsUnplannedBy router Memory = list_verdict router ≡ Accepted
IsUnplannedBy router (Refused side.List reason) = list_verdict router ≡ verdict_told reason
IsUnplannedBy router (Refused side.Routes reason) = (list_verdict router ≡ Accepted) × (route_verdict router ≡ verdict_told reason)

-- a manager with no commit under way isn't busy
abbrev pub IsNotBusy : Refusal → Type 0
IsNotBusy (refusal.Busy left) = ⊥
IsNotBusy refusal.Memory = Unit {0}
IsNotBusy (refusal.Rejected reason) = Unit {0}

-- what its refusal says
abbrev pub unplanned_by : Side → Refusal → Unplanned
unplanned_by which (refusal.Busy left) = Memory
unplanned_by which refusal.Memory = Memory
unplanned_by which (refusal.Rejected reason) = Refused which reason

-- what was made of both devices since they were blank
pub record MadeOfBoth : Type 0 where
  pub list : List SplitAction
  pub routes : List SplitAction

abbrev pub made_on : List SplitAction → List SplitAction → MadeOfBoth
made_on list routes = record { list = list; routes = routes }

-- Both plans were made to their ends, with so many drains.
pub record IsMadeBy (slots : DeviceSlots) (old : Routing) (drains : ℕ) (new : Routing) (before after : MadeOfBoth) : Type 0 where
  pub new_is : new ≡ record old { listed = finished_split slots.listed old.listed; routed = finished_split slots.routed old.routed }
  pub count : drains ≡ drains_in (left_of slots.listed old.listed) + drains_in (left_of slots.routed old.routed)
  pub list : after.list ≡ before.list ++ left_of slots.listed old.listed
  pub routes : after.routes ≡ before.routes ++ left_of slots.routed old.routed

-- what was told of both, the list's first
pub record AreBothTold (trace : Bool) (version : IpVersion) (from to : MadeOfBoth) (before after : Option (List ℕ)) : Type 0 where
  pub between : Option (List ℕ)
  pub list : AreTold trace version side.List from.list to.list before between
  pub routes : AreTold trace version side.Routes from.routes to.routes between after

-- or a part of the list's failed,
pub record IsStuckInList (slots : DeviceSlots) (old new : Routing) (before after : MadeOfBoth) : Type 0 where
  pub stuck : IsStuckAt slots.listed old.listed new.listed before.list after.list
  pub new_is : new ≡ record old { listed = new.listed }
  pub routes : after.routes ≡ before.routes

-- or one of the routes', with the list's made
pub record IsStuckInRoutes (slots : DeviceSlots) (old new : Routing) (before after : MadeOfBoth) : Type 0 where
  pub stuck : IsStuckAt slots.routed old.routed new.routed before.routes after.routes
  pub new_is : new ≡ record old { listed = finished_split slots.listed old.listed; routed = new.routed }
  pub list : after.list ≡ before.list ++ left_of slots.listed old.listed

abbrev pub IsStuckInEither : DeviceSlots → Routing → Routing → MadeOfBoth → MadeOfBoth → Type 0
IsStuckInEither slots old new before after = IsStuckInList slots old new before after ⊎ IsStuckInRoutes slots old new before after

-- or a line of the list's trace was refused, by either count of what the sink took,
pub record IsCutInList (slots : DeviceSlots) (old new : Routing) (from to : MadeOfBoth) (before after : Bool → Option (List ℕ)) : Type 0 where
  pub cut : IsCutAt slots.listed old.listed new.listed from.list to.list
  pub new_is : new ≡ record old { listed = new.listed }
  pub routes : to.routes ≡ from.routes
  pub told : (which : Bool) → AreToldButOne old.trace old.version side.List from.list to.list (before which) (after which)

-- or one of the routes'
pub record IsCutInRoutes (slots : DeviceSlots) (old new : Routing) (from to : MadeOfBoth) (before after : Bool → Option (List ℕ)) : Type 0 where
  pub cut : IsCutAt slots.routed old.routed new.routed from.routes to.routes
  pub new_is : new ≡ record old { listed = finished_split slots.listed old.listed; routed = new.routed }
  pub list : to.list ≡ from.list ++ left_of slots.listed old.listed
  pub told : (which : Bool) → (between : Option (List ℕ)) × AreTold old.trace old.version side.List from.list to.list (before which) between
      × AreToldButOne old.trace old.version side.Routes from.routes to.routes between (after which)

-- why both weren't made to their ends, with what was told until then
abbrev pub StopsBoth : Halt → DeviceSlots → Routing → Routing → MadeOfBoth → MadeOfBoth → (Bool → Option (List ℕ)) → (Bool → Option (List ℕ)) → Type 0
StopsBoth halt.Device slots old new from to before after =
    IsStuckInEither slots old new from to × ((which : Bool) → AreBothTold old.trace old.version from to (before which) (after which))
StopsBoth halt.Sink slots old new from to before after = IsCutInList slots old new from to before after ⊎ IsCutInRoutes slots old new from to before after
