-- Both tables' parts were made and told, or what carries one of them out was stopped: by its device or by the sink.
use Rattle.std.proofs.Common.{◌≡◌, inl, inr, Bool, Option, Err, List, [], ◌++◌, ℕ, refl, sym, ap, ◌∙◌, append-nil}
use Rattle.std.proofs.KnownBytes.{Appends-nil}
use Rattle.rule_model.specs.declared.IpVersion.{IpVersion}
use Rattle.rule_model.specs.declared.Rule.{Rule}
use Rattle.commit_writes.specs.Bits.{FieldBits}
use Rattle.batch_order.specs.Managed.{Managed}
use Rattle.split_device.specs.declared.SplitAction.{SplitAction}
use Rattle.split_order.specs.CarriedOut.{HasMade, finished_split}
use Rattle.split_order.specs.Left.{left_of}
use Rattle.split_order.specs.Managed.{SplitManaged}
use Rattle.router.specs.declared.Side.{Side}
use Rattle.router.specs.declared.Side.TheVariants as side
use Rattle.router.specs.declared.carrying.Halt.{Halt}
use Rattle.router.specs.declared.carrying.Halt.TheVariants as halt
use Rattle.router.specs.Run.{DeviceSlots, Setting}
use Rattle.router.specs.Routing.{AreAt, Routing, setting_of}
use Rattle.router.specs.Carried.{AreTold, StopsAt, TellsParts}
use Rattle.router.specs.Taken.{AreBothTold, StopsBoth, made_on}

-- nothing was made, and nothing told
nothing_told : (trace : Bool) (version : IpVersion) (which : Side) (events : List SplitAction) (taken : Option (List ℕ)) → AreTold trace version which events events taken taken
nothing_told trace version which events taken = record { made = []; grown = sym (append-nil events); report = Appends-nil taken }

-- the list's parts were told, and then the routes'
pub told_both : (trace : Bool) (version : IpVersion) (list list' routes routes' : List SplitAction) (before mid after : Option (List ℕ)) → AreTold trace version side.List list list' before mid
    → AreTold trace version side.Routes routes routes' mid after → AreBothTold trace version (made_on list routes) (made_on list' routes') before after
told_both trace version list list' routes routes' before mid after first next = record { between = mid; list = first; routes = next }

-- the list's part was stopped
pub stops_list : (why : Halt) (slots : DeviceSlots) (old : Routing) (listed : SplitManaged) (list list' routes : List SplitAction) (before after : Bool → Option (List ℕ))
    → StopsAt why slots.listed old.listed listed list list' → ((one : Bool) → TellsParts old.trace old.version side.List list list' (before one) (after one) (Err why))
    → StopsBoth why slots old (record old { listed = listed }) (made_on list routes) (made_on list' routes) before after
stops_list halt.Device slots old listed list list' routes before after stops tells = (
  inl (record { stuck = stops; new_is = refl; routes = refl }),
  λ one. record { between = after one; list = tells one; routes = nothing_told old.trace old.version side.Routes routes (after one) },
)
stops_list halt.Sink slots old listed list list' routes before after stops tells = inl (record { cut = stops; new_is = refl; routes = refl; told = tells })

-- or the routes'
pub stops_routes : (why : Halt) (slots : DeviceSlots) (old : Routing) (listed routed : SplitManaged) (list list' routes routes' : List SplitAction) (before mid after : Bool → Option (List ℕ))
    → listed ≡ finished_split slots.listed old.listed → list' ≡ list ++ left_of slots.listed old.listed → ((one : Bool) → AreTold old.trace old.version side.List list list' (before one) (mid one))
    → StopsAt why slots.routed old.routed routed routes routes' → ((one : Bool) → TellsParts old.trace old.version side.Routes routes routes' (mid one) (after one) (Err why))
    → StopsBoth why slots old (record old { listed = listed; routed = routed }) (made_on list routes) (made_on list' routes') before after
stops_routes halt.Device slots old listed routed list list' routes routes' before mid after is grown first stops tells = (
  inr (record { stuck = stops; new_is = ap (λ (manager : SplitManaged). record old { listed = manager; routed = routed }) is; list = grown }),
  λ one. record { between = mid one; list = first one; routes = tells one },
)
stops_routes halt.Sink slots old listed routed list list' routes routes' before mid after is grown first stops tells = inr (record {
  cut = stops;
  new_is = ap (λ (manager : SplitManaged). record old { listed = manager; routed = routed }) is;
  list = grown;
  told = λ one. (mid one, first one, tells one);
})

-- ---- the devices are where the router stands still, and its words stay

step_made : (slots : ℕ) (made : List SplitAction) (old now : SplitManaged) (events events' : List SplitAction) → HasMade slots made old now → events' ≡ events ++ made → events ≡ old.events → events' ≡ now.events
step_made slots made old now events events' has grown at = grown ∙ (ap (λ (some : List SplitAction). some ++ made) at ∙ sym has.events)

-- the words of a command line, by the planner of the list
abbrev setting_by : Managed → Routing → Setting
setting_by whole old = record { slots = whole.slots; mode = whole.mode; placement = whole.placement; version = old.version; trace = old.trace; large = old.large }

list_setting : (slots : ℕ) (made : List SplitAction) (old new : Routing) → HasMade slots made old.listed new.listed → new ≡ record old { listed = new.listed } → setting_of new ≡ setting_of old
list_setting slots made old new has is =
    ap setting_of is ∙ ap (λ (both : Managed × Option (List Rule × FieldBits × FieldBits)). setting_by both.0 old) has.outline_is

module _ (slots : DeviceSlots) (old new : Routing) (list list' routes routes' : List SplitAction) (before after : Bool → Option (List ℕ)) where
  pub stopped_at : (why : Halt) → StopsBoth why slots old new (made_on list routes) (made_on list' routes') before after → AreAt old list routes → AreAt new list' routes'
  stopped_at halt.Device (inl one, told) at = record {
    list = step_made slots.listed one.stuck.made old.listed new.listed list list' one.stuck.has_made one.stuck.grown at.list;
    routes = one.routes ∙ (at.routes ∙ sym (ap (λ (r : Routing). r.routed.events) one.new_is));
  }
  stopped_at halt.Device (inr one, told) at = record {
    list = one.list ∙ (ap (λ (some : List SplitAction). some ++ left_of slots.listed old.listed) at.list ∙ sym (ap (λ (r : Routing). r.listed.events) one.new_is));
    routes = step_made slots.routed one.stuck.made old.routed new.routed routes routes' one.stuck.has_made one.stuck.grown at.routes;
  }
  stopped_at halt.Sink (inl one) at = record {
    list = step_made slots.listed one.cut.made old.listed new.listed list list' one.cut.has_made one.cut.grown at.list;
    routes = one.routes ∙ (at.routes ∙ sym (ap (λ (r : Routing). r.routed.events) one.new_is));
  }
  stopped_at halt.Sink (inr one) at = record {
    list = one.list ∙ (ap (λ (some : List SplitAction). some ++ left_of slots.listed old.listed) at.list ∙ sym (ap (λ (r : Routing). r.listed.events) one.new_is));
    routes = step_made slots.routed one.cut.made old.routed new.routed routes routes' one.cut.has_made one.cut.grown at.routes;
  }

  pub stopped_setting : (why : Halt) → StopsBoth why slots old new (made_on list routes) (made_on list' routes') before after → setting_of new ≡ setting_of old
  stopped_setting halt.Device (inl one, told) = list_setting slots.listed one.stuck.made old new one.stuck.has_made one.new_is
  stopped_setting halt.Device (inr one, told) = ap setting_of one.new_is
  stopped_setting halt.Sink (inl one) = list_setting slots.listed one.cut.made old new one.cut.has_made one.new_is
  stopped_setting halt.Sink (inr one) = ap setting_of one.new_is

  -- what else the router keeps
  pub stopped_broken : (why : Halt) → StopsBoth why slots old new (made_on list routes) (made_on list' routes') before after → new.broken ≡ old.broken
  stopped_broken halt.Device (inl one, told) = ap (λ (r : Routing). r.broken) one.new_is
  stopped_broken halt.Device (inr one, told) = ap (λ (r : Routing). r.broken) one.new_is
  stopped_broken halt.Sink (inl one) = ap (λ (r : Routing). r.broken) one.new_is
  stopped_broken halt.Sink (inr one) = ap (λ (r : Routing). r.broken) one.new_is

  pub stopped_commits : (why : Halt) → StopsBoth why slots old new (made_on list routes) (made_on list' routes') before after → new.commits ≡ old.commits
  stopped_commits halt.Device (inl one, told) = ap (λ (r : Routing). r.commits) one.new_is
  stopped_commits halt.Device (inr one, told) = ap (λ (r : Routing). r.commits) one.new_is
  stopped_commits halt.Sink (inl one) = ap (λ (r : Routing). r.commits) one.new_is
  stopped_commits halt.Sink (inr one) = ap (λ (r : Routing). r.commits) one.new_is
