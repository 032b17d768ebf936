-- What a router is between two calls.
use Rattle.std.proofs.Common.{◌≡◌, ℕ, ◌+◌, ◌^◌, ◌≤◌, ◌&&◌, not, is_some, Bool, true, Option, None, Some, IsSome, Result, Ok, Err, OnOk, OnErr, List, [], ◌∷◌, ◌++◌, length, refl, sym, ap, ap₂, subst, ◌∙◌, le_refl, length-append, arith}
use Rattle.std.specs.List.{AllByRecursion}
use Rattle.rule_model.specs.declared.IpVersion.{IpVersion}
use Rattle.rule_model.specs.declared.Rule.{Rule}
use Rattle.rule_store.specs.declared.Mode.{Mode}
use Rattle.rule_store.specs.declared.Command.{Command}
use Rattle.rule_store.specs.Batch.{set_after}
use Rattle.commit_writes.specs.Bits.{FieldBits}
use Rattle.commit_writes.specs.Routes.{IsRoute}
use Rattle.batch_order.specs.declared.Placement.{Placement}
use Rattle.batch_order.specs.CarriedOut.{finished}
use Rattle.batch_order.specs.Managed.{HeldCommit, Managed, OnlyChangesRoutes, commit_of}
use Rattle.split_device.specs.declared.SplitAction.{SplitAction}
use Rattle.split_device.specs.Flight.{written}
use Rattle.split_writes.specs.declared.SplitDone.{SplitDone}
use Rattle.split_writes.proofs.Made.{written_append}
use Rattle.split_order.specs.CarriedOut.{HasMade, finished_split}
use Rattle.split_order.specs.Left.{left_of}
use Rattle.split_order.specs.Managed.{SplitManaged, at_rest}
use Rattle.split_order.specs.Prepared.{HoldsSplit}
use Rattle.split_order.specs.Steps.{dropped, is_untouched}
use Rattle.split_order.proofs.Carrying.{same_slots}
use Rattle.router.specs.Routing.{HasFewLeft, HasPlannedState, IsRouter, Routing, begun, number_left}
use Rattle.router.proofs.Few.{few_parts, held_is}
use Rattle.router.proofs.Parts.{not_held}
use Rattle.router.proofs.PlannedState.{planned_after, planned_before}
use Rattle.router.proofs.RouteSets.{changes_more, routes_after}

-- with no commit under way nothing is left
none_left : (slots : ℕ) (whole : Managed) (events : List SplitAction) → whole.held ≡ None → HasFewLeft (at_rest whole events)
none_left slots whole events none = record {
  slots = whole.slots;
  wide = le_refl whole.slots;
  few = rw none (omega arith);
}

-- before the first act
pub begun_router : (slots : ℕ) (mode : Mode) (placement : Placement) (version : IpVersion) (trace : Bool) → IsRouter (begun slots mode placement version trace)
begun_router slots mode placement version trace = record {
  slots = refl;
  mode = refl;
  placement = refl;
  routes = tt;
  changes = tt;
  writes = omega arith;
  list_few = record { slots = slots; wide = le_refl slots; few = omega arith };
  route_few = record { slots = slots; wide = le_refl slots; few = omega arith };
  list_stands = λ none. planned_before slots mode placement;
  route_stands = λ none. planned_before slots mode placement;
}

-- a change joined a batch, or it stayed as it was
pub pushed_list : (router : Routing) (batch : List Command) → IsRouter router → IsRouter (record router { list_batch = batch })
pushed_list router batch is = record {
  slots = is.slots;
  mode = is.mode;
  placement = is.placement;
  routes = is.routes;
  changes = is.changes;
  writes = is.writes;
  list_few = is.list_few;
  route_few = is.route_few;
  list_stands = is.list_stands;
  route_stands = is.route_stands;
}

with_routes : (router : Routing) (batch : List Command) → IsRouter router → OnlyChangesRoutes router.version batch → IsRouter (record router { route_batch = batch })
with_routes router batch is changes = record {
  slots = is.slots;
  mode = is.mode;
  placement = is.placement;
  routes = is.routes;
  changes = changes;
  writes = is.writes;
  list_few = is.list_few;
  route_few = is.route_few;
  list_stands = is.list_stands;
  route_stands = is.route_stands;
}

pub pushed_routes : {E : Type 0} (result : Result (Unit {0}) E) (router : Routing) (command : Command) (batch : List Command) → IsRouter router → OnlyChangesRoutes router.version (command ∷ [])
    → OnOk result (batch ≡ router.route_batch ++ command ∷ []) → OnErr result (batch ≡ router.route_batch) → IsRouter (record router { route_batch = batch })
pushed_routes (Ok done) router command batch is change pushed same =
    with_routes router batch is (subst (OnlyChangesRoutes router.version) (sym pushed) (changes_more router.version router.route_batch command is.changes change))
pushed_routes (Err fault) router command batch is change pushed same = with_routes router batch is (subst (OnlyChangesRoutes router.version) (sym same) is.changes)

-- whether the sink failed makes no difference, nor whether a commit was refused
pub marked_router : (router : Routing) (broken : Bool) → IsRouter router → IsRouter (record router { broken = broken })
marked_router router broken is = record {
  slots = is.slots;
  mode = is.mode;
  placement = is.placement;
  routes = is.routes;
  changes = is.changes;
  writes = is.writes;
  list_few = is.list_few;
  route_few = is.route_few;
  list_stands = is.list_stands;
  route_stands = is.route_stands;
}

pub refused_router : (router : Routing) (refused : Bool) → IsRouter router → IsRouter (record router { refused = refused })
refused_router router refused is = record {
  slots = is.slots;
  mode = is.mode;
  placement = is.placement;
  routes = is.routes;
  changes = is.changes;
  writes = is.writes;
  list_few = is.list_few;
  route_few = is.route_few;
  list_stands = is.list_stands;
  route_stands = is.route_stands;
}

-- a commit was counted, and the batches were dropped
pub counted_router : (router : Routing) → IsRouter router → IsRouter (record router { list_batch = []; route_batch = []; commits = router.commits + 1 })
counted_router router is = record {
  slots = is.slots;
  mode = is.mode;
  placement = is.placement;
  routes = is.routes;
  changes = tt;
  writes = (let few = is.writes in omega arith);
  list_few = is.list_few;
  route_few = is.route_few;
  list_stands = is.list_stands;
  route_stands = is.route_stands;
}

-- a manager that holds a plan has few parts to make
few_held : (old : SplitManaged) (batch : List Command) (counts : SplitDone) (new : SplitManaged) → HoldsSplit old batch counts new → HasFewLeft new
few_held old batch counts new holds =
    record { slots = new.whole.slots; wide = le_refl new.whole.slots; few = few_parts new.whole.slots old batch counts new holds }

pub held_slots : (old : SplitManaged) (batch : List Command) (counts : SplitDone) (new : SplitManaged) → HoldsSplit old batch counts new → new.whole.slots ≡ old.whole.slots
held_slots old batch counts new holds = ap (λ (whole : Managed). whole.slots) holds.whole.1.new_is

pub held_mode : (old : SplitManaged) (batch : List Command) (counts : SplitDone) (new : SplitManaged) → HoldsSplit old batch counts new → new.whole.mode ≡ old.whole.mode
held_mode old batch counts new holds = ap (λ (whole : Managed). whole.mode) holds.whole.1.new_is

pub held_placement : (old : SplitManaged) (batch : List Command) (counts : SplitDone) (new : SplitManaged) → HoldsSplit old batch counts new → new.whole.placement ≡ old.whole.placement
held_placement old batch counts new holds = ap (λ (whole : Managed). whole.placement) holds.whole.1.new_is

held_none : (old : SplitManaged) (batch : List Command) (counts : SplitDone) (new : SplitManaged) → HoldsSplit old batch counts new → new.whole.held ≡ None → ⊥
held_none old batch counts new holds none = let wrong : Some (commit_of old.whole batch holds.whole.1.made holds.whole.0) ≡ None = sym (held_is old.whole.slots old batch counts new holds) ∙ none in cc

pub held_rules : (old : SplitManaged) (batch : List Command) (counts : SplitDone) (new : SplitManaged) → HoldsSplit old batch counts new → new.whole.rules ≡ old.whole.rules
held_rules old batch counts new holds = ap (λ (whole : Managed). whole.rules) holds.whole.1.new_is

-- both tables hold their plans
pub planned_router : (router : Routing) (list_counts route_counts : SplitDone) (listed routed : SplitManaged) → IsRouter router → HoldsSplit router.listed router.list_batch list_counts listed
    → HoldsSplit router.routed router.route_batch route_counts routed → IsRouter (record router { listed = listed; routed = routed })
planned_router router list_counts route_counts listed routed is list_holds route_holds = record {
  slots = held_slots router.routed router.route_batch route_counts routed route_holds ∙ (is.slots ∙ sym (held_slots router.listed router.list_batch list_counts listed list_holds));
  mode = held_mode router.routed router.route_batch route_counts routed route_holds ∙ (is.mode ∙ sym (held_mode router.listed router.list_batch list_counts listed list_holds));
  placement = held_placement router.routed router.route_batch route_counts routed route_holds
      ∙ (is.placement ∙ sym (held_placement router.listed router.list_batch list_counts listed list_holds));
  routes = subst (AllByRecursion (IsRoute router.version)) (sym (held_rules router.routed router.route_batch route_counts routed route_holds)) is.routes;
  changes = is.changes;
  writes = is.writes;
  list_few = few_held router.listed router.list_batch list_counts listed list_holds;
  route_few = few_held router.routed router.route_batch route_counts routed route_holds;
  list_stands = λ none. absurd (held_none router.listed router.list_batch list_counts listed list_holds none);
  route_stands = λ none. absurd (held_none router.routed router.route_batch route_counts routed route_holds none);
}

-- a plan of which nothing was made is dropped: its manager is as it was
untouched : (old : SplitManaged) (batch : List Command) (counts : SplitDone) (taken : SplitManaged) → HoldsSplit old batch counts taken → is_untouched taken ≡ true
untouched old batch counts taken holds =
    ap₂ (λ (begun : Bool) (held : Option HeldCommit). not begun && is_some held) holds.begun (held_is old.whole.slots old batch counts taken holds)

pub cancelled : (old : SplitManaged) (batch : List Command) (counts : SplitDone) (taken new : SplitManaged) (result : Bool) → HoldsSplit old batch counts taken → old.whole.held ≡ None
    → (old.whole.held ≡ None → old ≡ at_rest old.whole old.events) → result ≡ is_untouched taken → new ≡ dropped result taken → new ≡ old
cancelled old batch counts taken new result holds none rest cancels is =
    let so : new ≡ dropped true taken = is ∙ ap (λ (some : Bool). dropped some taken) (cancels ∙ untouched old batch counts taken holds) in
    let whole_is : record taken.whole { held = None } ≡ old.whole =
    ap (λ (whole : Managed). record whole { held = None }) holds.whole.1.new_is ∙ ap (λ (held : Option HeldCommit). record old.whole { held = held }) (sym none) in
    so ∙ (ap₂ (λ (whole : Managed) (events : List SplitAction). at_rest whole events) whole_is holds.events ∙ sym (rest none))

-- a manager of which some parts were made has fewer left
few_made : (slots : ℕ) (made : List SplitAction) (old now : SplitManaged) → HasMade slots made old now → number_left slots now ≤ number_left slots old
few_made slots made old now has =
    let sum : number_left slots old ≡ length (written made) + number_left slots now =
    ap (λ (some : List SplitAction). length (written some)) has.left_is ∙ (ap length (written_append made (left_of slots now)) ∙ length-append (written made) (written (left_of slots now))) in
    omega arith

few_stopped : (slots : ℕ) (made : List SplitAction) (old : SplitManaged) (batch : List Command) (counts : SplitDone) (taken now : SplitManaged) → HoldsSplit old batch counts taken
    → taken.whole.slots ≤ slots → HasMade slots made taken now → HasFewLeft now
few_stopped slots made old batch counts taken now holds wide has = record {
  slots = slots;
  wide = subst (λ (n : ℕ). n ≤ slots) (sym (same_slots slots made taken now has)) wide;
  few = (let all = few_parts slots old batch counts taken holds in let some = few_made slots made taken now has in omega arith);
}

-- a plan is held
pub held_some : (old : SplitManaged) (batch : List Command) (counts : SplitDone) (new : SplitManaged) → HoldsSplit old batch counts new → IsSome new.whole.held
held_some old batch counts new holds = subst (λ (held : Option HeldCommit). IsSome held) (sym (held_is old.whole.slots old batch counts new holds)) refl

-- the router where the list's part was stopped, by its device or by the sink
pub stopped_list : (slots : ℕ) (made : List SplitAction) (router : Routing) (old : SplitManaged) (batch : List Command) (counts : SplitDone) (now : SplitManaged) → IsRouter router
    → HoldsSplit old batch counts router.listed → router.listed.whole.slots ≤ slots → HasMade slots made router.listed now → IsSome now.whole.held → IsRouter (record router { listed = now })
stopped_list slots made router old batch counts now is holds wide has held = record {
  slots = is.slots ∙ sym (same_slots slots made router.listed now has);
  mode = is.mode ∙ sym (ap (λ (some : Managed × Option (List Rule × FieldBits × FieldBits)). some.0.mode) has.outline_is);
  placement = is.placement ∙ sym (ap (λ (some : Managed × Option (List Rule × FieldBits × FieldBits)). some.0.placement) has.outline_is);
  routes = is.routes;
  changes = is.changes;
  writes = is.writes;
  list_few = few_stopped slots made old batch counts router.listed now holds wide has;
  route_few = is.route_few;
  list_stands = λ none. absurd (not_held now held none);
  route_stands = is.route_stands;
}

-- the router whose list's part was made
pub made_list : (slots : ℕ) (router : Routing) (old : SplitManaged) (batch : List Command) (counts : SplitDone) → IsRouter router → HoldsSplit old batch counts router.listed
    → old.whole.slots ≤ slots → HasPlannedState old → IsRouter (record router { listed = finished_split slots router.listed })
made_list slots router old batch counts is holds wide stands = record {
  slots = is.slots;
  mode = is.mode;
  placement = is.placement;
  routes = is.routes;
  changes = is.changes;
  writes = is.writes;
  list_few = none_left slots (finished router.listed.whole) (router.listed.events ++ left_of slots router.listed) refl;
  route_few = is.route_few;
  list_stands = λ none. planned_after old batch counts router.listed stands holds slots wide;
  route_stands = is.route_stands;
}

-- and the routes' part was stopped
pub stopped_routes : (slots : ℕ) (made : List SplitAction) (router : Routing) (old : SplitManaged) (batch : List Command) (counts : SplitDone) (now : SplitManaged) → IsRouter router
    → HoldsSplit old batch counts router.routed → router.routed.whole.slots ≤ slots → HasMade slots made router.routed now → IsSome now.whole.held → IsRouter (record router { routed = now })
stopped_routes slots made router old batch counts now is holds wide has held = record {
  slots = same_slots slots made router.routed now has ∙ is.slots;
  mode = ap (λ (some : Managed × Option (List Rule × FieldBits × FieldBits)). some.0.mode) has.outline_is ∙ is.mode;
  placement = ap (λ (some : Managed × Option (List Rule × FieldBits × FieldBits)). some.0.placement) has.outline_is ∙ is.placement;
  routes = subst (AllByRecursion (IsRoute router.version)) (sym (ap (λ (some : Managed × Option (List Rule × FieldBits × FieldBits)). some.0.rules) has.outline_is)) is.routes;
  changes = is.changes;
  writes = is.writes;
  list_few = is.list_few;
  route_few = few_stopped slots made old batch counts router.routed now holds wide has;
  list_stands = is.list_stands;
  route_stands = λ none. absurd (not_held now held none);
}

-- the routes' part was made too
pub made_routes : (slots : ℕ) (router : Routing) (old : SplitManaged) (counts : SplitDone) → IsRouter router → HoldsSplit old router.route_batch counts router.routed
    → old.whole.slots ≤ slots → HasPlannedState old → IsRouter (record router { routed = finished_split slots router.routed })
made_routes slots router old counts is holds wide stands = record {
  slots = is.slots;
  mode = is.mode;
  placement = is.placement;
  routes = subst (AllByRecursion (IsRoute router.version)) (sym rules_are)
      (routes_after router.version old.whole.rules router.route_batch (subst (AllByRecursion (IsRoute router.version)) (held_rules old router.route_batch counts router.routed holds) is.routes) is.changes);
  changes = is.changes;
  writes = is.writes;
  list_few = is.list_few;
  route_few = none_left slots (finished router.routed.whole) (router.routed.events ++ left_of slots router.routed) refl;
  list_stands = is.list_stands;
  route_stands = λ none. planned_after old router.route_batch counts router.routed stands holds slots wide;
}
  where
    rules_are : (finished router.routed.whole).rules ≡ set_after old.whole.rules router.route_batch
    rules_are = ap (λ (whole : Managed). (finished whole).rules) holds.whole.1.new_is

-- and its parts were counted
pub wrote_router : (router : Routing) (more : ℕ) → IsRouter router → more ≤ 2 ^ 42 → IsRouter (record router { list_batch = []; route_batch = []; commits = router.commits + 1; writes = router.writes + more })
wrote_router router more is few = record {
  slots = is.slots;
  mode = is.mode;
  placement = is.placement;
  routes = is.routes;
  changes = tt;
  writes = (let so_far = is.writes in omega arith);
  list_few = is.list_few;
  route_few = is.route_few;
  list_stands = is.list_stands;
  route_stands = is.route_stands;
}
