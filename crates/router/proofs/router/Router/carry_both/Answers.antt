-- The list's part is made and told, and then the routes', or one of them stops.
use Rattle.std.proofs.Common.{◌≡◌, List, ◌^◌, ◌<◌, ◌≤◌, Bool, None, IsSome, refl, sym, ap, subst, length}
use Rattle.script_lines.specs.Given.{counted}
use Rattle.rule_store.specs.declared.Command.{Command}
use Rattle.split_device.specs.Flight.{written}
use Rattle.split_order.specs.Left.{left_of}
use Rattle.split_order.specs.Managed.{SplitManaged}
use Rattle.split_order.specs.Prepared.{HoldsSplit}
use Rattle.router.specs.Run.{drains_in}
use Rattle.router.specs.Routing.{Routing, slots_of}
use Rattle.router.specs.Taken.{AreBothTold, StopsBoth, made_on}
use Rattle.router.proofs.Acts.{leaves_still}
use Rattle.router.proofs.Few.{few_drains, few_parts}
use Rattle.router.proofs.Kept.{held_slots, held_some, made_list, made_routes, stopped_list, stopped_routes}
use Rattle.router.proofs.Parts.{counted_then, held_until, leaves_same, made_until, not_held}
use Rattle.router.proofs.Stopping.{stops_list, stops_routes, told_both}
use Rattle.router.proofs.router.Router.carry_both.Goals as goal
use Rattle.router.proofs.router.Router.carry_both.Goals.{in-Ok-carry, in-Err-carry}

pub carry-requires-clause-few : goal.carry-requires-clause-few
carry-requires-clause-few g c =
    let t = c.requires.taken.3 in
    let b : Routing = c.requires.taken.0 in
    let view = c.self.view_is in
    let n = g.D.SplitDevice.slot_count c.args.list.now in
    subst (λ (r : Routing). drains_in (left_of n r.listed) < 2 ^ 43) (sym view) (few_drains n b.listed b.list_batch t.list_counts c.args.self.now.listed t.list_holds)

pub carry-requires-clause-few_parts : goal.carry-requires-clause-few_parts
carry-requires-clause-few_parts g c =
    let t = c.requires.taken.3 in
    let b : Routing = c.requires.taken.0 in
    let view = c.self.view_is in
    let n = g.D.SplitDevice.slot_count c.args.list.now in
    subst (λ (r : Routing). length (written (left_of n r.listed)) ≤ 2 ^ 41) (sym view) (few_parts n b.listed b.list_batch t.list_counts c.args.self.now.listed t.list_holds)

pub carry-requires-2-clause-few : goal.carry-requires-2-clause-few
carry-requires-2-clause-few g c =
    let t = c.requires.taken.3 in
    let b : Routing = c.requires.taken.0 in
    let view = c.self.view_is in
    let n = g.D.SplitDevice.slot_count c.args.routes.now in
    subst (λ (r : Routing). drains_in (left_of n r.routed) < 2 ^ 43) (sym view) (few_drains n b.routed b.route_batch t.route_counts c.args.self.now.routed t.route_holds)

pub carry-requires-2-clause-few_parts : goal.carry-requires-2-clause-few_parts
carry-requires-2-clause-few_parts g c =
    let t = c.requires.taken.3 in
    let b : Routing = c.requires.taken.0 in
    let view = c.self.view_is in
    let n = g.D.SplitDevice.slot_count c.args.routes.now in
    subst (λ (r : Routing). length (written (left_of n r.routed)) ≤ 2 ^ 41) (sym view) (few_parts n b.routed b.route_batch t.route_counts c.args.self.now.routed t.route_holds)

pub invariant_of-self : goal.invariant_of-self
invariant_of-self g c =
    let t = c.requires.taken.3 in
    let b : Routing = c.requires.taken.0 in
    let view = c.self.view_is in
    let n = g.D.SplitDevice.slot_count c.args.list.now in
    let holds = subst (λ (r : Routing). HoldsSplit b.listed b.list_batch t.list_counts r.listed) (sym view) t.list_holds in
    let list = g.D.SplitDevice.events c.args.list.now in
    let list' = g.D.SplitDevice.events c.carry.new.device in
    let stops = made_until c.in-Err.why n c.self.inside.listed c.carry.new.manager list list' c.in-Err.ensures.stopped in
    stopped_list n stops.0 _ b.listed b.list_batch t.list_counts c.carry.new.manager c.self.invariant holds
    (subst (λ (r : Routing). r.listed.whole.slots ≤ n) (sym view) c.requires.slots.listed) stops.1
    (held_until c.in-Err.why n c.self.inside.listed c.carry.new.manager list list' c.in-Err.ensures.stopped (held_some b.listed b.list_batch t.list_counts c.self.inside.listed holds))

pub invariant_of-self-2 : goal.invariant_of-self-2
invariant_of-self-2 g c =
    let t = c.requires.taken.3 in
    let b : Routing = c.requires.taken.0 in
    let view = c.self.view_is in
    let n = g.D.SplitDevice.slot_count c.args.list.now in
    let k = g.D.SplitDevice.slot_count c.args.routes.now in
    let routes = g.D.SplitDevice.events c.args.routes.now in
    let routes' = g.D.SplitDevice.events c.carry-2.new.device in
    let first = c.in-Ok.ensures.carried in
    let holds = subst (λ (r : Routing). HoldsSplit b.routed r.route_batch t.route_counts r.routed) (sym view)
    (subst (λ (batch : List Command). HoldsSplit b.routed batch t.route_counts c.args.self.now.routed) (sym (ap (λ (r : Routing). r.route_batch) t.now_is)) t.route_holds) in
    let list_holds = subst (λ (r : Routing). HoldsSplit b.listed b.list_batch t.list_counts r.listed) (sym view) t.list_holds in
    let wide = subst (λ (r : Routing). r.routed.whole.slots ≤ k) (sym view) c.requires.slots.routed in
    let list_wide : b.listed.whole.slots ≤ n = subst (λ m. m ≤ n) (held_slots b.listed b.list_batch t.list_counts c.args.self.now.listed t.list_holds) c.requires.slots.listed in
    let route_wide : b.routed.whole.slots ≤ k = subst (λ m. m ≤ k) (held_slots b.routed b.route_batch t.route_counts c.args.self.now.routed t.route_holds) c.requires.slots.routed in
    let made = made_list n _ b.listed b.list_batch t.list_counts c.self.invariant list_holds list_wide (t.router.list_stands t.idle.listed) in
    elim c.match-carry-2.branch [
      | in-Ok-carry w ↦ rw (first.new_is, w.in-Ok-carry.ensures.carried.new_is) (made_routes k _ b.routed t.route_counts made holds route_wide (t.router.route_stands t.idle.routed))
      | in-Err-carry w ↦
          let stops = made_until w.in-Err-carry.why k c.self.inside.routed c.carry-2.new.manager routes routes' w.in-Err-carry.ensures.stopped in
          rw first.new_is (stopped_routes k stops.0 _ b.routed _ t.route_counts c.carry-2.new.manager made holds wide stops.1
          (held_until w.in-Err-carry.why k c.self.inside.routed c.carry-2.new.manager routes routes' w.in-Err-carry.ensures.stopped
          (held_some b.routed c.self.inside.route_batch t.route_counts c.self.inside.routed holds)))
    ]

-- ---- the list's part was stopped

pub returns-in-Err-clause-stopped : goal.returns-in-Err-clause-stopped
returns-in-Err-clause-stopped g c =
    let slots = slots_of (g.D.SplitDevice.slot_count c.args.list.now) (g.D.SplitDevice.slot_count c.args.routes.now) in
    let list = g.D.SplitDevice.events c.args.list.now in
    let list' = g.D.SplitDevice.events c.carry.new.device in
    let routes = g.D.SplitDevice.events c.args.routes.now in
    let before = λ (which : Bool). counted which (g.K.Sink.taken c.args.sink.now) (g.K.Sink.accepted c.args.sink.now) in
    let after = λ (which : Bool). counted which (g.K.Sink.taken c.carry.new.sink) (g.K.Sink.accepted c.carry.new.sink) in
    let inside : Routing = record {
      listed = c.self.inside.listed;
      routed = c.self.inside.routed;
      list_batch = c.self.inside.list_batch;
      route_batch = c.self.inside.route_batch;
      version = c.self.inside.version;
      trace = c.self.inside.trace;
      large = c.self.inside.large;
      commits = c.self.inside.commits;
      writes = c.self.inside.writes;
      refused = c.self.inside.refused;
      broken = c.self.inside.broken;
    } in
    subst (λ (r : Routing). StopsBoth c.in-Err.why slots r (record inside { listed = c.carry.new.manager }) (made_on list routes) (made_on list' routes) before after) c.self.view_is
    (stops_list c.in-Err.why slots inside c.carry.new.manager list list' routes before after c.in-Err.ensures.stopped c.in-Err.ensures.lines)

pub returns-in-Err-clause-list : goal.returns-in-Err-clause-list
returns-in-Err-clause-list g c =
    let t = c.requires.taken.3 in
    let b : Routing = c.requires.taken.0 in
    let n = g.D.SplitDevice.slot_count c.args.list.now in
    let list = g.D.SplitDevice.events c.args.list.now in
    let list' = g.D.SplitDevice.events c.carry.new.device in
    let holds = subst (λ (r : Routing). HoldsSplit b.listed b.list_batch t.list_counts r.listed) (sym c.self.view_is) t.list_holds in
    let held : IsSome c.carry.new.manager.whole.held =
    held_until c.in-Err.why n c.self.inside.listed c.carry.new.manager list list' c.in-Err.ensures.stopped (held_some b.listed b.list_batch t.list_counts c.self.inside.listed holds) in
    leaves_same g.D.SplitDevice.slot_count g.D.SplitDevice.events g.D.SplitDevice.flight g.D.SplitDevice.faults c.args.list.now c.carry.new.device _ _
    (λ failed. (failed, held)) (λ both. both.0) c.in-Err.ensures.device

pub returns-in-Err-clause-routes : goal.returns-in-Err-clause-routes
returns-in-Err-clause-routes g c =
    let t = c.requires.taken.3 in
    let b : Routing = c.requires.taken.0 in
    let n = g.D.SplitDevice.slot_count c.args.list.now in
    let list = g.D.SplitDevice.events c.args.list.now in
    let list' = g.D.SplitDevice.events c.carry.new.device in
    let holds = subst (λ (r : Routing). HoldsSplit b.listed b.list_batch t.list_counts r.listed) (sym c.self.view_is) t.list_holds in
    let held : IsSome c.carry.new.manager.whole.held =
    held_until c.in-Err.why n c.self.inside.listed c.carry.new.manager list list' c.in-Err.ensures.stopped (held_some b.listed b.list_batch t.list_counts c.self.inside.listed holds) in
    leaves_still g.D.SplitDevice.slot_count g.D.SplitDevice.events g.D.SplitDevice.flight g.D.SplitDevice.faults c.args.routes.now c.args.routes.now _ refl refl refl refl
    (λ both. not_held c.carry.new.manager held both.1)

-- ---- the list's part was made

pub returns-clause-lines : goal.returns-clause-lines
returns-clause-lines g c =
    let list = g.D.SplitDevice.events c.args.list.now in
    let list' = g.D.SplitDevice.events c.carry.new.device in
    let routes = g.D.SplitDevice.events c.args.routes.now in
    let routes' = g.D.SplitDevice.events c.carry-2.new.device in
    let before = λ (which : Bool). counted which (g.K.Sink.taken c.args.sink.now) (g.K.Sink.accepted c.args.sink.now) in
    let mid = λ (which : Bool). counted which (g.K.Sink.taken c.carry.new.sink) (g.K.Sink.accepted c.carry.new.sink) in
    let after = λ (which : Bool). counted which (g.K.Sink.taken c.carry-2.new.sink) (g.K.Sink.accepted c.carry-2.new.sink) in
    elim c.match-carry-2.branch [
      | in-Ok-carry w ↦
          rw w.result-is (subst (λ (r : Routing). (which : Bool) → AreBothTold r.trace r.version (made_on list routes) (made_on list' routes') (before which) (after which)) c.self.view_is
          (λ which. told_both c.self.inside.trace c.self.inside.version list list' routes routes' (before which) (mid which) (after which) (c.in-Ok.ensures.lines which) (w.in-Ok-carry.ensures.lines which)))
      | in-Err-carry w ↦ rw w.result-is tt
    ]

pub returns-clause-stopped : goal.returns-clause-stopped
returns-clause-stopped g c =
    let slots = slots_of (g.D.SplitDevice.slot_count c.args.list.now) (g.D.SplitDevice.slot_count c.args.routes.now) in
    let list = g.D.SplitDevice.events c.args.list.now in
    let list' = g.D.SplitDevice.events c.carry.new.device in
    let routes = g.D.SplitDevice.events c.args.routes.now in
    let routes' = g.D.SplitDevice.events c.carry-2.new.device in
    let before = λ (which : Bool). counted which (g.K.Sink.taken c.args.sink.now) (g.K.Sink.accepted c.args.sink.now) in
    let mid = λ (which : Bool). counted which (g.K.Sink.taken c.carry.new.sink) (g.K.Sink.accepted c.carry.new.sink) in
    let after = λ (which : Bool). counted which (g.K.Sink.taken c.carry-2.new.sink) (g.K.Sink.accepted c.carry-2.new.sink) in
    let first = c.in-Ok.ensures.carried in
    let inside : Routing = record {
      listed = c.self.inside.listed;
      routed = c.self.inside.routed;
      list_batch = c.self.inside.list_batch;
      route_batch = c.self.inside.route_batch;
      version = c.self.inside.version;
      trace = c.self.inside.trace;
      large = c.self.inside.large;
      commits = c.self.inside.commits;
      writes = c.self.inside.writes;
      refused = c.self.inside.refused;
      broken = c.self.inside.broken;
    } in
    elim c.match-carry-2.branch [
      | in-Ok-carry w ↦ rw w.result-is tt
      | in-Err-carry w ↦
          rw w.result-is (subst (λ (r : Routing). StopsBoth w.in-Err-carry.why slots r (record inside { listed = c.carry.new.manager; routed = c.carry-2.new.manager }) (made_on list routes) (made_on list' routes') before after) c.self.view_is
          (stops_routes w.in-Err-carry.why slots inside c.carry.new.manager c.carry-2.new.manager list list' routes routes' before mid after first.new_is first.grown c.in-Ok.ensures.lines
          w.in-Err-carry.ensures.stopped w.in-Err-carry.ensures.lines))
    ]

pub returns-clause-list : goal.returns-clause-list
returns-clause-list g c =
    let first = c.in-Ok.ensures.carried in
    let none : c.carry.new.manager.whole.held ≡ None = ap (λ (m : SplitManaged). m.whole.held) first.new_is in
    leaves_same g.D.SplitDevice.slot_count g.D.SplitDevice.events g.D.SplitDevice.flight g.D.SplitDevice.faults c.args.list.now c.carry.new.device _ _
    (λ wrong. absurd (cc)) (λ both. absurd (not_held c.carry.new.manager both.1 none)) c.in-Ok.ensures.device

pub returns-clause-routes : goal.returns-clause-routes
returns-clause-routes g c =
    let first = c.in-Ok.ensures.carried in
    let none : c.carry.new.manager.whole.held ≡ None = ap (λ (m : SplitManaged). m.whole.held) first.new_is in
    elim c.match-carry-2.branch [
      | in-Ok-carry w ↦
          rw w.result-is (leaves_same g.D.SplitDevice.slot_count g.D.SplitDevice.events g.D.SplitDevice.flight g.D.SplitDevice.faults c.args.routes.now c.carry-2.new.device _ _
          (λ wrong. absurd (cc)) (λ both. absurd (let wrong = both.0 in cc)) w.in-Ok-carry.ensures.device)
      | in-Err-carry w ↦
          rw w.result-is (leaves_same g.D.SplitDevice.slot_count g.D.SplitDevice.events g.D.SplitDevice.flight g.D.SplitDevice.faults c.args.routes.now c.carry-2.new.device _ _
          (λ failed. (failed, none)) (λ both. both.0) w.in-Err-carry.ensures.device)
    ]

pub returns-clause-told : goal.returns-clause-told
returns-clause-told g c = λ some. c.carry-2.ensures.told (c.carry.ensures.told some)

pub returns-clause-cause : goal.returns-clause-cause
returns-clause-cause g c =
    let still : g.K.Sink.faults c.carry.new.sink ≡ g.K.Sink.faults c.args.sink.now = c.in-Ok.ensures.cause.stayed (λ wrong. cc) in
    elim c.match-carry-2.branch [
      | in-Ok-carry w ↦ rw w.result-is (counted_then _ _ _ _ _ still (λ wrong. absurd (cc)) (λ wrong. absurd (cc)) w.in-Ok-carry.ensures.cause)
      | in-Err-carry w ↦ rw w.result-is (counted_then _ _ _ _ _ still (λ failed. failed) (λ failed. failed) w.in-Err-carry.ensures.cause)
    ]
