-- The commit is made with its lines, or cut at one, or at a part.
use Rattle.std.proofs.Common.{◌≡◌, Bool, List, ℕ, Option, refl, subst, ◌∙◌, arith}
use Rattle.std.specs.Io.KnownBytes.{Appends}
use Rattle.script_lines.specs.Given.{counted}
use Rattle.report_lines.specs.Outside.{AppendsPart}
use Rattle.router.specs.declared.carrying.Halt.{Halt}
use Rattle.router.specs.declared.carrying.Halt.TheVariants as halt
use Rattle.router.specs.Routing.{Routing, slots_of}
use Rattle.router.specs.Taken.{AreBothTold, StopsBoth, made_on}
use Rattle.router.proofs.Cutting.{line_is, make_breaks, make_stops}
use Rattle.router.proofs.Making.{leads_made, make_carries, make_cuts}
use Rattle.router.proofs.Parts.{counted_none, counted_one, counted_then, leaves_same}
use Rattle.router.proofs.Stopping.{stopped_at, stopped_broken, stopped_commits, stopped_setting}
use Rattle.router.proofs.router.Router.make.Goals as goal

-- ---- a device failed

pub returns-in-Err-Device-clause-acts : goal.returns-in-Err-Device-clause-acts
returns-in-Err-Device-clause-acts g c = λ which before taken.
    let slots = slots_of (g.D.SplitDevice.slot_count c.args.list.now) (g.D.SplitDevice.slot_count c.args.routes.now) in
    let now : Routing = c.args.self.now in
    let list = g.D.SplitDevice.events c.args.list.now in
    let list' = g.D.SplitDevice.events c.carry_both.new.list in
    let routes = g.D.SplitDevice.events c.args.routes.now in
    let routes' = g.D.SplitDevice.events c.carry_both.new.routes in
    let told = λ (one : Bool). counted one (g.K.Sink.taken c.args.sink.now) (g.K.Sink.accepted c.args.sink.now) in
    let told' = λ (one : Bool). counted one (g.K.Sink.taken c.carry_both.new.sink) (g.K.Sink.accepted c.carry_both.new.sink) in
    let stops : StopsBoth halt.Device slots now c.carry_both.new.self (made_on list routes) (made_on list' routes') told told' =
    subst (λ (why : Halt). StopsBoth why slots now c.carry_both.new.self (made_on list routes) (made_on list' routes') told told') c.in-Err-Device.field-0-is c.in-Err-Device.ensures.stopped in
    make_stops slots before now c.carry_both.new.self c.args.listed c.args.routed taken c.carry_both.ensures.router c.requires.slots list list' routes routes' (told which) (told' which) stops.0 (stops.1 which)

pub returns-in-Err-Device-clause-unbroken : goal.returns-in-Err-Device-clause-unbroken
returns-in-Err-Device-clause-unbroken g c =
    let slots = slots_of (g.D.SplitDevice.slot_count c.args.list.now) (g.D.SplitDevice.slot_count c.args.routes.now) in
    let now : Routing = c.args.self.now in
    let list = g.D.SplitDevice.events c.args.list.now in
    let list' = g.D.SplitDevice.events c.carry_both.new.list in
    let routes = g.D.SplitDevice.events c.args.routes.now in
    let routes' = g.D.SplitDevice.events c.carry_both.new.routes in
    let told = λ (one : Bool). counted one (g.K.Sink.taken c.args.sink.now) (g.K.Sink.accepted c.args.sink.now) in
    let told' = λ (one : Bool). counted one (g.K.Sink.taken c.carry_both.new.sink) (g.K.Sink.accepted c.carry_both.new.sink) in
    let stops : StopsBoth halt.Device slots now c.carry_both.new.self (made_on list routes) (made_on list' routes') told told' =
    subst (λ (why : Halt). StopsBoth why slots now c.carry_both.new.self (made_on list routes) (made_on list' routes') told told') c.in-Err-Device.field-0-is c.in-Err-Device.ensures.stopped in
    stopped_broken slots now c.carry_both.new.self list list' routes routes' told told' halt.Device stops ∙ c.requires.whole

pub returns-in-Err-Device-clause-setting : goal.returns-in-Err-Device-clause-setting
returns-in-Err-Device-clause-setting g c =
    let slots = slots_of (g.D.SplitDevice.slot_count c.args.list.now) (g.D.SplitDevice.slot_count c.args.routes.now) in
    let now : Routing = c.args.self.now in
    let list = g.D.SplitDevice.events c.args.list.now in
    let list' = g.D.SplitDevice.events c.carry_both.new.list in
    let routes = g.D.SplitDevice.events c.args.routes.now in
    let routes' = g.D.SplitDevice.events c.carry_both.new.routes in
    let told = λ (one : Bool). counted one (g.K.Sink.taken c.args.sink.now) (g.K.Sink.accepted c.args.sink.now) in
    let told' = λ (one : Bool). counted one (g.K.Sink.taken c.carry_both.new.sink) (g.K.Sink.accepted c.carry_both.new.sink) in
    let stops : StopsBoth halt.Device slots now c.carry_both.new.self (made_on list routes) (made_on list' routes') told told' =
    subst (λ (why : Halt). StopsBoth why slots now c.carry_both.new.self (made_on list routes) (made_on list' routes') told told') c.in-Err-Device.field-0-is c.in-Err-Device.ensures.stopped in
    stopped_setting slots now c.carry_both.new.self list list' routes routes' told told' halt.Device stops

pub returns-in-Err-Device-clause-commits : goal.returns-in-Err-Device-clause-commits
returns-in-Err-Device-clause-commits g c =
    let slots = slots_of (g.D.SplitDevice.slot_count c.args.list.now) (g.D.SplitDevice.slot_count c.args.routes.now) in
    let now : Routing = c.args.self.now in
    let list = g.D.SplitDevice.events c.args.list.now in
    let list' = g.D.SplitDevice.events c.carry_both.new.list in
    let routes = g.D.SplitDevice.events c.args.routes.now in
    let routes' = g.D.SplitDevice.events c.carry_both.new.routes in
    let told = λ (one : Bool). counted one (g.K.Sink.taken c.args.sink.now) (g.K.Sink.accepted c.args.sink.now) in
    let told' = λ (one : Bool). counted one (g.K.Sink.taken c.carry_both.new.sink) (g.K.Sink.accepted c.carry_both.new.sink) in
    let stops : StopsBoth halt.Device slots now c.carry_both.new.self (made_on list routes) (made_on list' routes') told told' =
    subst (λ (why : Halt). StopsBoth why slots now c.carry_both.new.self (made_on list routes) (made_on list' routes') told told') c.in-Err-Device.field-0-is c.in-Err-Device.ensures.stopped in
    let same : c.carry_both.new.self.commits ≡ now.commits = stopped_commits slots now c.carry_both.new.self list list' routes routes' told told' halt.Device stops in
    omega arith

pub returns-in-Err-Device-clause-in_step : goal.returns-in-Err-Device-clause-in_step
returns-in-Err-Device-clause-in_step g c =
    let slots = slots_of (g.D.SplitDevice.slot_count c.args.list.now) (g.D.SplitDevice.slot_count c.args.routes.now) in
    let now : Routing = c.args.self.now in
    let list = g.D.SplitDevice.events c.args.list.now in
    let list' = g.D.SplitDevice.events c.carry_both.new.list in
    let routes = g.D.SplitDevice.events c.args.routes.now in
    let routes' = g.D.SplitDevice.events c.carry_both.new.routes in
    let told = λ (one : Bool). counted one (g.K.Sink.taken c.args.sink.now) (g.K.Sink.accepted c.args.sink.now) in
    let told' = λ (one : Bool). counted one (g.K.Sink.taken c.carry_both.new.sink) (g.K.Sink.accepted c.carry_both.new.sink) in
    let stops : StopsBoth halt.Device slots now c.carry_both.new.self (made_on list routes) (made_on list' routes') told told' =
    subst (λ (why : Halt). StopsBoth why slots now c.carry_both.new.self (made_on list routes) (made_on list' routes') told told') c.in-Err-Device.field-0-is c.in-Err-Device.ensures.stopped in
    stopped_at slots now c.carry_both.new.self list list' routes routes' told told' halt.Device stops

pub returns-in-Err-Device-clause-list : goal.returns-in-Err-Device-clause-list
returns-in-Err-Device-clause-list g c =
    leaves_same g.D.SplitDevice.slot_count g.D.SplitDevice.events g.D.SplitDevice.flight g.D.SplitDevice.faults c.args.list.now c.carry_both.new.list _ _
    (λ both. (refl, both.1)) (λ failed. (refl, failed.1)) (rw c.in-Err-Device.field-0-is at c.in-Err-Device.ensures.list)

pub returns-in-Err-Device-clause-routes : goal.returns-in-Err-Device-clause-routes
returns-in-Err-Device-clause-routes g c =
    leaves_same g.D.SplitDevice.slot_count g.D.SplitDevice.events g.D.SplitDevice.flight g.D.SplitDevice.faults c.args.routes.now c.carry_both.new.routes _ _
    (λ both. (refl, both.1)) (λ failed. (refl, failed.1)) (rw c.in-Err-Device.field-0-is at c.in-Err-Device.ensures.routes)

pub returns-in-Err-Device-clause-cause : goal.returns-in-Err-Device-clause-cause
returns-in-Err-Device-clause-cause g c = counted_then _ _ _ _ _ refl (λ wrong. absurd (cc)) (λ wrong. absurd (cc)) (rw c.in-Err-Device.field-0-is at c.in-Err-Device.ensures.cause)

-- ---- a line of the trace was refused

pub returns-in-Err-Sink-clause-acts : goal.returns-in-Err-Sink-clause-acts
returns-in-Err-Sink-clause-acts g c = λ which before taken.
    let slots = slots_of (g.D.SplitDevice.slot_count c.args.list.now) (g.D.SplitDevice.slot_count c.args.routes.now) in
    let now : Routing = c.args.self.now in
    let list = g.D.SplitDevice.events c.args.list.now in
    let list' = g.D.SplitDevice.events c.carry_both.new.list in
    let routes = g.D.SplitDevice.events c.args.routes.now in
    let routes' = g.D.SplitDevice.events c.carry_both.new.routes in
    let told = λ (one : Bool). counted one (g.K.Sink.taken c.args.sink.now) (g.K.Sink.accepted c.args.sink.now) in
    let told' = λ (one : Bool). counted one (g.K.Sink.taken c.carry_both.new.sink) (g.K.Sink.accepted c.carry_both.new.sink) in
    let stops : StopsBoth halt.Sink slots now c.carry_both.new.self (made_on list routes) (made_on list' routes') told told' =
    subst (λ (why : Halt). StopsBoth why slots now c.carry_both.new.self (made_on list routes) (made_on list' routes') told told') c.in-Err-Sink.field-0-is c.in-Err-Sink.ensures.stopped in
    make_breaks slots before now c.carry_both.new.self c.args.listed c.args.routed taken c.carry_both.ensures.router c.requires.slots list list' routes routes' told told' which stops

pub returns-in-Err-Sink-clause-unbroken : goal.returns-in-Err-Sink-clause-unbroken
returns-in-Err-Sink-clause-unbroken g c =
    let slots = slots_of (g.D.SplitDevice.slot_count c.args.list.now) (g.D.SplitDevice.slot_count c.args.routes.now) in
    let now : Routing = c.args.self.now in
    let list = g.D.SplitDevice.events c.args.list.now in
    let list' = g.D.SplitDevice.events c.carry_both.new.list in
    let routes = g.D.SplitDevice.events c.args.routes.now in
    let routes' = g.D.SplitDevice.events c.carry_both.new.routes in
    let told = λ (one : Bool). counted one (g.K.Sink.taken c.args.sink.now) (g.K.Sink.accepted c.args.sink.now) in
    let told' = λ (one : Bool). counted one (g.K.Sink.taken c.carry_both.new.sink) (g.K.Sink.accepted c.carry_both.new.sink) in
    let stops : StopsBoth halt.Sink slots now c.carry_both.new.self (made_on list routes) (made_on list' routes') told told' =
    subst (λ (why : Halt). StopsBoth why slots now c.carry_both.new.self (made_on list routes) (made_on list' routes') told told') c.in-Err-Sink.field-0-is c.in-Err-Sink.ensures.stopped in
    stopped_broken slots now c.carry_both.new.self list list' routes routes' told told' halt.Sink stops ∙ c.requires.whole

pub returns-in-Err-Sink-clause-setting : goal.returns-in-Err-Sink-clause-setting
returns-in-Err-Sink-clause-setting g c =
    let slots = slots_of (g.D.SplitDevice.slot_count c.args.list.now) (g.D.SplitDevice.slot_count c.args.routes.now) in
    let now : Routing = c.args.self.now in
    let list = g.D.SplitDevice.events c.args.list.now in
    let list' = g.D.SplitDevice.events c.carry_both.new.list in
    let routes = g.D.SplitDevice.events c.args.routes.now in
    let routes' = g.D.SplitDevice.events c.carry_both.new.routes in
    let told = λ (one : Bool). counted one (g.K.Sink.taken c.args.sink.now) (g.K.Sink.accepted c.args.sink.now) in
    let told' = λ (one : Bool). counted one (g.K.Sink.taken c.carry_both.new.sink) (g.K.Sink.accepted c.carry_both.new.sink) in
    let stops : StopsBoth halt.Sink slots now c.carry_both.new.self (made_on list routes) (made_on list' routes') told told' =
    subst (λ (why : Halt). StopsBoth why slots now c.carry_both.new.self (made_on list routes) (made_on list' routes') told told') c.in-Err-Sink.field-0-is c.in-Err-Sink.ensures.stopped in
    stopped_setting slots now c.carry_both.new.self list list' routes routes' told told' halt.Sink stops

pub returns-in-Err-Sink-clause-commits : goal.returns-in-Err-Sink-clause-commits
returns-in-Err-Sink-clause-commits g c =
    let slots = slots_of (g.D.SplitDevice.slot_count c.args.list.now) (g.D.SplitDevice.slot_count c.args.routes.now) in
    let now : Routing = c.args.self.now in
    let list = g.D.SplitDevice.events c.args.list.now in
    let list' = g.D.SplitDevice.events c.carry_both.new.list in
    let routes = g.D.SplitDevice.events c.args.routes.now in
    let routes' = g.D.SplitDevice.events c.carry_both.new.routes in
    let told = λ (one : Bool). counted one (g.K.Sink.taken c.args.sink.now) (g.K.Sink.accepted c.args.sink.now) in
    let told' = λ (one : Bool). counted one (g.K.Sink.taken c.carry_both.new.sink) (g.K.Sink.accepted c.carry_both.new.sink) in
    let stops : StopsBoth halt.Sink slots now c.carry_both.new.self (made_on list routes) (made_on list' routes') told told' =
    subst (λ (why : Halt). StopsBoth why slots now c.carry_both.new.self (made_on list routes) (made_on list' routes') told told') c.in-Err-Sink.field-0-is c.in-Err-Sink.ensures.stopped in
    let same : c.carry_both.new.self.commits ≡ now.commits = stopped_commits slots now c.carry_both.new.self list list' routes routes' told told' halt.Sink stops in
    omega arith

pub returns-in-Err-Sink-clause-in_step : goal.returns-in-Err-Sink-clause-in_step
returns-in-Err-Sink-clause-in_step g c =
    let slots = slots_of (g.D.SplitDevice.slot_count c.args.list.now) (g.D.SplitDevice.slot_count c.args.routes.now) in
    let now : Routing = c.args.self.now in
    let list = g.D.SplitDevice.events c.args.list.now in
    let list' = g.D.SplitDevice.events c.carry_both.new.list in
    let routes = g.D.SplitDevice.events c.args.routes.now in
    let routes' = g.D.SplitDevice.events c.carry_both.new.routes in
    let told = λ (one : Bool). counted one (g.K.Sink.taken c.args.sink.now) (g.K.Sink.accepted c.args.sink.now) in
    let told' = λ (one : Bool). counted one (g.K.Sink.taken c.carry_both.new.sink) (g.K.Sink.accepted c.carry_both.new.sink) in
    let stops : StopsBoth halt.Sink slots now c.carry_both.new.self (made_on list routes) (made_on list' routes') told told' =
    subst (λ (why : Halt). StopsBoth why slots now c.carry_both.new.self (made_on list routes) (made_on list' routes') told told') c.in-Err-Sink.field-0-is c.in-Err-Sink.ensures.stopped in
    stopped_at slots now c.carry_both.new.self list list' routes routes' told told' halt.Sink stops

pub returns-in-Err-Sink-clause-list : goal.returns-in-Err-Sink-clause-list
returns-in-Err-Sink-clause-list g c =
    leaves_same g.D.SplitDevice.slot_count g.D.SplitDevice.events g.D.SplitDevice.flight g.D.SplitDevice.faults c.args.list.now c.carry_both.new.list _ _
    (λ both. absurd (let no = both.0 in cc)) (λ failed. absurd (let no = failed.0 in cc)) (rw c.in-Err-Sink.field-0-is at c.in-Err-Sink.ensures.list)

pub returns-in-Err-Sink-clause-routes : goal.returns-in-Err-Sink-clause-routes
returns-in-Err-Sink-clause-routes g c =
    leaves_same g.D.SplitDevice.slot_count g.D.SplitDevice.events g.D.SplitDevice.flight g.D.SplitDevice.faults c.args.routes.now c.carry_both.new.routes _ _
    (λ both. absurd (let no = both.0 in cc)) (λ failed. absurd (let no = failed.0 in cc)) (rw c.in-Err-Sink.field-0-is at c.in-Err-Sink.ensures.routes)

pub returns-in-Err-Sink-clause-cause : goal.returns-in-Err-Sink-clause-cause
returns-in-Err-Sink-clause-cause g c = counted_then _ _ _ _ _ refl (λ failed. refl) (λ failed. refl) (rw c.in-Err-Sink.field-0-is at c.in-Err-Sink.ensures.cause)

-- ---- it was made

pub returns-in-Ok-told-clause-acts : goal.returns-in-Ok-told-clause-acts
returns-in-Ok-told-clause-acts g c = λ which before taken.
    let slots = slots_of (g.D.SplitDevice.slot_count c.args.list.now) (g.D.SplitDevice.slot_count c.args.routes.now) in
    let now : Routing = c.args.self.now in
    let list = g.D.SplitDevice.events c.args.list.now in
    let list' = g.D.SplitDevice.events c.carry_both.new.list in
    let routes = g.D.SplitDevice.events c.args.routes.now in
    let routes' = g.D.SplitDevice.events c.carry_both.new.routes in
    let is = c.carry_both.ensures.router in
    let made = c.in-Ok.ensures.made in
    let line = line_is slots before now c.carry_both.new.self c.args.listed c.args.routed taken is c.requires.slots _ c.carry_both.new.self _ _ made in
    let old : Option (List ℕ) = counted which (g.K.Sink.taken c.args.sink.now) (g.K.Sink.accepted c.args.sink.now) in
    let mid : Option (List ℕ) = counted which (g.K.Sink.taken c.carry_both.new.sink) (g.K.Sink.accepted c.carry_both.new.sink) in
    let told : Option (List ℕ) = counted which (g.K.Sink.taken c.tell_made-told.new.sink) (g.K.Sink.accepted c.tell_made-told.new.sink) in
    let parts : AreBothTold before.trace before.version (made_on list routes) (made_on list' routes') old mid =
    subst (λ (r : Routing). AreBothTold r.trace r.version (made_on list routes) (made_on list' routes') old mid) taken.now_is (c.in-Ok.ensures.lines which) in
    let there = leads_made slots before now c.args.listed c.args.routed taken is c.requires.slots _ c.carry_both.new.self c.count_writes.new.self _ _ made c.count_writes.ensures in
    make_carries slots before now c.args.listed c.args.routed taken is c.requires.slots c.count_writes.new.self list list' routes routes' old mid told there made.list made.routes parts
    (subst (λ (text : List ℕ). Appends mid told text) line (c.in-Ok-told.ensures.whole which))

pub returns-in-Ok-told-clause-list : goal.returns-in-Ok-told-clause-list
returns-in-Ok-told-clause-list g c =
    leaves_same g.D.SplitDevice.slot_count g.D.SplitDevice.events g.D.SplitDevice.flight g.D.SplitDevice.faults c.args.list.now c.carry_both.new.list _ _
    (λ both. absurd (let no = both.0 in cc)) (λ failed. absurd (let no = failed.0 in cc)) c.in-Ok.ensures.list

pub returns-in-Ok-told-clause-routes : goal.returns-in-Ok-told-clause-routes
returns-in-Ok-told-clause-routes g c =
    leaves_same g.D.SplitDevice.slot_count g.D.SplitDevice.events g.D.SplitDevice.flight g.D.SplitDevice.faults c.args.routes.now c.carry_both.new.routes _ _
    (λ both. absurd (let no = both.0 in cc)) (λ failed. absurd (let no = failed.0 in cc)) c.in-Ok.ensures.routes

pub returns-in-Ok-told-clause-told : goal.returns-in-Ok-told-clause-told
returns-in-Ok-told-clause-told g c = λ some. c.in-Ok-told.ensures.told (c.carry_both.ensures.told some)

pub returns-in-Ok-told-clause-cause : goal.returns-in-Ok-told-clause-cause
returns-in-Ok-told-clause-cause g c =
    let still : g.K.Sink.faults c.carry_both.new.sink ≡ g.K.Sink.faults c.args.sink.now = c.in-Ok.ensures.cause.stayed (λ wrong. cc) in
    counted_none _ _ _ _ _ still c.in-Ok-told.ensures.cause (λ wrong. cc)

pub returns-in-Err-clause-acts : goal.returns-in-Err-clause-acts
returns-in-Err-clause-acts g c = λ which before taken.
    let slots = slots_of (g.D.SplitDevice.slot_count c.args.list.now) (g.D.SplitDevice.slot_count c.args.routes.now) in
    let now : Routing = c.args.self.now in
    let list = g.D.SplitDevice.events c.args.list.now in
    let list' = g.D.SplitDevice.events c.carry_both.new.list in
    let routes = g.D.SplitDevice.events c.args.routes.now in
    let routes' = g.D.SplitDevice.events c.carry_both.new.routes in
    let is = c.carry_both.ensures.router in
    let made = c.in-Ok.ensures.made in
    let line = line_is slots before now c.carry_both.new.self c.args.listed c.args.routed taken is c.requires.slots _ c.carry_both.new.self _ _ made in
    let old : Option (List ℕ) = counted which (g.K.Sink.taken c.args.sink.now) (g.K.Sink.accepted c.args.sink.now) in
    let mid : Option (List ℕ) = counted which (g.K.Sink.taken c.carry_both.new.sink) (g.K.Sink.accepted c.carry_both.new.sink) in
    let told : Option (List ℕ) = counted which (g.K.Sink.taken c.tell_made-told.new.sink) (g.K.Sink.accepted c.tell_made-told.new.sink) in
    let parts : AreBothTold before.trace before.version (made_on list routes) (made_on list' routes') old mid =
    subst (λ (r : Routing). AreBothTold r.trace r.version (made_on list routes) (made_on list' routes') old mid) taken.now_is (c.in-Ok.ensures.lines which) in
    make_cuts slots before now c.args.listed c.args.routed taken is c.requires.slots c.count_writes.new.self list list' routes routes' old mid told made.list made.routes parts
    (subst (λ (text : List ℕ). AppendsPart mid told text) line (c.in-Err.ensures.part which))

pub returns-in-Err-clause-list : goal.returns-in-Err-clause-list
returns-in-Err-clause-list g c =
    leaves_same g.D.SplitDevice.slot_count g.D.SplitDevice.events g.D.SplitDevice.flight g.D.SplitDevice.faults c.args.list.now c.carry_both.new.list _ _
    (λ both. absurd (let no = both.0 in cc)) (λ failed. absurd (let no = failed.0 in cc)) c.in-Ok.ensures.list

pub returns-in-Err-clause-routes : goal.returns-in-Err-clause-routes
returns-in-Err-clause-routes g c =
    leaves_same g.D.SplitDevice.slot_count g.D.SplitDevice.events g.D.SplitDevice.flight g.D.SplitDevice.faults c.args.routes.now c.carry_both.new.routes _ _
    (λ both. absurd (let no = both.0 in cc)) (λ failed. absurd (let no = failed.0 in cc)) c.in-Ok.ensures.routes

pub returns-in-Err-clause-told : goal.returns-in-Err-clause-told
returns-in-Err-clause-told g c = λ some. c.in-Err.ensures.told (c.carry_both.ensures.told some)

pub returns-in-Err-clause-cause : goal.returns-in-Err-clause-cause
returns-in-Err-clause-cause g c =
    let still : g.K.Sink.faults c.carry_both.new.sink ≡ g.K.Sink.faults c.args.sink.now = c.in-Ok.ensures.cause.stayed (λ wrong. cc) in
    counted_one _ _ _ _ _ still c.in-Err.ensures.cause refl
