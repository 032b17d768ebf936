-- A change that joins its batch, a packet, and a commit that a table refuses.
use Rattle.std.proofs.Common.{◌≡◌, ◌≢◌, ◌⊎◌, inl, inr, ℕ, ◌+◌, ◌≤◌, Option, None, Some, Result, Ok, Err, OnOk, OnErr, IfErr, List, [], ◌∷◌, ◌++◌, refl, sym, ap, subst, ◌∙◌, append-nil, arith}
use Rattle.std.specs.Io.KnownBytes.{Appends}
use Rattle.rule_model.specs.declared.Key.{Key}
use Rattle.rule_model.specs.Key.{IsKey}
use Rattle.rule_model.specs.RuleSet.{Answer, answer}
use Rattle.rule_store.specs.declared.Command.{Command}
use Rattle.rule_store.specs.Verdict.{Verdict, Accepted, Unsound, OutOfBits, OutOfSlots}
use Rattle.tcam_device.specs.State.{Shows}
use Rattle.readback.specs.declared.Rejection.{Rejection}
use Rattle.readback.specs.declared.Rejection.TheVariants as rejection
use Rattle.batch_order.specs.Managed.{HeldCommit, Serves}
use Rattle.split_device.specs.declared.SplitAction.{SplitAction}
use Rattle.split_device.specs.State.{split_lookup, undivided}
use Rattle.split_device.specs.Flight.{Flight, state_of_events}
use Rattle.split_device.proofs.Whole.{split_lookup-is}
use Rattle.split_order.specs.Left.{ServesSplit, state_on}
use Rattle.split_order.specs.Managed.{SplitManaged}
use Rattle.report_lines.specs.Told.{verdict_told}
use Rattle.report_lines.specs.Outside.{AppendsPart}
use Rattle.router.specs.declared.Side.{Side}
use Rattle.router.specs.declared.Side.TheVariants as side
use Rattle.router.specs.declared.RouterAct.{RouterAct}
use Rattle.router.specs.declared.RouterAct.TheVariants.{Change, Packet, Commit}
use Rattle.router.specs.declared.RouterFault.{RouterFault}
use Rattle.router.specs.declared.RouterFault.TheVariants.{BatchFull, Sink, Device, Memory}
use Rattle.router.specs.Text.{packet_line, refused_line}
use Rattle.router.specs.Run.{DeviceSlots, Effect, HasEffects, Judged, JudgedByRoutes, Prints, Progress, Refuses, Setting, TakesMemory}
use Rattle.router.specs.Routing.{AreAt, FitsBoth, IsIdle, Routing, progress_of, setting_of, with_push, with_refusal}
use Rattle.router.specs.Carried.{LeavesDevice}
use Rattle.router.specs.declared.committing.Unplanned.TheVariants.{Refused}
use Rattle.router.specs.Taken.{IsUnplannedBy, list_verdict, route_verdict}
use Rattle.router.specs.Acting.{ComesTo, Does, FailedAt, Outside, outside}

-- nothing came about
appends_nothing : (taken : Option (List ℕ)) → Appends taken taken []
appends_nothing None = tt
appends_nothing (Some bytes) = sym (append-nil bytes)

does_nothing : (before : Outside) → Does [] [] before before
does_nothing before = record { list = sym (append-nil before.list); routes = sym (append-nil before.routes); report = appends_nothing before.taken }

-- one line, or a part of it
does_line : (line : List ℕ) (list routes : List SplitAction) (old new : Option (List ℕ)) → Appends old new line → Does (Prints line ∷ []) [] (outside list routes old) (outside list routes new)
does_line line list routes old new grown = record {
  list = sym (append-nil list);
  routes = sym (append-nil routes);
  report = subst (Appends old new) (sym (append-nil (line ++ []) ∙ append-nil line)) grown;
}

does_part : (partial : List ℕ) (list routes : List SplitAction) (old new : Option (List ℕ)) → Appends old new partial → Does [] partial (outside list routes old) (outside list routes new)
does_part partial list routes old new grown = record { list = sym (append-nil list); routes = sym (append-nil routes); report = grown }

-- a change that joined its batch, or not
pushed_is : (router : Routing) (which : Side) (command : Command) (effects : List Effect) (slots : DeviceSlots) → effects ≡ []
    → HasEffects (setting_of router) slots (progress_of router) (Change which command) effects (progress_of (with_push router which command))
pushed_is router side.List command effects slots none = (none, refl)
pushed_is router side.Routes command effects slots none = (none, refl)

push_setting : (router : Routing) (which : Side) (command : Command) → setting_of (with_push router which command) ≡ setting_of router
push_setting router side.List command = refl
push_setting router side.Routes command = refl

pub push_acts : (result : Result (Unit {0}) RouterFault) (slots : DeviceSlots) (router new : Routing) (act : RouterAct) (which : Side) (command : Command) (before : Outside) → act ≡ Change which command
    → OnOk result (new ≡ with_push router which command) → OnErr result (new ≡ router) → IfErr result (λ why. (why ≡ BatchFull) ⊎ (why ≡ Memory)) → ComesTo slots router act new result before before
push_acts (Ok done) slots router new act which command before is pushed same kind = λ at. record {
  effects = [];
  step = subst (λ one. HasEffects (setting_of router) slots (progress_of router) one [] (progress_of new)) (sym is)
      (subst (λ (after : Routing). HasEffects (setting_of router) slots (progress_of router) (Change which command) [] (progress_of after)) (sym pushed) (pushed_is router which command [] slots refl));
  does = does_nothing before;
}
push_acts (Err why) slots router new act which command before is pushed same (inl full) =
    subst (λ one. ComesTo slots router act new (Err one) before before) (sym full) (record { router = same; outside_is = refl })
push_acts (Err why) slots router new act which command before is pushed same (inr memory) =
    subst (λ one. ComesTo slots router act new (Err one) before before) (sym memory)
    (subst (λ one. TakesMemory (setting_of router) (progress_of router) one) (sym is) tt, record { router = same; outside_is = refl })

-- what a device tells of a packet is what the rules of its table answer
pub answered : (slots : ℕ) (manager : SplitManaged) (key : Key) (events : List SplitAction) (found : Answer) → ServesSplit (state_on slots manager) manager → manager.whole.held ≡ None → IsKey key
    → found ≡ split_lookup (state_of_events slots events) key → events ≡ manager.events → answer manager.whole.rules key ≡ found
answered slots manager key events found serves idle valid told at =
    let shows : Shows (undivided (state_on slots manager)) manager.whole.rules =
    subst (λ (held : Option HeldCommit). Serves (undivided (state_on slots manager)) manager.whole.rules held) idle serves in
    sym (told ∙ ap (λ (some : List SplitAction). split_lookup (state_of_events slots some) key) at ∙ split_lookup-is (state_on slots manager) key ∙ shows key valid)

pub packet_tells : (slots : DeviceSlots) (inside now : Routing) (key : Key) (list routes : List SplitAction) (listed routed : Answer) → inside ≡ now → FitsBoth now slots → IsIdle now → IsKey key
    → ((n : ℕ) → inside.listed.whole.slots ≤ n → ServesSplit (state_on n inside.listed) inside.listed) → ((n : ℕ) → inside.routed.whole.slots ≤ n → ServesSplit (state_on n inside.routed) inside.routed)
    → listed ≡ split_lookup (state_of_events slots.listed list) key → routed ≡ split_lookup (state_of_events slots.routed routes) key
    → AreAt now list routes → (answer now.listed.whole.rules key ≡ listed) × (answer now.routed.whole.rules key ≡ routed)
packet_tells slots inside now key list routes listed routed same fits idle valid list_serves route_serves list_told route_told at = (
  answered slots.listed now.listed key list listed
      (subst (λ (r : Routing). (n : ℕ) → r.listed.whole.slots ≤ n → ServesSplit (state_on n r.listed) r.listed) same list_serves slots.listed fits.listed) idle.listed valid list_told at.list,
  answered slots.routed now.routed key routes routed
      (subst (λ (r : Routing). (n : ℕ) → r.routed.whole.slots ≤ n → ServesSplit (state_on n r.routed) r.routed) same route_serves slots.routed fits.routed) idle.routed valid route_told at.routes,
)

-- a packet whose line is written
pub packet_carries : (slots : DeviceSlots) (router : Routing) (key : Key) (listed routed : Answer) (list routes : List SplitAction) (old new : Option (List ℕ))
    → (AreAt router list routes → (answer router.listed.whole.rules key ≡ listed) × (answer router.routed.whole.rules key ≡ routed)) → Appends old new (packet_line router.version listed routed)
    → ComesTo slots router (Packet key) router (Ok tt) (outside list routes old) (outside list routes new)
packet_carries slots router key listed routed list routes old new tells grown at = record {
  effects = Prints (packet_line router.version listed routed) ∷ [];
  step = (
    ap (λ (one : Answer). Prints (packet_line router.version one routed) ∷ []) (sym (tells at).0) ∙ ap (λ (one : Answer). Prints (packet_line router.version (answer router.listed.whole.rules key) one) ∷ []) (sym (tells at).1),
    refl,
  );
  does = does_line (packet_line router.version listed routed) list routes old new grown;
}

-- or cut
pub packet_cuts : (slots : DeviceSlots) (router : Routing) (key : Key) (listed routed : Answer) (list routes : List SplitAction) (old new : Option (List ℕ))
    → (AreAt router list routes → (answer router.listed.whole.rules key ≡ listed) × (answer router.routed.whole.rules key ≡ routed)) → AppendsPart old new (packet_line router.version listed routed)
    → ComesTo slots router (Packet key) router (Err Sink) (outside list routes old) (outside list routes new)
packet_cuts slots router key listed routed list routes old new tells part at = record {
  front = [];
  partial = part.0;
  rest = part.1;
  cut = record {
    back = [];
    after = progress_of router;
    step = (
      ap (λ (text : List ℕ). Prints text ∷ []) (sym part.2)
          ∙ (ap (λ (one : Answer). Prints (packet_line router.version one routed) ∷ []) (sym (tells at).0) ∙ ap (λ (one : Answer). Prints (packet_line router.version (answer router.listed.whole.rules key) one) ∷ []) (sym (tells at).1)),
      refl,
    );
  };
  does = does_part part.0 list routes old new part.3;
}

-- a verdict against a batch
told_refused : (reason : Rejection) → verdict_told reason ≢ Accepted
told_refused (rejection.Unsound fault) = λ accepted. cc
told_refused (rejection.Bits field needed free) = λ accepted. cc
told_refused (rejection.Slots needed free) = λ accepted. cc

judged_list : (setting : Setting) (slots : DeviceSlots) (old : Progress) (reason : Verdict) (effects : List Effect) (new : Progress) → reason ≢ Accepted
    → Refuses setting side.List old reason effects new → Judged setting slots old reason effects new
judged_list setting slots old Accepted effects new other refuses = absurd (other refl)
judged_list setting slots old (Unsound fault) effects new other refuses = refuses
judged_list setting slots old (OutOfBits field needed free) effects new other refuses = refuses
judged_list setting slots old (OutOfSlots needed free) effects new other refuses = refuses

judged_routes : (setting : Setting) (slots : DeviceSlots) (old : Progress) (reason : Verdict) (effects : List Effect) (new : Progress) → reason ≢ Accepted
    → Refuses setting side.Routes old reason effects new → JudgedByRoutes setting slots old reason effects new
judged_routes setting slots old Accepted effects new other refuses = absurd (other refl)
judged_routes setting slots old (Unsound fault) effects new other refuses = refuses
judged_routes setting slots old (OutOfBits field needed free) effects new other refuses = refuses
judged_routes setting slots old (OutOfSlots needed free) effects new other refuses = refuses

-- The verdicts by which a table refuses a commit.
abbrev pub RefusedBy : Routing → Side → Verdict → Type 0
RefusedBy router side.List reason = list_verdict router ≡ reason
RefusedBy router side.Routes reason = (list_verdict router ≡ Accepted) × (route_verdict router ≡ reason)

refuse_step : (slots : DeviceSlots) (router : Routing) (which : Side) (reason : Verdict) (effects : List Effect) → RefusedBy router which reason → reason ≢ Accepted
    → effects ≡ Prints (refused_line router.version which (router.commits + 1) reason) ∷ [] → HasEffects (setting_of router) slots (progress_of router) Commit effects (progress_of (with_refusal router))
refuse_step slots router side.List reason effects judged other same =
    subst (λ (verdict : Verdict). Judged (setting_of router) slots (progress_of router) verdict effects (progress_of (with_refusal router))) (sym judged)
    (judged_list (setting_of router) slots (progress_of router) reason effects (progress_of (with_refusal router)) other (same, refl))
refuse_step slots router side.Routes reason effects judged other same =
    subst (λ (verdict : Verdict). Judged (setting_of router) slots (progress_of router) verdict effects (progress_of (with_refusal router))) (sym judged.0)
    (subst (λ (verdict : Verdict). JudgedByRoutes (setting_of router) slots (progress_of router) verdict effects (progress_of (with_refusal router))) (sym judged.1)
    (judged_routes (setting_of router) slots (progress_of router) reason effects (progress_of (with_refusal router)) other (same, refl)))

-- a commit that is refused, with its line
pub refuse_carries : (slots : DeviceSlots) (router new : Routing) (which : Side) (reason : Rejection) (list routes : List SplitAction) (old taken : Option (List ℕ))
    → RefusedBy router which (verdict_told reason) → new ≡ with_refusal router → Appends old taken (refused_line router.version which (router.commits + 1) (verdict_told reason))
    → ComesTo slots router Commit new (Ok tt) (outside list routes old) (outside list routes taken)
refuse_carries slots router new which reason list routes old taken judged is grown =
    subst (λ (after : Routing). ComesTo slots router Commit after (Ok tt) (outside list routes old) (outside list routes taken)) (sym is) (λ at. record {
      effects = Prints (refused_line router.version which (router.commits + 1) (verdict_told reason)) ∷ [];
      step = refuse_step slots router which (verdict_told reason) _ judged (told_refused reason) refl;
      does = does_line (refused_line router.version which (router.commits + 1) (verdict_told reason)) list routes old taken grown;
    })

-- and with a part of it
pub refuse_cuts : (slots : DeviceSlots) (router new : Routing) (which : Side) (reason : Rejection) (list routes : List SplitAction) (old taken : Option (List ℕ))
    → RefusedBy router which (verdict_told reason) → AppendsPart old taken (refused_line router.version which (router.commits + 1) (verdict_told reason))
    → ComesTo slots router Commit new (Err Sink) (outside list routes old) (outside list routes taken)
refuse_cuts slots router new which reason list routes old taken judged part = λ at. record {
  front = [];
  partial = part.0;
  rest = part.1;
  cut = record {
    back = [];
    after = progress_of (with_refusal router);
    step = refuse_step slots router which (verdict_told reason) _ judged (told_refused reason) (ap (λ (text : List ℕ). Prints text ∷ []) (sym part.2));
  };
  does = does_part part.0 list routes old taken part.3;
}

-- a device that nothing was written to
pub leaves_still : {D : Type 0} (device_slots : D → ℕ) (events : D → List SplitAction) (flight : D → Flight) (faults : D → ℕ) (before after : D) (Failed : Type 0)
    → device_slots after ≡ device_slots before → events after ≡ events before → flight after ≡ flight before → faults after ≡ faults before → (Failed → ⊥)
    → LeavesDevice device_slots events flight faults before after Failed
leaves_still device_slots events flight faults before after Failed slots same still count never = record {
  slot_count = slots;
  flight_is = still;
  made = [];
  grown = same ∙ sym (append-nil (events before));
  cause = record { later = omega arith; most = λ none. omega arith; most_stuck = omega arith; failed = λ failed. absurd (never failed) };
}

-- where no part failed
pub never_device : (which : Side) (new : Routing) (result : Result (Unit {0}) RouterFault) → (result ≡ Err Device → ⊥) → FailedAt which new result → ⊥
never_device side.List new result never failed = never failed.0
never_device side.Routes new result never failed = never failed.0

-- a change fails for another reason, and so does a packet
pub never_push : (result : Result (Unit {0}) RouterFault) → IfErr result (λ why. (why ≡ BatchFull) ⊎ (why ≡ Memory)) → result ≡ Err Device → ⊥
never_push (Ok done) kind is = cc
never_push (Err why) (inl full) is = cc
never_push (Err why) (inr memory) is = cc

pub never_sink : (result : Result (Unit {0}) RouterFault) → IfErr result (λ why. why ≡ Sink) → result ≡ Err Device → ⊥
never_sink (Ok done) kind is = cc
never_sink (Err why) kind is = cc

-- a commit that a table refuses, by the answer of what writes its line
pub refuse_comes : (result : Result (Unit {0}) RouterFault) (slots : DeviceSlots) (router new : Routing) (which : Side) (reason : Rejection) (list routes : List SplitAction) (old told : Option (List ℕ))
    → IfErr result (λ why. why ≡ Sink) → RefusedBy router which (verdict_told reason) → new ≡ with_refusal router → OnOk result (Appends old told (refused_line router.version which (router.commits + 1) (verdict_told reason)))
    → OnErr result (AppendsPart old told (refused_line router.version which (router.commits + 1) (verdict_told reason))) → ComesTo slots router Commit new result (outside list routes old) (outside list routes told)
refuse_comes (Ok done) slots router new which reason list routes old told kind judged is whole part = refuse_carries slots router new which reason list routes old told judged is whole
refuse_comes (Err why) slots router new which reason list routes old told kind judged is whole part =
    subst (λ (one : RouterFault). ComesTo slots router Commit new (Err one) (outside list routes old) (outside list routes told)) (sym kind) (refuse_cuts slots router new which reason list routes old told judged part)

-- the verdicts of a refusal
pub refused_by : (router : Routing) (which : Side) (reason : Rejection) → IsUnplannedBy router (Refused which reason) → RefusedBy router which (verdict_told reason)
refused_by router side.List reason is = is
refused_by router side.Routes reason is = is
