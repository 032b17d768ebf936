-- How each call of a run ends, by the values that the code has.
use Rattle.std.proofs.Common.{refl, ◌≡◌, ◌≢◌, ◌⊎◌, inl, inr, ℕ, ◌+◌, ◌≤◌, Bool, true, false, List, [], ◌++◌, Option, Some, None, Result, Ok, Err, IfErr, OnOk, OnErr, length, append-nil, sym, ap, ◌∙◌, subst}
use Rattle.std.specs.Prelude.{◌||◌}
use Rattle.std.specs.Io.KnownBytes.{Appends}
use Rattle.std.specs.List.{AllByRecursion}
use Rattle.slot_order.specs.Order.{most_slots}
use Rattle.rule_model.specs.declared.IpVersion.{IpVersion}
use Rattle.rule_store.specs.Verdict.{Verdict, Accepted, Unsound, OutOfBits, OutOfSlots}
use Rattle.tcam_device.specs.declared.Write.{Write}
use Rattle.tcam_device.specs.declared.Action.{Action}
use Rattle.tcam_device.specs.declared.Action.TheVariants.{Written}
use Rattle.tcam_device.specs.Flight.{Flight, writes_in}
use Rattle.tcam_device.specs.State.{blank, on_device, replay, state_after}
use Rattle.tcam_device.proofs.Spans.{state_after-append}
use Rattle.replay.specs.Reports.{opened, refusal_line}
use Rattle.replay.specs.declared.steps.Ended.{Ended}
use Rattle.commit_writes.specs.Routes.{IsRoute}
use Rattle.commit_writes.specs.InFlight.{AreCurrent}
use Rattle.commit_writes.proofs.WritesIn.{writes_in-append}
use Rattle.commit_writes.specs.declared.Done.{Done}
use Rattle.readback.specs.declared.Rejection.{Rejection}
use Rattle.readback.specs.Judged.{judgement}
use Rattle.batch_order.specs.declared.Refusal.TheVariants as refusal
use Rattle.batch_order.specs.Managed.{Managed, Holds, Judges, Answers, commit_of, live_now}
use Rattle.replay.specs.declared.Act.{Act}
use Rattle.replay.specs.declared.Act.TheVariants as acts
use Rattle.replay.specs.declared.watch.Count.{Count}
use Rattle.replay.specs.declared.ActFault.{ActFault}
use Rattle.replay.specs.declared.ActFault.TheVariants.{Stopped}
use Rattle.replay.specs.declared.RunFault.{RunFault}
use Rattle.replay.specs.declared.RunFault.TheVariants as fault
use Rattle.replay.specs.Effects.{Setting, Effect, Acts, Prints, flushed, printed, waiting_after, probes_told}
use Rattle.batch_order.specs.Steps.{ServesNow}
use Rattle.replay.specs.InFlight.{AreOf, IsSeen, found_all}
use Rattle.replay.specs.Run.{Progress, HasEffects, IsCutStep, TakesMemory, pending_verdict}
use Rattle.settled_changes.specs.declared.requested.Requested.TheVariants.{Nothing}
use Rattle.replay.proofs.between.Settled.{stops-plain, verdict-plain}
use Rattle.replay.specs.Crashing.{memory_wanted}
use Rattle.report_lines.specs.Told.{verdict_told}
use Rattle.report_lines.specs.Outside.{AppendsPart}
use Rattle.replay.specs.Outside.{CutsLines, outside}
use Rattle.replay.specs.Carried.{IsAt}
use Rattle.replay.specs.Running.{Running, Watching, IsRun, IsHalfway, IsMidCommit, ComesTo, MakesSome, ShowsRules, act_outcome_of, sink_failed, watching, setting_of, progress_of, routes_of, verdict_of}
use Rattle.replay.specs.Making.{HasCome, MakesAll, TellsActions, ended_line, snapshot}
use Rattle.replay.specs.Pausing.{MakesUntil}
use Rattle.replay.specs.declared.fate.Fate.{Fate}
use Rattle.replay.specs.declared.fate.Fate.TheVariants as fates
use Rattle.replay.specs.Fates.{IsAhead, IsToCrash, commit_act}
use Rattle.replay.specs.Unfinished.{IsUnfinished, Finishes, StaysUnfinished, BreaksOff, ResumesTo, TakesAtCrash}
use Rattle.replay.proofs.between.Refusals.{told-verdict, told-refused}
use Rattle.replay.proofs.course.Course.{breaks, breaks-last, breaks-searching, count_of, finishes, last_lines, stays, told-then}
use Rattle.replay.proofs.course.Rest.{EndsWith, Rest}
use Rattle.replay.proofs.between.Halfway.{cut-run, halfway-none}
use Rattle.replay.proofs.making.Acting.{some-slots}
use Rattle.replay.proofs.flight.Seeing.{lines-all}
use Rattle.replay.proofs.between.Acts.{WantsBy, run_refused, refuse-carries, refuse-cuts}

-- some of its actions were made, and it was cut at a line or at a write
pub cut-some : (why : RunFault) (Seen : Type 0) (begun now : Managed) (watch : Watching) (slots : ℕ) (count count_now : Count) (events_old events_new : List Action) (old taken : Option (List ℕ))
    → MakesUntil Seen None watch slots (snapshot begun count (outside events_old old)) (snapshot now count_now (outside events_new taken)) (Err why)
    → (some : MakesSome begun now) × HasCome watch count count_now some.made × ((why ≡ fault.Sink) ⊎ (why ≡ fault.Device))
cut-some why Seen begun now watch slots count count_now events_old events_new old taken (inl (sink, (stops, early, within, cuts))) = (stops.some, stops.come, inl sink)
cut-some why Seen begun now watch slots count count_now events_old events_new old taken (inr (device, (stops, early, below))) = (stops.some, stops.come, inr device)

-- or all of them
pub all-made : (Seen : Type 0) (begun now : Managed) (watch : Watching) (slots : ℕ) (count count_now : Count) (events_old events_new : List Action) (old taken : Option (List ℕ)) (some : Option Ended) (end : Ended) → some ≡ Some end
    → MakesUntil Seen None watch slots (snapshot begun count (outside events_old old)) (snapshot now count_now (outside events_new taken)) (Ok some)
    → MakesAll Seen watch slots (snapshot begun count (outside events_old old)) end (snapshot now count_now (outside events_new taken))
all-made Seen begun now watch slots count count_now events_old events_new old taken None end is makes = absurd (cc)
all-made Seen begun now watch slots count count_now events_old events_new old taken (Some one) end is makes =
    let same : one ≡ end = let both : Some one ≡ Some end = is in cc in
    subst (λ e. MakesAll Seen watch slots (snapshot begun count (outside events_old old)) e (snapshot now count_now (outside events_new taken))) same makes.0

-- a run whose commit was cut
pub cut-held : (why : RunFault) (Seen : Type 0) (slots slots_made : ℕ) (before : Progress) (front : List Effect) (run : Running) (rest : Rest slots before front run) (now : Managed) (count_now : Count)
    (events_old events_new : List Action) (old taken : Option (List ℕ)) → IsRun run → run.manager.slots ≤ slots
    → MakesUntil Seen None (watching run) slots_made (snapshot run.manager (count_of run) (outside events_old old)) (snapshot now count_now (outside events_new taken)) (Err why) → IsRun (record run { manager = now; told = count_now.told; waiting = count_now.waiting })
cut-held why Seen slots slots_made before front run rest now count_now events_old events_new old taken is within makes =
    let cut = cut-some why Seen run.manager now (watching run) slots_made (count_of run) count_now events_old events_new old taken makes in
    let now_slots : now.slots ≡ run.manager.slots = some-slots run.manager now cut.0 in
    cut-run run now count_now is cut.0 (under-way (record run { manager = now; told = count_now.told; waiting = count_now.waiting }) (subst (λ n. n ≤ slots) (sym now_slots) within) (rest.more now count_now cut.0 cut.1))
  where
    under-way : (new : Running) → new.manager.slots ≤ slots → {begun : Progress} {effects : List Effect} → IsUnfinished slots begun effects new → IsMidCommit new
    under-way new inside (inl stands) = inl stands.halfway
    under-way new inside (inr stands) = inr (slots, inside, stands.onward)

pub cut-setting : (why : RunFault) (Seen : Type 0) (run : Running) (now : Managed) (slots : ℕ) (count_now : Count) (events_old events_new : List Action) (old taken : Option (List ℕ))
    → IsRun run → MakesUntil Seen None (watching run) slots (snapshot run.manager (count_of run) (outside events_old old)) (snapshot now count_now (outside events_new taken)) (Err why)
    → setting_of (record run { manager = now; told = count_now.told; waiting = count_now.waiting }) ≡ setting_of run
cut-setting why Seen run now slots count_now events_old events_new old taken is makes =
    let cut = cut-some why Seen run.manager now (watching run) slots (count_of run) count_now events_old events_new old taken makes in
    ap (λ (manager : Managed). setting_of (record run { manager = manager })) cut.0.now_is

module _ (slots : ℕ) (before : Progress) (front : List Effect) (inside run : Running) (same : inside ≡ run) (within : run.manager.slots ≤ slots) (events_old events_new : List Action)
    (rest : Rest slots before front inside) (at : IsAt slots events_old (progress_of slots run)) (flight : Flight) (current : AreCurrent (live_now run.manager) flight) where
  at-inside : IsAt slots events_old (progress_of slots inside)
  at-inside = subst (λ (r : Running). IsAt slots events_old (progress_of slots r)) (sym same) at

  within-inside : inside.manager.slots ≤ slots
  within-inside = subst (λ (r : Running). r.manager.slots ≤ slots) (sym same) within

  -- the device is the manager's, and the words in flight are current
  abbrev Seen : Type 0
  Seen = IsSeen slots events_old flight inside.manager

  pub is-seen : IsSeen slots events_old flight inside.manager
  is-seen = record { on = at-inside; current = subst (λ (r : Running). AreCurrent (live_now r.manager) flight) (sym same) current }

  -- what going on comes to where it is cut
  pub resumes-cut : (why : RunFault) (now : Managed) (count : Count) (flight_new : Flight) (old taken : Option (List ℕ))
      → MakesUntil Seen None (watching inside) slots (snapshot inside.manager (count_of inside) (outside events_old old)) (snapshot now count (outside events_new taken)) (Err why) → (why ≡ fault.Device → AreCurrent (live_now now) flight_new)
      → ResumesTo slots before (commit_act run.fate) front (record inside { manager = now; told = count.told; waiting = count.waiting }) (Err why) (outside events_old old) (outside events_new taken) flight_new
  resumes-cut why now count flight_new old taken (inr (device, (stops, early, below))) current_new =
      let new = record inside { manager = now; told = count.told; waiting = count.waiting } in
      let made = stops.some.made in
      subst (λ one. ResumesTo slots before (commit_act run.fate) front new (Err one) (outside events_old old) (outside events_new taken) flight_new) (sym device)
      (subst (λ (r : Running). StaysUnfinished slots before (commit_act r.fate) front new (outside events_old old) (outside events_new taken) flight_new) same
      (stays slots before front inside rest.course events_old events_new at-inside new made stops.left stops.due flight_new old taken
      (rest.part now stops.some ∙ ap (λ left. made ++ left) stops.left_is)
      (ap (λ (manager : Managed). setting_of (record inside { manager = manager })) stops.some.now_is)
      refl
      (ap (λ (manager : Managed). manager.state) stops.some.now_is)
      stops.next stops.events (stops.report is-seen)
      (subst (λ effects. IsUnfinished slots before effects new) (told-then slots before front inside rest.course made) (rest.more now count stops.some stops.come))
      (current_new device)))
  resumes-cut why now count flight_new old taken (inl (sink, (stops, early, within, cuts))) current_new =
      let new = record inside { manager = now; told = count.told; waiting = count.waiting } in
      subst (λ one. ResumesTo slots before (commit_act run.fate) front new (Err one) (outside events_old old) (outside events_new taken) flight_new) (sym sink)
      (subst (λ (r : Running). BreaksOff slots before (commit_act r.fate) front new (outside events_old old) (outside events_new taken)) same
      (breaks slots before front inside rest.course events_old events_new at-inside new (stops.some.made ++ stops.some.left) [] old taken
      (rest.part now stops.some ∙ sym (append-nil (stops.some.made ++ stops.some.left)))
      (ap (λ (manager : Managed). setting_of (record inside { manager = manager })) stops.some.now_is)
      (stops.cuts is-seen)))

  module _ (end : Ended) (now : Managed) (count : Count) (old mid : Option (List ℕ)) (all : MakesAll Seen (watching inside) slots (snapshot inside.manager (count_of inside) (outside events_old old)) end (snapshot now count (outside events_new mid)))
      (counted : Running) (closed : counted ≡ record inside { manager = now; told = 0; waiting = 0; fate = fates.Finishes; pending = []; commits = inside.commits + 1 }) where
    abbrev run_now : Running
    run_now = record counted { writes = counted.writes + count.told }

    abbrev ends : EndsWith inside now count end rest.line rest.ended
    ends = rest.ends Seen (watching inside) slots count end now events_old events_new old mid all

    held-is : all.actions ≡ rest.course.left
    held-is = rest.actions Seen (watching inside) slots count end now events_old events_new old mid all

    grown-left : events_new ≡ events_old ++ rest.course.left
    grown-left = all.events ∙ ap (λ actions. events_old ++ actions) held-is

    told-left : TellsActions inside.manager (watching inside) slots (count_of inside) events_old rest.course.left old mid
    told-left = subst (λ actions. TellsActions inside.manager (watching inside) slots (count_of inside) events_old actions old mid) held-is (all.report is-seen)

    new-is : run_now ≡ rest.ended
    new-is = (ends.counted counted closed).0

    -- the line of its end
    own-same : ended_line counted.json counted.early counted.commits inside.fate end count.told ≡ rest.line
    own-same = (ends.counted counted closed).1

    -- the lines of the words that are searched behind the last action
    abbrev pub last_told : List Effect
    last_told = flushed inside.family (probes_told inside.json inside.probes) count.told (replay slots (writes_in events_new)) count.waiting

    last-same : last_told ≡ last_lines slots before front inside rest.course rest.line rest.ended rest.ending
    last-same =
        let left = rest.course.left in
        let told : count.told ≡ inside.told + length (writes_in left) = all.come.told ∙ ap (λ actions. inside.told + length (writes_in actions)) held-is in
        let waiting : count.waiting ≡ waiting_after inside.depth inside.waiting left = all.come.waiting ∙ ap (waiting_after inside.depth inside.waiting) held-is in
        let state : replay slots (writes_in events_new) ≡ state_after (on_device slots inside.manager.state) (writes_in left) =
        ap (λ actions. replay slots (writes_in actions)) grown-left ∙ ap (replay slots) (writes_in-append events_old left)
        ∙ state_after-append (blank slots) (writes_in events_old) (writes_in left) ∙ ap (λ one. state_after one (writes_in left)) (sym at-inside) in
        ap (λ n. flushed inside.family (probes_told inside.json inside.probes) n (replay slots (writes_in events_new)) count.waiting) told
        ∙ ap (λ one. flushed inside.family (probes_told inside.json inside.probes) (inside.told + length (writes_in left)) one count.waiting) state
        ∙ ap (flushed inside.family (probes_told inside.json inside.probes) (inside.told + length (writes_in left)) (state_after (on_device slots inside.manager.state) (writes_in left))) waiting

    within-now : now.slots ≤ slots
    within-now = subst (λ n. n ≤ slots) (sym ends.same_slots) within-inside

    -- what the searches of the words that are left tell is what look-ups would
    pub as-last : (P : List Effect → Type 0) (journal : List Write) (flight_now : Flight) → journal ≡ writes_in events_new → ServesNow now → IsSeen slots events_new flight_now now → AreOf (probes_told inside.json inside.probes) count.waiting flight_now
        → P (found_all counted.family count.told (replay slots journal) (length (probes_told counted.json counted.probes)) count.waiting flight_now) → P last_told
    as-last P journal flight_now agrees serves seen are holds =
        subst P
        (ap (λ (r : Running). found_all r.family count.told (replay slots journal) (length (probes_told r.json r.probes)) count.waiting flight_now) closed
        ∙ ap (λ writes. found_all inside.family count.told (replay slots writes) (length (probes_told inside.json inside.probes)) count.waiting flight_now) agrees
        ∙ lines-all (watching inside) slots now events_new flight_now count.waiting within-now serves seen are count.told) holds

    -- as the run that it ended with does it, so does this one
    abbrev Breaks : Running → Fate → Option (List ℕ) → Type 0
    Breaks new fate taken = BreaksOff slots before (commit_act fate) front new (outside events_old old) (outside events_new taken)

    as-now : (taken : Option (List ℕ)) → Breaks rest.ended inside.fate taken → Breaks run_now run.fate taken
    as-now taken broken = subst (λ (r : Running). Breaks run_now r.fate taken) same (subst (λ (r : Running). Breaks r inside.fate taken) (sym new-is) broken)

    -- where one of them is cut
    pub resumes-searching : (taken : Option (List ℕ)) (flight_new : Flight) → CutsLines last_told mid taken → ResumesTo slots before (commit_act run.fate) front run_now (Err fault.Sink) (outside events_old old) (outside events_new taken) flight_new
    resumes-searching taken flight_new cuts =
        as-now taken
        (breaks-searching slots before front inside rest.course rest.line rest.ended rest.ending events_old events_new at-inside old mid grown-left told-left taken (subst (λ lines. CutsLines lines mid taken) last-same cuts))

    module _ (searched : Option (List ℕ)) (last : Appends mid searched (printed last_told)) where
      last-told : Appends mid searched (printed (last_lines slots before front inside rest.course rest.line rest.ended rest.ending))
      last-told = subst (λ lines. Appends mid searched (printed lines)) last-same last

      -- where it is finished, and its line is written
      pub resumes-all : (taken : Option (List ℕ)) (flight_new : Flight) → Appends searched taken (ended_line counted.json counted.early counted.commits inside.fate end count.told) → ResumesTo slots before (commit_act run.fate) front run_now (Ok tt) (outside events_old old) (outside events_new taken) flight_new
      resumes-all taken flight_new more =
          subst (λ (r : Running). Finishes slots before (commit_act r.fate) front run_now (outside events_old old) (outside events_new taken)) same
          (subst (λ (r : Running). Finishes slots before (commit_act inside.fate) front r (outside events_old old) (outside events_new taken)) (sym new-is)
          (finishes slots before front inside rest.course rest.line rest.ended rest.ending events_old events_new at-inside old mid grown-left told-left searched taken last-told (subst (Appends searched taken) own-same more)))

      -- or a part of it
      pub resumes-last : (taken : Option (List ℕ)) (flight_new : Flight) → AppendsPart searched taken (ended_line counted.json counted.early counted.commits inside.fate end count.told) → ResumesTo slots before (commit_act run.fate) front run_now (Err fault.Sink) (outside events_old old) (outside events_new taken) flight_new
      resumes-last taken flight_new part =
          as-now taken
          (breaks-last slots before front inside rest.course rest.line rest.ended rest.ending events_old events_new at-inside old mid grown-left told-left searched taken last-told (subst (AppendsPart searched taken) own-same part))

-- memory that is taken at a crash is one that the act takes
takes-memory : (setting : Setting) (before : Progress) (act : Act) (effects : List Effect) → before.asked ≡ Nothing → TakesAtCrash setting before act effects → TakesMemory setting before act effects
takes-memory setting before (acts.Command change) effects plain takes = absurd takes
takes-memory setting before (acts.Ask request) effects plain takes = absurd takes
takes-memory setting before acts.All effects plain takes = absurd takes
takes-memory setting before (acts.Probe key) effects plain takes = absurd takes
takes-memory setting before (acts.Packet key) effects plain takes = absurd takes
takes-memory setting before acts.Commit effects plain takes = absurd takes
takes-memory setting before (acts.Trial most) effects plain takes = absurd takes
takes-memory setting before (acts.Crash after) effects plain takes = stops-plain setting before after effects plain takes.0 takes.1

-- what comes of want of memory where no call may follow
lost-comes : (A C : Type 0) (broken : Bool) → broken ≡ true → C → WantsBy broken A C
lost-comes A C true lost comes = comes
lost-comes A C false lost comes = absurd (cc)

-- a batch that is taken is accepted
taken-accepted : (verdict : Verdict) (counts : Done) → Answers (judgement verdict) (Ok counts) → verdict ≡ Accepted
taken-accepted Accepted counts taken = refl
taken-accepted (Unsound fault) counts taken = absurd (cc)
taken-accepted (OutOfBits field needed free) counts taken = absurd (cc)
taken-accepted (OutOfSlots needed free) counts taken = absurd (cc)

-- where the commit of the pending batch is taken
module _ (inside : Running) (counts : Done) (manager : Managed) (is : IsRun inside) (idle : inside.manager.held ≡ None) (plain : inside.asked ≡ Nothing) (holds : Holds inside.manager inside.pending counts manager)
    (judges : Judges inside.manager inside.manager.held inside.pending (Ok counts)) (fate : Fate) (first : IsAhead fate) where
  abbrev run_taken : Running
  run_taken = record inside { manager = manager; fate = fate }

  manager-same : record manager { held = None } ≡ inside.manager
  manager-same = ap (λ (m : Managed). record m { held = None }) holds.new_is ∙ ap (λ held. record inside.manager { held = held }) (sym idle)

  holds-taken : Holds (record manager { held = None }) inside.pending counts manager
  holds-taken = subst (λ (m : Managed). Holds m inside.pending counts manager) (sym manager-same) holds

  shows-taken : ShowsRules (record manager { held = None })
  shows-taken = subst ShowsRules (sym manager-same) is.shows

  accepted-taken : verdict_of run_taken ≡ Accepted
  accepted-taken =
      let answers : Answers (judgement (verdict_of inside)) (Ok counts) = subst (λ held. Judges inside.manager held inside.pending (Ok counts)) idle judges in
      ap (λ (m : Managed). verdict_of (record inside { manager = m })) holds.new_is ∙ taken-accepted (verdict_of inside) counts answers

  abbrev half-taken : IsHalfway run_taken
  half-taken = halfway-none run_taken first plain counts holds-taken accepted-taken shows-taken (is.idle idle).0 (is.idle idle).1

  pub taken-run : IsRun (record inside { manager = manager; fate = fate })
  taken-run = record {
    changes = is.changes;
    asks = is.asks;
    routes = subst (λ (m : Managed). (version : IpVersion) → inside.family ≡ routes_of version → AllByRecursion (IsRoute version) m.rules) (sym holds.new_is) is.routes;
    size = subst (λ (m : Managed). length m.state.slots ≡ m.slots) (sym holds.new_is) is.size;
    few = is.few;
    shows = λ none. absurd (let bad : Some (commit_of inside.manager inside.pending holds.made counts) ≡ None = sym (ap (λ (m : Managed). m.held) holds.new_is) ∙ none in cc);
    some_slots = subst (λ (m : Managed). 1 ≤ m.slots) (sym holds.new_is) is.some_slots;
    most_slots = subst (λ (m : Managed). m.slots ≤ most_slots) (sym holds.new_is) is.most_slots;
    halfway = λ some. inl half-taken;
    idle = λ none. absurd (let bad : Some (commit_of inside.manager inside.pending holds.made counts) ≡ None = sym (ap (λ (m : Managed). m.held) holds.new_is) ∙ none in cc);
  }

  -- what is told of it before its first write
  abbrev told_first : List Effect
  told_first = opened (setting_of run_taken) inside.commits inside.pending

  taken-unfinished : (slots : ℕ) → IsUnfinished slots (progress_of slots inside) told_first (record inside { manager = manager; fate = fate })
  taken-unfinished slots = inl (record {
    halfway = half-taken;
    before_is = ap (λ (m : Managed). progress_of slots (record inside { manager = m; fate = fate })) (sym holds.new_is);
    front_is = sym (append-nil told_first);
  })

  module _ (slots : ℕ) (run new : Running) (same : inside ≡ run) (events_old events_new : List Action) (flight flight_new : Flight) (none : flight ≡ []) (old taken : Option (List ℕ)) where
    -- it is gone on with from its begin
    abbrev Goes : Result (Unit {0}) RunFault → Type 0
    Goes result =
        (before : Progress) → IsUnfinished slots before told_first (record inside { manager = manager; fate = fate })
        → IsAt slots events_old (progress_of slots (record inside { manager = manager; fate = fate })) → AreCurrent (live_now manager) flight → ResumesTo slots before (commit_act fate) [] new result (outside events_old old) (outside events_new taken) flight_new

    begins : (result : Result (Unit {0}) RunFault) → Goes result → IsAt slots events_old (progress_of slots run) → ResumesTo slots (progress_of slots run) (commit_act fate) [] new result (outside events_old old) (outside events_new taken) flight_new
    begins result goes at =
        let at_inside = subst (λ (r : Running). IsAt slots events_old (progress_of slots r)) (sym same) at in
        subst (λ (r : Running). ResumesTo slots (progress_of slots r) (commit_act fate) [] new result (outside events_old old) (outside events_new taken) flight_new) same
        (goes (progress_of slots inside) (taken-unfinished slots)
        (subst (λ (m : Managed). IsAt slots events_old (progress_of slots (record inside { manager = m; fate = fate }))) (sym holds.new_is) at_inside)
        (subst (AreCurrent (live_now manager)) (sym none) tt))

    setting-taken : setting_of new ≡ setting_of (record inside { manager = manager; fate = fate }) → setting_of new ≡ setting_of run
    setting-taken setting = setting ∙ ap (λ (m : Managed). setting_of (record inside { manager = m; fate = fate })) holds.new_is ∙ ap setting_of same

    pub taken-acts : (result : Result (Unit {0}) RunFault) → setting_of new ≡ setting_of (record inside { manager = manager; fate = fate }) → IfErr result (λ why. (why ≡ fault.Sink) ⊎ ((why ≡ fault.Device) ⊎ ((why ≡ fault.Memory) × IsToCrash fate)))
        → new.broken ≡ memory_wanted result → Goes result → ComesTo slots run (commit_act fate) new (act_outcome_of result) events_old events_new old taken
    taken-acts (Ok done) setting kind broken goes = λ at.
        let ends = begins (Ok done) goes at in
        record { effects = ends.rest; step = subst (λ one. HasEffects one (progress_of slots run) (commit_act fate) ends.rest (progress_of slots new)) (setting-taken setting) ends.step; does = ends.does }
    taken-acts (Err why) setting (inl sink) broken goes =
        let goes_sink : Goes (Err fault.Sink) = subst (λ one. Goes (Err one)) sink goes in
        subst (λ one. ComesTo slots run (commit_act fate) new (Err (Stopped one)) events_old events_new old taken) (sym sink) (λ at.
        let ends = begins (Err fault.Sink) goes_sink at in record {
          front = ends.more;
          partial = ends.partial;
          rest = ends.rest;
          cut = subst (λ one. IsCutStep one (progress_of slots run) (commit_act fate) ends.more (Prints (ends.partial ++ ends.rest))) (setting-taken setting) ends.cut;
          does = ends.does;
        })
    taken-acts (Err why) setting (inr (inl device)) broken goes =
        let goes_device : Goes (Err fault.Device) = subst (λ one. Goes (Err one)) device goes in
        subst (λ one. ComesTo slots run (commit_act fate) new (Err (Stopped one)) events_old events_new old taken) (sym device) (λ at.
        let ends = begins (Err fault.Device) goes_device at in record {
          front = ends.more;
          write = ends.due;
          cut = subst (λ one. IsCutStep one (progress_of slots run) (commit_act fate) ends.more (Acts (Written ends.due))) (setting-taken setting) ends.cut;
          does = ends.does;
        })
    taken-acts (Err why) setting (inr (inr (memory, crashes))) broken goes =
        let goes_memory : Goes (Err fault.Memory) = subst (λ one. Goes (Err one)) memory goes in
        let lost : new.broken ≡ true = broken ∙ ap (λ one. memory_wanted (Err one)) memory in
        subst (λ one. ComesTo slots run (commit_act fate) new (Err (Stopped one)) events_old events_new old taken) (sym memory)
        (lost-comes _ _ new.broken lost (λ at.
        let ends = begins (Err fault.Memory) goes_memory at in record {
          effects = ends.more;
          needs = subst (λ one. TakesMemory one (progress_of slots run) (commit_act fate) ends.more) (setting-taken setting) (takes-memory (setting_of new) (progress_of slots run) (commit_act fate) ends.more (ap (λ (r : Running). r.asked) (sym same) ∙ plain) ends.needs);
          does = ends.does;
        }))

    pub taken-stays : (result : Result (Unit {0}) RunFault) → Goes result → result ≡ Err fault.Device → IsAt slots events_old (progress_of slots run)
        → StaysUnfinished slots (progress_of slots run) (commit_act fate) [] new (outside events_old old) (outside events_new taken) flight_new
    taken-stays result goes cut at = subst (λ one. ResumesTo slots (progress_of slots run) (commit_act fate) [] new one (outside events_old old) (outside events_new taken) flight_new) cut (begins result goes at)

-- the mark of a sink that failed changes nothing else
pub marked-same : (result : Result (Unit {0}) RunFault) (mid new : Running) → new ≡ record mid { broken = mid.broken || sink_failed (act_outcome_of result) } → mid.broken ≡ memory_wanted result → result ≢ Err fault.Sink → new ≡ mid
marked-same (Ok done) mid new is whole other = is ∙ ap (λ mark. record mid { broken = mark || false }) whole ∙ ap (λ mark. record mid { broken = mark }) (sym whole)
marked-same (Err fault.Sink) mid new is whole other = absurd (other refl)
marked-same (Err fault.Device) mid new is whole other = is ∙ ap (λ mark. record mid { broken = mark || false }) whole ∙ ap (λ mark. record mid { broken = mark }) (sym whole)
marked-same (Err fault.Memory) mid new is whole other = is ∙ ap (λ mark. record mid { broken = mark || false }) whole ∙ ap (λ mark. record mid { broken = mark }) (sym whole)

pub marked-resumes : (result : Result (Unit {0}) RunFault) (slots : ℕ) (before : Progress) (act : Act) (front : List Effect) (mid new : Running) (events_old events_new : List Action) (flight : Flight) (old taken : Option (List ℕ))
    → new ≡ record mid { broken = mid.broken || sink_failed (act_outcome_of result) } → mid.broken ≡ memory_wanted result → ResumesTo slots before act front mid result (outside events_old old) (outside events_new taken) flight → ResumesTo slots before act front new result (outside events_old old) (outside events_new taken) flight
marked-resumes (Ok done) slots before act front mid new events_old events_new flight old taken is whole ends =
    subst (λ (run : Running). ResumesTo slots before act front run (Ok done) (outside events_old old) (outside events_new taken) flight) (sym (marked-same (Ok done) mid new is whole (λ e. absurd (cc)))) ends
marked-resumes (Err fault.Device) slots before act front mid new events_old events_new flight old taken is whole ends =
    subst (λ (run : Running). ResumesTo slots before act front run (Err fault.Device) (outside events_old old) (outside events_new taken) flight) (sym (marked-same (Err fault.Device) mid new is whole (λ e. absurd (cc)))) ends
marked-resumes (Err fault.Memory) slots before act front mid new events_old events_new flight old taken is whole ends =
    subst (λ (run : Running). ResumesTo slots before act front run (Err fault.Memory) (outside events_old old) (outside events_new taken) flight) (sym (marked-same (Err fault.Memory) mid new is whole (λ e. absurd (cc)))) ends
marked-resumes (Err fault.Sink) slots before act front mid new events_old events_new flight old taken is whole ends = record {
  more = ends.more;
  partial = ends.partial;
  rest = ends.rest;
  cut = subst (λ setting. IsCutStep setting before act (front ++ ends.more) (Prints (ends.partial ++ ends.rest))) (sym (ap setting_of is)) ends.cut;
  does = ends.does;
}

-- the rejection of an idle manager tells the verdict, which is against the batch
judged : (inside run : Running) (reason : Rejection) → inside ≡ run → run.manager.held ≡ None → Judges inside.manager inside.manager.held inside.pending (Err (refusal.Rejected reason))
    → (verdict_of run ≡ verdict_told reason) × (verdict_told reason ≢ Accepted)
judged inside run reason same idle judges =
    let answers : Answers (judgement (verdict_of run)) (Err (refusal.Rejected reason)) =
    subst (λ held. Judges run.manager held run.pending (Err (refusal.Rejected reason))) idle (subst (λ (r : Running). Judges r.manager r.manager.held r.pending (Err (refusal.Rejected reason))) same judges) in
    (sym (told-verdict (verdict_of run) reason answers), told-refused reason)

-- a refused commit, with its line or a part of it
pub refused-acts : (fate : Fate) (result : Result (Unit {0}) ActFault) (slots : ℕ) (inside run new : Running) (reason : Rejection) (told : Verdict) (manager : Managed)
    (events_old events_new : List Action) (old taken : Option (List ℕ)) → inside ≡ run → run.manager.held ≡ None → run.asked ≡ Nothing
    → Judges inside.manager inside.manager.held inside.pending (Err (refusal.Rejected reason)) → manager ≡ inside.manager → events_new ≡ events_old
    → new ≡ run_refused (record inside { manager = manager }) → IfErr result (λ why. why ≡ Stopped fault.Sink)
    → OnOk result (Appends old taken (refusal_line (setting_of (record inside { manager = manager })) inside.commits told))
    → OnErr result (AppendsPart old taken (refusal_line (setting_of (record inside { manager = manager })) inside.commits told)) → told ≡ verdict_told reason
    → ComesTo slots run (commit_act fate) new result events_old events_new old taken
refused-acts fate (Ok done) slots inside run new reason told manager events_old events_new old taken same idle plain judges kept journal is kind grown part told-is =
    let verdict = judged inside run reason same idle judges in
    let whole : record inside { manager = manager } ≡ run = ap (λ (m : Managed). record inside { manager = m }) kept ∙ same in
    let line = subst (λ one. Appends old taken (refusal_line (setting_of (record inside { manager = manager })) inside.commits one)) told-is grown in
    refuse-carries fate slots run new (verdict_told reason) events_old events_new old taken (verdict-plain (setting_of run) (progress_of slots run) plain ∙ verdict.0) verdict.1 (is ∙ ap run_refused whole) journal
    (subst (λ (r : Running). Appends old taken (refusal_line (setting_of r) r.commits (verdict_told reason))) whole line)
refused-acts fate (Err why) slots inside run new reason told manager events_old events_new old taken same idle plain judges kept journal is kind grown part told-is =
    let verdict = judged inside run reason same idle judges in
    let whole : record inside { manager = manager } ≡ run = ap (λ (m : Managed). record inside { manager = m }) kept ∙ same in
    let line = subst (λ one. AppendsPart old taken (refusal_line (setting_of (record inside { manager = manager })) inside.commits one)) told-is part in
    subst (λ one. ComesTo slots run (commit_act fate) new (Err one) events_old events_new old taken) (sym kind)
    (refuse-cuts fate slots run new (verdict_told reason) events_old events_new old taken (verdict-plain (setting_of run) (progress_of slots run) plain ∙ verdict.0) verdict.1 journal
    (subst (λ (r : Running). AppendsPart old taken (refusal_line (setting_of r) r.commits (verdict_told reason))) whole line))

-- what is asked for is refused where the set doesn't take it, with its line or a part of it
refused-asked : (fate : Fate) (result : Result (Unit {0}) ActFault) (slots : ℕ) (run new : Running) (reason : Verdict) (events : List Action) (old taken : Option (List ℕ))
    → pending_verdict (setting_of run) (progress_of slots run) ≡ reason → reason ≢ Accepted → new ≡ run_refused run → IfErr result (λ why. why ≡ Stopped fault.Sink)
    → OnOk result (Appends old taken (refusal_line (setting_of run) run.commits reason)) → OnErr result (AppendsPart old taken (refusal_line (setting_of run) run.commits reason))
    → ComesTo slots run (commit_act fate) new result events events old taken
refused-asked fate (Ok done) slots run new reason events old taken judged other is kind grown part =
    refuse-carries fate slots run new reason events events old taken judged other is refl grown
refused-asked fate (Err why) slots run new reason events old taken judged other is kind grown part =
    subst (λ one. ComesTo slots run (commit_act fate) new (Err one) events events old taken) (sym kind)
    (refuse-cuts fate slots run new reason events events old taken judged other refl part)

-- the same, by the verdict that is told
pub refused-told : (fate : Fate) (result : Result (Unit {0}) ActFault) (slots : ℕ) (run new : Running) (reason told : Verdict) (events : List Action) (old taken : Option (List ℕ))
    → pending_verdict (setting_of run) (progress_of slots run) ≡ reason → reason ≢ Accepted → new ≡ run_refused run → IfErr result (λ why. why ≡ Stopped fault.Sink)
    → OnOk result (Appends old taken (refusal_line (setting_of run) run.commits told)) → OnErr result (AppendsPart old taken (refusal_line (setting_of run) run.commits told)) → told ≡ reason
    → ComesTo slots run (commit_act fate) new result events events old taken
refused-told fate result slots run new reason told events old taken judged other is kind grown part same =
    refused-asked fate result slots run new reason events old taken judged other is kind
    (subst (λ one. OnOk result (Appends old taken (refusal_line (setting_of run) run.commits one))) same grown)
    (subst (λ one. OnErr result (AppendsPart old taken (refusal_line (setting_of run) run.commits one))) same part)
