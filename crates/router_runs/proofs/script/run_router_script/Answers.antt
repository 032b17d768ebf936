use Rattle.std.proofs.Common.{true, false, ◌≡◌, ◌++◌, [], Some, refl, sym, ap, ap₂, ◌∙◌, arith}
use Rattle.std.specs.List.{concat}
use Rattle.script_lines.specs.Given.{HasEnd}
use Rattle.script_lines.specs.Reader.{HeldBytes}
use Rattle.script_lines.proofs.Turns.{gives-none, gives-trans, may-first, may-second, ended-both, no-more, may-all}
use Rattle.script_runs.specs.declared.Status.TheVariants.{DeviceFault}
use Rattle.report_lines.specs.declared.sizes.Sizes.{Sizes}
use Rattle.report_lines.specs.Sizes.{sizes_by}
use Rattle.script_runs.proofs.Rounds.{fresh, ends-told, starts, told-source, counted-last}
use Rattle.script_runs.proofs.InTime.{in-time-none, stands-first, stands-next, round-in-time, wants-in-time, reads-in-time}
use Rattle.router.specs.declared.Side.{Side}
use Rattle.router.specs.Run.{DeviceSlots, Progress, Setting}
use Rattle.router.specs.Routing.{progress_of, setting_of, slots_of}
use Rattle.router.specs.Acting.{failed_side}
use Rattle.router.specs.Taken.{made_on}
use Rattle.router_reader.specs.Readings.{router_reading}
use Rattle.router_runs.specs.Runs.{router_kind}
use Rattle.router_runs.proofs.Kind.{joins}
use Rattle.router_runs.proofs.WholeRun.{carried, due-told, may-end}
use Rattle.router_runs.proofs.HitlessRuns.{hitless-run}
use Rattle.router_runs.proofs.GivenRuns.{promised}
use Rattle.router_runs.proofs.Leaving.{FailsOf, both-as, both-still, both-then, fails-as, list-tried, never-fails, routes-tried}
use Rattle.router_runs.proofs.script.run_router_script.Goals as goal

pub acts-init : goal.acts-init
acts-init g c = record {
  setting = refl;
  version = refl;
  slots = c.requires.slots;
  stands = record {
    idle = c.requires.idle;
    whole = c.requires.whole;
    commits = let none : c.args.router.now.commits ≡ 0 = ap (λ (p : Progress). p.commits) c.requires.begun in omega (arith, none);
    within = let none = ap (λ (h : HeldBytes). h.before) c.of_at_most-lines.ensures in omega (arith, none);
  };
  at = record {
    list = c.requires.blank.0 ∙ sym (ap (λ (p : Progress). p.listed.events) c.requires.begun);
    routes = c.requires.blank.1 ∙ sym (ap (λ (p : Progress). p.routed.events) c.requires.begun);
  };
  gives = (
    [],
    gives-none _ _,
    λ e. absurd e,
    λ which left now may. stands-first _ _ _ _ _ _ _ _
        (starts (router_kind (router_reading c.args.router.now.version) (setting_of c.args.router.now) (slots_of (g.D.SplitDevice.slot_count c.args.list.now) (g.D.SplitDevice.slot_count c.args.routes.now))) left _ now _ _ _ refl refl
        (c.of_at_most-lines.ensures ∙ ap (λ (s : Sizes). fresh s.bytes) (c.sizes_by.ensures.sizes ∙ ap sizes_by c.is_large.ensures)) (ap Some may.bytes) c.requires.begun (ap₂ made_on c.requires.blank.0 c.requires.blank.1)),
    in-time-none _ _ _ _,
  );
  none_in_flight = c.requires.none_in_flight;
  told = λ some. some;
  devices = both-still _ _ _ _ _ _ (λ which. ⊥) (λ which e. e);
  writes = refl;
  reads = refl;
}

pub acts-preserved : goal.acts-preserved
acts-preserved g c =
    let i = c.acts.invariant in
    let large : c.acts.router.large ≡ c.args.router.now.large = ap (λ (s : Setting). s.large) i.setting in
    let t = c.in-None.ensures in
    let slots : DeviceSlots = slots_of (g.D.SplitDevice.slot_count c.args.list.now) (g.D.SplitDevice.slot_count c.args.routes.now) in
    let kind = router_kind (router_reading c.args.router.now.version) (setting_of c.args.router.now) slots in
    record {
      setting = t.setting ∙ i.setting;
      version = ap (λ (s : Setting). s.version) t.setting ∙ i.version;
      slots = t.slots;
      stands = t.goes.1;
      at = t.at;
      gives = (
        i.gives.0 ++ t.gives.0,
        gives-trans _ _ _ _ _ _ i.gives.0 t.gives.0 i.gives.1 t.gives.1 (λ e. (t.gives.2 true).rests (no-more _ (i.gives.2 e))) (λ e. (t.rests (no-more _ (i.gives.2 e))).0),
        λ e. ended-both _ _ i.gives.0 t.gives.0 e i.gives.2 (λ o. (t.rests o).1) (t.gives.2 true).ended,
        λ which left now may.
            let stays : HasEnd i.gives.0 → t.gives.0 ≡ [] = λ e. (t.gives.2 true).rests (no-more _ (i.gives.2 e)) in
            let s = i.gives.3 which left (concat t.gives.0 ++ now) (may-first left now i.gives.0 t.gives.0 may stays) in
            rw (← i.setting, ← large, ← i.version, ← i.devices.list.slot_count, ← i.devices.routes.slot_count) (stands-next _ i.gives.0 t.gives.0 _ _ _ _ _ _ _ _ _ left now (t.gives.2 which) may (rw (i.setting, large, i.version, i.devices.list.slot_count, i.devices.routes.slot_count) s)),
        let round = t.gives.2 false in
            let stays : HasEnd i.gives.0 → t.gives.0 ≡ [] = λ e. round.rests (no-more _ (i.gives.2 e)) in
            let may = may-all (i.gives.0 ++ t.gives.0) in
            let s = i.gives.3 false _ (concat t.gives.0 ++ []) (may-first _ [] i.gives.0 t.gives.0 may stays) in
            round-in-time kind joins i.gives.0 t.gives.0 c.acts.lines (progress_of c.acts.router) (made_on (g.D.SplitDevice.events c.acts.list) (g.D.SplitDevice.events c.acts.routes)) _ _ _ _ (λ left now may. (i.gives.3 false left now may).so_far) stays round.rests round.last
            (round.grows (concat (i.gives.0 ++ t.gives.0)) (concat t.gives.0 ++ []) [] (Some (g.K.Sink.accepted c.args.sink.now)) (may-second _ [] i.gives.0 t.gives.0 may) (rw (i.setting, large, i.version, i.devices.list.slot_count, i.devices.routes.slot_count) s.so_far)) i.gives.4,
      );
      none_in_flight = (t.devices.list.flight_is ∙ i.none_in_flight.0, t.devices.routes.flight_is ∙ i.none_in_flight.1);
      told = λ some. t.told (i.told some);
      devices = both-then _ _ _ _ _ _ _ _ _ _ (λ which. ⊥) (λ which. ⊥) (λ which e. e) i.devices
          (both-as _ _ _ _ _ _ _ _ _ (λ which. ⊥) (never-fails _ _ (λ e. cc)) (λ which e. absurd e) t.devices);
      writes = t.write.stayed (λ e. cc) ∙ i.writes;
      reads = t.read.stayed (λ e. cc) ∙ i.reads;
    }

pub returns-in-Some-clause-carried_out : goal.returns-in-Some-clause-carried_out
returns-in-Some-clause-carried_out g c =
    let i = c.acts.invariant in
    let large : c.acts.router.large ≡ c.args.router.now.large = ap (λ (s : Setting). s.large) i.setting in
    let t = c.in-Some.ensures in
    let stays : HasEnd i.gives.0 → t.gives.0 ≡ [] = λ e. (t.gives.2 true).rests (no-more _ (i.gives.2 e)) in
    let all = gives-trans _ _ _ _ _ _ i.gives.0 t.gives.0 i.gives.1 t.gives.1 stays (λ e. (t.rests (no-more _ (i.gives.2 e))).0) in
    carried (router_reading c.args.router.now.version) (setting_of c.args.router.now) (slots_of (g.D.SplitDevice.slot_count c.args.list.now) (g.D.SplitDevice.slot_count c.args.routes.now)) c.in-Some.status
    (g.S.Source.left c.args.source.now) (g.S.Source.left c.round.new.source) (made_on (g.D.SplitDevice.events c.round.new.list) (g.D.SplitDevice.events c.round.new.routes)) (g.K.Sink.taken c.args.sink.now) (g.K.Sink.taken c.round.new.sink)
    (concat (i.gives.0 ++ t.gives.0), all.taken) (ends-told _ c.in-Some.status _ _ _ _ (i.gives.0 ++ t.gives.0) _ _ _ all (λ left taken now may parts.
    let s = i.gives.3 true left (concat t.gives.0 ++ now) (may-first left now i.gives.0 t.gives.0 may stays) in
    rw (← i.setting, ← large, ← i.version, ← i.devices.list.slot_count, ← i.devices.routes.slot_count) ((t.gives.2 true).ends left taken (concat t.gives.0 ++ now) now _ (may-second left now i.gives.0 t.gives.0 may) parts (rw (i.setting, large, i.version, i.devices.list.slot_count, i.devices.routes.slot_count) s.so_far))))

pub returns-in-Some-clause-hitless : goal.returns-in-Some-clause-hitless
returns-in-Some-clause-hitless g c =
    hitless-run (router_reading c.args.router.now.version) (setting_of c.args.router.now) (slots_of (g.D.SplitDevice.slot_count c.args.list.now) (g.D.SplitDevice.slot_count c.args.routes.now)) c.in-Some.status
    (g.S.Source.left c.args.source.now) (g.S.Source.left c.round.new.source) (g.K.Sink.taken c.args.sink.now) (g.K.Sink.taken c.round.new.sink)
    (made_on (g.D.SplitDevice.events c.round.new.list) (g.D.SplitDevice.events c.round.new.routes)) (returns-in-Some-clause-carried_out g c)

pub returns-in-Some-clause-given : goal.returns-in-Some-clause-given
returns-in-Some-clause-given g c =
    let i = c.acts.invariant in
    let large : c.acts.router.large ≡ c.args.router.now.large = ap (λ (s : Setting). s.large) i.setting in
    let t = c.in-Some.ensures in
    let stays : HasEnd i.gives.0 → t.gives.0 ≡ [] = λ e. (t.gives.2 true).rests (no-more _ (i.gives.2 e)) in
    let all = gives-trans _ _ _ _ _ _ i.gives.0 t.gives.0 i.gives.1 t.gives.1 stays (λ e. (t.rests (no-more _ (i.gives.2 e))).0) in
    λ which. promised (router_reading c.args.router.now.version) (setting_of c.args.router.now) (slots_of (g.D.SplitDevice.slot_count c.args.list.now) (g.D.SplitDevice.slot_count c.args.routes.now)) c.in-Some.status _ _ _ _ (i.gives.0 ++ t.gives.0) _ _ _ (λ e. t.no_usage (ap Some e)) all (λ left taken now may parts.
    let s = i.gives.3 which left (concat t.gives.0 ++ now) (may-first left now i.gives.0 t.gives.0 may stays) in
    rw (← i.setting, ← large, ← i.version, ← i.devices.list.slot_count, ← i.devices.routes.slot_count) ((t.gives.2 which).ends left taken (concat t.gives.0 ++ now) now _ (may-second left now i.gives.0 t.gives.0 may) parts (rw (i.setting, large, i.version, i.devices.list.slot_count, i.devices.routes.slot_count) s.so_far)))

pub returns-in-Some-clause-causes : goal.returns-in-Some-clause-causes
returns-in-Some-clause-causes g c =
    let i = c.acts.invariant in
    let large : c.acts.router.large ≡ c.args.router.now.large = ap (λ (s : Setting). s.large) i.setting in
    let t = c.in-Some.ensures in
    let stays : HasEnd i.gives.0 → t.gives.0 ≡ [] = λ e. (t.gives.2 true).rests (no-more _ (i.gives.2 e)) in
    let all = gives-trans _ _ _ _ _ _ i.gives.0 t.gives.0 i.gives.1 t.gives.1 stays (λ e. (t.rests (no-more _ (i.gives.2 e))).0) in
    let failed : Side = failed_side c.round.new.router in
    let fails : Side → Type 0 = FailsOf (c.in-Some.status ≡ DeviceFault) failed in
    let whole = both-then _ _ _ _ _ _ _ _ _ _ (λ which. ⊥) fails (λ which e. e) i.devices (both-as _ _ _ _ _ _ _ _ _ fails (fails-as _ _ _ (λ e. cc)) (fails-as _ _ _ (λ e. ap Some e)) t.devices) in
    record {
      read = counted-last (g.S.Source.faults c.args.source.now) (g.S.Source.faults c.acts.source) (g.S.Source.faults c.round.new.source) c.in-Some.status _ i.reads t.read;
      write = counted-last (g.K.Sink.faults c.args.sink.now) (g.K.Sink.faults c.acts.sink) (g.K.Sink.faults c.round.new.sink) c.in-Some.status _ i.writes t.write;
      which = failed;
      list = list-tried _ _ _ _ _ _ _ _ fails whole c.requires.blank.0;
      routes = routes-tried _ _ _ _ _ _ _ _ fails whole c.requires.blank.1;
      due = λ stuck. due-told (router_kind (router_reading c.args.router.now.version) (setting_of c.args.router.now) (slots_of (g.D.SplitDevice.slot_count c.args.list.now) (g.D.SplitDevice.slot_count c.args.routes.now))) failed
          _ _ _ _ (i.gives.0 ++ t.gives.0) (made_on (g.D.SplitDevice.events c.round.new.list) (g.D.SplitDevice.events c.round.new.routes)) all (λ left now may.
          let s = i.gives.3 true left (concat t.gives.0 ++ now) (may-first left now i.gives.0 t.gives.0 may stays) in
          rw (← i.setting, ← large, ← i.version, ← i.devices.list.slot_count, ← i.devices.routes.slot_count) (t.gives.3 (ap Some stuck) left (concat t.gives.0 ++ now) now (g.K.Sink.taken c.args.sink.now) (may-second left now i.gives.0 t.gives.0 may) (rw (i.setting, large, i.version, i.devices.list.slot_count, i.devices.routes.slot_count) s.so_far)));
      ends = may-end (router_reading c.args.router.now.version) (setting_of c.args.router.now) (slots_of (g.D.SplitDevice.slot_count c.args.list.now) (g.D.SplitDevice.slot_count c.args.routes.now)) c.in-Some.status
          (g.S.Source.left c.args.source.now) (g.S.Source.left c.round.new.source) (made_on (g.D.SplitDevice.events c.round.new.list) (g.D.SplitDevice.events c.round.new.routes)) (g.K.Sink.taken c.args.sink.now) (g.K.Sink.taken c.round.new.sink)
          (concat (i.gives.0 ++ t.gives.0), all.taken) (λ e. t.no_usage (ap Some e)) (ends-told _ c.in-Some.status _ _ _ _ (i.gives.0 ++ t.gives.0) _ _ _ all (λ left taken now may parts.
          let s = i.gives.3 true left (concat t.gives.0 ++ now) (may-first left now i.gives.0 t.gives.0 may stays) in
          rw (← i.setting, ← large, ← i.version, ← i.devices.list.slot_count, ← i.devices.routes.slot_count) ((t.gives.2 true).ends left taken (concat t.gives.0 ++ now) now _ (may-second left now i.gives.0 t.gives.0 may) parts (rw (i.setting, large, i.version, i.devices.list.slot_count, i.devices.routes.slot_count) s.so_far))));
    }

-- what was told stays told
pub returns-in-Some-clause-told : goal.returns-in-Some-clause-told
returns-in-Some-clause-told g c =
    let i = c.acts.invariant in
    let t = c.in-Some.ensures in (
      λ some. told-source _ _ (concat t.gives.0, t.gives.1.taken) (told-source _ _ (concat i.gives.0, i.gives.1.taken) some),
      λ some. t.told (i.told some),
    )

pub returns-in-Some-clause-slot_counts : goal.returns-in-Some-clause-slot_counts
returns-in-Some-clause-slot_counts g c =
    let i = c.acts.invariant in
    let t = c.in-Some.ensures in
    (t.devices.list.slot_count ∙ i.devices.list.slot_count, t.devices.routes.slot_count ∙ i.devices.routes.slot_count)

-- the last round too comes in time
pub returns-in-Some-clause-in_time : goal.returns-in-Some-clause-in_time
returns-in-Some-clause-in_time g c =
    let i = c.acts.invariant in
    let large : c.acts.router.large ≡ c.args.router.now.large = ap (λ (s : Setting). s.large) i.setting in
    let t = c.in-Some.ensures in
    let kind = router_kind (router_reading c.args.router.now.version) (setting_of c.args.router.now) (slots_of (g.D.SplitDevice.slot_count c.args.list.now) (g.D.SplitDevice.slot_count c.args.routes.now)) in
    let round = t.gives.2 false in
    let stays : HasEnd i.gives.0 → t.gives.0 ≡ [] = λ e. round.rests (no-more _ (i.gives.2 e)) in
    let all = gives-trans _ _ _ _ _ _ i.gives.0 t.gives.0 i.gives.1 t.gives.1 stays (λ e. (t.rests (no-more _ (i.gives.2 e))).0) in
    let may = may-all (i.gives.0 ++ t.gives.0) in
    let s = i.gives.3 false _ (concat t.gives.0 ++ []) (may-first _ [] i.gives.0 t.gives.0 may stays) in
    reads-in-time kind c.in-Some.status _ _ (i.gives.0 ++ t.gives.0) _ _ _ all.given
    (round-in-time kind joins i.gives.0 t.gives.0 c.acts.lines (progress_of c.acts.router) (made_on (g.D.SplitDevice.events c.acts.list) (g.D.SplitDevice.events c.acts.routes)) _ _ _ _ (λ left now may. (i.gives.3 false left now may).so_far) stays round.rests round.last
    (round.grows (concat (i.gives.0 ++ t.gives.0)) (concat t.gives.0 ++ []) [] (Some (g.K.Sink.accepted c.args.sink.now)) (may-second _ [] i.gives.0 t.gives.0 may) (rw (i.setting, large, i.version, i.devices.list.slot_count, i.devices.routes.slot_count) s.so_far)) i.gives.4)
    (λ memory front last e left after may.
    rw (← i.setting, ← large, ← i.version, ← i.devices.list.slot_count, ← i.devices.routes.slot_count) (wants-in-time _ joins i.gives.0 t.gives.0 _ _ _ _ _ _ _ _ _ _ left after last front round memory may
    (rw (i.setting, large, i.version, i.devices.list.slot_count, i.devices.routes.slot_count) (i.gives.3 false left (concat t.gives.0 ++ after) (may-first left after i.gives.0 t.gives.0 may stays))) e))
