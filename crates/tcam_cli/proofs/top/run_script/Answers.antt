use Rattle.std.proofs.Common.{true, false, ◌≡◌, ◌++◌, [], Some, refl, sym, ap, ◌∙◌, arith}
use Rattle.std.specs.List.{concat}
use Rattle.script_lines.specs.Given.{HasEnd, counted}
use Rattle.script_lines.proofs.Turns.{gives-none, gives-trans, may-first, may-second, ended-both, no-more, may-all}
use Rattle.report_lines.specs.declared.sizes.Sizes.{Sizes}
use Rattle.report_lines.specs.Sizes.{sizes_by}
use Rattle.script_runs.proofs.Rounds.{fresh, ends-told, starts, told-source, counted-last}
use Rattle.script_runs.proofs.InTime.{in-time-none, stands-first, stands-next, round-in-time, wants-in-time, reads-in-time}
use Rattle.tcam_cli.proofs.GivenRuns.{promised}
use Rattle.tcam_cli.proofs.Kind.{joins}
use Rattle.tcam_cli.specs.Headline.{run_kind}
use Rattle.script_lines.specs.Reader.{HeldBytes}
use Rattle.replay.specs.Run.{Progress}
use Rattle.replay.specs.Running.{progress_of, setting_of}
use Rattle.replay.specs.Effects.{Setting}
use Rattle.replay.specs.Outside.{Leaves}
use Rattle.replay.proofs.between.Leaving.{leaves-line, leaves-then, uncounted}
use Rattle.script_runs.specs.declared.Status.TheVariants.{WriteFault, DeviceFault}
use Rattle.tcam_device.specs.Flight.{writes_in}
use Rattle.tcam_device.specs.State.{replay}
use Rattle.tcam_cli.proofs.FaultCounts.{leaves-none, made-tried, status-leaves}
use Rattle.tcam_cli.proofs.WholeRun.{carried, may-end}
use Rattle.tcam_cli.proofs.top.run_script.Goals as goal

pub acts-init : goal.acts-init
acts-init g c = record {
  setting = refl;
  stands = record {
    idle = c.requires.idle;
    whole = c.requires.whole;
    commits = let none : c.args.run.now.commits ≡ 0 = ap (λ (p : Progress). p.commits) c.requires.begun in omega (arith, none);
    within = let none = ap (λ (h : HeldBytes). h.before) c.of_at_most-lines.ensures in omega (arith, none);
  };
  at = ap (λ (p : Progress). p.state) c.requires.begun ∙ sym (ap (λ events. replay (g.D.Writable.view c.args.device.now).slots (writes_in events)) c.requires.blank);
  gives = ([], gives-none _ _, λ e. absurd e, λ which left now may. stands-first _ _ _ _ _ _ _ _ (starts (run_kind (setting_of c.args.run.now) (g.D.Writable.view c.args.device.now).slots) left _ now _ _ _ refl refl (c.of_at_most-lines.ensures ∙ ap (λ (s : Sizes). fresh s.bytes) (c.sizes_by.ensures.sizes ∙ ap sizes_by c.is_large.ensures)) (ap Some may.bytes) c.requires.begun c.requires.blank), in-time-none _ _ _ _);
  none_in_flight = c.requires.none_in_flight;
  leaves = leaves-line _ _ _ _ _ _ ⊥ ⊥ (λ some. some) refl refl refl (uncounted ⊥ _ _ (λ e. e) refl) (λ e. e);
  reads = refl;
}

pub acts-preserved : goal.acts-preserved
acts-preserved g c =
    let i = c.acts.invariant in
    let large : c.acts.run.large ≡ c.args.run.now.large = ap (λ (s : Setting). s.large) i.setting in
    let t = c.in-None.ensures in
    record {
      setting = t.setting ∙ i.setting;
      stands = t.goes.1;
      at = t.at;
      gives = (
        i.gives.0 ++ t.gives.0,
        gives-trans _ _ _ _ _ _ i.gives.0 t.gives.0 i.gives.1 t.gives.1 (λ e. (t.gives.2 true).rests (no-more _ (i.gives.2 e))) (λ e. (t.rests (no-more _ (i.gives.2 e))).0),
        λ e. ended-both _ _ i.gives.0 t.gives.0 e i.gives.2 (λ o. (t.rests o).1) (t.gives.2 true).ended,
        λ which left now may.
            let stays : HasEnd i.gives.0 → t.gives.0 ≡ [] = λ e. (t.gives.2 true).rests (no-more _ (i.gives.2 e)) in
            let s = i.gives.3 which left (concat t.gives.0 ++ now) (may-first left now i.gives.0 t.gives.0 may stays) in
            rw (← i.setting, ← large, ← i.leaves.slots) (stands-next _ i.gives.0 t.gives.0 _ _ _ _ _ _ _ _ _ left now (t.gives.2 which) may (rw (i.setting, large, i.leaves.slots) s)),
        let round = t.gives.2 false in
            let stays : HasEnd i.gives.0 → t.gives.0 ≡ [] = λ e. round.rests (no-more _ (i.gives.2 e)) in
            let may = may-all (i.gives.0 ++ t.gives.0) in
            let s = i.gives.3 false _ (concat t.gives.0 ++ []) (may-first _ [] i.gives.0 t.gives.0 may stays) in
            round-in-time (run_kind (setting_of c.args.run.now) (g.D.Writable.view c.args.device.now).slots) joins i.gives.0 t.gives.0 c.acts.lines (progress_of (g.D.Writable.view c.args.device.now).slots c.acts.run) (g.D.Writable.view c.acts.device).events _ _ _ _ (λ left now may. (i.gives.3 false left now may).so_far) stays round.rests round.last
            (round.grows (concat (i.gives.0 ++ t.gives.0)) (concat t.gives.0 ++ []) [] (Some (g.K.Sink.accepted c.args.sink.now)) (may-second _ [] i.gives.0 t.gives.0 may) (rw (i.setting, large, i.leaves.slots) s.so_far)) i.gives.4,
      );
      none_in_flight = t.none_in_flight;
      leaves = leaves-then _ _ _ _ _ _ _ _ ⊥ ⊥ ⊥ ⊥ (λ e. e) (λ e. e) i.leaves (leaves-none _ _ _ _ _ _ _ _ t.leaves (λ e. cc) (λ e. cc));
      reads = t.read.stayed (λ e. cc) ∙ i.reads;
    }

pub returns-in-Some-clause-carried_out : goal.returns-in-Some-clause-carried_out
returns-in-Some-clause-carried_out g c =
    let i = c.acts.invariant in
    let large : c.acts.run.large ≡ c.args.run.now.large = ap (λ (s : Setting). s.large) i.setting in
    let t = c.in-Some.ensures in
    let stays : HasEnd i.gives.0 → t.gives.0 ≡ [] = λ e. (t.gives.2 true).rests (no-more _ (i.gives.2 e)) in
    let all = gives-trans _ _ _ _ _ _ i.gives.0 t.gives.0 i.gives.1 t.gives.1 stays (λ e. (t.rests (no-more _ (i.gives.2 e))).0) in
    carried (setting_of c.args.run.now) (g.D.Writable.view c.args.device.now).slots c.in-Some.status (g.S.Source.left c.args.source.now) (g.S.Source.left c.round.new.source) (g.D.Writable.view c.round.new.device).events (g.K.Sink.taken c.args.sink.now) (g.K.Sink.taken c.round.new.sink)
    (concat (i.gives.0 ++ t.gives.0), all.taken) (ends-told _ c.in-Some.status _ _ _ _ (i.gives.0 ++ t.gives.0) _ _ _ all (λ left taken now may parts.
    let s = i.gives.3 true left (concat t.gives.0 ++ now) (may-first left now i.gives.0 t.gives.0 may stays) in
    rw (← i.setting, ← large, ← i.leaves.slots) ((t.gives.2 true).ends left taken (concat t.gives.0 ++ now) now _ (may-second left now i.gives.0 t.gives.0 may) parts (rw (i.setting, large, i.leaves.slots) s.so_far))))

pub returns-in-Some-clause-given : goal.returns-in-Some-clause-given
returns-in-Some-clause-given g c = λ which.
    let i = c.acts.invariant in
    let large : c.acts.run.large ≡ c.args.run.now.large = ap (λ (s : Setting). s.large) i.setting in
    let t = c.in-Some.ensures in
    let stays : HasEnd i.gives.0 → t.gives.0 ≡ [] = λ e. (t.gives.2 true).rests (no-more _ (i.gives.2 e)) in
    let all = gives-trans _ _ _ _ _ _ i.gives.0 t.gives.0 i.gives.1 t.gives.1 stays (λ e. (t.rests (no-more _ (i.gives.2 e))).0) in
    promised (setting_of c.args.run.now) (g.D.Writable.view c.args.device.now).slots c.in-Some.status (g.S.Source.given c.args.source.now) (g.S.Source.given c.round.new.source) (g.S.Source.left c.args.source.now) (g.S.Source.left c.round.new.source) (i.gives.0 ++ t.gives.0)
    (g.D.Writable.view c.round.new.device).events (counted which (g.K.Sink.taken c.args.sink.now) (g.K.Sink.accepted c.args.sink.now)) (counted which (g.K.Sink.taken c.round.new.sink) (g.K.Sink.accepted c.round.new.sink))
    (λ e. t.no_usage (ap Some e)) all (λ left taken now may parts.
    let s = i.gives.3 which left (concat t.gives.0 ++ now) (may-first left now i.gives.0 t.gives.0 may stays) in
    rw (← i.setting, ← large, ← i.leaves.slots) ((t.gives.2 which).ends left taken (concat t.gives.0 ++ now) now _ (may-second left now i.gives.0 t.gives.0 may) parts (rw (i.setting, large, i.leaves.slots) s.so_far)))

pub returns-in-Some-clause-causes : goal.returns-in-Some-clause-causes
returns-in-Some-clause-causes g c =
    let i = c.acts.invariant in
    let large : c.acts.run.large ≡ c.args.run.now.large = ap (λ (s : Setting). s.large) i.setting in
    let t = c.in-Some.ensures in
    let stays : HasEnd i.gives.0 → t.gives.0 ≡ [] = λ e. (t.gives.2 true).rests (no-more _ (i.gives.2 e)) in
    let all = gives-trans _ _ _ _ _ _ i.gives.0 t.gives.0 i.gives.1 t.gives.1 stays (λ e. (t.rests (no-more _ (i.gives.2 e))).0) in
    let whole : Leaves g.K.Sink.taken g.K.Sink.faults c.args.sink.now c.round.new.sink (g.D.Writable.view c.args.device.now) (g.D.Writable.view c.round.new.device) (c.in-Some.status ≡ WriteFault) (c.in-Some.status ≡ DeviceFault) =
    leaves-then _ _ _ _ _ _ _ _ ⊥ ⊥ _ _ (λ e. e) (λ e. e) i.leaves (status-leaves _ _ _ _ _ _ c.in-Some.status t.leaves) in
    record {
      read = counted-last (g.S.Source.faults c.args.source.now) (g.S.Source.faults c.acts.source) (g.S.Source.faults c.round.new.source) c.in-Some.status _ i.reads t.read;
      write = whole.sink_cause;
      device = made-tried _ _ _ _ _ _ _ _ (ap writes_in c.requires.blank) whole;
      ends = may-end (setting_of c.args.run.now) (g.D.Writable.view c.args.device.now).slots c.in-Some.status (g.S.Source.left c.args.source.now) (g.S.Source.left c.round.new.source) (g.D.Writable.view c.round.new.device).events (g.K.Sink.taken c.args.sink.now) (g.K.Sink.taken c.round.new.sink)
          (concat (i.gives.0 ++ t.gives.0), all.taken) (λ e. t.no_usage (ap Some e)) (ends-told _ c.in-Some.status _ _ _ _ (i.gives.0 ++ t.gives.0) _ _ _ all (λ left taken now may parts.
          let s = i.gives.3 true left (concat t.gives.0 ++ now) (may-first left now i.gives.0 t.gives.0 may stays) in
          rw (← i.setting, ← large, ← i.leaves.slots) ((t.gives.2 true).ends left taken (concat t.gives.0 ++ now) now _ (may-second left now i.gives.0 t.gives.0 may) parts (rw (i.setting, large, i.leaves.slots) s.so_far))));
    }

-- what was told stays told
pub returns-in-Some-clause-told : goal.returns-in-Some-clause-told
returns-in-Some-clause-told g c =
    let i = c.acts.invariant in
    let t = c.in-Some.ensures in (
      λ some. told-source _ _ (concat t.gives.0, t.gives.1.taken) (told-source _ _ (concat i.gives.0, i.gives.1.taken) some),
      λ some. t.leaves.told (i.leaves.told some),
    )

-- the last round too comes in time
pub returns-in-Some-clause-in_time : goal.returns-in-Some-clause-in_time
returns-in-Some-clause-in_time g c =
    let i = c.acts.invariant in
    let large : c.acts.run.large ≡ c.args.run.now.large = ap (λ (s : Setting). s.large) i.setting in
    let t = c.in-Some.ensures in
    let round = t.gives.2 false in
    let stays : HasEnd i.gives.0 → t.gives.0 ≡ [] = λ e. round.rests (no-more _ (i.gives.2 e)) in
    let all = gives-trans _ _ _ _ _ _ i.gives.0 t.gives.0 i.gives.1 t.gives.1 stays (λ e. (t.rests (no-more _ (i.gives.2 e))).0) in
    let may = may-all (i.gives.0 ++ t.gives.0) in
    let s = i.gives.3 false _ (concat t.gives.0 ++ []) (may-first _ [] i.gives.0 t.gives.0 may stays) in
    reads-in-time (run_kind (setting_of c.args.run.now) (g.D.Writable.view c.args.device.now).slots) c.in-Some.status _ _ (i.gives.0 ++ t.gives.0) _ _ _ all.given
    (round-in-time (run_kind (setting_of c.args.run.now) (g.D.Writable.view c.args.device.now).slots) joins i.gives.0 t.gives.0 c.acts.lines (progress_of (g.D.Writable.view c.args.device.now).slots c.acts.run) (g.D.Writable.view c.acts.device).events _ _ _ _ (λ left now may. (i.gives.3 false left now may).so_far) stays round.rests round.last
    (round.grows (concat (i.gives.0 ++ t.gives.0)) (concat t.gives.0 ++ []) [] (Some (g.K.Sink.accepted c.args.sink.now)) (may-second _ [] i.gives.0 t.gives.0 may) (rw (i.setting, large, i.leaves.slots) s.so_far)) i.gives.4)
    (λ memory front last e left after may.
    rw (← i.setting, ← large, ← i.leaves.slots) (wants-in-time _ joins i.gives.0 t.gives.0 _ _ _ _ _ _ _ _ _ _ left after last front round memory may
    (rw (i.setting, large, i.leaves.slots) (i.gives.3 false left (concat t.gives.0 ++ after) (may-first left after i.gives.0 t.gives.0 may stays))) e))
