use Rattle.std.proofs.Common.{Bool, true, false, ◌≡◌, ◌≤◌, refl, ap, sym, ◌∙◌, Err}
use Rattle.script_runs.specs.declared.Status.TheVariants.{Done, Usage}
use Rattle.replay.specs.Running.{Running, progress_of, setting_of}
use Rattle.report_lines.specs.Text.{usage_line}
use Rattle.tcam_cli.specs.OwnTexts.{Version, version_text}
use Rattle.report_lines.specs.declared.Family.TheVariants.{Acl}
use Rattle.tcam_cli.specs.Headline.{Makes, Reads, Verifies}
use Rattle.tcam_cli.proofs.Begun.{begins}
use Rattle.replay.proofs.between.Leaving.{uncounted, leaves-line}
use Rattle.tcam_device.specs.Flight.{writes_in}
use Rattle.tcam_cli.proofs.FaultCounts.{made-tried}
use Rattle.std.specs.List.{concat}
use Rattle.script_runs.proofs.Rounds.{told-source}
use Rattle.tcam_cli.proofs.MadeRuns.{made-ends}
use Rattle.tcam_cli.proofs.TopCall.{memory-carried, told-alone}
use Rattle.tcam_cli.proofs.HitlessRuns.{hitless-job}
use Rattle.tcam_cli.proofs.GivenRuns.{promised-none, may-tell, may-usage}
use Rattle.tcam_cli.proofs.InTime.{nothing-read}
use Rattle.tcam_cli.proofs.Checks.{shown, only-read, sink-counted, told-sink, no-device-fault, checked-carried, checked-ends, checked-in-time}
use Rattle.tcam_cli.proofs.CheckRuns.{checked-promised}
use Rattle.tcam_cli.proofs.top.run.Goals as goal

pub run_script-requires-clause-begun : goal.run_script-requires-clause-begun
run_script-requires-clause-begun g c =
    let slots = (g.D.Writable.view c.args.device.now).slots in
    let asked = rw c.in-Ok-Script.field-0-is at c.in-Ok-Script.ensures.asked in
    let within : c.in-Ok-Script.slots ≤ slots = rw asked at c.requires.slots in
    ap (progress_of slots) c.with_large-run.ensures ∙ ap (progress_of slots) c.with_removals_first.ensures ∙ ap (progress_of slots) c.in-Ok.ensures ∙ begins c.in-Ok-Script.mode c.in-Ok-Script.placement c.in-Ok-Script.family c.in-Ok-Script.slots slots c.in-Ok-Script.trace c.in-Ok-Script.depth c.in-Ok-Script.json c.in-Ok-Script.names within

-- the run that was asked for
asked-run : {begun one other run : Running} (parts large : Bool) → one ≡ begun → other ≡ record one { parts = parts } → run ≡ record other { large = large } → run ≡ record begun { parts = parts; large = large }
asked-run parts large is first second = second ∙ ap (λ (some : Running). record some { large = large }) (first ∙ ap (λ (some : Running). record some { parts = parts }) is)

pub run_script-requires-clause-slots : goal.run_script-requires-clause-slots
run_script-requires-clause-slots g c =
    let asked = rw c.in-Ok-Script.field-0-is at c.in-Ok-Script.ensures.asked in
    let within : c.in-Ok-Script.slots ≤ (g.D.Writable.view c.args.device.now).slots = rw asked at c.requires.slots in
    rw (asked-run c.in-Ok-Script.parts c.in-Ok-Script.large c.in-Ok.ensures c.with_removals_first.ensures c.with_large-run.ensures) within

pub returns-in-Ok-clause-carried_out : goal.returns-in-Ok-clause-carried_out
returns-in-Ok-clause-carried_out g c =
    let asked = rw c.in-Ok-Script.field-0-is at c.in-Ok-Script.ensures.asked in
    rw (asked ∙ ap (λ (run : Running). Reads (setting_of run)) (sym (asked-run c.in-Ok-Script.parts c.in-Ok-Script.large c.in-Ok.ensures c.with_removals_first.ensures c.with_large-run.ensures))) c.run_script.ensures.carried_out

pub returns-in-Ok-clause-hitless : goal.returns-in-Ok-clause-hitless
returns-in-Ok-clause-hitless g c =
    let asked = rw c.in-Ok-Script.field-0-is at c.in-Ok-Script.ensures.asked in
    let carried = c.run_script.ensures.carried_out in
    rw (asked ∙ ap (λ (run : Running). Reads (setting_of run)) (sym (asked-run c.in-Ok-Script.parts c.in-Ok-Script.large c.in-Ok.ensures c.with_removals_first.ensures c.with_large-run.ensures)))
    (hitless-job (Reads (setting_of c.with_large-run.result)) (g.D.Writable.view c.args.device.now).slots c.run_script.result (g.S.Source.left c.args.source.now) (g.S.Source.left c.run_script.new.source)
    (g.K.Sink.taken c.args.sink.now) (g.K.Sink.taken c.run_script.new.sink) (g.D.Writable.view c.run_script.new.device).events carried)

pub returns-in-Ok-clause-given : goal.returns-in-Ok-clause-given
returns-in-Ok-clause-given g c = λ which.
    let asked = rw c.in-Ok-Script.field-0-is at c.in-Ok-Script.ensures.asked in
    rw (asked ∙ ap (λ (run : Running). Reads (setting_of run)) (sym (asked-run c.in-Ok-Script.parts c.in-Ok-Script.large c.in-Ok.ensures c.with_removals_first.ensures c.with_large-run.ensures))) (c.run_script.ensures.given which)

pub returns-in-Ok-clause-in_time : goal.returns-in-Ok-clause-in_time
returns-in-Ok-clause-in_time g c =
    let asked = rw c.in-Ok-Script.field-0-is at c.in-Ok-Script.ensures.asked in
    rw (asked ∙ ap (λ (run : Running). Reads (setting_of run)) (sym (asked-run c.in-Ok-Script.parts c.in-Ok-Script.large c.in-Ok.ensures c.with_removals_first.ensures c.with_large-run.ensures))) c.run_script.ensures.in_time

pub returns-in-Ok-clause-causes : goal.returns-in-Ok-clause-causes
returns-in-Ok-clause-causes g c =
    let asked = rw c.in-Ok-Script.field-0-is at c.in-Ok-Script.ensures.asked in
    rw (asked ∙ ap (λ (run : Running). Reads (setting_of run)) (sym (asked-run c.in-Ok-Script.parts c.in-Ok-Script.large c.in-Ok.ensures c.with_removals_first.ensures c.with_large-run.ensures))) c.run_script.ensures.causes

pub returns-in-Err-clause-carried_out : goal.returns-in-Err-clause-carried_out
returns-in-Err-clause-carried_out g c = memory-carried _ _ _ _ _ c.requires.blank

pub returns-in-Err-clause-hitless : goal.returns-in-Err-clause-hitless
returns-in-Err-clause-hitless g c =
    hitless-job _ _ _ _ _ _ _ _ (memory-carried _ _ _ (g.K.Sink.taken c.args.sink.now) _ c.requires.blank)

pub returns-in-Err-clause-given : goal.returns-in-Err-clause-given
returns-in-Err-clause-given g c = λ which. promised-none _ _ _ _ _ _ _ (λ left. memory-carried _ _ left _ _ c.requires.blank) (λ left. tt)

pub returns-in-Err-clause-in_time : goal.returns-in-Err-clause-in_time
returns-in-Err-clause-in_time g c = nothing-read _ _ _ _ _ _ (λ e. cc)

pub returns-in-Ok-Help-clause-carried_out : goal.returns-in-Ok-Help-clause-carried_out
returns-in-Ok-Help-clause-carried_out g c =
    let is = rw c.in-Ok-Help.field-0-is at c.in-Ok-Help.ensures.asked in
    let text = c.help_of.result.now in
    rw is (text, c.help_of.ensures, told-alone text Done _ _ _ _ _ c.requires.blank (c.tell.ensures.closes.closes true))

pub returns-in-Ok-Version-clause-carried_out : goal.returns-in-Ok-Version-clause-carried_out
unfolding version_text
returns-in-Ok-Version-clause-carried_out g c =
    let is = rw c.in-Ok-Version.field-0-is at c.in-Ok-Version.ensures.asked in
    rw is (version_text, refl, told-alone version_text Done _ _ _ _ _ c.requires.blank (c.tell-in-Ok-Version.ensures.closes.closes true))

pub returns-in-Err-Usage-clause-carried_out : goal.returns-in-Err-Usage-clause-carried_out
returns-in-Err-Usage-clause-carried_out g c =
    let is = c.in-Err-Usage.ensures.usage (ap Err c.in-Err-Usage.field-0-is) in
    rw is (told-alone usage_line Usage _ _ _ _ _ c.requires.blank (c.tell-in-Err-Usage.ensures.closes.closes true))

pub returns-in-Err-Memory-clause-carried_out : goal.returns-in-Err-Memory-clause-carried_out
returns-in-Err-Memory-clause-carried_out g c = memory-carried _ _ _ _ _ c.requires.blank

pub returns-in-Err-Memory-clause-hitless : goal.returns-in-Err-Memory-clause-hitless
returns-in-Err-Memory-clause-hitless g c =
    hitless-job _ _ _ _ _ _ _ _ (memory-carried _ _ _ (g.K.Sink.taken c.args.sink.now) _ c.requires.blank)

pub returns-in-Ok-Help-clause-given : goal.returns-in-Ok-Help-clause-given
returns-in-Ok-Help-clause-given g c = λ which.
    let is = rw c.in-Ok-Help.field-0-is at c.in-Ok-Help.ensures.asked in
    let text = c.help_of.result.now in
    rw is (promised-none _ _ _ _ _ _ _ (λ left. (text, c.help_of.ensures, told-alone text Done _ left _ _ _ c.requires.blank (c.tell.ensures.closes.closes which))) (λ left. may-tell _ _ _ _ _ left (c.tell.ensures.closes.closes which)))

pub returns-in-Ok-Version-clause-given : goal.returns-in-Ok-Version-clause-given
unfolding version_text
returns-in-Ok-Version-clause-given g c = λ which.
    let is = rw c.in-Ok-Version.field-0-is at c.in-Ok-Version.ensures.asked in
    rw is (promised-none _ _ _ _ _ _ _ (λ left. (version_text, refl, told-alone version_text Done _ left _ _ _ c.requires.blank (c.tell-in-Ok-Version.ensures.closes.closes which))) (λ left. may-tell Version _ _ _ _ left (c.tell-in-Ok-Version.ensures.closes.closes which)))

pub returns-in-Err-Memory-clause-given : goal.returns-in-Err-Memory-clause-given
returns-in-Err-Memory-clause-given g c = λ which. promised-none _ _ _ _ _ _ _ (λ left. memory-carried _ _ left _ _ c.requires.blank) (λ left. tt)

pub returns-in-Err-Usage-clause-given : goal.returns-in-Err-Usage-clause-given
returns-in-Err-Usage-clause-given g c = λ which.
    let is = c.in-Err-Usage.ensures.usage (ap Err c.in-Err-Usage.field-0-is) in
    rw is (promised-none _ _ _ _ _ _ _ (λ left. told-alone usage_line Usage _ left _ _ _ c.requires.blank (c.tell-in-Err-Usage.ensures.closes.closes which)) (λ left. may-usage usage_line _ _ _ left (c.tell-in-Err-Usage.ensures.closes.closes which)))

pub returns-in-Ok-Help-clause-in_time : goal.returns-in-Ok-Help-clause-in_time
returns-in-Ok-Help-clause-in_time g c =
    let is = rw c.in-Ok-Help.field-0-is at c.in-Ok-Help.ensures.asked in
    rw is refl

pub returns-in-Ok-Version-clause-in_time : goal.returns-in-Ok-Version-clause-in_time
returns-in-Ok-Version-clause-in_time g c =
    let is = rw c.in-Ok-Version.field-0-is at c.in-Ok-Version.ensures.asked in
    rw is refl

pub returns-in-Err-Usage-clause-in_time : goal.returns-in-Err-Usage-clause-in_time
returns-in-Err-Usage-clause-in_time g c =
    let is = c.in-Err-Usage.ensures.usage (ap Err c.in-Err-Usage.field-0-is) in
    rw is refl

pub returns-in-Err-Memory-clause-in_time : goal.returns-in-Err-Memory-clause-in_time
returns-in-Err-Memory-clause-in_time g c = nothing-read _ _ _ _ _ _ (λ e. cc)

pub run_made-requires-clause-begun : goal.run_made-requires-clause-begun
run_made-requires-clause-begun g c =
    let slots = (g.D.Writable.view c.args.device.now).slots in
    let asked = rw c.in-Ok-Made.field-0-is at c.in-Ok-Made.ensures.asked in
    let within : c.in-Ok-Made.slots ≤ slots = rw asked at c.requires.slots in
    ap (progress_of slots) c.in-Ok-new.ensures ∙ begins c.in-Ok-Made.mode c.in-Ok-Made.placement Acl c.in-Ok-Made.slots slots false 0 false false within

pub run_made-requires-clause-slots : goal.run_made-requires-clause-slots
run_made-requires-clause-slots g c =
    let asked = rw c.in-Ok-Made.field-0-is at c.in-Ok-Made.ensures.asked in
    let within : c.in-Ok-Made.slots ≤ (g.D.Writable.view c.args.device.now).slots = rw asked at c.requires.slots in
    rw c.in-Ok-new.ensures within

pub returns-in-Ok-new-clause-carried_out : goal.returns-in-Ok-new-clause-carried_out
returns-in-Ok-new-clause-carried_out g c =
    let asked = rw c.in-Ok-Made.field-0-is at c.in-Ok-Made.ensures.asked in
    rw (asked ∙ ap (λ (run : Running). Makes (setting_of run) c.in-Ok-Made.seed c.in-Ok-Made.rules c.in-Ok-Made.batches) (sym c.in-Ok-new.ensures))
    (c.run_made.ensures.carried_out true (g.S.Source.left c.args.source.now))

pub returns-in-Ok-new-clause-hitless : goal.returns-in-Ok-new-clause-hitless
returns-in-Ok-new-clause-hitless g c =
    let asked = rw c.in-Ok-Made.field-0-is at c.in-Ok-Made.ensures.asked in
    rw (asked ∙ ap (λ (run : Running). Makes (setting_of run) c.in-Ok-Made.seed c.in-Ok-Made.rules c.in-Ok-Made.batches) (sym c.in-Ok-new.ensures))
    (hitless-job (Makes (setting_of c.in-Ok-new.run') c.in-Ok-Made.seed c.in-Ok-Made.rules c.in-Ok-Made.batches) (g.D.Writable.view c.args.device.now).slots c.run_made.result
    (g.S.Source.left c.args.source.now) (g.S.Source.left c.args.source.now) (g.K.Sink.taken c.args.sink.now) (g.K.Sink.taken c.run_made.new.sink) (g.D.Writable.view c.run_made.new.device).events
    (c.run_made.ensures.carried_out true (g.S.Source.left c.args.source.now)))

pub returns-in-Ok-new-clause-given : goal.returns-in-Ok-new-clause-given
returns-in-Ok-new-clause-given g c = λ which.
    let asked = rw c.in-Ok-Made.field-0-is at c.in-Ok-Made.ensures.asked in
    rw (asked ∙ ap (λ (run : Running). Makes (setting_of run) c.in-Ok-Made.seed c.in-Ok-Made.rules c.in-Ok-Made.batches) (sym c.in-Ok-new.ensures))
    (promised-none _ _ _ _ _ _ _ (λ left. c.run_made.ensures.carried_out which left) (λ left. made-ends _ _ _ _ _ _ left _ _ _ (c.run_made.ensures.carried_out which left)))

pub returns-in-Ok-new-clause-causes : goal.returns-in-Ok-new-clause-causes
returns-in-Ok-new-clause-causes g c =
    let asked = rw c.in-Ok-Made.field-0-is at c.in-Ok-Made.ensures.asked in
    let carried = c.run_made.ensures.carried_out true (g.S.Source.left c.args.source.now) in
    rw (asked ∙ ap (λ (run : Running). Makes (setting_of run) c.in-Ok-Made.seed c.in-Ok-Made.rules c.in-Ok-Made.batches) (sym c.in-Ok-new.ensures)) (record {
      read = uncounted _ (g.S.Source.faults c.args.source.now) (g.S.Source.faults c.args.source.now) carried.1.0 refl;
      write = c.run_made.ensures.leaves.sink_cause;
      device = made-tried _ _ _ _ _ _ _ _ (ap writes_in c.requires.blank) c.run_made.ensures.leaves;
      ends = made-ends _ _ _ _ _ _ (g.S.Source.left c.args.source.now) _ _ _ carried;
    })

pub returns-in-Err-new-clause-hitless : goal.returns-in-Err-new-clause-hitless
returns-in-Err-new-clause-hitless g c =
    hitless-job _ _ _ _ _ _ _ _ (memory-carried _ _ _ (g.K.Sink.taken c.args.sink.now) _ c.requires.blank)

pub returns-in-Err-new-clause-given : goal.returns-in-Err-new-clause-given
returns-in-Err-new-clause-given g c = λ which. promised-none _ _ _ _ _ _ _ (λ left. memory-carried _ _ left _ _ c.requires.blank) (λ left. tt)

-- ---- the check of a trace

pub returns-in-Ok-Verify-clause-carried_out : goal.returns-in-Ok-Verify-clause-carried_out
returns-in-Ok-Verify-clause-carried_out g c =
    let asked = rw c.in-Ok-Verify.field-0-is at c.in-Ok-Verify.ensures.asked in
    let v = c.run_verify.ensures.gives in
    rw asked (checked-carried (g.D.Writable.view c.args.device.now).slots _ _ _ _ _ v.1 _ _ _ c.requires.blank v.2 (shown _ _ _ _ _ _ v.1 v.0 v.3 v.4 true))

pub returns-in-Ok-Verify-clause-hitless : goal.returns-in-Ok-Verify-clause-hitless
returns-in-Ok-Verify-clause-hitless g c =
    let asked = rw c.in-Ok-Verify.field-0-is at c.in-Ok-Verify.ensures.asked in
    let v = c.run_verify.ensures.gives in
    rw asked
    (hitless-job Verifies (g.D.Writable.view c.args.device.now).slots c.run_verify.result _ _ (g.K.Sink.taken c.args.sink.now) (g.K.Sink.taken c.run_verify.new.sink) (g.D.Writable.view c.args.device.now).events
    (checked-carried (g.D.Writable.view c.args.device.now).slots _ _ _ _ _ v.1 _ _ _ c.requires.blank v.2 (shown _ _ _ _ _ _ v.1 v.0 v.3 v.4 true)))

pub returns-in-Ok-Verify-clause-given : goal.returns-in-Ok-Verify-clause-given
returns-in-Ok-Verify-clause-given g c = λ which.
    let asked = rw c.in-Ok-Verify.field-0-is at c.in-Ok-Verify.ensures.asked in
    let v = c.run_verify.ensures.gives in
    rw asked (checked-promised _ _ _ _ _ _ v.1 _ _ _ c.requires.blank v.2 (shown _ _ _ _ _ _ v.1 v.0 v.3 v.4 which))

pub returns-in-Ok-Verify-clause-in_time : goal.returns-in-Ok-Verify-clause-in_time
returns-in-Ok-Verify-clause-in_time g c =
    let asked = rw c.in-Ok-Verify.field-0-is at c.in-Ok-Verify.ensures.asked in
    let v = c.run_verify.ensures.gives in
    rw asked (checked-in-time (g.D.Writable.view c.args.device.now).slots c.run_verify.result _ _ v.1 (g.D.Writable.view c.args.device.now).events (g.K.Sink.accepted c.args.sink.now) (g.K.Sink.accepted c.run_verify.new.sink) v.0 v.2.given v.3 (only-read _ _ _ _ _ _ v.0 v.4))

pub returns-in-Ok-Verify-clause-told : goal.returns-in-Ok-Verify-clause-told
returns-in-Ok-Verify-clause-told g c =
    let v = c.run_verify.ensures.gives in
    (λ some. told-source _ _ (concat v.1, v.2.taken) some, λ some. told-sink _ _ _ _ _ _ v.0 v.4 some)

pub returns-in-Ok-Verify-clause-causes : goal.returns-in-Ok-Verify-clause-causes
returns-in-Ok-Verify-clause-causes g c =
    let asked = rw c.in-Ok-Verify.field-0-is at c.in-Ok-Verify.ensures.asked in
    let v = c.run_verify.ensures.gives in
    let sink = sink-counted _ _ _ _ _ _ v.0 v.4 in
    let leaves = leaves-line g.K.Sink.taken g.K.Sink.faults c.args.sink.now c.run_verify.new.sink (g.D.Writable.view c.args.device.now) (g.D.Writable.view c.args.device.now) _ _
    (λ some. told-sink _ _ _ _ _ _ v.0 v.4 some) refl refl refl sink (no-device-fault _ _ _ _ _ _ v.0 v.4) in
    rw asked (record {
      read = c.run_verify.ensures.cause;
      write = sink;
      device = made-tried _ _ _ _ _ _ _ _ (ap writes_in c.requires.blank) leaves;
      ends = checked-ends _ _ _ _ _ v.1 _ _ v.2 (shown _ _ _ _ _ _ v.1 v.0 v.3 v.4 true);
    })
