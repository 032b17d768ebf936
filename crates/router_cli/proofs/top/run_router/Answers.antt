use Rattle.std.proofs.Common.{Bool, true, ◌≡◌, ◌∙◌, ◌≤◌, refl, ap, sym, Err}
use Rattle.script_runs.specs.declared.Status.TheVariants.{Done, Usage}
use Rattle.report_lines.specs.Text.{usage_line}
use Rattle.router.specs.Routing.{Routing, progress_of}
use Rattle.router_cli.specs.OwnTexts.{router_help}
use Rattle.router_cli.specs.CommandLine.{Routes}
use Rattle.router_cli.proofs.TopCall.{blank, ends-told, hitless-job, memory-carried, memory-causes, memory-ends, nothing-read, promised-none, told-alone}
use Rattle.router_cli.proofs.top.run_router.Goals as goal

-- ---- a script

-- the router that was asked for
asked-router : {begun one router : Routing} (large : Bool) → one ≡ begun → router ≡ record one { large = large } → router ≡ record begun { large = large }
asked-router large is with = with ∙ ap (λ (some : Routing). record some { large = large }) is

pub run_router_script-requires-clause-slots : goal.run_router_script-requires-clause-slots
run_router_script-requires-clause-slots g c =
    let asked = rw c.in-Ok-Script.field-0-is at c.in-Ok-Script.ensures.asked in
    let first : c.in-Ok-Script.slots ≤ g.D.SplitDevice.slot_count c.args.list.now = rw asked at c.requires.list_slots in
    let second : c.in-Ok-Script.slots ≤ g.D.SplitDevice.slot_count c.args.routes.now = rw asked at c.requires.route_slots in
    rw (asked-router c.in-Ok-Script.large c.in-Ok.ensures.begun c.with_large-router.ensures) (record { listed = first; routed = second })

pub run_router_script-requires-clause-begun : goal.run_router_script-requires-clause-begun
run_router_script-requires-clause-begun g c = ap progress_of c.with_large-router.ensures ∙ c.in-Ok.ensures.starts

pub run_router_script-requires-clause-idle : goal.run_router_script-requires-clause-idle
run_router_script-requires-clause-idle g c = rw (asked-router c.in-Ok-Script.large c.in-Ok.ensures.begun c.with_large-router.ensures) (record { listed = refl; routed = refl })

pub run_router_script-requires-clause-whole : goal.run_router_script-requires-clause-whole
run_router_script-requires-clause-whole g c = ap (λ (router : Routing). router.broken) (asked-router c.in-Ok-Script.large c.in-Ok.ensures.begun c.with_large-router.ensures)

pub returns-in-Ok-clause-carried_out : goal.returns-in-Ok-clause-carried_out
returns-in-Ok-clause-carried_out g c =
    let asked = rw c.in-Ok-Script.field-0-is at c.in-Ok-Script.ensures.asked in
    rw (asked ∙ ap (λ (router : Routing). Routes router.version router.listed.whole.slots router.listed.whole.mode router.listed.whole.placement router.trace router.large) (sym (asked-router c.in-Ok-Script.large c.in-Ok.ensures.begun c.with_large-router.ensures))) c.run_router_script.ensures.carried_out

pub returns-in-Ok-clause-hitless : goal.returns-in-Ok-clause-hitless
returns-in-Ok-clause-hitless g c =
    let asked = rw c.in-Ok-Script.field-0-is at c.in-Ok-Script.ensures.asked in
    rw (asked ∙ ap (λ (router : Routing). Routes router.version router.listed.whole.slots router.listed.whole.mode router.listed.whole.placement router.trace router.large) (sym (asked-router c.in-Ok-Script.large c.in-Ok.ensures.begun c.with_large-router.ensures))) c.run_router_script.ensures.hitless

pub returns-in-Ok-clause-given : goal.returns-in-Ok-clause-given
returns-in-Ok-clause-given g c = λ which.
    let asked = rw c.in-Ok-Script.field-0-is at c.in-Ok-Script.ensures.asked in
    let given = c.run_router_script.ensures.given which in
    rw (asked ∙ ap (λ (router : Routing). Routes router.version router.listed.whole.slots router.listed.whole.mode router.listed.whole.placement router.trace router.large) (sym (asked-router c.in-Ok-Script.large c.in-Ok.ensures.begun c.with_large-router.ensures))) (
      given.0,
      given.1,
      λ left now may.
          let is = given.2 left now may in
          record { carried_out = is.carried_out; hitless = is.hitless; ends = is.ends },
    )

pub returns-in-Ok-clause-in_time : goal.returns-in-Ok-clause-in_time
returns-in-Ok-clause-in_time g c =
    let asked = rw c.in-Ok-Script.field-0-is at c.in-Ok-Script.ensures.asked in
    rw (asked ∙ ap (λ (router : Routing). Routes router.version router.listed.whole.slots router.listed.whole.mode router.listed.whole.placement router.trace router.large) (sym (asked-router c.in-Ok-Script.large c.in-Ok.ensures.begun c.with_large-router.ensures))) c.run_router_script.ensures.in_time

pub returns-in-Ok-clause-causes : goal.returns-in-Ok-clause-causes
returns-in-Ok-clause-causes g c =
    let asked = rw c.in-Ok-Script.field-0-is at c.in-Ok-Script.ensures.asked in
    rw (asked ∙ ap (λ (router : Routing). Routes router.version router.listed.whole.slots router.listed.whole.mode router.listed.whole.placement router.trace router.large) (sym (asked-router c.in-Ok-Script.large c.in-Ok.ensures.begun c.with_large-router.ensures))) c.run_router_script.ensures.causes

-- ---- no memory for it

pub returns-in-Err-clause-carried_out : goal.returns-in-Err-clause-carried_out
returns-in-Err-clause-carried_out g c = memory-carried _ _ _ _ _ _ c.requires.blank.0 c.requires.blank.1

pub returns-in-Err-clause-hitless : goal.returns-in-Err-clause-hitless
returns-in-Err-clause-hitless g c = hitless-job _ _ _ _ _ _ _ _ (memory-carried _ _ _ (g.K.Sink.taken c.args.sink.now) _ _ c.requires.blank.0 c.requires.blank.1)

pub returns-in-Err-clause-given : goal.returns-in-Err-clause-given
returns-in-Err-clause-given g c = λ which. promised-none _ _ _ _ _ _ _ (λ left. memory-carried _ _ left _ _ _ c.requires.blank.0 c.requires.blank.1) (λ left. memory-ends _ left)

pub returns-in-Err-clause-in_time : goal.returns-in-Err-clause-in_time
returns-in-Err-clause-in_time g c = nothing-read _ _ _ _ _ _

pub returns-in-Err-clause-causes : goal.returns-in-Err-clause-causes
returns-in-Err-clause-causes g c = memory-causes _ _ _ _ _

-- ---- nor for the words

pub returns-in-Err-Memory-clause-carried_out : goal.returns-in-Err-Memory-clause-carried_out
returns-in-Err-Memory-clause-carried_out g c = memory-carried _ _ _ _ _ _ c.requires.blank.0 c.requires.blank.1

pub returns-in-Err-Memory-clause-hitless : goal.returns-in-Err-Memory-clause-hitless
returns-in-Err-Memory-clause-hitless g c = hitless-job _ _ _ _ _ _ _ _ (memory-carried _ _ _ (g.K.Sink.taken c.args.sink.now) _ _ c.requires.blank.0 c.requires.blank.1)

pub returns-in-Err-Memory-clause-given : goal.returns-in-Err-Memory-clause-given
returns-in-Err-Memory-clause-given g c = λ which. promised-none _ _ _ _ _ _ _ (λ left. memory-carried _ _ left _ _ _ c.requires.blank.0 c.requires.blank.1) (λ left. memory-ends _ left)

pub returns-in-Err-Memory-clause-in_time : goal.returns-in-Err-Memory-clause-in_time
returns-in-Err-Memory-clause-in_time g c = nothing-read _ _ _ _ _ _

pub returns-in-Err-Memory-clause-causes : goal.returns-in-Err-Memory-clause-causes
returns-in-Err-Memory-clause-causes g c = memory-causes _ _ _ _ _

-- ---- the help

pub returns-in-Ok-Help-clause-carried_out : goal.returns-in-Ok-Help-clause-carried_out
unfolding router_help
returns-in-Ok-Help-clause-carried_out g c =
    let is = rw c.in-Ok-Help.field-0-is at c.in-Ok-Help.ensures.asked in
    rw is (told-alone router_help Done _ _ _ _ _ (blank _ _ c.requires.blank.0 c.requires.blank.1) (c.tell.ensures.closes.closes true))

pub returns-in-Ok-Help-clause-hitless : goal.returns-in-Ok-Help-clause-hitless
returns-in-Ok-Help-clause-hitless g c =
    let is = rw c.in-Ok-Help.field-0-is at c.in-Ok-Help.ensures.asked in
    rw is (blank _ _ c.requires.blank.0 c.requires.blank.1)

pub returns-in-Ok-Help-clause-given : goal.returns-in-Ok-Help-clause-given
unfolding router_help
returns-in-Ok-Help-clause-given g c = λ which.
    let is = rw c.in-Ok-Help.field-0-is at c.in-Ok-Help.ensures.asked in
    rw is (promised-none _ _ _ _ _ _ _ (λ left. told-alone router_help Done _ left _ _ _ (blank _ _ c.requires.blank.0 c.requires.blank.1) (c.tell.ensures.closes.closes which)) (λ left. ends-told router_help Done _ _ _ (c.tell.ensures.closes.closes which)))

pub returns-in-Ok-Help-clause-in_time : goal.returns-in-Ok-Help-clause-in_time
returns-in-Ok-Help-clause-in_time g c =
    let is = rw c.in-Ok-Help.field-0-is at c.in-Ok-Help.ensures.asked in
    rw is refl

pub returns-in-Ok-Help-clause-causes : goal.returns-in-Ok-Help-clause-causes
unfolding router_help
returns-in-Ok-Help-clause-causes g c =
    let is = rw c.in-Ok-Help.field-0-is at c.in-Ok-Help.ensures.asked in
    rw is (record { write = c.tell.ensures.closes.cause; source = refl; list = refl; routes = refl; ends = ends-told router_help Done _ _ _ (c.tell.ensures.closes.closes true) })

-- ---- no command line

pub returns-in-Err-Usage-clause-carried_out : goal.returns-in-Err-Usage-clause-carried_out
returns-in-Err-Usage-clause-carried_out g c =
    let is = c.in-Err-Usage.ensures.usage (ap Err c.in-Err-Usage.field-0-is) in
    rw is (told-alone usage_line Usage _ _ _ _ _ (blank _ _ c.requires.blank.0 c.requires.blank.1) (c.tell-in-Err-Usage.ensures.closes.closes true))

pub returns-in-Err-Usage-clause-hitless : goal.returns-in-Err-Usage-clause-hitless
returns-in-Err-Usage-clause-hitless g c =
    let is = c.in-Err-Usage.ensures.usage (ap Err c.in-Err-Usage.field-0-is) in
    rw is (blank _ _ c.requires.blank.0 c.requires.blank.1)

pub returns-in-Err-Usage-clause-given : goal.returns-in-Err-Usage-clause-given
returns-in-Err-Usage-clause-given g c = λ which.
    let is = c.in-Err-Usage.ensures.usage (ap Err c.in-Err-Usage.field-0-is) in
    rw is (promised-none _ _ _ _ _ _ _ (λ left. told-alone usage_line Usage _ left _ _ _ (blank _ _ c.requires.blank.0 c.requires.blank.1) (c.tell-in-Err-Usage.ensures.closes.closes which)) (λ left. ends-told usage_line Usage _ _ _ (c.tell-in-Err-Usage.ensures.closes.closes which)))

pub returns-in-Err-Usage-clause-in_time : goal.returns-in-Err-Usage-clause-in_time
returns-in-Err-Usage-clause-in_time g c =
    let is = c.in-Err-Usage.ensures.usage (ap Err c.in-Err-Usage.field-0-is) in
    rw is refl

pub returns-in-Err-Usage-clause-causes : goal.returns-in-Err-Usage-clause-causes
returns-in-Err-Usage-clause-causes g c =
    let is = c.in-Err-Usage.ensures.usage (ap Err c.in-Err-Usage.field-0-is) in
    rw is (record { write = c.tell-in-Err-Usage.ensures.closes.cause; source = refl; list = refl; routes = refl; ends = ends-told usage_line Usage _ _ _ (c.tell-in-Err-Usage.ensures.closes.closes true) })
