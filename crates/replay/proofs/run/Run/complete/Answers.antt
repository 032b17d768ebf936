-- The actions are those that are left of the commit, and a part of them where sink or device fails.
use Rattle.std.proofs.Common.{◌≡◌, ◌≤◌, true, rules, IsSome, Err, ap, refl, sym, ◌∙◌, subst}
use Rattle.replay.specs.declared.RunFault.TheVariants as fault
use Rattle.std.specs.Io.KnownBytes.{Appends}
use Rattle.script_lines.specs.Given.{counted}
use Rattle.replay.specs.Effects.{printed, probes_told}
use Rattle.replay.specs.Outside.{CutsLines}
use Rattle.replay.specs.InFlight.{AreOf}
use Rattle.replay.specs.Running.{IsRun, Running, setting_of}
use Rattle.replay.specs.Unfinished.{IsUnfinished}
use Rattle.replay.proofs.making.Acting.{some-held}
use Rattle.replay.proofs.between.Exits.{all-made, as-last, cut-held, cut-setting, cut-some, is-seen, resumes-cut, resumes-all, resumes-last, resumes-searching}
use Rattle.replay.proofs.between.InStep.{in-step-cut, in-step-done}
use Rattle.replay.proofs.flight.Leftover.{are-of-left, words-cut_run}
use Rattle.replay.proofs.course.Rest.{HasNoTurn}
use Rattle.replay.proofs.course.RestOf.{any-now, rest-of}
use Rattle.replay.proofs.run.Run.complete.Goals as goal
use Rattle.replay.proofs.run.Run.complete.Goals.{in-Ok-write_ended, in-Err-write_ended}

pub make_until-requires-clause-in_flight : goal.make_until-requires-clause-in_flight
make_until-requires-clause-in_flight g c =
    subst (λ (run : Running). AreOf (probes_told run.json run.probes) run.waiting (g.D.Writable.view c.args.device.now).flight) (sym c.self.view_is)
    (are-of-left c.args.self.now (g.D.Writable.view c.args.device.now).flight c.requires.held c.requires.in_flight)

pub make_until-requires-clause-waiting : goal.make_until-requires-clause-waiting
make_until-requires-clause-waiting g c =
    (any-now _ c.args.self.now c.self.view_is c.self.invariant c.requires.held c.requires.no_turn).rest.few_waiting

pub make_until-requires-clause-few : goal.make_until-requires-clause-few
make_until-requires-clause-few g c =
    (any-now _ c.args.self.now c.self.view_is c.self.invariant c.requires.held c.requires.no_turn).rest.few_left

pub invariant_of-self : goal.invariant_of-self
invariant_of-self g c =
    let any = any-now _ c.args.self.now c.self.view_is c.self.invariant c.requires.held c.requires.no_turn in
    cut-held c.in-Err.fault _ any.slots _ any.before any.front _ any.rest c.make_until.new.manager c.make_until.new.count _ _ _ _ c.self.invariant any.inside (c.in-Err.ensures.makes true)

-- there is no turn to stop for
pub unreachable-requires : goal.unreachable-requires
unreachable-requires g c = let made = rw c.in-Ok-None.field-0-is at (c.in-Ok-None.ensures.makes true) in made

pub returns-in-Err-clause-resumes : goal.returns-in-Err-clause-resumes
returns-in-Err-clause-resumes g c = λ which before front unfinished at current.
    let slots = (g.D.Writable.view c.args.device.now).slots in
    let inside = subst (λ (run : Running). run.manager.slots ≤ slots) (sym c.self.view_is) c.requires.slots in
    let rest = rest-of slots before front _ (subst (IsUnfinished slots before front) (sym c.self.view_is) unfinished) c.self.invariant inside (subst HasNoTurn (sym c.self.view_is) c.requires.no_turn) in
    let seen = is-seen slots before front _ c.args.self.now c.self.view_is c.requires.slots (g.D.Writable.view c.args.device.now).events (g.D.Writable.view c.args.device.now).events rest at _ current in
    resumes-cut slots before front _ c.args.self.now c.self.view_is c.requires.slots (g.D.Writable.view c.args.device.now).events (g.D.Writable.view c.make_until.new.device).events rest at _ current c.in-Err.fault c.make_until.new.manager c.make_until.new.count (g.D.Writable.view c.make_until.new.device).flight _ _ (c.in-Err.ensures.makes which)
    (λ is. (c.in-Err.ensures.seen (λ e. absurd (cc)) seen).current)

pub returns-in-Err-clause-in_flight : goal.returns-in-Err-clause-in_flight
returns-in-Err-clause-in_flight g c =
    let kind = cut-some c.in-Err.fault _ _ _ _ _ _ _ _ _ _ _ (c.in-Err.ensures.makes true) in
    let held : IsSome c.make_until.new.manager.held = subst (λ held. IsSome held) (sym (some-held _ _ kind.0)) refl in
    words-cut_run _ c.make_until.new.manager c.make_until.new.count c.in-Err.fault (g.D.Writable.view c.args.device.now).flight (g.D.Writable.view c.make_until.new.device).flight c.self.invariant kind.2 held (λ is. c.in-Err.ensures.in_flight (λ e. absurd (cc)))

pub returns-in-Err-clause-kind : goal.returns-in-Err-clause-kind
returns-in-Err-clause-kind g c = (cut-some c.in-Err.fault _ _ _ _ _ _ _ _ _ _ _ (c.in-Err.ensures.makes true)).2

pub returns-in-Err-clause-setting : goal.returns-in-Err-clause-setting
returns-in-Err-clause-setting g c =
    cut-setting c.in-Err.fault _ _ c.make_until.new.manager _ c.make_until.new.count _ _ _ _ c.self.invariant (c.in-Err.ensures.makes true) ∙ ap setting_of c.self.view_is

pub invariant_of-self-2 : goal.invariant_of-self-2
invariant_of-self-2 g c =
    let any = any-now _ c.args.self.now c.self.view_is c.self.invariant c.requires.held c.requires.no_turn in
    (any.rest.ends _ _ _ c.make_until.new.count c.in-Ok-Some.ended c.make_until.new.manager _ _ _ _ (all-made _ _ _ _ _ _ _ _ _ _ _ _ _ c.in-Ok-Some.field-0-is (c.in-Ok-Some.ensures.makes true))).closing

pub count_commit-requires-clause-idle : goal.count_commit-requires-clause-idle
count_commit-requires-clause-idle g c =
    let any = any-now _ c.args.self.now c.self.view_is c.self.invariant c.requires.held c.requires.no_turn in
    let none = (any.rest.ends _ _ _ c.make_until.new.count c.in-Ok-Some.ended c.make_until.new.manager _ _ _ _ (all-made _ _ _ _ _ _ _ _ _ _ _ _ _ c.in-Ok-Some.field-0-is (c.in-Ok-Some.ensures.makes true))).idle in
    search rules

pub overflow_add-self : goal.overflow_add-self
overflow_add-self g c =
    let any = any-now _ c.args.self.now c.self.view_is c.self.invariant c.requires.held c.requires.no_turn in
    let few = (any.rest.ends _ _ _ c.make_until.new.count c.in-Ok-Some.ended c.make_until.new.manager _ _ _ _ (all-made _ _ _ _ _ _ _ _ _ _ _ _ _ c.in-Ok-Some.field-0-is (c.in-Ok-Some.ensures.makes true))).few in
    search rules

pub invariant_of-self-3 : goal.invariant_of-self-3
invariant_of-self-3 g c =
    let any = any-now _ c.args.self.now c.self.view_is c.self.invariant c.requires.held c.requires.no_turn in
    let ends = any.rest.ends _ _ _ c.make_until.new.count c.in-Ok-Some.ended c.make_until.new.manager _ _ _ _ (all-made _ _ _ _ _ _ _ _ _ _ _ _ _ c.in-Ok-Some.field-0-is (c.in-Ok-Some.ensures.makes true)) in
    subst IsRun (sym (ends.counted _ (c.self-2.view_is ∙ c.count_commit.ensures)).0) ends.ended_is

pub invariant_of-self-in-Err-search_all : goal.invariant_of-self-in-Err-search_all
invariant_of-self-in-Err-search_all g c =
    let any = any-now _ c.args.self.now c.self.view_is c.self.invariant c.requires.held c.requires.no_turn in
    let ends = any.rest.ends _ _ _ c.make_until.new.count c.in-Ok-Some.ended c.make_until.new.manager _ _ _ _ (all-made _ _ _ _ _ _ _ _ _ _ _ _ _ c.in-Ok-Some.field-0-is (c.in-Ok-Some.ensures.makes true)) in
    subst IsRun (sym (ends.counted _ (c.self-2.view_is ∙ c.count_commit.ensures)).0) ends.ended_is

pub returns-in-Err-search_all-clause-setting : goal.returns-in-Err-search_all-clause-setting
returns-in-Err-search_all-clause-setting g c =
    let any = any-now _ c.args.self.now c.self.view_is c.self.invariant c.requires.held c.requires.no_turn in
    let ends = any.rest.ends _ _ _ c.make_until.new.count c.in-Ok-Some.ended c.make_until.new.manager _ _ _ _ (all-made _ _ _ _ _ _ _ _ _ _ _ _ _ c.in-Ok-Some.field-0-is (c.in-Ok-Some.ensures.makes true)) in
    ap setting_of (ends.counted _ (c.self-2.view_is ∙ c.count_commit.ensures)).0 ∙ any.rest.ending.setting ∙ ap setting_of c.self.view_is

-- a line of the words that are searched behind the last action is cut
pub returns-in-Err-search_all-clause-resumes : goal.returns-in-Err-search_all-clause-resumes
returns-in-Err-search_all-clause-resumes g c = λ which before front unfinished at current.
    let made = c.in-Ok-Some.ensures in
    let width = made.leaves.slots in
    let all = all-made _ _ _ _ _ _ _ _ _ _ _ _ _ c.in-Ok-Some.field-0-is (made.makes which) in
    let closed = c.self-2.view_is ∙ c.count_commit.ensures in
    let slots = (g.D.Writable.view c.args.device.now).slots in
    let inside = subst (λ (run : Running). run.manager.slots ≤ slots) (sym c.self.view_is) c.requires.slots in
    let rest = rest-of slots before front _ (subst (IsUnfinished slots before front) (sym c.self.view_is) unfinished) c.self.invariant inside (subst HasNoTurn (sym c.self.view_is) c.requires.no_turn) in
    let seen = is-seen slots before front _ c.args.self.now c.self.view_is c.requires.slots (g.D.Writable.view c.args.device.now).events (g.D.Writable.view c.args.device.now).events rest at _ current in
    let now = rw width at (made.seen (λ e. cc) seen) in
    let cuts = as-last slots before front _ c.args.self.now c.self.view_is c.requires.slots (g.D.Writable.view c.args.device.now).events (g.D.Writable.view c.make_until.new.device).events rest at _ current c.in-Ok-Some.ended c.make_until.new.manager c.make_until.new.count _ _ all _ closed
    (λ lines. CutsLines lines (counted which (g.K.Sink.taken c.make_until.new.sink) (g.K.Sink.accepted c.make_until.new.sink)) (counted which (g.K.Sink.taken c.search_all.new.sink) (g.K.Sink.accepted c.search_all.new.sink))) _ _ refl (made.serves (subst (λ one. IsSome one) (sym c.in-Ok-Some.field-0-is) refl)) now (made.in_flight (λ e. cc)) (rw width at (c.in-Err-search_all.ensures.lines.part which)) in
    rw c.in-Err-search_all.ensures.others.events (resumes-searching slots before front _ c.args.self.now c.self.view_is c.requires.slots (g.D.Writable.view c.args.device.now).events (g.D.Writable.view c.make_until.new.device).events rest at _ current c.in-Ok-Some.ended c.make_until.new.manager c.make_until.new.count _ _ all _ closed _ (g.D.Writable.view c.search_all.new.device).flight cuts)

-- or all of them are told, and then its own line, or a part of that
pub returns-clause-resumes : goal.returns-clause-resumes
returns-clause-resumes g c = λ which before front unfinished at current.
    let made = c.in-Ok-Some.ensures in
    let width = made.leaves.slots in
    let all = all-made _ _ _ _ _ _ _ _ _ _ _ _ _ c.in-Ok-Some.field-0-is (made.makes which) in
    let closed = c.self-2.view_is ∙ c.count_commit.ensures in
    let slots = (g.D.Writable.view c.args.device.now).slots in
    let inside = subst (λ (run : Running). run.manager.slots ≤ slots) (sym c.self.view_is) c.requires.slots in
    let rest = rest-of slots before front _ (subst (IsUnfinished slots before front) (sym c.self.view_is) unfinished) c.self.invariant inside (subst HasNoTurn (sym c.self.view_is) c.requires.no_turn) in
    let seen = is-seen slots before front _ c.args.self.now c.self.view_is c.requires.slots (g.D.Writable.view c.args.device.now).events (g.D.Writable.view c.args.device.now).events rest at _ current in
    let now = rw width at (made.seen (λ e. cc) seen) in
    let last = as-last slots before front _ c.args.self.now c.self.view_is c.requires.slots (g.D.Writable.view c.args.device.now).events (g.D.Writable.view c.make_until.new.device).events rest at _ current c.in-Ok-Some.ended c.make_until.new.manager c.make_until.new.count _ _ all _ closed
    (λ lines. Appends (counted which (g.K.Sink.taken c.make_until.new.sink) (g.K.Sink.accepted c.make_until.new.sink)) (counted which (g.K.Sink.taken c.search_all.new.sink) (g.K.Sink.accepted c.search_all.new.sink)) (printed lines)) _ _ refl (made.serves (subst (λ one. IsSome one) (sym c.in-Ok-Some.field-0-is) refl)) now (made.in_flight (λ e. cc)) (rw width at (c.in-Ok.ensures.lines.whole which)) in
    elim c.match-write_ended.branch [
      | in-Ok-write_ended w ↦ rw (w.result-is, c.in-Ok.ensures.others.events)
          (resumes-all slots before front _ c.args.self.now c.self.view_is c.requires.slots (g.D.Writable.view c.args.device.now).events (g.D.Writable.view c.make_until.new.device).events rest at _ current c.in-Ok-Some.ended c.make_until.new.manager c.make_until.new.count _ _ all _ closed _ last _ (g.D.Writable.view c.search_all.new.device).flight
          (rw c.is_json.ensures at (w.in-Ok-write_ended.ensures.whole which)))
      | in-Err-write_ended w ↦ rw (w.result-is, c.in-Ok.ensures.others.events)
          (resumes-last slots before front _ c.args.self.now c.self.view_is c.requires.slots (g.D.Writable.view c.args.device.now).events (g.D.Writable.view c.make_until.new.device).events rest at _ current c.in-Ok-Some.ended c.make_until.new.manager c.make_until.new.count _ _ all _ closed _ last _ (g.D.Writable.view c.search_all.new.device).flight
          (rw c.is_json.ensures at (w.in-Err-write_ended.ensures.part which)))
    ]

pub returns-clause-idle : goal.returns-clause-idle
returns-clause-idle g c =
    let any = any-now _ c.args.self.now c.self.view_is c.self.invariant c.requires.held c.requires.no_turn in
    let none = (any.rest.ends _ _ _ c.make_until.new.count c.in-Ok-Some.ended c.make_until.new.manager _ _ _ _ (all-made _ _ _ _ _ _ _ _ _ _ _ _ _ c.in-Ok-Some.field-0-is (c.in-Ok-Some.ensures.makes true))).idle in
    search rules

pub returns-clause-setting : goal.returns-clause-setting
returns-clause-setting g c =
    let any = any-now _ c.args.self.now c.self.view_is c.self.invariant c.requires.held c.requires.no_turn in
    let ends = any.rest.ends _ _ _ c.make_until.new.count c.in-Ok-Some.ended c.make_until.new.manager _ _ _ _ (all-made _ _ _ _ _ _ _ _ _ _ _ _ _ c.in-Ok-Some.field-0-is (c.in-Ok-Some.ensures.makes true)) in
    ap setting_of (ends.counted _ (c.self-2.view_is ∙ c.count_commit.ensures)).0 ∙ any.rest.ending.setting ∙ ap setting_of c.self.view_is

-- where the sink didn't fail the device stays the manager's
pub returns-in-Err-clause-in_step : goal.returns-in-Err-clause-in_step
returns-in-Err-clause-in_step g c = λ not_sink.
    in-step-cut (g.D.Writable.view c.args.device.now).slots _ c.args.self.now c.self.invariant c.self.view_is c.make_until.new.manager c.make_until.new.count
    (g.D.Writable.view c.args.device.now).events (g.D.Writable.view c.make_until.new.device).events (g.D.Writable.view c.args.device.now).flight (g.D.Writable.view c.make_until.new.device).flight
    (λ seen. rw c.in-Err.ensures.leaves.slots at (c.in-Err.ensures.seen (λ e. not_sink (let same : c.in-Err.fault ≡ fault.Sink = cc in ap Err same)) seen))

pub returns-in-Err-search_all-clause-in_step : goal.returns-in-Err-search_all-clause-in_step
returns-in-Err-search_all-clause-in_step g c = λ not_sink. absurd (not_sink refl)

pub returns-clause-in_step : goal.returns-clause-in_step
returns-clause-in_step g c = λ not_sink.
    let made = c.in-Ok-Some.ensures in
    in-step-done (g.D.Writable.view c.args.device.now).slots _ c.args.self.now c.self.invariant c.self.view_is c.make_until.new.manager _ c.make_until.new.count.told (c.self-2.view_is ∙ c.count_commit.ensures)
    (g.D.Writable.view c.args.device.now).events (g.D.Writable.view c.make_until.new.device).events (g.D.Writable.view c.search_all.new.device).events
    (g.D.Writable.view c.args.device.now).flight (g.D.Writable.view c.make_until.new.device).flight (g.D.Writable.view c.search_all.new.device).flight
    (λ seen. rw made.leaves.slots at (made.seen (λ e. cc) seen)) c.in-Ok.ensures.others.events c.in-Ok.ensures.flight
