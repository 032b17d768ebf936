use Rattle.std.proofs.Common.{true, Bool, Err, ◌≡◌, ◌*◌, ◌∷◌, List, length, refl, ap, sym, ◌∙◌, subst, arith, rules}
use Rattle.script_lines.specs.Given.{counted}
use Rattle.rule_gen.specs.Batches.{AreBatches}
use Rattle.rule_gen.specs.Made.{made_commands}
use Rattle.rule_gen.specs.declared.Made.{Made}
use Rattle.report_lines.specs.declared.Family.{Family}
use Rattle.replay.specs.Effects.{Setting}
use Rattle.replay.specs.Run.{Progress}
use Rattle.report_lines.specs.Text.{family_version}
use Rattle.replay.specs.Fates.{IsCrash}
use Rattle.settled_changes.specs.Requested.{changes_in}
use Rattle.replay.specs.Running.{IsActOf, IsToldIn, progress_of, setting_of}
use Rattle.replay.specs.declared.ActFault.TheVariants.{Stopped}
use Rattle.tcam_cli.specs.InTwo.{CarriesBy}
use Rattle.tcam_cli.proofs.TwoParts.{comes-one, in-one-part}
use Rattle.replay.proofs.between.Leaving.{leaves-line, leaves-then, uncounted}
use Rattle.tcam_cli.specs.MadeScript.{made_act}
use Rattle.tcam_cli.proofs.FaultCounts.{closed-leaves, leaves-none, stopped-leaves}
use Rattle.tcam_cli.proofs.MadeRuns.{MadeSoFar, made-at, made-carries, made-ended, made-first, made-fits, made-more, made-pending, made-stopped, never-crash}
use Rattle.tcam_cli.proofs.OneMore.{step-pending}
use Rattle.tcam_cli.proofs.Outcomes.{Stops, stops}
use Rattle.tcam_cli.proofs.top.run_made.Goals as goal

pub acts-init : goal.acts-init
acts-init g c =
    let none : c.args.run.now.commits ≡ 0 = ap (λ (p : Progress). p.commits) c.requires.begun in
    let empty : changes_in c.args.run.now.pending c.args.run.now.asked ≡ 0 = ap (λ (p : Progress). changes_in p.batch p.asked) c.requires.begun in
    let few = c.new-maker.ensures.few in
    let most = c.requires.most_batches in
    record {
      setting = refl;
      idle = c.requires.idle;
      whole = c.requires.whole;
      commits = omega (arith, none, few, most);
      room = subst (λ come. AreBatches (2 * c.args.rules) come c.new-maker.result) (sym empty) c.new-maker.ensures.batches;
      made = λ which. made-first _ _ _ _ _ _ _ c.new-maker.ensures.commands c.requires.begun c.requires.blank;
      none_in_flight = c.requires.none_in_flight;
      leaves = leaves-line _ _ _ _ _ _ ⊥ ⊥ (λ some. some) refl refl refl (uncounted ⊥ _ _ (λ e. e) refl) (λ e. e);
    }

pub apply-requires : goal.apply-requires
apply-requires g c =
    let i = c.acts.invariant in
    let slots : c.acts.run.manager.slots ≡ c.args.run.now.manager.slots = ap (λ (s : Setting). s.slots) i.setting in
    let family = ap (λ (s : Setting). s.family) i.setting ∙ c.requires.family in
    let json = ap (λ (s : Setting). s.json) i.setting ∙ c.requires.words in
    let count = i.leaves.slots in
    let within = c.requires.slots in
    let few = i.commits in
    record {
      slots = omega (arith, slots, count, within);
      none_in_flight = λ _. i.none_in_flight;
      act = subst (λ (family : Family). IsActOf family c.act_of_made.result) (sym family) c.act_of_made.ensures.list;
      told = subst (λ (json : Bool). IsToldIn json (family_version c.acts.run.family) c.act_of_made.result) (sym json) (c.act_of_made.ensures.told (family_version c.acts.run.family));
      whole = i.whole;
      stands = λ crash. absurd (never-crash c.in-Some.made (subst IsCrash c.act_of_made.ensures.act crash));
      commits = omega (arith, few);
    }

pub acts-smaller : goal.acts-smaller
acts-smaller g c =
    let one = ap length c.in-Some.ensures.next in
    omega (arith, one)

-- there is room for each, and no commit is unfinished
pub unreachable-requires : goal.unreachable-requires
unreachable-requires g c =
    let most = c.requires.most_rules in
    let why = c.in-Err.field-0 in
    let usual = ap (λ (s : Setting). s.large) c.acts.invariant.setting ∙ c.requires.usual in
    let none = made-fits (2 * c.args.rules) _ _ c.in-Some.made _ _ _ (Err why) _ c.in-Some.ensures.next c.act_of_made.ensures.act c.acts.invariant.room (omega (arith, most)) usual (c.in-Err.ensures.limit c.acts.invariant.idle) in
    search rules

pub acts-preserved : goal.acts-preserved
acts-preserved g c =
    let i = c.acts.invariant in
    let a = c.in-Ok.ensures in
    let next = c.in-Some.ensures.next in
    let one = ap length next in
    let few = i.commits in
    let more = a.commits in
    let here : (which : Bool) → MadeSoFar (setting_of c.acts.run) (g.D.Writable.view c.acts.device).slots (made_commands c.args.seed c.args.rules c.args.batches) (c.in-Some.made ∷ c.next.new.self)
    (progress_of (g.D.Writable.view c.acts.device).slots c.acts.run) (g.D.Writable.view c.acts.device).events (counted which (g.K.Sink.taken c.args.sink.now) (g.K.Sink.accepted c.args.sink.now))
    (counted which (g.K.Sink.taken c.acts.sink) (g.K.Sink.accepted c.acts.sink)) = λ which. rw (i.setting, i.leaves.slots, ← next) (i.made which) in
    let in_one = ap (λ (s : Setting). s.parts) i.setting ∙ c.requires.in_one in
    let carried : (which : Bool) → CarriesBy (setting_of c.acts.run) (progress_of (g.D.Writable.view c.acts.device).slots c.acts.run) (made_act c.in-Some.made) (progress_of (g.D.Writable.view c.acts.device).slots c.apply.new.self)
    (g.D.Writable.view c.acts.device).events (g.D.Writable.view c.apply.new.device).events (counted which (g.K.Sink.taken c.acts.sink) (g.K.Sink.accepted c.acts.sink)) (counted which (g.K.Sink.taken c.apply.new.sink) (g.K.Sink.accepted c.apply.new.sink)) =
    λ which. made-carries _ _ _ _ _ _ _ _ in_one (rw (← c.act_of_made.ensures.act) (a.acts which (made-at _ _ _ _ _ _ _ _ (here which)))) in
    let are = subst (λ (maker : List Made). AreBatches (2 * c.args.rules) (changes_in c.acts.run.pending c.acts.run.asked) maker) next i.room in
    record {
      setting = a.setting ∙ i.setting;
      idle = a.idle;
      whole = a.broken;
      commits = omega (arith, one, few, more);
      room = subst (λ come. AreBatches (2 * c.args.rules) come c.next.new.self) (sym (step-pending (setting_of c.acts.run) (progress_of (g.D.Writable.view c.acts.device).slots c.acts.run) (made_act c.in-Some.made) (carried true).effects (progress_of (g.D.Writable.view c.acts.device).slots c.apply.new.self) (carried true).step)) (made-pending (2 * c.args.rules) c.in-Some.made c.next.new.self (changes_in c.acts.run.pending c.acts.run.asked) are);
      made = λ which. rw (← i.setting, ← i.leaves.slots) (made-more _ _ _ _ c.in-Some.made _ _ _ _ _ _ _ (here which) (carried which));
      none_in_flight = a.in_flight;
      leaves = leaves-then _ _ _ _ _ _ _ _ ⊥ ⊥ ⊥ ⊥ (λ e. e) (λ e. e) i.leaves (leaves-none _ _ _ _ _ _ _ _ a.leaves (λ e. cc) (λ e. cc));
    }

pub returns-in_default-clause-carried_out : goal.returns-in_default-clause-carried_out
returns-in_default-clause-carried_out g c = λ which source.
    let i = c.acts.invariant in
    let slots = (g.D.Writable.view c.args.device.now).slots in
    let last = progress_of slots c.acts.run in
    made-ended (setting_of c.args.run.now) (setting_of c.acts.run) slots c.args.seed c.args.rules c.args.batches c.acts.maker last (g.D.Writable.view c.acts.device).events _ _ _ c.finish.result (i.made which) (c.in_default.ensures.end.0 refl)
    c.finish.ensures.kind.1 i.setting ((c.finish.ensures.closes slots).closes which) source

pub returns-in_default-clause-leaves : goal.returns-in_default-clause-leaves
returns-in_default-clause-leaves g c =
    let i = c.acts.invariant in
    leaves-then _ _ _ _ _ _ _ _ ⊥ ⊥ _ _ (λ e. e) (λ e. e) i.leaves (closed-leaves _ _ g.K.Sink.accepted _ _ (g.D.Writable.view c.acts.device) _ _ _ c.finish.ensures.kind.2 (c.finish.ensures.closes 0))

pub returns-in-Err-Stopped-clause-carried_out : goal.returns-in-Err-Stopped-clause-carried_out
returns-in-Err-Stopped-clause-carried_out g c = λ which source.
    let i = c.acts.invariant in
    let large : c.acts.run.large ≡ c.args.run.now.large = ap (λ (s : Setting). s.large) i.setting in
    let why = c.in-Err-Stopped.why in
    let next = c.in-Some.ensures.next in
    let slots = (g.D.Writable.view c.acts.device).slots in
    let here : MadeSoFar (setting_of c.acts.run) slots (made_commands c.args.seed c.args.rules c.args.batches) (c.in-Some.made ∷ c.next.new.self) (progress_of slots c.acts.run) (g.D.Writable.view c.acts.device).events
    (counted which (g.K.Sink.taken c.args.sink.now) (g.K.Sink.accepted c.args.sink.now)) (counted which (g.K.Sink.taken c.acts.sink) (g.K.Sink.accepted c.acts.sink)) = rw (i.setting, i.leaves.slots, ← next) (i.made which) in
    let is : Stops slots (setting_of c.acts.run) (progress_of slots c.acts.run) (made_act c.in-Some.made) why (g.D.Writable.view c.acts.device).events (g.D.Writable.view c.apply.new.device).events
    (counted which (g.K.Sink.taken c.acts.sink) (g.K.Sink.accepted c.acts.sink)) (counted which (g.K.Sink.taken c.apply.new.sink) (g.K.Sink.accepted c.apply.new.sink)) =
    let in_one = ap (λ (s : Setting). s.parts) i.setting ∙ c.requires.in_one in
    rw (← c.act_of_made.ensures.act) (stops slots c.acts.run c.act_of_made.result c.apply.new.self why (g.D.Writable.view c.acts.device).events (g.D.Writable.view c.apply.new.device).events
    (counted which (g.K.Sink.taken c.acts.sink) (g.K.Sink.accepted c.acts.sink)) (counted which (g.K.Sink.taken c.apply.new.sink) (g.K.Sink.accepted c.apply.new.sink))
    (comes-one slots c.acts.run c.act_of_made.result c.apply.new.self (Err (Stopped why)) _ _ _ _ (in-one-part (setting_of c.acts.run) (progress_of slots c.acts.run) c.act_of_made.result in_one) (rw c.in-Err-Stopped.field-0-is at (c.in-Err-Stopped.ensures.acts which)))) in
    rw (c.status_of_fault.ensures.status, c.in-Err-Stopped.field-0-is, ← i.setting, ← large, ← i.leaves.slots)
    (made-stopped (setting_of c.acts.run) slots c.args.seed c.args.rules c.args.batches c.next.new.self c.in-Some.made (progress_of slots c.acts.run) _ _ _ _ _ why here is source)

pub returns-in-Err-Stopped-clause-leaves : goal.returns-in-Err-Stopped-clause-leaves
returns-in-Err-Stopped-clause-leaves g c =
    let i = c.acts.invariant in
    let why = c.in-Err-Stopped.why in
    rw (c.status_of_fault.ensures.status, c.in-Err-Stopped.field-0-is) (leaves-then _ _ _ _ _ _ _ _ ⊥ ⊥ _ _ (λ e. e) (λ e. e) i.leaves (stopped-leaves _ _ _ _ _ _ why (rw c.in-Err-Stopped.field-0-is at c.in-Err-Stopped.ensures.leaves)))
