-- Each act, as what it does to the device and to the report.
use Rattle.std.proofs.Common.{Bool, false, ◌≡◌, ◌≢◌, ◌⊎◌, inl, inr, ℕ, ◌+◌, ◌≤◌, true, List, [], ◌∷◌, ◌++◌, Option, None, Result, Ok, Err, IfErr, OnOk, OnErr, refl, sym, ap, ◌∙◌, subst}
use Rattle.std.specs.Io.KnownBytes.{Appends}
use Rattle.rule_model.specs.declared.Key.{Key}
use Rattle.rule_model.specs.Key.{IsKey}
use Rattle.rule_model.specs.RuleSet.{Answer, answer}
use Rattle.rule_store.specs.declared.Command.{Command as Change}
use Rattle.rule_store.specs.Verdict.{Verdict, Accepted, Unsound, OutOfBits, OutOfSlots}
use Rattle.tcam_device.specs.declared.Action.{Action}
use Rattle.tcam_device.specs.Flight.{writes_in}
use Rattle.tcam_device.specs.State.{lookup, replay, on_device}
use Rattle.report_lines.specs.declared.Family.{Family}
use Rattle.replay.specs.declared.Act.{Act}
use Rattle.replay.specs.declared.Act.TheVariants.{Command, Ask, All, Probe, Packet}
use Rattle.replay.specs.declared.ActFault.{ActFault}
use Rattle.replay.specs.declared.ActFault.TheVariants.{BatchFull, ChangesPending, ProbesFull, Stopped}
use Rattle.replay.specs.declared.RunFault.TheVariants as fault
use Rattle.settled_changes.specs.declared.Request.{Request}
use Rattle.settled_changes.specs.declared.requested.Requested.TheVariants.{Nothing, Whole}
use Rattle.settled_changes.specs.Requested.{asked_behind, asked_with, batch_behind, batch_with}
use Rattle.replay.specs.Effects.{Setting, Effect, Prints}
use Rattle.replay.specs.declared.fate.Fate.{Fate}
use Rattle.replay.specs.declared.fate.Fate.TheVariants as fates
use Rattle.replay.specs.declared.fate.Then.TheVariants as thens
use Rattle.replay.specs.Fates.{commit_act}
use Rattle.replay.specs.Run.{Progress, Commits, Tries, Crashes, Refuses, Judged, HasEffects, Settles, TakesMemory, pending_verdict, settled_at}
use Rattle.replay.specs.Reports.{packet_told, refusal_line}
use Rattle.replay.specs.Text.{packet_line}
use Rattle.report_lines.specs.Outside.{AppendsPart}
use Rattle.replay.specs.Running.{Running, NothingIsDone, ShowsRules, ComesTo, setting_of, progress_of}
use Rattle.replay.proofs.lines.Effects.{does-line, does-part, does-nothing}

-- nothing was done
undone : (run new : Running) (events : List Action) (taken : Option (List ℕ)) → new ≡ run → NothingIsDone run new events events taken taken
undone run new events taken same = record { run = same; events = refl; report = refl }

-- and memory was wanting
abbrev pub WantsBy : Bool → Type 0 → Type 0 → Type 0
WantsBy broken Before Since = elim broken [ false ↦ Before | true ↦ Since ]

pub memory-at_once : (A B C : Type 0) (broken : Bool) → A × B → WantsBy broken (A × B) (C → A)
memory-at_once A B C true both = λ at. both.0
memory-at_once A B C false both = both

-- a change that joined the batch, or not
pub push-acts : (result : Result (Unit {0}) ActFault) (slots : ℕ) (run new : Running) (act : Act) (change : Change) (events : List Action) (taken : Option (List ℕ)) → act ≡ Command change
    → OnOk result (new ≡ record run { pending = batch_with run.pending run.asked change; asked = asked_with run.asked change }) → OnErr result (new ≡ run)
    → IfErr result (λ why. (why ≡ BatchFull) ⊎ (why ≡ Stopped fault.Memory)) → ComesTo slots run act new result events events taken taken
push-acts (Ok done) slots run new act change events taken is pushed same kind = λ at. record {
  effects = [];
  step = subst (λ one. HasEffects (setting_of run) (progress_of slots run) one [] (progress_of slots new)) (sym is) (refl, ap (progress_of slots) pushed);
  does = does-nothing events taken;
}
push-acts (Err why) slots run new act change events taken is pushed same (inl full) =
    subst (λ one. ComesTo slots run act new (Err one) events events taken taken) (sym full) (undone run new events taken same)
push-acts (Err why) slots run new act change events taken is pushed same (inr memory) =
    subst (λ one. ComesTo slots run act new (Err one) events events taken taken) (sym memory)
    (memory-at_once _ _ _ new.broken (
      record { effects = []; needs = subst (λ one. TakesMemory (setting_of run) (progress_of slots run) one []) (sym is) refl; does = does-nothing events taken },
      undone run new events taken same,
    ))

-- a change that doesn't ask what is there
pub ask-acts : (result : Result (Unit {0}) ActFault) (slots : ℕ) (run new : Running) (act : Act) (request : Request) (events : List Action) (taken : Option (List ℕ)) → act ≡ Ask request
    → OnOk result (new ≡ record run { pending = batch_behind run.pending run.asked; asked = asked_behind run.pending run.asked request }) → OnErr result (new ≡ run)
    → IfErr result (λ why. (why ≡ BatchFull) ⊎ (why ≡ Stopped fault.Memory)) → ComesTo slots run act new result events events taken taken
ask-acts (Ok done) slots run new act request events taken is asked same kind = λ at. record {
  effects = [];
  step = subst (λ one. HasEffects (setting_of run) (progress_of slots run) one [] (progress_of slots new)) (sym is) (refl, ap (progress_of slots) asked);
  does = does-nothing events taken;
}
ask-acts (Err why) slots run new act request events taken is asked same (inl full) =
    subst (λ one. ComesTo slots run act new (Err one) events events taken taken) (sym full) (undone run new events taken same)
ask-acts (Err why) slots run new act request events taken is asked same (inr memory) =
    subst (λ one. ComesTo slots run act new (Err one) events events taken taken) (sym memory)
    (memory-at_once _ _ _ new.broken (
      record { effects = []; needs = subst (λ one. TakesMemory (setting_of run) (progress_of slots run) one []) (sym is) refl; does = does-nothing events taken },
      undone run new events taken same,
    ))

-- a whole new set that is begun, or not
pub whole-acts : (result : Result (Unit {0}) ActFault) (slots : ℕ) (run new : Running) (act : Act) (events : List Action) (taken : Option (List ℕ)) → act ≡ All
    → OnOk result (new ≡ record run { pending = []; asked = Whole [] }) → OnErr result (new ≡ run) → IfErr result (λ why. why ≡ ChangesPending)
    → ComesTo slots run act new result events events taken taken
whole-acts (Ok done) slots run new act events taken is begun same kind = λ at. record {
  effects = [];
  step = subst (λ one. HasEffects (setting_of run) (progress_of slots run) one [] (progress_of slots new)) (sym is) (refl, ap (progress_of slots) begun);
  does = does-nothing events taken;
}
whole-acts (Err why) slots run new act events taken is begun same kind =
    subst (λ one. ComesTo slots run act new (Err one) events events taken taken) (sym kind) (undone run new events taken same)

-- a key that is probed from now on, or not
pub probe-acts : (result : Result (Unit {0}) ActFault) (slots : ℕ) (run new : Running) (act : Act) (key : Key) (events : List Action) (taken : Option (List ℕ)) → act ≡ Probe key
    → OnOk result (new ≡ record run { probes = run.probes ++ key ∷ [] }) → OnErr result (new ≡ run) → IfErr result (λ why. why ≡ ProbesFull)
    → ComesTo slots run act new result events events taken taken
probe-acts (Ok done) slots run new act key events taken is probed same kind = λ at. record {
  effects = [];
  step = subst (λ one. HasEffects (setting_of run) (progress_of slots run) one [] (progress_of slots new)) (sym is) (refl, ap (progress_of slots) probed);
  does = does-nothing events taken;
}
probe-acts (Err why) slots run new act key events taken is probed same kind =
    subst (λ one. ComesTo slots run act new (Err one) events events taken taken) (sym kind) (undone run new events taken same)

-- what the device tells of a packet is what the set answers
answered : (slots : ℕ) (run : Running) (key : Key) (events : List Action) (found : Answer) → ShowsRules run.manager → run.manager.held ≡ None → run.manager.slots ≤ slots
    → IsKey key → found ≡ lookup (replay slots (writes_in events)) key → on_device slots run.manager.state ≡ replay slots (writes_in events) → answer run.manager.rules key ≡ found
answered slots run key events found shows idle within valid told at =
    sym (told ∙ ap (λ state. lookup state key) (sym at) ∙ shows idle slots within key valid)

-- in words a packet has a line
in-words : (run : Running) (found : Answer) → run.json ≡ false → packet_told (setting_of run) found ≡ Prints (packet_line run.family found) ∷ []
in-words run found words = ap (λ json. packet_told (record (setting_of run) { json = json }) found) words

-- a packet whose line is written
pub packet-carries : (slots : ℕ) (run : Running) (family : Family) (key : Key) (events : List Action) (found : Answer) (old new : Option (List ℕ))
    → ShowsRules run.manager → run.manager.held ≡ None → run.manager.slots ≤ slots → IsKey key
    → found ≡ lookup (replay slots (writes_in events)) key → family ≡ run.family → run.json ≡ false → Appends old new (packet_line family found)
    → ComesTo slots run (Packet key) run (Ok tt) events events old new
packet-carries slots run family key events found old new shows idle within valid told same words grown at = record {
  effects = Prints (packet_line run.family found) ∷ [];
  step = (
    ap (λ one. Prints (packet_line run.family one) ∷ []) (sym (answered slots run key events found shows idle within valid told at))
        ∙ sym (in-words run (answer run.manager.rules key) words),
    refl,
  );
  does = does-line (packet_line run.family found) events old new (subst (λ one. Appends old new (packet_line one found)) same grown);
}

-- or cut
pub packet-cuts : (slots : ℕ) (run : Running) (family : Family) (key : Key) (events : List Action) (found : Answer) (old new : Option (List ℕ))
    → ShowsRules run.manager → run.manager.held ≡ None → run.manager.slots ≤ slots → IsKey key
    → found ≡ lookup (replay slots (writes_in events)) key → family ≡ run.family → run.json ≡ false → AppendsPart old new (packet_line family found)
    → ComesTo slots run (Packet key) run (Err (Stopped fault.Sink)) events events old new
packet-cuts slots run family key events found old new shows idle within valid told same words part at = record {
  front = [];
  partial = part.0;
  rest = part.1;
  cut = inl (record {
    back = [];
    after = progress_of slots run;
    step = (
      ap (λ text. Prints text ∷ [])
          (sym part.2 ∙ ap (λ one. packet_line one found) same ∙ ap (packet_line run.family) (sym (answered slots run key events found shows idle within valid told at)))
          ∙ sym (in-words run (answer run.manager.rules key) words),
      refl,
    );
  });
  does = does-part part.0 events old new part.3;
}

-- a verdict against the batch
judged-refused : (Does : Setting → Progress → List Effect → Progress → Type 0) (setting : Setting) (old : Progress) (reason : Verdict) (effects : List Effect) (new : Progress) → reason ≢ Accepted
    → Refuses setting old reason effects new → Judged Does setting old reason effects new
judged-refused Does setting old Accepted effects new other refuses = absurd (other refl)
judged-refused Does setting old (Unsound fault) effects new other refuses = refuses
judged-refused Does setting old (OutOfBits field needed free) effects new other refuses = refuses
judged-refused Does setting old (OutOfSlots needed free) effects new other refuses = refuses

-- the run after a refused commit
abbrev pub run_refused : Running → Running
run_refused run = record run { pending = []; asked = Nothing; commits = run.commits + 1; refused = true }

refuse-step : (fate : Fate) (slots : ℕ) (run : Running) (reason : Verdict) (line : List ℕ) → pending_verdict (setting_of run) (progress_of slots run) ≡ reason → reason ≢ Accepted → line ≡ refusal_line (setting_of run) run.commits reason
    → HasEffects (setting_of run) (progress_of slots run) (commit_act fate) (Prints line ∷ []) (progress_of slots (run_refused run))
refuse-step fate slots run reason line judged other same = go fate
  where
    by : (Does : Setting → Progress → List Effect → Progress → Type 0) → Settles Does (setting_of run) (progress_of slots run) (Prints line ∷ []) (progress_of slots (run_refused run))
    by Does =
        subst (λ verdict. Judged Does (setting_of run) (settled_at (progress_of slots run)) verdict (Prints line ∷ []) (progress_of slots (run_refused run))) (sym judged)
        (judged-refused Does (setting_of run) (settled_at (progress_of slots run)) reason (Prints line ∷ []) (progress_of slots (run_refused run)) other (ap (λ text. Prints text ∷ []) same, refl))

    go : (one : Fate) → HasEffects (setting_of run) (progress_of slots run) (commit_act one) (Prints line ∷ []) (progress_of slots (run_refused run))
    go fates.Finishes = by Commits
    go (fates.Turns after thens.Back) = by (Tries after)
    go (fates.Turns after thens.Restart) = by (Crashes after)
    go (fates.Turned after thens.Back) = by (Tries after)
    go (fates.Turned after thens.Restart) = by (Crashes after)

-- a commit that is refused, with its line
pub refuse-carries : (fate : Fate) (slots : ℕ) (run new : Running) (reason : Verdict) (events_old events_new : List Action) (old taken : Option (List ℕ))
    → pending_verdict (setting_of run) (progress_of slots run) ≡ reason → reason ≢ Accepted → new ≡ run_refused run → events_new ≡ events_old → Appends old taken (refusal_line (setting_of run) run.commits reason)
    → ComesTo slots run (commit_act fate) new (Ok tt) events_old events_new old taken
refuse-carries fate slots run new reason events_old events_new old taken judged other is same grown =
    subst (λ after. ComesTo slots run (commit_act fate) after (Ok tt) events_old events_new old taken) (sym is)
    (subst (λ events. ComesTo slots run (commit_act fate) (run_refused run) (Ok tt) events_old events old taken) (sym same) (λ at. record {
      effects = Prints (refusal_line (setting_of run) run.commits reason) ∷ [];
      step = refuse-step fate slots run reason (refusal_line (setting_of run) run.commits reason) judged other refl;
      does = does-line (refusal_line (setting_of run) run.commits reason) events_old old taken grown;
    }))

-- and with a part of it
pub refuse-cuts : (fate : Fate) (slots : ℕ) (run new : Running) (reason : Verdict) (events_old events_new : List Action) (old taken : Option (List ℕ))
    → pending_verdict (setting_of run) (progress_of slots run) ≡ reason → reason ≢ Accepted → events_new ≡ events_old → AppendsPart old taken (refusal_line (setting_of run) run.commits reason)
    → ComesTo slots run (commit_act fate) new (Err (Stopped fault.Sink)) events_old events_new old taken
refuse-cuts fate slots run new reason events_old events_new old taken judged other same part =
    subst (λ events. ComesTo slots run (commit_act fate) new (Err (Stopped fault.Sink)) events_old events old taken) (sym same) (λ at. record {
      front = [];
      partial = part.0;
      rest = part.1;
      cut = inl (record {
        back = [];
        after = progress_of slots (run_refused run);
        step = refuse-step fate slots run reason (part.0 ++ part.1) judged other (sym part.2);
      });
      does = does-part part.0 events_old old taken part.3;
    })
