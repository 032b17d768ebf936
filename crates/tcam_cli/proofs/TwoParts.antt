-- What an act comes to, where a commit may be made in two parts.
use Rattle.std.proofs.Common.{◌≡◌, ◌≢◌, inl, inr, ℕ, ◌+◌, Bool, true, false, ◌&&◌, Option, None, Result, Ok, Err, OnOk, List, [], ◌++◌, refl, sym, ap, ◌∙◌, subst, append_assoc, append-nil}
use Rattle.std.specs.Io.KnownBytes.{Appends}
use Rattle.std.proofs.KnownBytes.{Appends-trans}
use Rattle.rule_store.specs.declared.Command.{Command as Change}
use Rattle.tcam_device.specs.declared.Action.{Action}
use Rattle.tcam_device.specs.declared.Action.TheVariants.{Written}
use Rattle.tcam_device.specs.Flight.{Flight, writes_in}
use Rattle.tcam_device.specs.State.{blank, replay, state_after}
use Rattle.tcam_device.proofs.Spans.{state_after-append}
use Rattle.commit_writes.proofs.WritesIn.{writes_in-append}
use Rattle.settled_changes.specs.declared.requested.Requested.TheVariants.{Nothing}
use Rattle.rule_store.specs.Verdict.{Verdict, Accepted, Unsound, OutOfBits, OutOfSlots}
use Rattle.replay.specs.declared.Act.{Act}
use Rattle.replay.specs.declared.Act.TheVariants.{Command, Ask, All, Probe, Packet, Commit, Trial, Crash}
use Rattle.replay.specs.declared.ActFault.{ActFault}
use Rattle.replay.specs.declared.ActFault.TheVariants.{BatchFull, ChangesPending, ProbesFull, Held, Stopped}
use Rattle.replay.specs.declared.RunFault.TheVariants as fault
use Rattle.replay.specs.Effects.{Setting, Effect, Acts, Prints, events_in, journal_of, printed}
use Rattle.replay.specs.Run.{Progress, Commits, HasEffects, IsCutStep, Judged, TakesMemory, pending_verdict, settled_at}
use Rattle.replay.specs.Carried.{Does, IsAt, Wants}
use Rattle.replay.specs.Fates.{AnswersBroken}
use Rattle.replay.specs.Running.{AnswersHeld, ComesTo, LeavesWords, Running, limit_text, progress_of, setting_of}
use Rattle.replay.specs.Early.{IsPartedAt, at_first, at_rest, goes_in_two, joined, parted, parts_at, rest_part}
use Rattle.replay.proofs.lines.Effects.{does-nothing, events-append, printed-append}
use Rattle.tcam_cli.specs.InTwo.{ComesInRest, ComesToBy, CommitIsCut, CommitTakes, CommitsBy, IsCutBy, IsIdleAt, StepsBy, StepsInTwo, TakesBy}
use Rattle.tcam_cli.proofs.OneMore.{commit-state, step-state}

-- ---- one part

-- the act is no commit in two parts
abbrev pub IsInOne : Setting → Progress → Act → Type 0
IsInOne setting old act = act ≡ Commit → parts_at setting old ≡ false

pub in-one : (setting : Setting) (old : Progress) (act : Act) → act ≢ Commit → IsInOne setting old act
in-one setting old act other is = absurd (other is)

-- nor is any where all are made in one part
pub in-one-part : (setting : Setting) (old : Progress) (act : Act) → setting.parts ≡ false → IsInOne setting old act
in-one-part setting old act none is = ap (λ parts. parts && goes_in_two setting.slots setting.mode old.rules old.batch old.asked) none

module _ (setting : Setting) (old : Progress) where
  pub steps-one : (act : Act) (effects : List Effect) (new : Progress) → IsInOne setting old act → HasEffects setting old act effects new → StepsBy setting old act effects new
  steps-one (Command change) effects new one step = step
  steps-one (Ask request) effects new one step = step
  steps-one All effects new one step = step
  steps-one (Probe key) effects new one step = step
  steps-one (Packet key) effects new one step = step
  steps-one Commit effects new one step = subst (λ in_two. CommitsBy in_two setting old effects new) (sym (one refl)) step
  steps-one (Trial most) effects new one step = step
  steps-one (Crash after) effects new one step = step

  cuts-one : (act : Act) (effects : List Effect) (due : Effect) → IsInOne setting old act → IsCutStep setting old act effects due → IsCutBy setting old act effects due
  cuts-one (Command change) effects due one cut = cut
  cuts-one (Ask request) effects due one cut = cut
  cuts-one All effects due one cut = cut
  cuts-one (Probe key) effects due one cut = cut
  cuts-one (Packet key) effects due one cut = cut
  cuts-one Commit effects due one cut = subst (λ in_two. CommitIsCut in_two setting old effects due) (sym (one refl)) cut
  cuts-one (Trial most) effects due one cut = cut
  cuts-one (Crash after) effects due one cut = cut

  takes-commit : (parts : Bool) (effects : List Effect) → TakesMemory setting old Commit effects → CommitTakes parts false setting old effects
  takes-commit false effects takes = takes
  takes-commit true effects takes = inr takes

  takes-one : (act : Act) (effects : List Effect) → IsInOne setting old act → TakesMemory setting old act effects → TakesBy setting old act effects
  takes-one (Command change) effects one takes = takes
  takes-one (Ask request) effects one takes = takes
  takes-one All effects one takes = takes
  takes-one (Probe key) effects one takes = takes
  takes-one (Packet key) effects one takes = takes
  takes-one Commit effects one takes = subst (λ in_two. CommitTakes setting.parts in_two setting old effects) (sym (one refl)) (takes-commit setting.parts effects takes)
  takes-one (Trial most) effects one takes = takes
  takes-one (Crash after) effects one takes = takes

-- want of memory, where a call may follow or where none may
pub wanted : (slots : ℕ) (old : Running) (act : Act) (new : Running) (events events_new : List Action) (before after : Option (List ℕ)) (broken : Bool) → new.broken ≡ broken
    → ComesTo slots old act new (Err (Stopped fault.Memory)) events events_new before after → IsAt slots events (progress_of slots old) → Wants (setting_of old) (progress_of slots old) act events events_new before after
wanted slots old act new events events_new before after false is comes at = (subst (λ one. ComesTo slots old act (record new { broken = one }) (Err (Stopped fault.Memory)) events events_new before after) is comes).0
wanted slots old act new events events_new before after true is comes at = (subst (λ one. ComesTo slots old act (record new { broken = one }) (Err (Stopped fault.Memory)) events events_new before after) is comes) at

pub comes-one : (slots : ℕ) (old : Running) (act : Act) (new : Running) (result : Result (Unit {0}) ActFault) (events events_new : List Action) (before after : Option (List ℕ))
    → IsInOne (setting_of old) (progress_of slots old) act → ComesTo slots old act new result events events_new before after → ComesToBy slots old act new result events events_new before after
comes-one slots old act new (Ok done) events events_new before after one comes = λ at.
    let carries = comes at in
    record { effects = carries.effects; step = steps-one (setting_of old) (progress_of slots old) act carries.effects (progress_of slots new) one carries.step; does = carries.does }
comes-one slots old act new (Err (Stopped fault.Sink)) events events_new before after one comes = λ at.
    let cuts = comes at in
    record { front = cuts.front; partial = cuts.partial; rest = cuts.rest; cut = cuts-one (setting_of old) (progress_of slots old) act cuts.front _ one cuts.cut; does = cuts.does }
comes-one slots old act new (Err (Stopped fault.Device)) events events_new before after one comes = λ at.
    let cuts = comes at in
    record { front = cuts.front; write = cuts.write; cut = cuts-one (setting_of old) (progress_of slots old) act cuts.front _ one cuts.cut; does = cuts.does }
comes-one slots old act new (Err (Stopped fault.Memory)) events events_new before after one comes = λ at.
    let wants = wanted slots old act new events events_new before after new.broken refl comes at in
    record { effects = wants.effects; needs = takes-one (setting_of old) (progress_of slots old) act wants.effects one wants.needs; does = wants.does }
comes-one slots old act new (Err BatchFull) events events_new before after one comes = comes
comes-one slots old act new (Err ChangesPending) events events_new before after one comes = comes
comes-one slots old act new (Err ProbesFull) events events_new before after one comes = comes
comes-one slots old act new (Err (Held left)) events events_new before after one comes = comes

-- ---- two parts

pub parts-true : (setting : Setting) (old : Progress) → IsPartedAt setting old → parts_at setting old ≡ true
parts-true setting old right = ap (λ parts. parts && goes_in_two setting.slots setting.mode old.rules old.batch old.asked) right.0 ∙ right.1.in_two

module _ (setting : Setting) (old : Progress) (right : IsPartedAt setting old) where
  steps-two : (effects : List Effect) (new : Progress) → StepsInTwo setting old effects new → StepsBy setting old Commit effects new
  steps-two effects new step = subst (λ in_two. CommitsBy in_two setting old effects new) (sym (parts-true setting old right)) step

  cuts-first : (effects : List Effect) (due : Effect) → IsCutStep setting (at_first old) Commit effects due → IsCutBy setting old Commit effects due
  cuts-first effects due cut = subst (λ in_two. CommitIsCut in_two setting old effects due) (sym (parts-true setting old right)) (inl (right, cut))

  cuts-rest : (effects : List Effect) (due : Effect) → ComesInRest setting old effects (λ middle front. IsCutStep setting middle Commit front due) → IsCutBy setting old Commit effects due
  cuts-rest effects due cut = subst (λ in_two. CommitIsCut in_two setting old effects due) (sym (parts-true setting old right)) (inr cut)

  takes-two : (effects : List Effect) → CommitTakes true true setting old effects → TakesBy setting old Commit effects
  takes-two effects takes =
      subst (λ parts. CommitTakes parts (parts_at setting old) setting old effects) (sym right.0)
      (subst (λ in_two. CommitTakes true in_two setting old effects) (sym (parts-true setting old right)) takes)

-- an answer that says nothing of a limit and of a commit that is unfinished
abbrev IsPlainly : Result (Unit {0}) ActFault → Type 0
IsPlainly result = (limit_text result ≡ None) × AnswersHeld None result

-- nothing was done for want of memory to part
pub comes-unparted : (slots : ℕ) (old new : Running) (events : List Action) (taken : Option (List ℕ)) → old.parts ≡ true → new ≡ old
    → ComesToBy slots old Commit new (Err (Stopped fault.Memory)) events events taken taken
comes-unparted slots old new events taken parts same = λ at. record { effects = []; needs = subst (λ one. CommitTakes one (parts_at (setting_of old) (progress_of slots old)) (setting_of old) (progress_of slots old) []) (sym parts) (by (parts_at (setting_of old) (progress_of slots old))); does = does-nothing events taken }
  where
    by : (in_two : Bool) → CommitTakes true in_two (setting_of old) (progress_of slots old) []
    by false = inl refl
    by true = inl refl

-- two parts do what they do one after the other
does-both : (first second : List Effect) (partial : List ℕ) (events mid new : List Action) (before between after : Option (List ℕ)) → Does first [] events mid before between → Does second partial mid new between after
    → Does (first ++ second) partial events new before after
does-both first second partial events mid new before between after one two = record {
  events =
      two.events ∙ ap (λ actions. actions ++ events_in second) one.events ∙ append_assoc events (events_in first) (events_in second)
      ∙ ap (λ actions. events ++ actions) (sym (events-append first second));
  report =
      let same : (printed first ++ []) ++ (printed second ++ partial) ≡ printed (first ++ second) ++ partial =
      ap (λ text. text ++ (printed second ++ partial)) (append-nil (printed first)) ∙ sym (append_assoc (printed first) (printed second) partial)
      ∙ ap (λ text. text ++ partial) (sym (printed-append first second)) in
      subst (Appends before after) same (Appends-trans before between after (printed first ++ []) (printed second ++ partial) one.report two.report);
}

-- the device is where the run stands once it did this
moved-at : (slots : ℕ) (old new : Progress) (effects : List Effect) (events events_new : List Action) → IsAt slots events old → new.state ≡ state_after old.state (journal_of effects)
    → events_new ≡ events ++ events_in effects → IsAt slots events_new new
moved-at slots old new effects events events_new at moved grown =
    moved ∙ ap (λ state. state_after state (journal_of effects)) at ∙ sym (state_after-append (blank slots) (writes_in events) (journal_of effects))
    ∙ ap (replay slots) (sym (ap writes_in grown ∙ writes_in-append events (events_in effects)))

pub carried-at : (slots : ℕ) (old : Running) (act : Act) (new : Running) (result : Result (Unit {0}) ActFault) (events events_new : List Action) (before after : Option (List ℕ))
    → ComesToBy slots old act new result events events_new before after → IsAt slots events (progress_of slots old) → OnOk result (IsAt slots events_new (progress_of slots new))
carried-at slots old act new (Ok done) events events_new before after comes at =
    let carries = comes at in
    moved-at slots (progress_of slots old) (progress_of slots new) carries.effects events events_new at (step-state (setting_of old) (progress_of slots old) act carries.effects (progress_of slots new) carries.step) carries.does.events
carried-at slots old act new (Err why) events events_new before after comes at = tt

-- a commit leaves nothing pending
judged-empty : (setting : Setting) (old : Progress) (v : Verdict) (effects : List Effect) (new : Progress) → Judged Commits setting (settled_at old) v effects new → (new.batch ≡ []) × (new.asked ≡ Nothing)
judged-empty setting old Accepted effects new step = (ap (λ (p : Progress). p.batch) step.after, ap (λ (p : Progress). p.asked) step.after)
judged-empty setting old (Unsound why) effects new step = (ap (λ (p : Progress). p.batch) step.1, ap (λ (p : Progress). p.asked) step.1)
judged-empty setting old (OutOfBits field needed free) effects new step = (ap (λ (p : Progress). p.batch) step.1, ap (λ (p : Progress). p.asked) step.1)
judged-empty setting old (OutOfSlots needed free) effects new step = (ap (λ (p : Progress). p.batch) step.1, ap (λ (p : Progress). p.asked) step.1)

module _ (slots : ℕ) (old put : Running) (right : IsPartedAt (setting_of old) (progress_of slots old)) (put_is : put ≡ parted old) where
  -- the first part is stopped
  pub comes-first : (new : Running) (why : ActFault) (events events_new : List Action) (before after : Option (List ℕ)) → IsPlainly (Err why)
      → ComesTo slots put Commit new (Err why) events events_new before after → ComesToBy slots old Commit new (Err why) events events_new before after
  comes-first new why events events_new before after plainly comes =
      go why plainly (subst (λ (run : Running). ComesTo slots run Commit new (Err why) events events_new before after) put_is comes)
    where
      go : (why : ActFault) → IsPlainly (Err why) → ComesTo slots (parted old) Commit new (Err why) events events_new before after → ComesToBy slots old Commit new (Err why) events events_new before after
      go (Stopped fault.Sink) plainly comes = λ at.
          let cuts = comes at in
          record { front = cuts.front; partial = cuts.partial; rest = cuts.rest; cut = cuts-first (setting_of old) (progress_of slots old) right cuts.front (Prints (cuts.partial ++ cuts.rest)) cuts.cut; does = cuts.does }
      go (Stopped fault.Device) plainly comes = λ at.
          let cuts = comes at in
          record { front = cuts.front; write = cuts.write; cut = cuts-first (setting_of old) (progress_of slots old) right cuts.front (Acts (Written cuts.write)) cuts.cut; does = cuts.does }
      go (Stopped fault.Memory) plainly comes = λ at.
          let wants = wanted slots (parted old) Commit new events events_new before after new.broken refl comes at in
          record { effects = wants.effects; needs = takes-two (setting_of old) (progress_of slots old) right wants.effects (inr (inl wants.needs)); does = wants.does }
      go BatchFull plainly comes = absurd (let bad = plainly.0 in cc)
      go ChangesPending plainly comes = absurd (let bad = plainly.0 in cc)
      go ProbesFull plainly comes = absurd (let bad = plainly.0 in cc)
      go (Held left) plainly comes = absurd (plainly.1 left refl)

  -- The first part is made.
  module _ (mid : Running) (events events_mid : List Action) (before between : Option (List ℕ)) (setting_mid : setting_of mid ≡ setting_of put) (at : IsAt slots events (progress_of slots old))
      (comes : ComesTo slots put Commit mid (Ok tt) events events_mid before between) where
    carries : Rattle.replay.specs.Carried.Carries (setting_of old) (at_first (progress_of slots old)) Commit (progress_of slots mid) events events_mid before between
    carries = (subst (λ (run : Running). ComesTo slots run Commit mid (Ok tt) events events_mid before between) put_is comes) at

    pub mid-at : IsAt slots events_mid (progress_of slots mid)
    mid-at = moved-at slots (at_first (progress_of slots old)) (progress_of slots mid) carries.effects events events_mid at
        (commit-state (setting_of old) (at_first (progress_of slots old)) carries.effects (progress_of slots mid) carries.step) carries.does.events

    pub mid-empty : (mid.pending ≡ []) × (mid.asked ≡ Nothing)
    mid-empty = judged-empty (setting_of old) (at_first (progress_of slots old)) (pending_verdict (setting_of old) (at_first (progress_of slots old))) carries.effects (progress_of slots mid) carries.step

    pub comes-both : (rest : List Change) (waits new : Running) (result : Result (Unit {0}) ActFault) (events_new : List Action) (after : Option (List ℕ)) → rest ≡ rest_part old.manager.rules old.pending old.asked
        → waits ≡ joined rest mid → IsPlainly result
        → ComesTo slots waits Commit new result events_mid events_new between after → ComesToBy slots old Commit new result events events_new before after
    comes-both rest waits new result events_new after rest_is waits_is plainly comes_rest =
        go result plainly (subst (λ (run : Running). ComesTo slots run Commit new result events_mid events_new between after) (waits_is ∙ ap (λ (some : List Change). joined some mid) rest_is) comes_rest)
      where
        here : Setting
        here = setting_of old

        from : Progress
        from = progress_of slots old

        last : Progress
        last = at_rest from (progress_of slots mid)

        waiting : Running
        waiting = joined (rest_part old.manager.rules old.pending old.asked) mid

        same : setting_of waiting ≡ here
        same = setting_mid ∙ ap setting_of put_is

        later : (Rest : Progress → List Effect → Type 0) (front : List Effect) → Rest last front → ComesInRest here from (carries.effects ++ front) Rest
        later Rest front rest = record { right = right; middle = progress_of slots mid; first = carries.effects; front = front; early = carries.step; rest = rest; effects_are = refl }

        go : (result : Result (Unit {0}) ActFault) → IsPlainly result → ComesTo slots waiting Commit new result events_mid events_new between after → ComesToBy slots old Commit new result events events_new before after
        go (Ok done) plainly comes = λ _.
            let more = comes mid-at in
            record {
              effects = carries.effects ++ more.effects;
              step = steps-two here from right (carries.effects ++ more.effects) (progress_of slots new) record {
                right = right;
                middle = progress_of slots mid;
                first = carries.effects;
                second = more.effects;
                early = carries.step;
                rest = subst (λ (one : Setting). HasEffects one last Commit more.effects (progress_of slots new)) same more.step;
                effects_are = refl;
              };
              does = does-both carries.effects more.effects [] events events_mid events_new before between after carries.does more.does;
            }
        go (Err (Stopped fault.Sink)) plainly comes = λ _.
            let cuts = comes mid-at in
            record {
              front = carries.effects ++ cuts.front;
              partial = cuts.partial;
              rest = cuts.rest;
              cut = cuts-rest here from right (carries.effects ++ cuts.front) (Prints (cuts.partial ++ cuts.rest))
                  (later (λ middle front. IsCutStep here middle Commit front (Prints (cuts.partial ++ cuts.rest))) cuts.front
                  (subst (λ (one : Setting). IsCutStep one last Commit cuts.front (Prints (cuts.partial ++ cuts.rest))) same cuts.cut));
              does = does-both carries.effects cuts.front cuts.partial events events_mid events_new before between after carries.does cuts.does;
            }
        go (Err (Stopped fault.Device)) plainly comes = λ _.
            let cuts = comes mid-at in
            record {
              front = carries.effects ++ cuts.front;
              write = cuts.write;
              cut = cuts-rest here from right (carries.effects ++ cuts.front) (Acts (Written cuts.write))
                  (later (λ middle front. IsCutStep here middle Commit front (Acts (Written cuts.write))) cuts.front
                  (subst (λ (one : Setting). IsCutStep one last Commit cuts.front (Acts (Written cuts.write))) same cuts.cut));
              does = does-both carries.effects cuts.front [] events events_mid events_new before between after carries.does cuts.does;
            }
        go (Err (Stopped fault.Memory)) plainly comes = λ _.
            let wants = wanted slots waiting Commit new events_mid events_new between after new.broken refl comes mid-at in
            record {
              effects = carries.effects ++ wants.effects;
              needs = takes-two here from right (carries.effects ++ wants.effects)
                  (inr (inr (later (λ middle front. TakesMemory here middle Commit front) wants.effects (subst (λ (one : Setting). TakesMemory one last Commit wants.effects) same wants.needs))));
              does = does-both carries.effects wants.effects [] events events_mid events_new before between after carries.does wants.does;
            }
        go (Err BatchFull) plainly comes = absurd (let bad = plainly.0 in cc)
        go (Err ChangesPending) plainly comes = absurd (let bad = plainly.0 in cc)
        go (Err ProbesFull) plainly comes = absurd (let bad = plainly.0 in cc)
        go (Err (Held left)) plainly comes = absurd (plainly.1 left refl)

-- what isn't parted is a commit as any other
pub comes-whole : (slots : ℕ) (old put new : Running) (result : Result (Unit {0}) ActFault) (events events_new : List Action) (before after : Option (List ℕ))
    → parts_at (setting_of old) (progress_of slots old) ≡ false → put ≡ old → ComesTo slots put Commit new result events events_new before after
    → ComesToBy slots old Commit new result events events_new before after
comes-whole slots old put new result events events_new before after never same comes =
    comes-one slots old Commit new result events events_new before after (λ is. never)
    (subst (λ (run : Running). ComesTo slots run Commit new result events events_new before after) same comes)

-- ---- between two acts

-- an act that is carried out leaves the run so
pub idle-after : (slots slots_new : ℕ) (act : Act) (new : Running) (result : Result (Unit {0}) ActFault) (events : List Action) (flight_old flight : Flight) → slots_new ≡ slots
    → OnOk result (new.manager.held ≡ None) → AnswersBroken act result new.broken → OnOk result (IsAt slots events (progress_of slots new)) → LeavesWords new result flight_old flight
    → OnOk result (IsIdleAt slots_new events flight new)
idle-after slots slots_new act new (Ok done) events flight_old flight same idle whole at none =
    subst (λ count. IsIdleAt count events flight new) (sym same) (record { idle = idle; whole = whole; at = at; none_in_flight = none })
idle-after slots slots_new act new (Err why) events flight_old flight same idle whole at none = tt
