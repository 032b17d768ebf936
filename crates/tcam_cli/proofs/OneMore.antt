-- One act more.
use Rattle.std.proofs.Common.{Bool, true, false, ◌≡◌, ℕ, ◌+◌, map, inl, inr, List, [], ◌∷◌, ◌++◌, length, take, refl, ap, sym, ◌∙◌, length-append}
use Rattle.std.proofs.lemmas.List.{length-map}
use Rattle.script_runs.proofs.Joined.{run-more as step-more}
use Rattle.rule_model.specs.RuleSet.{Answer, answer}
use Rattle.rule_store.specs.Verdict.{Verdict, Accepted, Unsound, OutOfBits, OutOfSlots}
use Rattle.tcam_device.specs.declared.Action.{Action}
use Rattle.tcam_device.specs.Flight.{writes_in}
use Rattle.tcam_device.specs.State.{state_after, replay}
use Rattle.replay.specs.declared.Act.{Act}
use Rattle.replay.specs.declared.Act.TheVariants.{Command, Ask, All, Probe, Packet, Commit, Trial, Crash}
use Rattle.replay.specs.Script.{pending_after, probes_after}
use Rattle.rule_store.specs.declared.Command.{Command as Change}
use Rattle.settled_changes.specs.declared.Request.{Request}
use Rattle.settled_changes.specs.declared.Request.TheVariants.{Strict}
use Rattle.settled_changes.specs.declared.requested.Requested.{Requested}
use Rattle.settled_changes.specs.declared.requested.Requested.TheVariants.{Nothing, Changes, Whole}
use Rattle.settled_changes.specs.Requested.{asked_behind, asked_with, batch_behind, batch_with, changes_in}
use Rattle.replay.specs.Effects.{Setting, Effect, events_in, journal_of}
use Rattle.replay.specs.Reports.{packet_told}
use Rattle.replay.specs.Run.{Progress, start, Commits, Tries, Crashes, HasEffects, Judged, pending_verdict, settled_at}
use Rattle.replay.specs.Early.{at_first, at_rest, parts_at}
use Rattle.tcam_cli.specs.InTwo.{CommitsBy, StepsBy, RunBy, RunsBy}
use Rattle.replay.specs.Carried.{IsAt}
use Rattle.tcam_device.proofs.Spans.{state_after-append}
use Rattle.replay.proofs.lines.Effects.{written-append}
use Rattle.replay.proofs.crash.Crashed.{written-restarts}
use Rattle.replay.proofs.lines.Written.{written-return, written-segment}
use Rattle.commit_writes.proofs.Undone.{undo_ends}
use Rattle.std.specs.List.{AllByRecursion}
use Rattle.tcam_cli.specs.Headline.{run_kind}
use Rattle.tcam_cli.specs.AllTheWay.{IsNoProbe}

judged-state : (setting : Setting) (old : Progress) (v : Verdict) (effects : List Effect) (new : Progress) → Judged Commits setting old v effects new → new.state ≡ state_after old.state (journal_of effects)
judged-state setting old Accepted effects new step =
    ap (λ p. p.state) step.after
    ∙ ap (state_after old.state) (sym (written-segment setting old step.made _) ∙ sym (ap journal_of step.effects_are))
judged-state setting old (Unsound fault) effects new step = ap (λ p. p.state) step.1 ∙ ap (state_after old.state) (sym (ap journal_of step.0))
judged-state setting old (OutOfBits field needed free) effects new step = ap (λ p. p.state) step.1 ∙ ap (state_after old.state) (sym (ap journal_of step.0))
judged-state setting old (OutOfSlots needed free) effects new step = ap (λ p. p.state) step.1 ∙ ap (state_after old.state) (sym (ap journal_of step.0))

tried-state : (most : ℕ) (setting : Setting) (old : Progress) (v : Verdict) (effects : List Effect) (new : Progress) → Judged (Tries most) setting old v effects new → new.state ≡ state_after old.state (journal_of effects)
tried-state most setting old Accepted effects new (inl commits) = judged-state setting old Accepted effects new commits.0
tried-state most setting old Accepted effects new (inr returns) =
    ap (λ p. p.state) returns.after ∙ sym (undo_ends old.state (take most returns.made))
    ∙ ap (state_after old.state) (sym (written-return setting old most returns.made _) ∙ sym (ap journal_of returns.effects_are))
tried-state most setting old (Unsound fault) effects new step = ap (λ p. p.state) step.1 ∙ ap (state_after old.state) (sym (ap journal_of step.0))
tried-state most setting old (OutOfBits field needed free) effects new step = ap (λ p. p.state) step.1 ∙ ap (state_after old.state) (sym (ap journal_of step.0))
tried-state most setting old (OutOfSlots needed free) effects new step = ap (λ p. p.state) step.1 ∙ ap (state_after old.state) (sym (ap journal_of step.0))

crashed-state : (after : ℕ) (setting : Setting) (old : Progress) (v : Verdict) (effects : List Effect) (new : Progress) → Judged (Crashes after) setting old v effects new → new.state ≡ state_after old.state (journal_of effects)
crashed-state after setting old Accepted effects new (inl commits) = judged-state setting old Accepted effects new commits.0
crashed-state after setting old Accepted effects new (inr restarts) = ap (λ p. p.state) restarts.new_is ∙ ap (state_after old.state) (sym (written-restarts setting old new after effects restarts))
crashed-state after setting old (Unsound fault) effects new step = ap (λ p. p.state) step.1 ∙ ap (state_after old.state) (sym (ap journal_of step.0))
crashed-state after setting old (OutOfBits field needed free) effects new step = ap (λ p. p.state) step.1 ∙ ap (state_after old.state) (sym (ap journal_of step.0))
crashed-state after setting old (OutOfSlots needed free) effects new step = ap (λ p. p.state) step.1 ∙ ap (state_after old.state) (sym (ap journal_of step.0))

-- what is told of a packet does nothing to the device
pub packet-still : (setting : Setting) (found : Answer) → journal_of (packet_told setting found) ≡ []
packet-still setting found = go setting.json
  where
    go : (json : Bool) → journal_of (packet_told (record setting { json = json }) found) ≡ []
    go true = refl
    go false = refl

pub commit-state : (setting : Setting) (old : Progress) (effects : List Effect) (new : Progress) → HasEffects setting old Commit effects new → new.state ≡ state_after old.state (journal_of effects)
commit-state setting old effects new step = judged-state setting (settled_at old) (pending_verdict setting old) effects new step

-- a commit in one part or in two
committed-state : (in_two : Bool) (setting : Setting) (old : Progress) (effects : List Effect) (new : Progress) → CommitsBy in_two setting old effects new → new.state ≡ state_after old.state (journal_of effects)
committed-state true setting old effects new two =
    judged-state setting (settled_at (at_rest old two.middle)) (pending_verdict setting (at_rest old two.middle)) two.second new two.rest
    ∙ ap (λ state. state_after state (journal_of two.second)) (judged-state setting (settled_at (at_first old)) (pending_verdict setting (at_first old)) two.first two.middle two.early)
    ∙ sym (state_after-append old.state (journal_of two.first) (journal_of two.second))
    ∙ ap (state_after old.state) (sym (written-append two.first two.second) ∙ sym (ap journal_of two.effects_are))
committed-state false setting old effects new step = judged-state setting (settled_at old) (pending_verdict setting old) effects new step

pub step-state : (setting : Setting) (old : Progress) (act : Act) (effects : List Effect) (new : Progress) → StepsBy setting old act effects new → new.state ≡ state_after old.state (journal_of effects)
step-state setting old (Command change) effects new step = ap (λ p. p.state) step.1 ∙ ap (state_after old.state) (sym (ap journal_of step.0))
step-state setting old (Ask request) effects new step = ap (λ p. p.state) step.1 ∙ ap (state_after old.state) (sym (ap journal_of step.0))
step-state setting old All effects new step = ap (λ p. p.state) step.1 ∙ ap (state_after old.state) (sym (ap journal_of step.0))
step-state setting old (Probe key) effects new step = ap (λ p. p.state) step.1 ∙ ap (state_after old.state) (sym (ap journal_of step.0))
step-state setting old (Packet key) effects new step = ap (λ p. p.state) step.1 ∙ ap (state_after old.state) (sym (ap journal_of step.0 ∙ packet-still setting (answer old.rules key)))
step-state setting old Commit effects new step = committed-state (parts_at setting old) setting old effects new step
step-state setting old (Trial most) effects new step = tried-state most setting (settled_at old) (pending_verdict setting old) effects new step
step-state setting old (Crash after) effects new step = crashed-state after setting (settled_at old) (pending_verdict setting old) effects new step

-- the state of a run is what its writes leave
run-state-from : (setting : Setting) (old : Progress) (acts : List Act) (effects : List Effect) (new : Progress) → RunBy setting old acts effects new → new.state ≡ state_after old.state (journal_of effects)
run-state-from setting old [] effects new run = ap (λ p. p.state) run.1 ∙ ap (state_after old.state) (sym (ap journal_of run.0))
run-state-from setting old (act ∷ acts) effects new (front, mid, back, step, rest, whole) =
    run-state-from setting mid acts back new rest
    ∙ ap (λ s. state_after s (journal_of back)) (step-state setting old act front mid step)
    ∙ sym (state_after-append old.state (journal_of front) (journal_of back))
    ∙ ap (state_after old.state) (sym (written-append front back) ∙ sym (ap journal_of whole))

pub run-state : (setting : Setting) (slots : ℕ) (acts : List Act) (effects : List Effect) (last : Progress) → RunsBy setting slots acts effects last → last.state ≡ replay slots (journal_of effects)
run-state setting slots acts effects last run = run-state-from setting (start slots) acts effects last run

-- so the device is where the run stands
pub run-at : (setting : Setting) (slots : ℕ) (acts : List Act) (effects : List Effect) (last : Progress) (events : List Action) → RunsBy setting slots acts effects last
    → events ≡ events_in effects → IsAt slots events last
run-at setting slots acts effects last events run told = run-state setting slots acts effects last run ∙ ap (λ actions. replay slots (writes_in actions)) (sym told)

-- one act more
pub run-more : (setting : Setting) (slots : ℕ) (acts : List Act) (effects : List Effect) (mid : Progress) (act : Act) (front : List Effect) (new : Progress)
    → RunsBy setting slots acts effects mid → StepsBy setting mid act front new → RunsBy setting slots (acts ++ act ∷ []) (effects ++ front) new
run-more setting slots acts effects mid act front new run step = step-more (StepsBy setting) (start slots) acts effects mid act front new run step

-- what is pending after an act
judged-batch : (setting : Setting) (old : Progress) (v : Verdict) (effects : List Effect) (new : Progress) → Judged Commits setting (settled_at old) v effects new → changes_in new.batch new.asked ≡ 0
judged-batch setting old Accepted effects new step = ap (λ p. changes_in p.batch p.asked) step.after
judged-batch setting old (Unsound fault) effects new step = ap (λ p. changes_in p.batch p.asked) step.1
judged-batch setting old (OutOfBits field needed free) effects new step = ap (λ p. changes_in p.batch p.asked) step.1
judged-batch setting old (OutOfSlots needed free) effects new step = ap (λ p. changes_in p.batch p.asked) step.1

tried-batch : (most : ℕ) (setting : Setting) (old : Progress) (v : Verdict) (effects : List Effect) (new : Progress) → Judged (Tries most) setting (settled_at old) v effects new → changes_in new.batch new.asked ≡ 0
tried-batch most setting old Accepted effects new (inl commits) = ap (λ p. changes_in p.batch p.asked) commits.0.after
tried-batch most setting old Accepted effects new (inr returns) = ap (λ p. changes_in p.batch p.asked) returns.after
tried-batch most setting old (Unsound fault) effects new step = ap (λ p. changes_in p.batch p.asked) step.1
tried-batch most setting old (OutOfBits field needed free) effects new step = ap (λ p. changes_in p.batch p.asked) step.1
tried-batch most setting old (OutOfSlots needed free) effects new step = ap (λ p. changes_in p.batch p.asked) step.1

crashed-batch : (after : ℕ) (setting : Setting) (old : Progress) (v : Verdict) (effects : List Effect) (new : Progress) → Judged (Crashes after) setting (settled_at old) v effects new → changes_in new.batch new.asked ≡ 0
crashed-batch after setting old Accepted effects new (inl commits) = judged-batch setting old Accepted effects new commits.0
crashed-batch after setting old Accepted effects new (inr restarts) = ap (λ p. changes_in p.batch p.asked) restarts.new_is
crashed-batch after setting old (Unsound fault) effects new step = ap (λ p. changes_in p.batch p.asked) step.1
crashed-batch after setting old (OutOfBits field needed free) effects new step = ap (λ p. changes_in p.batch p.asked) step.1
crashed-batch after setting old (OutOfSlots needed free) effects new step = ap (λ p. changes_in p.batch p.asked) step.1

-- a change more
pub more-with : (batch : List Change) (asked : Requested) (change : Change) → changes_in (batch_with batch asked change) (asked_with asked change) ≡ changes_in batch asked + 1
more-with batch Nothing change = length-append batch (change ∷ [])
more-with batch (Changes requests) change = length-append requests (Strict change ∷ [])
more-with batch (Whole requests) change = length-append requests (Strict change ∷ [])

pub more-behind : (batch : List Change) (asked : Requested) (request : Request) → changes_in (batch_behind batch asked) (asked_behind batch asked request) ≡ changes_in batch asked + 1
more-behind batch Nothing request = length-append (map Strict batch) (request ∷ []) ∙ ap (λ n. n + 1) (length-map batch Strict)
more-behind batch (Changes requests) request = length-append requests (request ∷ [])
more-behind batch (Whole requests) request = length-append requests (request ∷ [])

committed-batch : (in_two : Bool) (setting : Setting) (old : Progress) (effects : List Effect) (new : Progress) → CommitsBy in_two setting old effects new → changes_in new.batch new.asked ≡ 0
committed-batch true setting old effects new two = judged-batch setting (at_rest old two.middle) (pending_verdict setting (at_rest old two.middle)) two.second new two.rest
committed-batch false setting old effects new step = judged-batch setting old (pending_verdict setting old) effects new step

pub step-pending : (setting : Setting) (old : Progress) (act : Act) (effects : List Effect) (new : Progress) → StepsBy setting old act effects new
    → changes_in new.batch new.asked ≡ pending_after act (changes_in old.batch old.asked)
step-pending setting old (Command change) effects new step = ap (λ p. changes_in p.batch p.asked) step.1 ∙ more-with old.batch old.asked change
step-pending setting old (Ask request) effects new step = ap (λ p. changes_in p.batch p.asked) step.1 ∙ more-behind old.batch old.asked request
step-pending setting old All effects new step = ap (λ p. changes_in p.batch p.asked) step.1
step-pending setting old (Probe key) effects new step = ap (λ p. changes_in p.batch p.asked) step.1
step-pending setting old (Packet key) effects new step = ap (λ p. changes_in p.batch p.asked) step.1
step-pending setting old Commit effects new step = committed-batch (parts_at setting old) setting old effects new step
step-pending setting old (Trial most) effects new step = tried-batch most setting old (pending_verdict setting old) effects new step
step-pending setting old (Crash after) effects new step = crashed-batch after setting old (pending_verdict setting old) effects new step

-- how many probes there are after an act
judged-probes : (setting : Setting) (old : Progress) (v : Verdict) (effects : List Effect) (new : Progress) → Judged Commits setting old v effects new → new.probes ≡ old.probes
judged-probes setting old Accepted effects new step = ap (λ p. p.probes) step.after
judged-probes setting old (Unsound fault) effects new step = ap (λ p. p.probes) step.1
judged-probes setting old (OutOfBits field needed free) effects new step = ap (λ p. p.probes) step.1
judged-probes setting old (OutOfSlots needed free) effects new step = ap (λ p. p.probes) step.1

tried-probes : (most : ℕ) (setting : Setting) (old : Progress) (v : Verdict) (effects : List Effect) (new : Progress) → Judged (Tries most) setting old v effects new → new.probes ≡ old.probes
tried-probes most setting old Accepted effects new (inl commits) = ap (λ p. p.probes) commits.0.after
tried-probes most setting old Accepted effects new (inr returns) = ap (λ p. p.probes) returns.after
tried-probes most setting old (Unsound fault) effects new step = ap (λ p. p.probes) step.1
tried-probes most setting old (OutOfBits field needed free) effects new step = ap (λ p. p.probes) step.1
tried-probes most setting old (OutOfSlots needed free) effects new step = ap (λ p. p.probes) step.1

crashed-probes : (after : ℕ) (setting : Setting) (old : Progress) (v : Verdict) (effects : List Effect) (new : Progress) → Judged (Crashes after) setting old v effects new → new.probes ≡ old.probes
crashed-probes after setting old Accepted effects new (inl commits) = judged-probes setting old Accepted effects new commits.0
crashed-probes after setting old Accepted effects new (inr restarts) = ap (λ p. p.probes) restarts.new_is
crashed-probes after setting old (Unsound fault) effects new step = ap (λ p. p.probes) step.1
crashed-probes after setting old (OutOfBits field needed free) effects new step = ap (λ p. p.probes) step.1
crashed-probes after setting old (OutOfSlots needed free) effects new step = ap (λ p. p.probes) step.1

committed-probes : (in_two : Bool) (setting : Setting) (old : Progress) (effects : List Effect) (new : Progress) → CommitsBy in_two setting old effects new → new.probes ≡ old.probes
committed-probes true setting old effects new two =
    judged-probes setting (settled_at (at_rest old two.middle)) (pending_verdict setting (at_rest old two.middle)) two.second new two.rest
    ∙ judged-probes setting (settled_at (at_first old)) (pending_verdict setting (at_first old)) two.first two.middle two.early
committed-probes false setting old effects new step = judged-probes setting (settled_at old) (pending_verdict setting old) effects new step

pub step-probes : (setting : Setting) (old : Progress) (act : Act) (effects : List Effect) (new : Progress) → StepsBy setting old act effects new → length new.probes ≡ probes_after act (length old.probes)
step-probes setting old (Command change) effects new step = ap (λ p. length p.probes) step.1
step-probes setting old (Ask request) effects new step = ap (λ p. length p.probes) step.1
step-probes setting old All effects new step = ap (λ p. length p.probes) step.1
step-probes setting old (Probe key) effects new step = ap (λ p. length p.probes) step.1 ∙ length-append old.probes (key ∷ [])
step-probes setting old (Packet key) effects new step = ap (λ p. length p.probes) step.1
step-probes setting old Commit effects new step = ap length (committed-probes (parts_at setting old) setting old effects new step)
step-probes setting old (Trial most) effects new step = ap length (tried-probes most setting (settled_at old) (pending_verdict setting old) effects new step)
step-probes setting old (Crash after) effects new step = ap length (crashed-probes after setting (settled_at old) (pending_verdict setting old) effects new step)

-- acts without a probe leave the probes
pub none-probed : (setting : Setting) (old : Progress) (acts : List Act) (effects : List Effect) (new : Progress) → AllByRecursion IsNoProbe acts → RunBy setting old acts effects new → new.probes ≡ old.probes
none-probed setting old [] effects new none run = ap (λ p. p.probes) run.1
none-probed setting old (Command change ∷ acts) effects new none (front, mid, back, step, rest, whole) = none-probed setting mid acts back new none.1 rest ∙ ap (λ p. p.probes) step.1
none-probed setting old (Ask request ∷ acts) effects new none (front, mid, back, step, rest, whole) = none-probed setting mid acts back new none.1 rest ∙ ap (λ p. p.probes) step.1
none-probed setting old (All ∷ acts) effects new none (front, mid, back, step, rest, whole) = none-probed setting mid acts back new none.1 rest ∙ ap (λ p. p.probes) step.1
none-probed setting old (Probe key ∷ acts) effects new none (front, mid, back, step, rest, whole) = absurd none.0
none-probed setting old (Packet key ∷ acts) effects new none (front, mid, back, step, rest, whole) = none-probed setting mid acts back new none.1 rest ∙ ap (λ p. p.probes) step.1
none-probed setting old (Commit ∷ acts) effects new none (front, mid, back, step, rest, whole) =
    none-probed setting mid acts back new none.1 rest ∙ committed-probes (parts_at setting old) setting old front mid step
none-probed setting old (Trial most ∷ acts) effects new none (front, mid, back, step, rest, whole) =
    none-probed setting mid acts back new none.1 rest ∙ tried-probes most setting (settled_at old) (pending_verdict setting old) front mid step
none-probed setting old (Crash after ∷ acts) effects new none (front, mid, back, step, rest, whole) =
    none-probed setting mid acts back new none.1 rest ∙ crashed-probes after setting (settled_at old) (pending_verdict setting old) front mid step

-- what is counted after an act
pub step-counted : (setting : Setting) (slots : ℕ) (old : Progress) (act : Act) (effects : List Effect) (new : Progress) → StepsBy setting old act effects new
    → (run_kind setting slots).counted new ≡ (run_kind setting slots).scripts.counted_after act ((run_kind setting slots).counted old)
step-counted setting slots old act effects new step =
    let counted : ℕ → ℕ → ℕ × ℕ = λ pending probes. (pending, probes) in
    ap (λ pending. counted pending (length new.probes)) (step-pending setting old act effects new step)
    ∙ ap (λ probes. counted (pending_after act (changes_in old.batch old.asked)) probes) (step-probes setting old act effects new step)
