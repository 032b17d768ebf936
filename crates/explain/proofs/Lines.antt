-- What a line more does to an explanation, as the calls that take it say: what their bodies read of it is `inside`.
use Rattle.std.proofs.Common.{◌≡◌, ℕ, Bool, true, false, Option, Some, Result, Ok, Err, OnOk, List, [], ◌∷◌, refl, ap, sym, ◌∙◌, subst}
use Rattle.std.specs.Prelude.{if◌then◌else◌}
use Rattle.rule_store.specs.declared.Command.{Command as Change}
use Rattle.rule_store.specs.Batch.{IsSound, set_after}
use Rattle.rule_store.specs.Verdict.{Verdict, Accepted, verdict}
use Rattle.settled_changes.specs.declared.requested.Requested.{Requested}
use Rattle.settled_changes.specs.declared.requested.Requested.TheVariants.{Nothing}
use Rattle.settled_changes.specs.Requested.{settled_batch, settled_verdict}
use Rattle.readback.specs.declared.Rejection.{Rejection}
use Rattle.readback.specs.Judged.{judgement}
use Rattle.replay.specs.declared.Act.{Act}
use Rattle.explain.specs.declared.explainer.Foretold.{Foretold}
use Rattle.explain.specs.declared.explainer.Foretold.TheVariants as foretold
use Rattle.explain.specs.Rounds.{Explained}
use Rattle.explain.specs.Steps.{behind_act_in, behind_fault, behind_line, behind_line_by, changes_of, committed, faulted, is_behind_fault, is_known, judged, refused, tried, verdict_in}
use Rattle.explain.proofs.Taken.{accepted_sound, rejected_commit, rejected_trial, taken_commit, taken_trial}

-- ---- lines

-- a line, by what it reads as
pub line-as : {T E : Type 0} (result : Result T E) (number : ℕ) (read found : Explained → Result (Option Act) (List ℕ)) (inside now after : Explained) → inside ≡ now → read inside ≡ found inside
    → OnOk result (after ≡ behind_line_by now.foretold number (found now) now) → OnOk result (after ≡ behind_line number (read now) now)
line-as result number read found inside now after is found_is follows =
    let same : read now ≡ found now = subst (λ (n : Explained). read n ≡ found n) is found_is in
    subst (λ (r : Result (Option Act) (List ℕ)). OnOk result (after ≡ behind_line number r now)) (sym same) follows

pub line-here : (number : ℕ) (read found : Explained → Result (Option Act) (List ℕ)) (inside now after : Explained) → inside ≡ now → read inside ≡ found inside
    → after ≡ behind_line_by now.foretold number (found now) now → after ≡ behind_line number (read now) now
line-here number read found inside now after is found_is follows =
    let same : read now ≡ found now = subst (λ (n : Explained). read n ≡ found n) is found_is in
    subst (λ (r : Result (Option Act) (List ℕ)). after ≡ behind_line number r now) (sym same) follows

-- one at fault
pub stopped-as : (number : ℕ) (next : Foretold) (inside now : Explained) → inside ≡ now → next ≡ behind_fault number inside.foretold → record inside { foretold = next; wrong = true } ≡ faulted number now.foretold now
stopped-as number next inside now is next_is =
    subst (λ (n : Explained). record inside { foretold = next; wrong = true } ≡ faulted number n.foretold n) is
    (ap (λ (f : Foretold). record inside { foretold = f; wrong = true }) next_is)

-- ---- acts

-- behind a line at fault acts do nothing
fault-by : (by : Foretold) (number : ℕ) (act : Act) (now : Explained) → is_behind_fault by ≡ true → now ≡ behind_line_by by number (Ok (Some act)) now
fault-by foretold.Known number act now is = let bad : false ≡ true = is in absurd (cc)
fault-by (foretold.BehindTrial line) number act now is = let bad : false ≡ true = is in absurd (cc)
fault-by (foretold.BehindFault line) number act now is = refl

pub fault-rests : (number : ℕ) (act : Act) (inside now : Explained) → inside ≡ now → is_behind_fault inside.foretold ≡ true → inside ≡ behind_line_by now.foretold number (Ok (Some act)) now
fault-rests number act inside now is by =
    subst (λ (n : Explained). inside ≡ behind_line_by n.foretold number (Ok (Some act)) n) is (fault-by inside.foretold number act inside by)

-- and else each is taken
acts-by : {T E : Type 0} (result : Result T E) (by : Foretold) (number : ℕ) (act : Act) (now after : Explained) → is_behind_fault by ≡ false
    → OnOk result (after ≡ behind_act_in by number act now) → OnOk result (after ≡ behind_line_by by number (Ok (Some act)) now)
acts-by result foretold.Known number act now after is follows = follows
acts-by result (foretold.BehindTrial line) number act now after is follows = follows
acts-by result (foretold.BehindFault line) number act now after is follows = let bad : true ≡ false = is in absurd (cc)

pub acts-as : {T E : Type 0} (result : Result T E) (number : ℕ) (act : Act) (inside now after : Explained) → inside ≡ now → is_behind_fault inside.foretold ≡ false
    → OnOk result (after ≡ behind_act_in now.foretold number act now) → OnOk result (after ≡ behind_line_by now.foretold number (Ok (Some act)) now)
acts-as result number act inside now after is by follows =
    acts-by result now.foretold number act now after (subst (λ (n : Explained). is_behind_fault n.foretold ≡ false) is by) follows

-- ---- commits and trials

-- over a known set what is pending is judged
pub known-judged : {T E : Type 0} (result : Result T E) (by inside now after : Explained) → inside ≡ now → is_known inside.foretold ≡ true
    → OnOk result (after ≡ by) → OnOk result (after ≡ judged now.foretold now by)
known-judged result by inside now after is known follows =
    let same : is_known now.foretold ≡ true = subst (λ (n : Explained). is_known n.foretold ≡ true) is known in
    subst (λ (k : Bool). OnOk result (after ≡ (if k then by else record now { batch = []; asked = Nothing }))) (sym same) follows

-- over another one it goes
pub other-passed : (by inside now after : Explained) → inside ≡ now → is_known inside.foretold ≡ false → after ≡ record now { batch = []; asked = Nothing } → after ≡ judged now.foretold now by
other-passed by inside now after is other follows =
    let same : is_known now.foretold ≡ false = subst (λ (n : Explained). is_known n.foretold ≡ false) is other in
    subst (λ (k : Bool). after ≡ (if k then by else record now { batch = []; asked = Nothing })) (sym same) follows

-- a trial of no changes is a commit
none-tried : (number : ℕ) (batch : List Change) (v : Verdict) (now : Explained) → batch ≡ [] → committed v now ≡ tried number batch v now
none-tried number [] v now none = refl
none-tried number (change ∷ changes) v now none = let bad : change ∷ changes ≡ [] = none in absurd (cc)

pub tried-as : {T E : Type 0} (result : Result T E) (number : ℕ) (inside now after : Explained) → inside ≡ now → inside.batch ≡ [] → OnOk result (after ≡ committed (verdict_in now) now)
    → OnOk result (after ≡ tried number now.batch (verdict_in now) now)
tried-as result number inside now after is none follows =
    let same : now.batch ≡ [] = subst (λ (n : Explained). n.batch ≡ []) is none in
    subst (λ (e : Explained). OnOk result (after ≡ e)) (none-tried number now.batch (verdict_in now) now same) follows

-- ---- strict commands alone

-- what the rule lists say of the commands of the batch
abbrev pub batch_verdict : Explained → Verdict
batch_verdict now = verdict now.wanted.slots now.wanted.mode now.rules now.batch

plain-verdict : (now : Explained) → now.asked ≡ Nothing → verdict_in now ≡ batch_verdict now
plain-verdict now strict = ap (λ (a : Requested). settled_verdict now.wanted.slots now.wanted.mode now.rules now.batch a) strict

plain-changes : (now : Explained) → now.asked ≡ Nothing → changes_of now ≡ now.batch
plain-changes now strict = ap (λ (a : Requested). settled_batch now.rules now.batch a) strict

-- which are refused
pub judge-refused : {T E : Type 0} (result : Result T E) (why : Rejection) (inside now after : Explained) → inside ≡ now → now.asked ≡ Nothing → judgement (batch_verdict inside) ≡ Err why
    → OnOk result (after ≡ refused now) → OnOk result (after ≡ committed (verdict_in now) now)
judge-refused result why inside now after is strict rejected follows =
    let same : judgement (batch_verdict now) ≡ Err why = subst (λ (n : Explained). judgement (batch_verdict n) ≡ Err why) is rejected in
    let by : judgement (verdict_in now) ≡ Err why = ap judgement (plain-verdict now strict) ∙ same in
    subst (λ (e : Explained). OnOk result (after ≡ e)) (sym (rejected_commit (verdict_in now) why now by)) follows

pub try-refused : {T E : Type 0} (result : Result T E) (number : ℕ) (why : Rejection) (inside now after : Explained) → inside ≡ now → now.asked ≡ Nothing → judgement (batch_verdict inside) ≡ Err why
    → OnOk result (after ≡ refused now) → OnOk result (after ≡ tried number now.batch (verdict_in now) now)
try-refused result number why inside now after is strict rejected follows =
    let same : judgement (batch_verdict now) ≡ Err why = subst (λ (n : Explained). judgement (batch_verdict n) ≡ Err why) is rejected in
    let by : judgement (verdict_in now) ≡ Err why = ap judgement (plain-verdict now strict) ∙ same in
    subst (λ (e : Explained). OnOk result (after ≡ e)) (sym (rejected_trial number now.batch (verdict_in now) why now by)) follows

-- or taken
pub sound-as : (inside now : Explained) → inside ≡ now → batch_verdict inside ≡ Accepted → IsSound now.rules now.batch
sound-as inside now is accepted =
    subst (λ (n : Explained). IsSound n.rules n.batch) is (accepted_sound inside.wanted.slots inside.wanted.mode inside.rules inside.batch accepted)

taken-by : (inside now : Explained) → inside ≡ now → now.asked ≡ Nothing → batch_verdict inside ≡ Accepted → verdict_in now ≡ Accepted
taken-by inside now is strict accepted = plain-verdict now strict ∙ subst (λ (n : Explained). batch_verdict n ≡ Accepted) is accepted

pub judge-taken : {T E : Type 0} (result : Result T E) (inside now after : Explained) → inside ≡ now → now.asked ≡ Nothing → batch_verdict inside ≡ Accepted
    → OnOk result (after ≡ record now { rules = set_after now.rules now.batch; batch = []; asked = Nothing }) → OnOk result (after ≡ committed (verdict_in now) now)
judge-taken result inside now after is strict accepted follows =
    subst (λ (e : Explained). OnOk result (after ≡ e)) (sym (taken_commit (verdict_in now) now (taken-by inside now is strict accepted)))
    (subst (λ (b : List Change). OnOk result (after ≡ record now { rules = set_after now.rules b; batch = []; asked = Nothing })) (sym (plain-changes now strict)) follows)

pub try-taken : (number : ℕ) (inside now after : Explained) → inside ≡ now → now.asked ≡ Nothing → batch_verdict inside ≡ Accepted → (inside.batch ≡ [] → ⊥)
    → after ≡ record inside { batch = []; asked = Nothing; foretold = foretold.BehindTrial number } → after ≡ tried number now.batch (verdict_in now) now
try-taken number inside now after is strict accepted some follows =
    follows ∙ ap (λ (n : Explained). record n { batch = []; asked = Nothing; foretold = foretold.BehindTrial number }) is
    ∙ sym (taken_trial number now.batch (verdict_in now) now (taken-by inside now is strict accepted) (subst (λ (n : Explained). n.batch ≡ [] → ⊥) is some))
