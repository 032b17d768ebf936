-- The sets of rules that a script leads through: the first of them, and those of some first acts.
use Rattle.std.proofs.Common.{◌≡◌, ◌+◌, ◌-◌, Bool, true, false, drop, Some, List, [], ◌∷◌, ◌++◌, slice_get, refl, ap}
use Rattle.rule_model.specs.declared.Rule.{Rule}
use Rattle.rule_store.specs.declared.Command.{Command as Change}
use Rattle.rule_store.specs.Batch.{set_after}
use Rattle.rule_store.specs.Verdict.{Verdict, Accepted, Unsound, OutOfBits, OutOfSlots}
use Rattle.replay.specs.declared.Act.{Act}
use Rattle.replay.specs.declared.Act.TheVariants.{Command, Ask, All, Probe, Packet, Commit, Trial, Crash}
use Rattle.settled_changes.specs.declared.requested.Requested.{Requested}
use Rattle.settled_changes.specs.declared.requested.Requested.TheVariants.{Nothing, Whole}
use Rattle.settled_changes.specs.Requested.{asked_behind, asked_with, batch_behind, batch_with, settled_batch, settled_verdict}
use Rattle.replay.specs.Early.{commit_verdict}
use Rattle.replay.specs.Effects.{Setting}
use Rattle.tcam_cli.specs.AllTheWay.{Led, Stands, TakenBack, led_by, sets_through}
use Rattle.tcam_cli.specs.Judgements.{Judgement, LedTo, LedBack, is_back, judged_as, judgements}

-- the sets by the verdict on a commit
abbrev pub sets_judged : Setting → List Bool → List Rule → List Change → List Act → Verdict → List Led
sets_judged setting backs rules batch acts is =
    let new = set_after rules batch in
    Stands rules ∷ led_by (judged_as is (LedTo new ∷ judgements setting backs new [] Nothing acts) (judgements setting backs rules [] Nothing acts))

-- and on a trial, which is taken back or not
abbrev pub tried_as : Setting → List Bool → List Rule → List Change → List Act → Bool → List Judgement
tried_as setting backs rules batch acts back =
    let new = set_after rules batch in
    elim back [
      | true ↦ LedBack new rules ∷ judgements setting backs rules [] Nothing acts
      | false ↦ LedTo new ∷ judgements setting backs new [] Nothing acts
    ]

abbrev pub trial_judged : Setting → List Bool → List Rule → List Change → List Act → Verdict → List Led
trial_judged setting backs rules batch acts is =
    Stands rules ∷ led_by (judged_as is (tried_as setting (drop 1 backs) rules batch acts (is_back backs)) (judgements setting backs rules [] Nothing acts))

-- the first set is the one before the acts
pub first-set : (setting : Setting) (backs : List Bool) (rules : List Rule) (batch : List Change) (asked : Requested) (acts : List Act) → slice_get (sets_through setting backs rules batch asked acts) 0 ≡ Some (Stands rules)
first-set setting backs rules batch asked acts = refl

-- the sets of some first acts are the first sets
abbrev pub Continues : List Led → List Led → Type 0
Continues sets all = (behind : List Led) × (all ≡ sets ++ behind)

-- so they are, whatever is pending
abbrev ContinuesWith : Setting → List Act → List Act → Type 0
ContinuesWith setting acts later =
    (backs : List Bool) (rules : List Rule) (batch : List Change) (asked : Requested) → Continues (sets_through setting backs rules batch asked acts) (sets_through setting backs rules batch asked (acts ++ later))

more-judged : (setting : Setting) (backs : List Bool) (rules : List Rule) (batch : List Change) (acts later : List Act) (is : Verdict) → ContinuesWith setting acts later
    → Continues (sets_judged setting backs rules batch acts is) (sets_judged setting backs rules batch (acts ++ later) is)
more-judged setting backs rules batch acts later Accepted more =
    let new = more backs (set_after rules batch) [] Nothing in (new.0, ap (λ sets. Stands rules ∷ sets) new.1)
more-judged setting backs rules batch acts later (Unsound fault) more = more backs rules [] Nothing
more-judged setting backs rules batch acts later (OutOfBits field needed free) more = more backs rules [] Nothing
more-judged setting backs rules batch acts later (OutOfSlots needed free) more = more backs rules [] Nothing

more-back : (setting : Setting) (backs : List Bool) (rules : List Rule) (batch : List Change) (acts later : List Act) (back : Bool) → ContinuesWith setting acts later
    → Continues (Stands rules ∷ led_by (tried_as setting backs rules batch acts back)) (Stands rules ∷ led_by (tried_as setting backs rules batch (acts ++ later) back))
more-back setting backs rules batch acts later true more =
    let old = more backs rules [] Nothing in (old.0, ap (λ sets. Stands rules ∷ TakenBack (set_after rules batch) ∷ sets) old.1)
more-back setting backs rules batch acts later false more =
    let new = more backs (set_after rules batch) [] Nothing in (new.0, ap (λ sets. Stands rules ∷ sets) new.1)

more-tried : (setting : Setting) (backs : List Bool) (rules : List Rule) (batch : List Change) (acts later : List Act) (is : Verdict) → ContinuesWith setting acts later
    → Continues (trial_judged setting backs rules batch acts is) (trial_judged setting backs rules batch (acts ++ later) is)
more-tried setting backs rules batch acts later Accepted more = more-back setting (drop 1 backs) rules batch acts later (is_back backs) more
more-tried setting backs rules batch acts later (Unsound fault) more = more backs rules [] Nothing
more-tried setting backs rules batch acts later (OutOfBits field needed free) more = more backs rules [] Nothing
more-tried setting backs rules batch acts later (OutOfSlots needed free) more = more backs rules [] Nothing

more-sets-from : (setting : Setting) (acts later : List Act) → ContinuesWith setting acts later
more-sets-from setting [] later backs rules batch asked = (led_by (judgements setting backs rules batch asked later), refl)
more-sets-from setting (Command change ∷ acts) later backs rules batch asked = more-sets-from setting acts later backs rules (batch_with batch asked change) (asked_with asked change)
more-sets-from setting (Ask request ∷ acts) later backs rules batch asked = more-sets-from setting acts later backs rules (batch_behind batch asked) (asked_behind batch asked request)
more-sets-from setting (All ∷ acts) later backs rules batch asked = more-sets-from setting acts later backs rules [] (Whole [])
more-sets-from setting (Probe key ∷ acts) later backs rules batch asked = more-sets-from setting acts later backs rules batch asked
more-sets-from setting (Packet key ∷ acts) later backs rules batch asked = more-sets-from setting acts later backs rules batch asked
more-sets-from setting (Commit ∷ acts) later backs rules batch asked =
    more-judged setting backs rules (settled_batch rules batch asked) acts later (commit_verdict setting rules batch asked) (more-sets-from setting acts later)
more-sets-from setting (Trial most ∷ acts) later backs rules batch asked =
    more-tried setting backs rules (settled_batch rules batch asked) acts later (settled_verdict setting.slots setting.mode rules batch asked) (more-sets-from setting acts later)
more-sets-from setting (Crash after ∷ acts) later backs rules batch asked =
    more-judged setting backs rules (settled_batch rules batch asked) acts later (settled_verdict setting.slots setting.mode rules batch asked) (more-sets-from setting acts later)

pub more-sets : (setting : Setting) (backs : List Bool) (rules : List Rule) (batch : List Change) (asked : Requested) (acts later : List Act)
    → Continues (sets_through setting backs rules batch asked acts) (sets_through setting backs rules batch asked (acts ++ later))
more-sets setting backs rules batch asked acts later = more-sets-from setting acts later backs rules batch asked
