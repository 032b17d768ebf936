-- The jobs beside a script's.
use Rattle.std.proofs.Common.{◌≡◌, inl, inr, ℕ, Option, Some, None, IfSome, List, [], ◌++◌, refl, sym, append-nil}
use Rattle.std.proofs.KnownBytes.{Appends-nil}
use Rattle.std.proofs.Math.Seq.{take-append_seam}
use Rattle.tcam_device.specs.declared.Action.{Action}
use Rattle.replay.specs.Script.{Script}
use Rattle.replay.specs.Effects.{Setting}
use Rattle.script_runs.specs.declared.Status.{Status}
use Rattle.script_runs.specs.declared.Status.TheVariants.{Done, Memory, Usage}
use Rattle.script_runs.specs.Outcomes.{IsPrinted}
use Rattle.tcam_cli.specs.Headline.{Job, NoJob, Tells, Reads, Makes, Verifies, IsToldAlone, IsCarriedOut, MatchesOutcome}
use Rattle.tcam_cli.specs.OwnTexts.{OwnText, HelpOn, Version, IsOwnText, help_title, version_text}
use Rattle.script_runs.specs.Rounds.{Closes}

nothing-told : (text : List ℕ) (last : Status) (taken : Option (List ℕ)) → IfSome taken (λ before. IfSome taken (λ after. (report : List ℕ) × (after ≡ before ++ report) × IsPrinted text last Memory report))
nothing-told text last None = tt
nothing-told text last (Some bytes) = ([], sym (append-nil bytes), inr (inr (refl, refl)))

nothing-done : (setting : Setting) (slots : ℕ) (script came : Script) (taken : Option (List ℕ)) (events : List Action) → events ≡ []
    → MatchesOutcome setting slots script came Memory events taken taken
nothing-done setting slots script came taken events blank =
    record { effects = []; partial = []; outcome = (inl refl, refl); events_is = blank; report_is = Appends-nil taken }

-- there is a text of each kind
some-text : (own : OwnText) → (text : List ℕ) × IsOwnText own text
some-text (HelpOn topic) = (help_title topic ++ [], take-append_seam (help_title topic) [])
some-text Version = (version_text, refl)

-- memory was wanting before anything was done
pub memory-carried : (job : Job) (slots : ℕ) (left taken : Option (List ℕ)) (events : List Action) → events ≡ [] → IsCarriedOut job slots Memory left left taken taken events
memory-carried NoJob slots left taken events blank = (refl, blank, nothing-told _ Usage taken)
memory-carried (Tells own) slots left taken events blank = let some = some-text own in (some.0, some.1, (refl, blank, nothing-told some.0 Done taken))
memory-carried (Reads setting) slots None taken events blank = tt
memory-carried (Reads setting) slots (Some old) taken events blank =
    (record { taken = []; parts = refl; all = λ e. elim e [ inl d ↦ absurd (cc) | inr r ↦ absurd (cc) ] }, nothing-done setting slots _ _ taken events blank)
memory-carried (Makes setting seed rules batches) slots left taken events blank = (refl, (λ e. absurd (cc), nothing-done setting slots _ _ taken events blank))
memory-carried Verifies slots None taken events blank = (blank, tt)
memory-carried Verifies slots (Some old) taken events blank =
    (blank, record { taken = []; parts = refl; all = λ e. absurd (cc); report = []; told = inr (inr refl, refl); report_is = Appends-nil taken })

told-text : (text : List ℕ) (last result : Status) (before after : Option (List ℕ)) → Closes text last result before after
    → IfSome before (λ b. IfSome after (λ a. (report : List ℕ) × (a ≡ b ++ report) × IsPrinted text last result report))
told-text text last result None after closes = tt
told-text text last result (Some b) None closes = tt
told-text text last result (Some b) (Some a) (inl (e, line)) = (text, line, inl (e, refl))
told-text text last result (Some b) (Some a) (inr (e, (partial, rest, part, line))) = (partial, line, inr (inl (e, (rest, part))))

pub told-alone : (text : List ℕ) (last result : Status) (left before after : Option (List ℕ)) (events : List Action) → events ≡ [] → Closes text last result before after
    → IsToldAlone text last result left left before after events
told-alone text last result left before after events blank closes = (refl, blank, told-text text last result before after closes)
