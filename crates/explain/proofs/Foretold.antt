-- What is foretold comes about, whatever becomes of the trials; and without trials no other refusal does.
use Rattle.std.proofs.Common.{◌≡◌, ◌≢◌, Bool, true, false, List, [], ◌∷◌, drop, map, filter, not, refl, sym, ◌∙◌, ap, subst}
use Rattle.std.specs.List.{AllByRecursion}
use Rattle.rule_model.specs.declared.Rule.{Rule}
use Rattle.rule_store.specs.declared.Command.{Command as Change}
use Rattle.rule_store.specs.Batch.{set_after, removes, with_result_after}
use Rattle.rule_store.specs.Verdict.{Verdict, Accepted, Unsound, OutOfBits, OutOfSlots}
use Rattle.settled_changes.specs.declared.requested.Requested.{Requested}
use Rattle.settled_changes.specs.declared.requested.Requested.TheVariants.{Nothing, Whole as WholeSet}
use Rattle.settled_changes.specs.Requested.{asked_behind, asked_with, batch_behind, batch_with, settled_batch, settled_verdict}
use Rattle.replay.specs.declared.Act.{Act}
use Rattle.replay.specs.declared.Act.TheVariants.{Command, Ask, All, Probe, Packet, Commit, Trial, Crash}
use Rattle.replay.specs.Early.{commit_verdict}
use Rattle.replay.specs.Effects.{Setting}
use Rattle.replay.specs.Script.{Script}
use Rattle.script_runs.specs.declared.Status.{Status}
use Rattle.script_runs.specs.declared.Status.TheVariants.{Done, Refused, Script as ScriptFault}
use Rattle.script_runs.specs.Script.{ScriptEnd, Whole, FaultAt, acts_of}
use Rattle.tcam_cli.specs.Judgements.{Judgement, LedTo, LedBack, any_declined, is_back, judged_as, judgements}
use Rattle.tcam_cli.specs.Headline.{any_refused, decided}
use Rattle.explain.specs.Explained.{IsNoTrial, foretells, judged_by, tried_by}

-- ---- a batch of no changes

kept-none : (rules : List Rule) → map (with_result_after []) (filter (λ rule. not (removes rule.priority [])) rules) ≡ rules
kept-none [] = refl
kept-none (rule ∷ rules) = ap (λ rest. rule ∷ rest) (kept-none rules)

pub set-after-none : (rules : List Rule) → set_after rules [] ≡ rules
set-after-none rules = kept-none rules

-- ---- one verdict

judged-comes : (v : Verdict) (a : Bool) (made still : List Judgement) → (a ≡ true → any_declined made ≡ true) → judged_by v a ≡ true → any_declined (judged_as v made still) ≡ true
judged-comes Accepted a made still more e = more e
judged-comes (Unsound fault) a made still more e = refl
judged-comes (OutOfBits field needed free) a made still more e = refl
judged-comes (OutOfSlots needed free) a made still more e = refl

judged-same : (v : Verdict) (a : Bool) (made still : List Judgement) → a ≡ any_declined made → judged_by v a ≡ any_declined (judged_as v made still)
judged-same Accepted a made still e = e
judged-same (Unsound fault) a made still e = refl
judged-same (OutOfBits field needed free) a made still e = refl
judged-same (OutOfSlots needed free) a made still e = refl

either-true : (back : Bool) (one other : List Judgement) → any_declined one ≡ true → any_declined other ≡ true → any_declined (elim back [ true ↦ one | false ↦ other ]) ≡ true
either-true true one other x y = x
either-true false one other x y = y

-- what a trial comes to, by its changes
trial-comes : (changes : List Change) (v : Verdict) (a : Bool) (made still : List Judgement) → (changes ≡ [] → a ≡ true → any_declined made ≡ true) → tried_by changes v a ≡ true → any_declined (judged_as v made still) ≡ true
trial-comes [] v a made still more e = judged-comes v a made still (more refl) e
trial-comes (change ∷ changes) v a made still more e = judged-comes v false made still (λ told. let bad : false ≡ true = told in absurd (cc)) e

-- ---- all acts

-- what is foretold comes
pub foretold-comes : (setting : Setting) (backs : List Bool) (rules : List Rule) (batch : List Change) (asked : Requested) (acts : List Act)
    → foretells setting rules batch asked acts ≡ true → any_refused setting backs rules batch asked acts ≡ true
foretold-comes setting backs rules batch asked [] e = e
foretold-comes setting backs rules batch asked (Command change ∷ acts) e = foretold-comes setting backs rules (batch_with batch asked change) (asked_with asked change) acts e
foretold-comes setting backs rules batch asked (Ask request ∷ acts) e = foretold-comes setting backs rules (batch_behind batch asked) (asked_behind batch asked request) acts e
foretold-comes setting backs rules batch asked (All ∷ acts) e = foretold-comes setting backs rules [] (WholeSet []) acts e
foretold-comes setting backs rules batch asked (Probe key ∷ acts) e = foretold-comes setting backs rules batch asked acts e
foretold-comes setting backs rules batch asked (Packet key ∷ acts) e = foretold-comes setting backs rules batch asked acts e
foretold-comes setting backs rules batch asked (Commit ∷ acts) e =
    let next = set_after rules (settled_batch rules batch asked) in
    judged-comes (commit_verdict setting rules batch asked) (foretells setting next [] Nothing acts) (LedTo next ∷ judgements setting backs next [] Nothing acts) (judgements setting backs rules [] Nothing acts)
    (foretold-comes setting backs next [] Nothing acts) e
foretold-comes setting backs rules batch asked (Trial most ∷ acts) e =
    let next = set_after rules (settled_batch rules batch asked) in
    trial-comes (settled_batch rules batch asked) (settled_verdict setting.slots setting.mode rules batch asked) (foretells setting next [] Nothing acts)
    (elim (is_back backs) [ true ↦ LedBack next rules ∷ judgements setting (drop 1 backs) rules [] Nothing acts | false ↦ LedTo next ∷ judgements setting (drop 1 backs) next [] Nothing acts ])
    (judgements setting backs rules [] Nothing acts)
    (λ none told. either-true (is_back backs) (LedBack next rules ∷ judgements setting (drop 1 backs) rules [] Nothing acts) (LedTo next ∷ judgements setting (drop 1 backs) next [] Nothing acts)
    (foretold-comes setting (drop 1 backs) rules [] Nothing acts
    (subst (λ old. foretells setting old [] Nothing acts ≡ true) (ap (set_after rules) none ∙ set-after-none rules) told))
    (foretold-comes setting (drop 1 backs) next [] Nothing acts told)) e
foretold-comes setting backs rules batch asked (Crash after ∷ acts) e =
    let next = set_after rules (settled_batch rules batch asked) in
    judged-comes (settled_verdict setting.slots setting.mode rules batch asked) (foretells setting next [] Nothing acts) (LedTo next ∷ judgements setting backs next [] Nothing acts) (judgements setting backs rules [] Nothing acts)
    (foretold-comes setting backs next [] Nothing acts) e

-- without trials nothing else comes
pub foretold-alone : (setting : Setting) (backs : List Bool) (rules : List Rule) (batch : List Change) (asked : Requested) (acts : List Act) → AllByRecursion IsNoTrial acts
    → foretells setting rules batch asked acts ≡ any_refused setting backs rules batch asked acts
foretold-alone setting backs rules batch asked [] none = refl
foretold-alone setting backs rules batch asked (Command change ∷ acts) none = foretold-alone setting backs rules (batch_with batch asked change) (asked_with asked change) acts none.1
foretold-alone setting backs rules batch asked (Ask request ∷ acts) none = foretold-alone setting backs rules (batch_behind batch asked) (asked_behind batch asked request) acts none.1
foretold-alone setting backs rules batch asked (All ∷ acts) none = foretold-alone setting backs rules [] (WholeSet []) acts none.1
foretold-alone setting backs rules batch asked (Probe key ∷ acts) none = foretold-alone setting backs rules batch asked acts none.1
foretold-alone setting backs rules batch asked (Packet key ∷ acts) none = foretold-alone setting backs rules batch asked acts none.1
foretold-alone setting backs rules batch asked (Commit ∷ acts) none =
    let next = set_after rules (settled_batch rules batch asked) in
    judged-same (commit_verdict setting rules batch asked) (foretells setting next [] Nothing acts) (LedTo next ∷ judgements setting backs next [] Nothing acts) (judgements setting backs rules [] Nothing acts)
    (foretold-alone setting backs next [] Nothing acts none.1)
foretold-alone setting backs rules batch asked (Trial most ∷ acts) none = absurd none.0
foretold-alone setting backs rules batch asked (Crash after ∷ acts) none =
    let next = set_after rules (settled_batch rules batch asked) in
    judged-same (settled_verdict setting.slots setting.mode rules batch asked) (foretells setting next [] Nothing acts) (LedTo next ∷ judgements setting backs next [] Nothing acts) (judgements setting backs rules [] Nothing acts)
    (foretold-alone setting backs next [] Nothing acts none.1)

-- ---- the status that is decided

abbrev decided_by : ScriptEnd → Bool → Status
decided_by last refused = elim last [
  | Whole ↦ elim refused [ true ↦ Refused | false ↦ Done ]
  | FaultAt line text ↦ ScriptFault
]

fault-decided : (last : ScriptEnd) (refused : Bool) → last ≢ Whole → decided_by last refused ≢ Done
fault-decided Whole refused other = λ e. other refl
fault-decided (FaultAt line text) refused other = λ e. let bad : ScriptFault ≡ Done = e in cc

refused-decided : (last : ScriptEnd) (refused : Bool) → refused ≡ true → decided_by last refused ≢ Done
refused-decided Whole true is = λ e. let bad : Refused ≡ Done = e in cc
refused-decided Whole false is = λ e. let bad : false ≡ true = is in cc
refused-decided (FaultAt line text) refused is = λ e. let bad : ScriptFault ≡ Done = e in cc

taken-decided : (last : ScriptEnd) (refused : Bool) → last ≡ Whole → refused ≡ false → decided_by last refused ≡ Done
taken-decided Whole true whole is = let bad : true ≡ false = is in absurd (cc)
taken-decided Whole false whole is = refl
taken-decided (FaultAt line text) refused whole is = let bad : FaultAt line text ≡ Whole = whole in absurd (cc)

-- a line at fault is found by each run
pub wrong-by-fault : (setting : Setting) (backs : List Bool) (script : Script) → script.last ≢ Whole → decided setting backs script ≢ Done
wrong-by-fault setting backs script fault = fault-decided script.last (any_refused setting backs [] [] Nothing (acts_of script)) fault

-- and so is a refusal that is foretold
pub wrong-by-refusal : (setting : Setting) (backs : List Bool) (script : Script) → foretells setting [] [] Nothing (acts_of script) ≡ true → decided setting backs script ≢ Done
wrong-by-refusal setting backs script told =
    refused-decided script.last (any_refused setting backs [] [] Nothing (acts_of script)) (foretold-comes setting backs [] [] Nothing (acts_of script) told)

-- a script without either, and without trials, is carried out whole
pub right-decided : (setting : Setting) (backs : List Bool) (script : Script) → script.last ≡ Whole → foretells setting [] [] Nothing (acts_of script) ≡ false
    → AllByRecursion IsNoTrial (acts_of script) → decided setting backs script ≡ Done
right-decided setting backs script whole none trials =
    taken-decided script.last (any_refused setting backs [] [] Nothing (acts_of script)) whole (sym (foretold-alone setting backs [] [] Nothing (acts_of script) trials) ∙ none)
