-- The two parts of a batch of a trace are of commands of one, and no longer than a batch may be.
use Rattle.std.proofs.Common.{◌≡◌, ◌≤◌, Bool, List, [], ◌∷◌, length, not, ◌&&◌, arith}
use Rattle.std.proofs.lemmas.Bool.{cond_both}
use Rattle.std.proofs.lemmas.List.{length-map}
use Rattle.std.specs.List.{AllByRecursion}
use Rattle.rule_model.specs.declared.IpVersion.{IpVersion}
use Rattle.rule_model.specs.declared.Rule.{Rule}
use Rattle.rule_model.specs.RuleSet.{has_priority}
use Rattle.rule_store.specs.declared.Command.{Command as Change}
use Rattle.rule_store.specs.declared.Command.TheVariants.{Del}
use Rattle.rule_store.specs.Batch.{is_removal, named_priority}
use Rattle.trace_file.specs.Forms.{IsTraceRule}
use Rattle.removals_first.specs.Early.{early_batch, late_batch, spared_goes_first, spared_rules_in}
use Rattle.json_traces.proofs.SettledTold.{rank_told}
use Rattle.json_traces.proofs.TraceRules.{IsTraceChange}

-- the rules that go first are some of the set
pub early_told : (version : IpVersion) (rules : List Rule) (batch : List Change) (lower : List Rule) → AllByRecursion (IsTraceRule version) lower
    → AllByRecursion (IsTraceChange version) (early_batch (spared_rules_in rules batch lower))
early_told version rules batch [] are = tt
early_told version rules batch (rule ∷ lower) are =
    let early = spared_rules_in rules batch lower in
    cond_both (spared_goes_first rules batch rule lower early) (rule ∷ early) early (λ (some : List Rule). AllByRecursion (IsTraceChange version) (early_batch some))
    (λ goes. (rank_told version rule are.0, early_told version rules batch lower are.1)) (λ stays. early_told version rules batch lower are.1)

pub early_few : (rules : List Rule) (batch : List Change) (lower : List Rule) → length (spared_rules_in rules batch lower) ≤ length lower
early_few rules batch [] = omega arith
early_few rules batch (rule ∷ lower) =
    let early = spared_rules_in rules batch lower in
    let few = early_few rules batch lower in
    cond_both (spared_goes_first rules batch rule lower early) (rule ∷ early) early (λ (some : List Rule). length some ≤ length (rule ∷ lower)) (λ goes. omega (arith, few)) (λ stays. omega (arith, few))

-- and what is left behind them some of the batch
abbrev stays_late : List Rule → Change → Bool
stays_late early command = not (is_removal command && has_priority early (named_priority command))

pub late_told : (version : IpVersion) (early : List Rule) (batch : List Change) → AllByRecursion (IsTraceChange version) batch → AllByRecursion (IsTraceChange version) (late_batch early batch)
late_told version early [] told = tt
late_told version early (command ∷ batch) told =
    let rest = late_batch early batch in
    cond_both (stays_late early command) (command ∷ rest) rest (AllByRecursion (IsTraceChange version)) (λ stays. (told.0, late_told version early batch told.1)) (λ goes. late_told version early batch told.1)

pub late_few : (early : List Rule) (batch : List Change) → length (late_batch early batch) ≤ length batch
late_few early [] = omega arith
late_few early (command ∷ batch) =
    let rest = late_batch early batch in
    let few = late_few early batch in
    cond_both (stays_late early command) (command ∷ rest) rest (λ (some : List Change). length some ≤ length (command ∷ batch)) (λ stays. omega (arith, few)) (λ goes. omega (arith, few))

pub early_short : (early : List Rule) → length (early_batch early) ≡ length early
early_short early = length-map early (λ (rule : Rule). Del rule.priority)
