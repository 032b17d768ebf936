-- Removals of what is pending that are committed before the rest.
use Rattle.std.specs.Prelude.{◌≡◌, ℕ, ◌==◌, ◌++◌, Bool, true, false, not, ◌&&◌, Option, Some, None, List, [], length}
use Rattle.std.specs.List.{AllByRecursion}
use Rattle.rule_model.specs.declared.IpVersion.{IpVersion}
use Rattle.rule_model.specs.Rule.{HasConditions}
use Rattle.rule_model.specs.RuleSet.{IsRuleSet}
use Rattle.rule_model.specs.declared.Rule.{Rule}
use Rattle.rule_store.specs.declared.Mode.{Mode}
use Rattle.rule_store.specs.declared.Command.{Command as Change}
use Rattle.rule_store.specs.Batch.{ChangesRules, set_after}
use Rattle.rule_store.specs.Verdict.{Verdict, Accepted, Unsound, OutOfBits, OutOfSlots, verdict}
use Rattle.tcam_device.specs.declared.Write.{Write}
use Rattle.tcam_device.specs.State.{State, state_after}
use Rattle.tcam_device.specs.Hitless.{IsHitless}
use Rattle.batch_order.specs.Managed.{OnlyChangesRoutes}
use Rattle.settled_changes.specs.declared.requested.Requested.{Requested}
use Rattle.settled_changes.specs.declared.requested.Requested.TheVariants.{Nothing}
use Rattle.settled_changes.specs.Requested.{settled_batch, settled_verdict}
use Rattle.removals_first.specs.Early.{early_batch, early_verdict, late_batch, spared_rules}
use Rattle.replay.specs.Effects.{Setting}
use Rattle.replay.specs.Run.{Progress}
use Rattle.replay.specs.Running.{Running, routes_of}

-- a batch is accepted
abbrev pub is_accepted : Verdict → Bool
is_accepted Accepted = true
is_accepted (Unsound fault) = false
is_accepted (OutOfBits field needed free) = false
is_accepted (OutOfSlots needed free) = false

-- what is pending can be taken: of what is asked for no request fails, and of a strict batch no command
abbrev pub is_sound : Verdict → Bool
is_sound Accepted = true
is_sound (Unsound fault) = false
is_sound (OutOfBits field needed free) = true
is_sound (OutOfSlots needed free) = true

-- A commit is made in two parts where the set takes what is pending, some of its removals may go first, something is left
-- behind these, the set takes these as a commit of their own, and the rest has room then: so the verdict of the whole, before
-- the first write, is that of its rest.
abbrev pub goes_in_two : ℕ → Mode → List Rule → List Change → Requested → Bool
goes_in_two slots mode rules pending asked =
    let batch = settled_batch rules pending asked in
    let early = spared_rules rules batch in
    is_sound (settled_verdict slots mode rules pending asked)
    && (not (length early == 0)
    && (not (length (late_batch early batch) == 0)
    && (is_accepted (verdict slots mode rules (early_batch early)) && is_accepted (early_verdict slots mode rules early batch))))

-- The verdict on a commit, where removals go first if they may: that of the whole, which its rest decides where it is made in
-- two, and else that of any commit.
abbrev pub commit_verdict : Setting → List Rule → List Change → Requested → Verdict
commit_verdict setting rules pending asked =
    elim (setting.parts && goes_in_two setting.slots setting.mode rules pending asked) [
      | true ↦ Accepted
      | false ↦ settled_verdict setting.slots setting.mode rules pending asked
    ]

-- the removals that go first,
abbrev pub first_part : List Rule → List Change → Requested → List Change
first_part rules pending asked =
    early_batch (spared_rules rules (settled_batch rules pending asked))

-- and what is left behind them
abbrev pub rest_part : List Rule → List Change → Requested → List Change
rest_part rules pending asked =
    let batch = settled_batch rules pending asked in
    late_batch (spared_rules rules batch) batch

-- what is parted, of a set of rules with right conditions and changes of such rules
pub record IsParted (slots : ℕ) (mode : Mode) (rules : List Rule) (pending : List Change) (asked : Requested) : Type 0 where
  pub is_set : IsRuleSet rules
  pub conditions : AllByRecursion HasConditions rules
  pub changes : AllByRecursion ChangesRules (settled_batch rules pending asked)
  pub in_two : goes_in_two slots mode rules pending asked ≡ true

-- The two parts of what is pending, or that it isn't parted.
abbrev pub AreParts : ℕ → Mode → List Rule → List Change → Requested → Option (List Change × List Change) → Type 0
AreParts slots mode rules pending asked None = goes_in_two slots mode rules pending asked ≡ false
AreParts slots mode rules pending asked (Some parts) =
    IsParted slots mode rules pending asked × (parts.0 ≡ first_part rules pending asked) × (parts.1 ≡ rest_part rules pending asked)

-- a run whose pending removals go first,
abbrev pub parted : Running → Running
parted run = record run { pending = first_part run.manager.rules run.pending run.asked; asked = Nothing; early = true }

-- and one whose rest is pending behind them
abbrev pub joined : List Change → Running → Running
joined rest run = record run { pending = rest; early = false }

-- What a run parts: nothing where removals aren't to go first or may not, and then it is as before.
abbrev pub Parts : Running → Option (List Change) → Running → Type 0
Parts old None new =
    (old.parts && goes_in_two old.manager.slots old.manager.mode old.manager.rules old.pending old.asked ≡ false) × (new ≡ old)
Parts old (Some rest) new =
    (old.parts ≡ true) × IsParted old.manager.slots old.manager.mode old.manager.rules old.pending old.asked
    × (rest ≡ rest_part old.manager.rules old.pending old.asked) × (new ≡ parted old)

-- The same of where a run stands: whether its commit is made in two parts, of right rules, where it stands at the first, and
-- at the second behind that.
abbrev pub parts_at : Setting → Progress → Bool
parts_at setting old = setting.parts && goes_in_two setting.slots setting.mode old.rules old.batch old.asked

abbrev pub IsPartedAt : Setting → Progress → Type 0
IsPartedAt setting old = (setting.parts ≡ true) × IsParted setting.slots setting.mode old.rules old.batch old.asked

abbrev pub at_first : Progress → Progress
at_first old = record old { batch = first_part old.rules old.batch old.asked; asked = Nothing; early = true }

abbrev pub at_rest : Progress → Progress → Progress
at_rest old middle = record middle { batch = rest_part old.rules old.batch old.asked; early = false }

-- the rest may join: in a script of routes it adds routes of its version
abbrev pub MayJoin : Running → List Change → Type 0
MayJoin run rest = (version : IpVersion) → run.family ≡ routes_of version → OnlyChangesRoutes version rest

-- The verdict before the first write is that of the whole: the set takes the first part, and the set behind it the rest; and
-- both lead where the whole batch would.
abbrev pub RestsAreTaken : Type 0
RestsAreTaken =
    (slots : ℕ) (mode : Mode) (rules : List Rule) (pending : List Change) (asked : Requested) → IsParted slots mode rules pending asked
    → (verdict slots mode rules (first_part rules pending asked) ≡ Accepted)
    × (verdict slots mode (set_after rules (first_part rules pending asked)) (rest_part rules pending asked) ≡ Accepted)
    × (set_after (set_after rules (first_part rules pending asked)) (rest_part rules pending asked) ≡ set_after rules (settled_batch rules pending asked))

-- To packets both are one commit: where each part is hitless so is the whole, from the old set to the new one.
abbrev pub TwoPartsAreOneCommit : Type 0
TwoPartsAreOneCommit =
    (slots : ℕ) (mode : Mode) (rules : List Rule) (pending : List Change) (asked : Requested) (state : State) (first second : List Write)
    → IsParted slots mode rules pending asked
    → IsHitless rules (set_after rules (first_part rules pending asked)) state first
    → IsHitless (set_after rules (first_part rules pending asked)) (set_after rules (settled_batch rules pending asked)) (state_after state first) second
    → IsHitless rules (set_after rules (settled_batch rules pending asked)) state (first ++ second)
