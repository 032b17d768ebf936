-- What a sound batch of changes does to the rules of a set.
use Rattle.std.proofs.Common.{◌≡◌, ℕ, List, [], ◌∷◌, cond, Some, None, unwrap_or, IsTrue, IsFalse, Contains, inl, inr, refl, sym, ap, subst, ◌∙◌}
use Rattle.std.specs.List.{list_any, AllByRecursion}
use Rattle.std.proofs.lemmas.Bool.{cond-false, or_left, or_right, or_parts, eq-eqb}
use Rattle.slot_order.proofs.Lists.{contains_cases, contains_none, AllByRecursion-member}
use Rattle.slot_pool.specs.Arrangement.{Slots}
use Rattle.placement.specs.declared.LivePiece.{LivePiece}
use Rattle.rule_model.specs.declared.Rule.{Rule}
use Rattle.rule_model.specs.Rule.{HasConditions}
use Rattle.rule_model.specs.RuleSet.{IsRuleSet}
use Rattle.rule_store.specs.declared.Mode.{Mode}
use Rattle.rule_store.specs.declared.Command.{Command}
use Rattle.rule_store.specs.declared.Command.TheVariants.{Add, Set, Del}
use Rattle.rule_store.specs.Batch.{ChangesRules, is_removal, batch_fault, commands_naming, removes, additions, result_after, with_result_after, set_after}
use Rattle.rule_store.proofs.After.{set_after-set}
use Rattle.rule_store.proofs.Members.{set_after-member}
use Rattle.tcam_device.specs.State.{State}
use Rattle.commit_writes.specs.Proposal.{proposal}
use Rattle.commit_writes.specs.declared.Rewrite.{Rewrite}
use Rattle.commit_writes.specs.Bits.{FieldBits}
use Rattle.commit_writes.specs.Planned.{IdEntries, Planned}
use Rattle.commit_writes.specs.PlannedBatch.{IsPlannedBatch}
use Rattle.commit_writes.specs.Shape.{names}
use Rattle.commit_writes.proofs.Filters.{all_members}

-- a set of rules with right conditions, and a sound batch of such changes
pub record IsSoundChange (rules : List Rule) (batch : List Command) : Type 0 where
  pub is_set : IsRuleSet rules
  pub right : AllByRecursion HasConditions rules
  pub changes : AllByRecursion ChangesRules batch
  pub sound : batch_fault rules batch ≡ None

pub change_of : (mode : Mode) (bits : FieldBits) (state : State) (rules : List Rule) (batch : List Command) (live : List LivePiece) (slots : Slots) (entries : IdEntries) (planned : List Planned) (rewrites : List Rewrite) (erased : List ℕ)
    → IsPlannedBatch (proposal mode bits rules batch) state live slots entries planned rewrites erased → IsSoundChange rules batch
change_of mode bits state rules batch live slots entries planned rewrites erased plan = record { is_set = plan.is_set; right = plan.right; changes = plan.changes; sound = plan.sound }

-- what is added has right conditions,
pub right_added : (batch : List Command) → AllByRecursion ChangesRules batch → AllByRecursion HasConditions (additions batch)
right_added [] changes = tt
right_added (Add rule ∷ batch) changes = (changes.0, right_added batch changes.1)
right_added (Set priority answer ∷ batch) changes = right_added batch changes.1
right_added (Del priority ∷ batch) changes = right_added batch changes.1

-- so all of the set after it do
pub right_after : (rules : List Rule) (batch : List Command) → IsSoundChange rules batch → AllByRecursion HasConditions (set_after rules batch)
right_after rules batch change = all_members HasConditions (set_after rules batch) (λ rule member. elim ((set_after-member rules batch rule).0 member) [
  | inl new ↦ AllByRecursion-member HasConditions (additions batch) rule (right_added batch change.changes) new
  | inr kept ↦ subst HasConditions (sym kept.3) (AllByRecursion-member HasConditions rules kept.0 change.right kept.1)
])

pub set_after-is : (rules : List Rule) (batch : List Command) → IsSoundChange rules batch → IsRuleSet (set_after rules batch)
set_after-is rules batch change = set_after-set rules batch change.is_set change.sound

unnamed : (batch : List Command) (rule : Rule) → IsFalse (names batch rule) → commands_naming rule.priority batch ≡ []
unnamed [] rule none = refl
unnamed (command ∷ batch) rule none = let parts = or_parts _ _ none in cond-false _ _ _ parts.0 ∙ unnamed batch rule parts.1

-- a rule that no command names stays,
pub unnamed_stays : (batch : List Command) (rule : Rule) → IsFalse (names batch rule) → IsFalse (removes rule.priority batch)
unnamed_stays batch rule none = ap (list_any is_removal) (unnamed batch rule none)

unnamed_result : (batch : List Command) (rule : Rule) (old : ℕ) → IsFalse (names batch rule) → result_after batch rule.priority old ≡ old
unnamed_result [] rule old none = refl
unnamed_result (Add new ∷ batch) rule old none = unnamed_result batch rule old (or_parts _ _ none).1
unnamed_result (Set changed answer ∷ batch) rule old none =
    let parts = or_parts _ _ none in
    ap (λ named. unwrap_or (cond named (Some answer) None) (result_after batch rule.priority old)) parts.0 ∙ unnamed_result batch rule old parts.1
unnamed_result (Del removed ∷ batch) rule old none = unnamed_result batch rule old (or_parts _ _ none).1

-- as it is
pub unnamed_same : (batch : List Command) (rule : Rule) → IsFalse (names batch rule) → with_result_after batch rule ≡ rule
unnamed_same batch rule none = ap (λ answer. record rule { result = answer }) (unnamed_result batch rule rule.result none)

-- what is added is named
pub added_named : (batch : List Command) (rule : Rule) → Contains (additions batch) rule → IsTrue (names batch rule)
added_named [] rule member = absurd (contains_none rule member)
added_named (Add new ∷ batch) rule member = elim (contains_cases new rule (additions batch) member) [
  | inl same ↦ or_left _ _ (eq-eqb _ _ (ap (λ (r : Rule). r.priority) same))
  | inr later ↦ or_right _ _ (added_named batch rule later)
]
added_named (Set changed answer ∷ batch) rule member = or_right _ _ (added_named batch rule member)
added_named (Del removed ∷ batch) rule member = or_right _ _ (added_named batch rule member)
