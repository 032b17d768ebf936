-- The members of the set after a batch, and what an addition of a sound batch replaces.
use Rattle.std.proofs.Common.{◌≡◌, ℕ, true, not, List, [], ◌∷◌, ◌++◌, map, filter, None, IsTrue, IsFalse, Contains, ◌⊎◌, ◌↔◌, inl, inr, refl, sym, ap, subst, ◌∙◌, ltb}
use Rattle.std.proofs.lemmas.Bool.{cond-true, cond_both, not-true, not_from_false, or_cases, or_left, eqb-true}
use Rattle.std.proofs.lemmas.List.{append_assoc}
use Rattle.slot_order.proofs.Lists.{contains_head, contains_tail, contains_cases, contains_none}
use Rattle.rule_model.specs.declared.Rule.{Rule}
use Rattle.rule_model.specs.RuleSet.{has_priority}
use Rattle.rule_store.specs.declared.Command.{Command}
use Rattle.rule_store.specs.declared.Command.TheVariants.{Add, Set, Del}
use Rattle.rule_store.specs.Batch.{removes, batch_fault_after, IsSound, additions, with_rule, with_result_after, set_after}
use Rattle.rule_store.specs.Applied.{kept_rules}
use Rattle.rule_store.proofs.After.{with_rules}
use Rattle.rule_store.proofs.Sound.{taken, sound-parts, removes-append, fresh-taken}
pub use Rattle.rule_store.specs.Batch.{IsKept}

-- a member of a list that begins with it
here : {X : Type 0} (first x : X) (rest : List X) → first ≡ x → Contains (first ∷ rest) x
here {X} first x rest same = subst (Contains (first ∷ rest)) same (contains_head first rest)

with_rule-to : (rules : List Rule) (new rule : Rule) → Contains (with_rule rules new) rule → (new ≡ rule) ⊎ Contains rules rule
with_rule-to [] new rule member = contains_cases new rule [] member
with_rule-to (first ∷ rules) new rule member =
    cond_both (ltb first.priority new.priority) (new ∷ first ∷ rules) (first ∷ with_rule rules new) (λ found. Contains found rule → (new ≡ rule) ⊎ Contains (first ∷ rules) rule)
    (λ lower is. contains_cases new rule (first ∷ rules) is)
    (λ higher is. elim (contains_cases first rule (with_rule rules new) is) [
      | inl same ↦ inr (here first rule rules same)
      | inr later ↦ elim (with_rule-to rules new rule later) [ inl one ↦ inl one | inr old ↦ inr (contains_tail first rule rules old) ]
    ])
    member

with_rule-from : (rules : List Rule) (new rule : Rule) → (new ≡ rule) ⊎ Contains rules rule → Contains (with_rule rules new) rule
with_rule-from [] new rule (inl is) = here new rule [] is
with_rule-from [] new rule (inr old) = absurd (contains_none rule old)
with_rule-from (first ∷ rules) new rule member =
    cond_both (ltb first.priority new.priority) (new ∷ first ∷ rules) (first ∷ with_rule rules new) (λ found. Contains found rule)
    (λ lower. elim member [ inl is ↦ here new rule (first ∷ rules) is | inr old ↦ contains_tail new rule (first ∷ rules) old ])
    (λ higher. elim member [
      | inl is ↦ contains_tail first rule (with_rule rules new) (with_rule-from rules new rule (inl is))
      | inr old ↦ elim (contains_cases first rule rules old) [
        | inl same ↦ here first rule (with_rule rules new) same
        | inr later ↦ contains_tail first rule (with_rule rules new) (with_rule-from rules new rule (inr later))
      ]
    ])

-- a member of a set with additions is an addition or one of the set
pub with_rules-to : (rules added : List Rule) (rule : Rule) → Contains (with_rules rules added) rule → Contains added rule ⊎ Contains rules rule
with_rules-to rules [] rule member = inr member
with_rules-to rules (new ∷ added) rule member =
    elim (with_rules-to (with_rule rules new) added rule member) [
      | inl later ↦ inl (contains_tail new rule added later)
      | inr before ↦ elim (with_rule-to rules new rule before) [ inl is ↦ inl (here new rule added is) | inr old ↦ inr old ]
    ]

pub with_rules-from : (rules added : List Rule) (rule : Rule) → Contains added rule ⊎ Contains rules rule → Contains (with_rules rules added) rule
with_rules-from rules [] rule (inl none) = absurd (contains_none rule none)
with_rules-from rules [] rule (inr old) = old
with_rules-from rules (new ∷ added) rule (inl member) =
    elim (contains_cases new rule added member) [
      | inl is ↦ with_rules-from (with_rule rules new) added rule (inr (with_rule-from rules new rule (inl is)))
      | inr later ↦ with_rules-from (with_rule rules new) added rule (inl later)
    ]
with_rules-from rules (new ∷ added) rule (inr old) = with_rules-from (with_rule rules new) added rule (inr (with_rule-from rules new rule (inr old)))

kept-to : (rules : List Rule) (batch : List Command) (rule : Rule) → Contains (kept_rules rules batch) rule → IsKept rules batch rule
kept-to [] batch rule member = absurd (contains_none rule member)
kept-to (first ∷ rules) batch rule member =
    cond_both (not (removes first.priority batch)) (first ∷ rest) rest (λ left. Contains (map (with_result_after batch) left) rule → IsKept (first ∷ rules) batch rule)
    (λ stays is. elim (contains_cases (with_result_after batch first) rule (kept_rules rules batch) is) [
      | inl same ↦ (first, contains_head first rules, not-true _ stays, sym same)
      | inr later ↦ one-later (kept-to rules batch rule later)
    ])
    (λ goes is. one-later (kept-to rules batch rule is))
    member
  where
    rest : List Rule
    rest = filter (λ other. not (removes other.priority batch)) rules

    one-later : IsKept rules batch rule → IsKept (first ∷ rules) batch rule
    one-later (old, member, stays, is) = (old, contains_tail first old rules member, stays, is)

kept-from : (rules : List Rule) (batch : List Command) (old : Rule) → Contains rules old → IsFalse (removes old.priority batch) → Contains (kept_rules rules batch) (with_result_after batch old)
kept-from [] batch old member stays = absurd (contains_none old member)
kept-from (first ∷ rules) batch old member stays =
    elim (contains_cases first old rules member) [
      | inl same ↦
          let passes : not (removes first.priority batch) ≡ true = rw same (not_from_false _ stays) in
          subst (λ left. Contains (map (with_result_after batch) left) (with_result_after batch old)) (sym (cond-true _ _ _ passes)) (here _ _ (kept_rules rules batch) (ap (with_result_after batch) same))
      | inr later ↦
          cond_both (not (removes first.priority batch)) (first ∷ rest) rest (λ left. Contains (map (with_result_after batch) left) (with_result_after batch old))
          (λ passes. contains_tail (with_result_after batch first) (with_result_after batch old) (kept_rules rules batch) (kept-from rules batch old later stays))
          (λ fails. kept-from rules batch old later stays)
    ]
  where
    rest : List Rule
    rest = filter (λ other. not (removes other.priority batch)) rules

-- a member of the set after a batch is an addition, or an old rule that isn't removed, with its result after the batch
pub set_after-member : (rules : List Rule) (batch : List Command) (rule : Rule) → Contains (set_after rules batch) rule ↔ (Contains (additions batch) rule ⊎ IsKept rules batch rule)
set_after-member rules batch rule = (
  λ member. elim (with_rules-to (kept_rules rules batch) (additions batch) rule member) [ inl new ↦ inl new | inr kept ↦ inr (kept-to rules batch rule kept) ],
  λ is. with_rules-from (kept_rules rules batch) (additions batch) rule (from is),
)
  where
    from : Contains (additions batch) rule ⊎ IsKept rules batch rule → Contains (additions batch) rule ⊎ Contains (kept_rules rules batch) rule
    from (inl new) = inl new
    from (inr (old, member, stays, is)) = inr (subst (Contains (kept_rules rules batch)) (sym is) (kept-from rules batch old member stays))

-- a priority is absent from a set, or a batch removes it
abbrev pub IsGone : List Rule → List Command → ℕ → Type 0
IsGone rules batch priority = IsFalse (has_priority rules priority) ⊎ IsTrue (removes priority batch)

additions-gone : (rules : List Rule) (batch earlier later : List Command) → batch ≡ earlier ++ later → batch_fault_after rules earlier later ≡ None → (priority : ℕ) → IsTrue (has_priority (additions later) priority) → IsGone rules batch priority
additions-gone rules batch earlier [] whole none priority has = absurd (cc)
additions-gone rules batch earlier (Add rule ∷ later) whole none priority has =
    let parts = sound-parts rules earlier (Add rule) later none in
    elim (or_cases _ _ has) [
      | inl same ↦
          let fresh = fresh-taken rules earlier rule (taken rules earlier (Add rule) parts.0) in
          let is = eqb-true rule.priority priority same in
          elim fresh.absent [
            | inl absent ↦ inl (rw (← is) absent)
            | inr removed ↦ inr (ap (removes priority) whole ∙ removes-append priority earlier (Add rule ∷ later) ∙ or_left (removes priority earlier) _ (rw (← is) removed))
          ]
      | inr more ↦ additions-gone rules batch (earlier ++ Add rule ∷ []) later (whole ∙ sym (append_assoc earlier (Add rule ∷ []) later)) parts.1 priority more
    ]
additions-gone rules batch earlier (Set changed answer ∷ later) whole none priority has =
    additions-gone rules batch (earlier ++ Set changed answer ∷ []) later (whole ∙ sym (append_assoc earlier (Set changed answer ∷ []) later)) (sound-parts rules earlier (Set changed answer) later none).1 priority has
additions-gone rules batch earlier (Del removed ∷ later) whole none priority has =
    additions-gone rules batch (earlier ++ Del removed ∷ []) later (whole ∙ sym (append_assoc earlier (Del removed ∷ []) later)) (sound-parts rules earlier (Del removed) later none).1 priority has

-- what a sound batch adds is absent or removed
pub sound-gone : (rules : List Rule) (batch : List Command) (priority : ℕ) → IsSound rules batch → IsTrue (has_priority (additions batch) priority) → IsGone rules batch priority
sound-gone rules batch priority sound has = additions-gone rules batch [] batch refl sound priority has
