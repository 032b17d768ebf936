-- Rule sets by place: what a place says of a rule, and what an insertion, a change and a removal at a place leave.
use Rattle.std.proofs.Common.{◌≡◌, ◌≢◌, ℕ, zero, suc, ◌+◌, ◌<◌, ◌≤◌, not, List, [], ◌∷◌, length, get_or, set, Some, None, IsTrue, IsFalse, refl, ap, ap₂, ◌∙◌, inl, inr, le_refl, arith, ltb}
use Rattle.std.specs.List.{AllByRecursion, insert, remove}
use Rattle.std.proofs.lemmas.Bool.{cases_lt, cases_order, cases_Bool, cond-true, cond-false, ltb-true, le-ltb, lt-ltb, eq-eqb, ne_eqb, eqb-true, eqb-false, or_parts, or_cases, or_from}
use Rattle.std.proofs.lemmas.List.{get_or_default}
use Rattle.rule_model.specs.declared.Rule.{Rule}
use Rattle.rule_model.specs.RuleSet.{IsRuleSet, has_priority, rule_at}
use Rattle.rule_store.specs.Batch.{with_rule}
use Rattle.rule_store.specs.Store.{no_rule, IsPlace, with_answer, without_rule}

all-at : (bound : ℕ) (rules : List Rule) → AllByRecursion (λ lower. IsTrue (ltb lower.priority bound)) rules → (place : ℕ) (none : Rule) → place < length rules → (get_or rules place none).priority < bound
all-at bound [] all place none within = absurd (omega arith)
all-at bound (rule ∷ rules) all zero none within = ltb-true _ _ all.0
all-at bound (rule ∷ rules) all (suc place) none within = all-at bound rules all.1 place none (omega arith)

-- a later place has a lower priority
pub falls-at : (rules : List Rule) → IsRuleSet rules → (first second : ℕ) (none : Rule) → first < second → second < length rules → (get_or rules second none).priority < (get_or rules first none).priority
falls-at [] falling first second none before within = absurd (omega arith)
falls-at (rule ∷ rules) falling zero zero none before within = absurd (omega arith)
falls-at (rule ∷ rules) falling zero (suc second) none before within = all-at rule.priority rules falling.0 second none (omega arith)
falls-at (rule ∷ rules) falling (suc first) zero none before within = absurd (omega arith)
falls-at (rule ∷ rules) falling (suc first) (suc second) none before within = falls-at rules falling.1 first second none (omega arith) (omega arith)

-- a priority below that of a place is below those before it
pub above-middle : (rules : List Rule) (priority middle : ℕ) (rule : Rule) → IsRuleSet rules → middle < length rules → get_or rules middle rule ≡ rule → priority < rule.priority → (k : ℕ) (none : Rule) → k < middle + 1 → priority < (get_or rules k none).priority
above-middle rules priority middle rule falling within is least k none to =
    let read : get_or rules middle none ≡ rule = get_or_default rules middle none rule within ∙ is in
    elim (cases_lt k middle) [
      | inl before ↦ let falls : (get_or rules middle none).priority < (get_or rules k none).priority = falls-at rules falling k middle none before within in omega (arith, rw read at falls)
      | inr from ↦ let same : k ≡ middle = omega arith in rw (same, read) least
    ]

-- a priority that isn't below that of a place isn't below those behind it
pub below-middle : (rules : List Rule) (priority middle : ℕ) (rule : Rule) → IsRuleSet rules → middle < length rules → get_or rules middle rule ≡ rule → rule.priority ≤ priority → (k : ℕ) (none : Rule) → middle ≤ k → k < length rules → (get_or rules k none).priority ≤ priority
below-middle rules priority middle rule falling within is least k none from to =
    let read : get_or rules middle none ≡ rule = get_or_default rules middle none rule within ∙ is in
    elim (cases_lt middle k) [
      | inl after ↦ let falls : (get_or rules k none).priority < (get_or rules middle none).priority = falls-at rules falling middle k none after to in omega (arith, rw read at falls)
      | inr within' ↦ let same : k ≡ middle = omega arith in rw (same, read) least
    ]

-- the one rule of a priority stands at this place
pub record IsAt (rules : List Rule) (priority place : ℕ) : Type 0 where
  pub within : place < length rules
  pub is : (none : Rule) → (get_or rules place none).priority ≡ priority
  pub others : (k : ℕ) (none : Rule) → k < length rules → k ≢ place → (get_or rules k none).priority ≢ priority

-- a rule of a priority that the set has stands at some place
present-at : (rules : List Rule) (priority : ℕ) → IsTrue (has_priority rules priority) → (place : ℕ) × (place < length rules) × ((none : Rule) → (get_or rules place none).priority ≡ priority)
present-at [] priority present = absurd (cc)
present-at (rule ∷ rules) priority present =
    elim (or_cases _ _ present) [
      | inl here ↦ (0, omega arith, λ none. eqb-true _ _ here)
      | inr later ↦ let found = present-at rules priority later in (suc found.0, omega (arith, found.1), found.2)
    ]

-- no rule has a priority that none has by place
absent-all : (rules : List Rule) (priority : ℕ) → ((k : ℕ) (none : Rule) → k < length rules → (get_or rules k none).priority ≢ priority) → IsFalse (has_priority rules priority)
absent-all [] priority none-has = refl
absent-all (rule ∷ rules) priority none-has =
    or_from _ _ (ne_eqb _ _ (none-has 0 rule (omega arith))) (absent-all rules priority (λ k none within. none-has (suc k) none (omega arith)))

-- a rule of a priority is the only one
pub IsAt-only : (rules : List Rule) (priority place : ℕ) → IsRuleSet rules → place < length rules → ((none : Rule) → (get_or rules place none).priority ≡ priority) → IsAt rules priority place
IsAt-only rules priority place falling within is =
    record {
      within = within;
      is = is;
      others = λ k none to differs same.
          let here = is none in
          elim (cases_lt k place) [
            | inl before ↦ let falls = falls-at rules falling k place none before within in omega arith
            | inr from ↦ let after : place < k = omega arith in let falls = falls-at rules falling place k none after to in omega arith
          ];
    }

-- where a priority is present, the first rule that isn't above it has it
pub IsAt-present : (rules : List Rule) (priority place : ℕ) → IsRuleSet rules → IsPlace rules priority place → IsTrue (has_priority rules priority) → IsAt rules priority place
IsAt-present rules priority place falling place-is present = at (present-at rules priority present)
  where
    at : (place' : ℕ) × (place' < length rules) × ((none : Rule) → (get_or rules place' none).priority ≡ priority) → IsAt rules priority place
    at (k, within, is) =
        elim (cases_order k place) [
          | inl same ↦ IsAt-only rules priority place falling (rw (← same) within) (rw (← same) is)
          | inr (inl before) ↦ let same = is no_rule in let above = place-is.above k no_rule before in absurd (omega arith)
          | inr (inr after) ↦ let same = is no_rule in let falls = falls-at rules falling place k no_rule after within in let below = place-is.below place no_rule (le_refl place) (omega arith) in absurd (omega arith)
        ]

-- a rule that was read at its place is the only one of its priority
pub IsAt-read : (rules : List Rule) (priority place : ℕ) (rule : Rule) → IsRuleSet rules → place < length rules → get_or rules place rule ≡ rule → rule.priority ≡ priority → IsAt rules priority place
IsAt-read rules priority place rule falling within read same =
    IsAt-only rules priority place falling within (λ none. ap (λ (r : Rule). r.priority) (get_or_default rules place none rule within ∙ read) ∙ same)

-- a priority that the first rule that isn't above it doesn't have is absent
pub absent-at : (rules : List Rule) (priority place : ℕ) → IsRuleSet rules → IsPlace rules priority place → ((none : Rule) → place < length rules → (get_or rules place none).priority ≢ priority) → IsFalse (has_priority rules priority)
absent-at rules priority place falling place-is differs = absent-all rules priority not-here
  where
    not-here : (k : ℕ) (none : Rule) → k < length rules → (get_or rules k none).priority ≢ priority
    not-here k none within same =
        elim (cases_order k place) [
          | inl here ↦ differs none (omega arith) (rw (← here) same)
          | inr (inl before) ↦ let above = place-is.above k none before in omega arith
          | inr (inr after) ↦ let falls = falls-at rules falling place k none after within in let below = place-is.below place none (le_refl place) (omega arith) in omega arith
        ]

pub IsAt-tail : (rule : Rule) (rules : List Rule) (priority place : ℕ) → IsAt (rule ∷ rules) priority (suc place) → IsAt rules priority place
IsAt-tail rule rules priority place at =
    record {
      within = omega (arith, at.within);
      is = at.is;
      others = λ k none within differs. at.others (suc k) none (omega arith) (λ e. differs (omega arith));
    }

pub IsPlace-tail : (rule : Rule) (rules : List Rule) (priority place : ℕ) → IsPlace (rule ∷ rules) priority (suc place) → IsPlace rules priority place
IsPlace-tail rule rules priority place is =
    record {
      within = omega (arith, is.within);
      above = λ k none below. is.above (suc k) none (omega arith);
      below = λ k none from within. is.below (suc k) none (omega arith) (omega arith);
    }

with_answer-none : (rules : List Rule) (priority answer : ℕ) → ((k : ℕ) (none : Rule) → k < length rules → (get_or rules k none).priority ≢ priority) → with_answer rules priority answer ≡ rules
with_answer-none [] priority answer none-has = refl
with_answer-none (rule ∷ rules) priority answer none-has =
    ap₂ (λ (first : Rule) (rest : List Rule). first ∷ rest) (cond-false _ _ _ (ne_eqb _ _ (none-has 0 rule (omega arith))))
    (with_answer-none rules priority answer (λ k none within. none-has (suc k) none (omega arith)))

without_rule-none : (rules : List Rule) (priority : ℕ) → ((k : ℕ) (none : Rule) → k < length rules → (get_or rules k none).priority ≢ priority) → without_rule rules priority ≡ rules
without_rule-none [] priority none-has = refl
without_rule-none (rule ∷ rules) priority none-has =
    cond-true _ _ _ (ap not (ne_eqb _ _ (none-has 0 rule (omega arith))))
    ∙ ap (λ rest. rule ∷ rest) (without_rule-none rules priority (λ k none within. none-has (suc k) none (omega arith)))

-- at its place the rule of a priority is found
pub rule_at-found : (rules : List Rule) (priority place : ℕ) (none : Rule) → IsAt rules priority place → rule_at rules priority ≡ Some (get_or rules place none)
rule_at-found [] priority place none at = absurd (let no : place < 0 = at.within in omega arith)
rule_at-found (rule ∷ rules) priority zero none at = cond-true _ _ _ (eq-eqb _ _ (at.is none))
rule_at-found (rule ∷ rules) priority (suc place) none at =
    cond-false _ _ _ (ne_eqb _ _ (at.others 0 none (omega arith) (λ e. absurd (omega arith))))
    ∙ rule_at-found rules priority place none (IsAt-tail rule rules priority place at)

-- no rule is found at an absent priority
pub rule_at-none : (rules : List Rule) (priority : ℕ) → IsFalse (has_priority rules priority) → rule_at rules priority ≡ None
rule_at-none [] priority absent = refl
rule_at-none (rule ∷ rules) priority absent =
    let parts = or_parts _ _ absent in cond-false _ _ _ parts.0 ∙ rule_at-none rules priority parts.1

-- a rule that is found is present
pub has_priority-found : (rules : List Rule) (priority : ℕ) (rule : Rule) → rule_at rules priority ≡ Some rule → IsTrue (has_priority rules priority)
has_priority-found rules priority rule found =
    elim (cases_Bool (has_priority rules priority)) [
      | inl present ↦ present
      | inr absent ↦ let none = rule_at-none rules priority absent in absurd (cc)
    ]

-- a rule that comes in stands before those that aren't above it
pub with_rule-at : (rules : List Rule) (new : Rule) (place : ℕ) → IsPlace rules new.priority place → IsFalse (has_priority rules new.priority) → with_rule rules new ≡ insert rules place new
with_rule-at [] new zero is absent = refl
with_rule-at [] new (suc place) is absent = absurd (let no : suc place ≤ 0 = is.within in omega arith)
with_rule-at (rule ∷ rules) new zero is absent =
    let least = is.below 0 rule (omega arith) (omega arith) in
    let differs = eqb-false rule.priority new.priority (or_parts _ _ absent).0 in
    let lower : rule.priority < new.priority = omega (arith, differs) in
    cond-true _ _ _ (lt-ltb _ _ lower)
with_rule-at (rule ∷ rules) new (suc place) is absent =
    let above = is.above 0 rule (omega arith) in
    let higher : new.priority ≤ rule.priority = omega arith in
    cond-false _ _ _ (le-ltb _ _ higher)
    ∙ ap (λ rest. rule ∷ rest) (with_rule-at rules new place (IsPlace-tail rule rules new.priority place is) (or_parts _ _ absent).1)

-- a result that changes does so at the place of its rule
pub with_answer-at : (rules : List Rule) (priority answer place : ℕ) (none : Rule) → IsAt rules priority place → with_answer rules priority answer ≡ set rules place (record (get_or rules place none) { result = answer })
with_answer-at [] priority answer place none at = refl
with_answer-at (rule ∷ rules) priority answer zero none at =
    ap₂ (λ (first : Rule) (rest : List Rule). first ∷ rest) (cond-true _ _ _ (eq-eqb _ _ (at.is none)))
    (with_answer-none rules priority answer (λ k none within. at.others (suc k) none (omega arith) (λ e. absurd (omega arith))))
with_answer-at (rule ∷ rules) priority answer (suc place) none at =
    ap₂ (λ (first : Rule) (rest : List Rule). first ∷ rest) (cond-false _ _ _ (ne_eqb _ _ (at.others 0 none (omega arith) (λ e. absurd (omega arith)))))
    (with_answer-at rules priority answer place none (IsAt-tail rule rules priority place at))

-- a rule that goes leaves its place
pub without_rule-at : (rules : List Rule) (priority place : ℕ) → IsAt rules priority place → without_rule rules priority ≡ remove rules place
without_rule-at [] priority place at = absurd (let no : place < 0 = at.within in omega arith)
without_rule-at (rule ∷ rules) priority zero at =
    cond-false _ _ _ (ap not (eq-eqb _ _ (at.is rule)))
    ∙ without_rule-none rules priority (λ k none within. at.others (suc k) none (omega arith) (λ e. absurd (omega arith)))
without_rule-at (rule ∷ rules) priority (suc place) at =
    cond-true _ _ _ (ap not (ne_eqb _ _ (at.others 0 rule (omega arith) (λ e. absurd (omega arith)))))
    ∙ ap (λ rest. rule ∷ rest) (without_rule-at rules priority place (IsAt-tail rule rules priority place at))
