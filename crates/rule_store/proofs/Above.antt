-- The rules above a priority, and how many entries they take.
use Rattle.std.proofs.Common.{◌≡◌, ℕ, zero, suc, ◌<◌, ◌≤◌, ◌*◌, List, [], ◌∷◌, length, map, take, sum, get_or, mul-le-mul, refl, sym, ap, ◌∙◌, arith}
use Rattle.std.proofs.lemmas.Bool.{lt-ltb, le-ltb, cond-true, cond-false}
use Rattle.std.proofs.lemmas.List.{take-map, length-take-le}
use Rattle.std.proofs.lemmas.List.Sums.{sum_by-cons, sum_by-le, sum_by-take-le, sum-map}
use Rattle.rule_model.specs.declared.Rule.{Rule}
use Rattle.rule_model.proofs.CoverSize.{cover-size}
use Rattle.rule_store.specs.declared.Mode.{Mode}
use Rattle.rule_store.specs.declared.Mode.TheVariants.{Cover, Bits}
use Rattle.rule_store.specs.Store.{IsPlace, rules_above}
use Rattle.rule_store.specs.Verdict.{entries_needed, entries_of}

-- those before a place, where each of them is above the priority and none from the place on is
take-above : (rules : List Rule) (priority place : ℕ) → place ≤ length rules → ((k : ℕ) (none : Rule) → k < place → priority < (get_or rules k none).priority)
    → ((k : ℕ) (none : Rule) → place ≤ k → k < length rules → (get_or rules k none).priority ≤ priority) → rules_above rules priority ≡ take place rules
take-above [] priority zero inside above below = refl
take-above [] priority (suc place) inside above below = refl
take-above (rule ∷ rules) priority zero inside above below =
    cond-false _ _ _ (le-ltb priority rule.priority (below 0 rule (omega arith) (omega arith)))
    ∙ take-above rules priority zero (omega arith) (λ k none less. absurd (omega arith)) (λ k none from less. below (suc k) none (omega arith) (omega arith))
take-above (rule ∷ rules) priority (suc place) inside above below =
    cond-true _ _ _ (lt-ltb priority rule.priority (above 0 rule (omega arith)))
    ∙ ap (λ rest. rule ∷ rest) (take-above rules priority place (omega arith) (λ k none less. above (suc k) none (omega arith)) (λ k none from less. below (suc k) none (omega arith) (omega arith)))

pub rules_above-take : (rules : List Rule) (priority place : ℕ) → IsPlace rules priority place → rules_above rules priority ≡ take place rules
rules_above-take rules priority place is = take-above rules priority place is.within is.above is.below

-- with bits each rule takes one entry
one-each : (rules : List Rule) → entries_of Bits rules ≡ length rules
one-each [] = refl
one-each (rule ∷ rules) = let more = sum_by-cons (entries_needed Bits) rule rules in let rest = one-each rules in omega arith

pub entries_above-bits : (rules : List Rule) (priority place : ℕ) → IsPlace rules priority place → entries_of Bits (rules_above rules priority) ≡ place
entries_above-bits rules priority place is =
    ap (entries_of Bits) (rules_above-take rules priority place is) ∙ one-each (take place rules) ∙ length-take-le place rules is.within

-- with covers their numbers stand before its place
pub entries_above-cover : (rules : List Rule) (priority place : ℕ) (sizes : List ℕ) → IsPlace rules priority place → sizes ≡ map (entries_needed Cover) rules
    → entries_of Cover (rules_above rules priority) ≡ sum (take place sizes)
entries_above-cover rules priority place sizes is same =
    ap (entries_of Cover) (rules_above-take rules priority place is)
    ∙ sym (ap (λ (s : List ℕ). sum (take place s)) same ∙ ap sum (take-map (entries_needed Cover) place rules) ∙ sum-map (entries_needed Cover) (take place rules))

-- they are at most those of all
pub entries_above-most : (mode : Mode) (rules : List Rule) (priority place : ℕ) → IsPlace rules priority place → entries_of mode (rules_above rules priority) ≤ entries_of mode rules
entries_above-most mode rules priority place is =
    rw (rules_above-take rules priority place is) (sum_by-take-le (entries_needed mode) rules place)

-- how many entries rules take, by their numbers and at most
pub entries-bits : (rules : List Rule) → entries_of Bits rules ≡ length rules
entries-bits rules = one-each rules

pub entries-cover : (rules : List Rule) (sizes : List ℕ) → sizes ≡ map (entries_needed Cover) rules → entries_of Cover rules ≡ sum sizes
entries-cover rules sizes same = sym (ap sum same ∙ sum-map (entries_needed Cover) rules)

needed-most : (mode : Mode) (rule : Rule) → entries_needed mode rule ≤ 900
needed-most Bits rule = omega arith
needed-most Cover rule = mul-le-mul (cover-size rule.sport) (cover-size rule.dport)

pub entries-most : (mode : Mode) (rules : List Rule) → entries_of mode rules ≤ 900 * length rules
entries-most mode rules =
    let most = sum_by-le (entries_needed mode) 900 rules (λ k none inside. needed-most mode (get_or rules k none)) in omega arith
