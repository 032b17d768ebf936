-- Each rule takes an entry, so a set takes at least as many as it has rules.
use Rattle.std.proofs.Common.{◌≡◌, ℕ, ◌+◌, ◌*◌, ◌≤◌, suc, true, List, [], ◌∷◌, length, ◌∙◌, arith}
use Rattle.std.specs.List.{AllByRecursion, list_any}
use Rattle.std.proofs.Math.Nat.{mul-le-mul_left}
use Rattle.std.proofs.lemmas.List.Sums.{sum_by-cons}
use Rattle.rule_model.specs.declared.Rule.{Rule}
use Rattle.rule_model.specs.PortRange.{PortRange, IsPortRange, cover, cover_size, range_holds}
use Rattle.rule_model.specs.Rule.{HasConditions}
use Rattle.rule_model.proofs.Covers.{cover-holds, held_from}
use Rattle.rule_store.specs.declared.Mode.{Mode}
use Rattle.rule_store.specs.declared.Mode.TheVariants.{Cover, Bits}
use Rattle.rule_store.specs.Verdict.{entries_needed, entries_of}

-- a cover has a block
cover_some : (range : PortRange) → IsPortRange range → 1 ≤ cover_size range
cover_some range right = go (cover range) (cover-holds range range.lo right (omega arith) ∙ held_from range range.lo (omega arith) right.ordered)
  where
    go : (blocks : List PortRange) → list_any (λ block. range_holds block range.lo) blocks ≡ true → 1 ≤ length blocks
    go [] held = absurd (cc)
    go (block ∷ blocks) held = omega arith

-- the product of numbers above 0 is above 0
product_some : (a b : ℕ) → 1 ≤ a → 1 ≤ b → 1 ≤ a * b
product_some a b first second = let grown = mul-le-mul_left a second in omega arith

rule_entry : (mode : Mode) (rule : Rule) → HasConditions rule → 1 ≤ entries_needed mode rule
rule_entry Bits rule right = omega arith
rule_entry Cover rule right = product_some (cover_size rule.sport) (cover_size rule.dport) (cover_some rule.sport right.sport_right) (cover_some rule.dport right.dport_right)

pub rules_entries : (mode : Mode) (rules : List Rule) → AllByRecursion HasConditions rules → length rules ≤ entries_of mode rules
rules_entries mode [] right = omega arith
rules_entries mode (rule ∷ rules) right =
    one_more _ _ _ _ (rule_entry mode rule right.0) (rules_entries mode rules right.1) (sum_by-cons (entries_needed mode) rule rules)
  where
    one_more : (first rest all number : ℕ) → 1 ≤ first → number ≤ rest → all ≡ first + rest → suc number ≤ all
    one_more first rest all number least fewer sum = omega arith
