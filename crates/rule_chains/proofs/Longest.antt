-- The greatest length that is told from the lowest rule up is that of a longest chain.
use Rattle.std.proofs.Common.{◌≡◌, ℕ, ◌+◌, ◌<◌, ◌≤◌, max, Bool, true, false, List, [], ◌∷◌, length, Contains, IsTrue, inl, inr, refl, sym, ap, subst, ◌∙◌, arith, nat_lt, ltb-true, ltb-false}
use Rattle.std.specs.List.{AllByRecursion}
use Rattle.std.proofs.lemmas.Bool.{cases_Bool, cond_both}
use Rattle.slot_order.proofs.Lists.{contains_head, contains_tail, contains_cases, contains_none, AllByRecursion-member}
use Rattle.rule_model.specs.declared.Rule.{Rule}
use Rattle.rule_model.specs.Rule.{Overlap, HasConditions, rules_meet}
use Rattle.rule_model.specs.Piece.{whole_piece}
use Rattle.rule_model.specs.RuleSet.{IsRuleSet, IsOverlapChain, BoundsChains}
use Rattle.rule_model.proofs.CommonKeys.{pieces_meet-is}
use Rattle.rule_chains.specs.Chains.{IsLongestChain}
use Rattle.rule_chains.specs.Lengths.{longest_where}

-- rules overlap exactly where they meet
meets : (a b : Rule) → HasConditions a → HasConditions b → Overlap a b → rules_meet a b ≡ true
meets a b right_a right_b overlap = (pieces_meet-is (whole_piece a) (whole_piece b) right_a right_b).1 overlap

overlap_of : (a b : Rule) → HasConditions a → HasConditions b → rules_meet a b ≡ true → Overlap a b
overlap_of a b right_a right_b meet = (pieces_meet-is (whole_piece a) (whole_piece b) right_a right_b).0 meet

-- in a set the rules behind the first are lower,
lower_one : (top : Rule) (lower : List Rule) (rule : Rule) → IsRuleSet (top ∷ lower) → Contains lower rule → rule.priority < top.priority
lower_one top lower rule set member =
    ltb-true rule.priority top.priority (AllByRecursion-member (λ (one : Rule). IsTrue (nat_lt one.priority top.priority)) lower rule set.0 member)

-- and in a chain too
chain_falls : (first : Rule) (rest : List Rule) (later : Rule) → IsOverlapChain (first ∷ rest) → Contains rest later → later.priority < first.priority
chain_falls first [] later chain member = absurd (contains_none later member)
chain_falls first (next ∷ rest) later chain member =
    let near : next.priority < first.priority = chain.1 in
    elim (contains_cases next later rest member) [
      | inl here ↦ subst (λ (r : Rule). r.priority < first.priority) here near
      | inr there ↦ let far = chain_falls next rest later chain.2 there in omega arith
    ]

-- members that are lower than the first rule are among the others
among : (top : Rule) (lower chain : List Rule) → ((rule : Rule) → Contains chain rule → Contains (top ∷ lower) rule) → ((rule : Rule) → Contains chain rule → rule.priority < top.priority)
    → (rule : Rule) → Contains chain rule → Contains lower rule
among top lower chain members less rule member = elim (contains_cases top rule lower (members rule member)) [
  | inl here ↦ absurd (let same = ap (λ (r : Rule). r.priority) here in let below = less rule member in omega arith)
  | inr there ↦ there
]

-- so are all of a chain whose first rule is one of the others
all_lower : (top : Rule) (lower : List Rule) (first : Rule) (rest : List Rule) → IsRuleSet (top ∷ lower) → Contains lower first → IsOverlapChain (first ∷ rest)
    → ((rule : Rule) → Contains (first ∷ rest) rule → Contains (top ∷ lower) rule) → (rule : Rule) → Contains (first ∷ rest) rule → Contains lower rule
all_lower top lower first rest set inside chain members = among top lower (first ∷ rest) members less
  where
    below : first.priority < top.priority
    below = lower_one top lower first set inside

    less : (rule : Rule) → Contains (first ∷ rest) rule → rule.priority < top.priority
    less rule member = elim (contains_cases first rule rest member) [
      | inl here ↦ subst (λ (r : Rule). r.priority < top.priority) here below
      | inr there ↦ let further = chain_falls first rest rule chain there in let near = below in omega arith
    ]

-- what one rule more does
module _ (begins : Rule → Bool) (top : Rule) (lower : List Rule) where
  no_less : longest_where begins lower ≤ longest_where begins (top ∷ lower)
  no_less =
      cond_both (begins top) (max (1 + longest_where (rules_meet top) lower) (longest_where begins lower)) (longest_where begins lower) (λ n. longest_where begins lower ≤ n)
      (λ passes. omega arith) (λ fails. omega arith)

  with_first : begins top ≡ true → 1 + longest_where (rules_meet top) lower ≤ longest_where begins (top ∷ lower)
  with_first is =
      cond_both (begins top) (max (1 + longest_where (rules_meet top) lower) (longest_where begins lower)) (longest_where begins lower) (λ n. 1 + longest_where (rules_meet top) lower ≤ n)
      (λ passes. omega arith) (λ fails. absurd (let wrong : true ≡ false = sym is ∙ fails in cc))

-- no chain of the rules of a set that begins with one which passes is longer
bounded : (begins : Rule → Bool) (rules : List Rule) → IsRuleSet rules → AllByRecursion HasConditions rules → (first : Rule) (rest : List Rule)
    → ((rule : Rule) → Contains (first ∷ rest) rule → Contains rules rule) → IsOverlapChain (first ∷ rest) → begins first ≡ true
    → length (first ∷ rest) ≤ longest_where begins rules
bounded begins [] set right first rest members chain passes = absurd (contains_none first (members first (contains_head first rest)))
bounded begins (top ∷ lower) set right first [] members chain passes =
    let whole = no_less begins top lower in
    elim (contains_cases top first lower (members first (contains_head first []))) [
      | inl here ↦ let most = with_first begins top lower (ap begins here ∙ passes) in omega arith
      | inr there ↦
          let most = bounded begins lower set.1 right.1 first [] (all_lower top lower first [] set there chain members) chain passes in
          omega arith
    ]
bounded begins (top ∷ lower) set right first (next ∷ more) members chain passes =
    let whole = no_less begins top lower in
    elim (contains_cases top first lower (members first (contains_head first (next ∷ more)))) [
      | inl here ↦
          let inside = among top lower (next ∷ more) (λ rule member. members rule (contains_tail first rule (next ∷ more) member))
          (λ rule member. subst (λ (r : Rule). rule.priority < r.priority) (sym here) (chain_falls first (next ∷ more) rule chain member)) in
          let met : rules_meet top next ≡ true = meets top next right.0 (AllByRecursion-member HasConditions lower next right.1 (inside next (contains_head next more)))
          (subst (λ (r : Rule). Overlap r next) (sym here) chain.0) in
          let most = bounded (rules_meet top) lower set.1 right.1 next more inside chain.2 met in
          let one = with_first begins top lower (ap begins here ∙ passes) in
          omega arith
      | inr there ↦
          let most = bounded begins lower set.1 right.1 first (next ∷ more) (all_lower top lower first (next ∷ more) set there chain members) chain passes in
          omega arith
    ]

-- a chain is empty, or begins with a rule that passes
abbrev BeginsWith : (Rule → Bool) → List Rule → Type 0
BeginsWith begins [] = Unit {0}
BeginsWith begins (first ∷ rest) = begins first ≡ true

-- a chain of the rules that is so long
record Reaches (begins : Rule → Bool) (rules : List Rule) (longest : ℕ) : Type 0 where
  chain : List Rule
  members : (rule : Rule) → Contains chain rule → Contains rules rule
  is_chain : IsOverlapChain chain
  as_long : length chain ≡ longest
  begun : BeginsWith begins chain

one_of_two : (P : ℕ → Type 0) (a b : ℕ) → P a → P b → P (max a b)
one_of_two P a b at_a at_b = elim (cases_Bool (nat_lt a b)) [
  | inl less ↦ let more = ltb-true a b less in let is : b ≡ max a b = omega arith in subst P is at_b
  | inr not_less ↦ let more = ltb-false a b not_less in let is : a ≡ max a b = omega arith in subst P is at_a
]

-- a rule in front of a chain of lower ones
module _ (begins : Rule → Bool) (top : Rule) (lower : List Rule) (set : IsRuleSet (top ∷ lower)) (right : AllByRecursion HasConditions (top ∷ lower)) where
  front : (longest : ℕ) (chain : List Rule) → ((rule : Rule) → Contains chain rule → Contains lower rule) → IsOverlapChain chain → length chain ≡ longest → BeginsWith (rules_meet top) chain
      → begins top ≡ true → Reaches begins (top ∷ lower) (1 + longest)
  front longest [] members is_chain as_long begun passes = record {
    chain = top ∷ [];
    members = λ rule member. elim (contains_cases top rule [] member) [
      | inl here ↦ subst (Contains (top ∷ lower)) here (contains_head top lower)
      | inr there ↦ absurd (contains_none rule there)
    ];
    is_chain = tt;
    as_long = omega arith;
    begun = passes;
  }
  front longest (next ∷ more) members is_chain as_long begun passes = record {
    chain = top ∷ next ∷ more;
    members = λ rule member. elim (contains_cases top rule (next ∷ more) member) [
      | inl here ↦ subst (Contains (top ∷ lower)) here (contains_head top lower)
      | inr there ↦ contains_tail top rule lower (members rule there)
    ];
    is_chain = (
      overlap_of top next right.0 (AllByRecursion-member HasConditions lower next right.1 (members next (contains_head next more))) begun,
      lower_one top lower next set (members next (contains_head next more)),
      is_chain,
    );
    as_long = omega arith;
    begun = passes;
  }

  behind : (longest : ℕ) → Reaches begins lower longest → Reaches begins (top ∷ lower) longest
  behind longest was = record {
    chain = was.chain;
    members = λ rule member. contains_tail top rule lower (was.members rule member);
    is_chain = was.is_chain;
    as_long = was.as_long;
    begun = was.begun;
  }

reached : (begins : Rule → Bool) (rules : List Rule) → IsRuleSet rules → AllByRecursion HasConditions rules → Reaches begins rules (longest_where begins rules)
reached begins [] set right = record { chain = []; members = λ rule member. member; is_chain = tt; as_long = refl; begun = tt }
reached begins (top ∷ lower) set right =
    let own = reached (rules_meet top) lower set.1 right.1 in
    let other = behind begins top lower set right (longest_where begins lower) (reached begins lower set.1 right.1) in
    cond_both (begins top) (max (1 + longest_where (rules_meet top) lower) (longest_where begins lower)) (longest_where begins lower) (Reaches begins (top ∷ lower))
    (λ passes. one_of_two (Reaches begins (top ∷ lower)) (1 + longest_where (rules_meet top) lower) (longest_where begins lower)
    (front begins top lower set right (longest_where (rules_meet top) lower) own.chain own.members own.is_chain own.as_long own.begun passes) other)
    (λ fails. other)

-- the greatest length of all chains is that of a longest one
pub longest-is : (rules : List Rule) (longest : ℕ) → IsRuleSet rules → AllByRecursion HasConditions rules → longest ≡ longest_where (λ rule. true) rules → IsLongestChain rules longest
longest-is rules longest set right is = record {
  bound = within;
  chain = found.chain;
  members = found.members;
  is_chain = found.is_chain;
  as_long = found.as_long ∙ sym is;
}
  where
    found : Reaches (λ rule. true) rules (longest_where (λ rule. true) rules)
    found = reached (λ rule. true) rules set right

    within : BoundsChains rules longest
    within [] members chain = omega arith
    within (first ∷ rest) members chain = let most = bounded (λ rule. true) rules set right first rest members chain refl in let same = is in omega arith

-- no length exceeds that of the list
pub no_longer : (begins : Rule → Bool) (rules : List Rule) → longest_where begins rules ≤ length rules
no_longer begins [] = omega arith
no_longer begins (top ∷ lower) =
    let own = no_longer (rules_meet top) lower in
    let other = no_longer begins lower in
    cond_both (begins top) (max (1 + longest_where (rules_meet top) lower) (longest_where begins lower)) (longest_where begins lower) (λ n. n ≤ length (top ∷ lower))
    (λ passes. omega arith) (λ fails. omega arith)
