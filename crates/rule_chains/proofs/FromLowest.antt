-- The lengths of chains, told from the lowest rule up.
use Rattle.std.proofs.Common.{◌≡◌, ℕ, ◌+◌, ◌<◌, ◌≤◌, max, Bool, true, false, cond, Some, List, [], ◌∷◌, length, drop, set, get_or, slice_get, refl, sym, ap, ap₂, subst, ◌∙◌, arith, length-drop, length-set}
use Rattle.std.specs.List.{AllByRecursion}
use Rattle.std.proofs.lemmas.List.{drop_all, drop_more, drop-set}
use Rattle.rule_model.specs.declared.Rule.{Rule}
use Rattle.rule_model.specs.Rule.{HasConditions, rules_meet}
use Rattle.rule_model.specs.RuleSet.{IsRuleSet}
use Rattle.rule_store.proofs.Sums.{slice_get-within, slice_get-read}
use Rattle.rule_chains.specs.Chains.{IsLongestChain}
use Rattle.rule_chains.specs.Lengths.{longest_where, lengths_of, with_length}
use Rattle.rule_chains.proofs.Longest.{longest-is, no_longer}

split_at : (rules : List Rule) (place : ℕ) (rule : Rule) → slice_get rules place ≡ Some rule → drop place rules ≡ rule ∷ drop (place + 1) rules
split_at rules place rule read =
    drop_more rules place rule (slice_get-within rules place rule read) ∙ ap (λ (first : Rule). first ∷ drop (place + 1) rules) (slice_get-read rules place rule read)

-- The rules from a place on have their lengths, the greatest of which is this, and their conditions are right.
pub record AreLengths (rules : List Rule) (from : ℕ) (lengths : List ℕ) (longest : ℕ) : Type 0 where
  pub within : from ≤ length rules
  pub count : length lengths ≡ length rules
  pub known : drop from lengths ≡ lengths_of (drop from rules)
  pub longest_is : longest ≡ longest_where (λ rule. true) (drop from rules)
  pub right : AllByRecursion HasConditions (drop from rules)

-- from behind the last one,
pub lengths-none : (rules : List Rule) (from : ℕ) (lengths : List ℕ) → from ≡ length rules → length lengths ≡ length rules → AreLengths rules from lengths 0
lengths-none rules from lengths end count = record {
  within = omega arith;
  count = count;
  known = drop_all from lengths (omega arith) ∙ sym (ap lengths_of nothing);
  longest_is = sym (ap (longest_where (λ rule. true)) nothing);
  right = subst (AllByRecursion HasConditions) (sym nothing) tt;
}
  where
    nothing : drop from rules ≡ []
    nothing = drop_all from rules (omega arith)

-- from one rule before,
pub lengths-more : (rules : List Rule) (from place : ℕ) (rule : Rule) (lengths : List ℕ) (longest below longest' : ℕ) → from ≡ place + 1 → slice_get rules place ≡ Some rule
    → AreLengths rules from lengths longest → HasConditions rule → below ≡ longest_where (rules_meet rule) (drop from rules) → longest' ≡ max longest (1 + below)
    → AreLengths rules place (set lengths place (1 + below)) longest'
lengths-more rules from place rule lengths longest below longest' next read was right is greater = record {
  within = let inside = was.within in omega arith;
  count = length-set _ _ _ ∙ was.count;
  known =
      drop-set lengths place (1 + below) (let inside = was.within in let same = was.count in omega arith)
      ∙ ap₂ (λ (n : ℕ) (ns : List ℕ). n ∷ ns) own (ap (λ n. drop n lengths) (sym next) ∙ was.known) ∙ sym (ap lengths_of split);
  longest_is = greater ∙ turned ∙ sym (ap (longest_where (λ rule. true)) split);
  right = subst (AllByRecursion HasConditions) (sym split) (right, was.right);
}
  where
    split : drop place rules ≡ rule ∷ drop from rules
    split = split_at rules place rule read ∙ ap (λ n. rule ∷ drop n rules) (sym next)

    own : 1 + below ≡ 1 + longest_where (rules_meet rule) (drop from rules)
    own = ap (λ n. 1 + n) is

    turned : max longest (1 + below) ≡ max (1 + longest_where (rules_meet rule) (drop from rules)) (longest_where (λ rule. true) (drop from rules))
    turned = let same = was.longest_is in omega arith

-- and from the first one
pub lengths-all : (rules : List Rule) (from : ℕ) (lengths : List ℕ) (longest : ℕ) → from ≤ 0 → IsRuleSet rules → AreLengths rules from lengths longest → IsLongestChain rules longest
lengths-all rules from lengths longest first is_set was =
    let start : from ≡ 0 = omega arith in
    let all : drop from rules ≡ rules = ap (λ n. drop n rules) start in
    longest-is rules longest is_set (subst (AllByRecursion HasConditions) all was.right) (was.longest_is ∙ ap (longest_where (λ rule. true)) all)

-- What was found so far of the chains that begin with a rule from a place on which meets one: together with what is behind it,
-- it is all of it.
pub record IsSoFar (rules : List Rule) (lengths : List ℕ) (upper : Rule) (from below longest : ℕ) : Type 0 where
  pub rest : max longest (longest_where (rules_meet upper) (drop below rules)) ≡ longest_where (rules_meet upper) (drop from rules)
  pub known : drop below lengths ≡ lengths_of (drop below rules)

pub so_far-none : (rules : List Rule) (lengths : List ℕ) (upper : Rule) (from : ℕ) → drop from lengths ≡ lengths_of (drop from rules) → IsSoFar rules lengths upper from from 0
so_far-none rules lengths upper from known = record { rest = omega arith; known = known }

-- a length that counts goes before those behind it
stepped : (counts : Bool) (longest own rest : ℕ) → max (with_length longest counts own) rest ≡ max longest (cond counts (max own rest) rest)
stepped true longest own rest = omega arith
stepped false longest own rest = refl

pub so_far-more : (rules : List Rule) (lengths : List ℕ) (upper : Rule) (from below longest : ℕ) (rule : Rule) (meets : Bool) (longest' : ℕ) → length lengths ≡ length rules
    → slice_get rules below ≡ Some rule → meets ≡ rules_meet upper rule → longest' ≡ with_length longest meets (get_or lengths below 0)
    → IsSoFar rules lengths upper from below longest → IsSoFar rules lengths upper from (below + 1) longest'
so_far-more rules lengths upper from below longest rule meets longest' count read meet greater was = record {
  rest =
      let behind = longest_where (rules_meet upper) (drop (below + 1) rules) in
      let other = get_or lengths below 0 in
      ap (λ n. max n behind) greater ∙ stepped meets longest other behind
      ∙ ap (λ test. max longest (cond test (max other behind) behind)) meet
      ∙ ap (λ n. max longest (cond (rules_meet upper rule) (max n behind) behind)) own
      ∙ sym (ap (λ (some : List Rule). max longest (longest_where (rules_meet upper) some)) split) ∙ was.rest;
  known = let both = parts in cc;
}
  where
    split : drop below rules ≡ rule ∷ drop (below + 1) rules
    split = split_at rules below rule read

    inside : below < length lengths
    inside = let within = slice_get-within rules below rule read in omega arith

    parts : get_or lengths below 0 ∷ drop (below + 1) lengths ≡ (1 + longest_where (rules_meet rule) (drop (below + 1) rules)) ∷ lengths_of (drop (below + 1) rules)
    parts = sym (drop_more lengths below 0 inside) ∙ was.known ∙ ap lengths_of split

    own : get_or lengths below 0 ≡ 1 + longest_where (rules_meet rule) (drop (below + 1) rules)
    own = let both = parts in cc

pub so_far-all : (rules : List Rule) (lengths : List ℕ) (upper : Rule) (from below longest : ℕ) → length rules ≤ below → IsSoFar rules lengths upper from below longest
    → longest ≡ longest_where (rules_meet upper) (drop from rules)
so_far-all rules lengths upper from below longest past was =
    let none : longest_where (rules_meet upper) (drop below rules) ≡ 0 = ap (longest_where (rules_meet upper)) (drop_all below rules past) in
    let same = was.rest in
    omega arith

-- with the rules before the place it is no more than all
pub so_far-most : (rules : List Rule) (upper : Rule) (from longest : ℕ) → from ≤ length rules → longest ≡ longest_where (rules_meet upper) (drop from rules) → from + longest ≤ length rules
so_far-most rules upper from longest within is =
    let small = no_longer (rules_meet upper) (drop from rules) in
    let size = length-drop from rules in
    omega arith
