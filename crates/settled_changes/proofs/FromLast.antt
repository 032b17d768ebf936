-- The commands that the last requests come to, one request after the other from the last to the first.
use Rattle.std.proofs.Common.{◌≡◌, ℕ, ◌+◌, ◌<◌, ◌≤◌, Bool, true, false, not, ◌||◌, cond, List, [], ◌∷◌, ◌++◌, length, drop, get_or, refl, sym, ap, ap₂, ◌∙◌, arith}
use Rattle.std.specs.Prelude.{nat_eq}
use Rattle.std.specs.BTreeSet.{BTreeSet, Updates, contains}
use Rattle.std.specs.Ordering.{nat_cmp}
use Rattle.std.proofs.lemmas.List.{drop_all, drop_more}
use Rattle.rule_model.specs.declared.Rule.{Rule}
use Rattle.rule_model.specs.RuleSet.{rule_at}
use Rattle.rule_store.specs.declared.Command.{Command}
use Rattle.settled_changes.specs.declared.Request.{Request}
use Rattle.settled_changes.specs.declared.Request.TheVariants.{Strict, Put, Drop}
use Rattle.settled_changes.specs.Requests.{asked_priority, is_asked}
use Rattle.settled_changes.specs.Settled.{put_change, drop_change, request_change, change_where, settled}
use Rattle.settled_changes.proofs.NamedSets.{with-named, none-in}

-- the commands of the requests from a place on, and the priorities that these name
pub record AreFrom (rules : List Rule) (requests : List Request) (place : ℕ) (commands : List Command) (named : BTreeSet ℕ) : Type 0 where
  pub within : place ≤ length requests
  pub commands_are : commands ≡ settled rules (drop place requests)
  pub named_are : (priority : ℕ) → contains nat_cmp named priority ≡ is_asked priority (drop place requests)

-- from behind the last one
pub from-end : (rules : List Rule) (requests : List Request) (place : ℕ) (commands : List Command) (named : BTreeSet ℕ) → place ≡ length requests → commands ≡ [] → named.keys ≡ [] → AreFrom rules requests place commands named
from-end rules requests place commands named end none empty = record {
  within = omega arith;
  commands_are = none ∙ sym (ap (settled rules) (drop_all place requests (omega arith)));
  named_are = λ priority. none-in named priority empty ∙ sym (ap (is_asked priority) (drop_all place requests (omega arith)));
}

-- what a request comes to by whether it is the last one for its rule
change-is : (rules : List Rule) (request : Request) (later : List Request) (is_last : Bool) → is_last ≡ not (is_asked (asked_priority request) later) → change_where rules request is_last ≡ request_change rules request later
change-is rules (Strict command) later is_last is = refl
change-is rules (Put rule) later is_last is =
    ap (λ test. cond test (put_change (rule_at rules rule.priority) rule) []) is ∙ turned (is_asked rule.priority later) (put_change (rule_at rules rule.priority) rule)
  where
    turned : (test : Bool) (some : List Command) → cond (not test) some [] ≡ cond test [] some
    turned true some = refl
    turned false some = refl
change-is rules (Drop priority) later is_last is =
    ap (λ test. cond test (drop_change (rule_at rules priority) priority) []) is ∙ turned (is_asked priority later) (drop_change (rule_at rules priority) priority)
  where
    turned : (test : Bool) (some : List Command) → cond (not test) some [] ≡ cond test [] some
    turned true some = refl
    turned false some = refl

-- from one request before
pub from-before : (rules : List Rule) (requests : List Request) (before place : ℕ) (request : Request) (commands commands' : List Command) (named named' : BTreeSet ℕ) (is_last : Bool)
    → before ≡ place + 1 → get_or requests place request ≡ request → AreFrom rules requests before commands named
    → Updates nat_cmp named named' (asked_priority request) true → is_last ≡ not (contains nat_cmp named (asked_priority request))
    → commands' ≡ change_where rules request is_last ++ commands → AreFrom rules requests place commands' named'
from-before rules requests before place request commands commands' named named' is_last next read was updates last made = record {
  within = let inside = was.within in omega arith;
  commands_are =
      made
      ∙ ap₂ (λ (some more : List Command). some ++ more) (change-is rules request (drop before requests) is_last (last ∙ ap not (was.named_are (asked_priority request)))) was.commands_are
      ∙ sym (ap (settled rules) split);
  named_are = λ priority.
      with-named named named' (asked_priority request) priority updates
      ∙ ap (cond (nat_eq (asked_priority request) priority) true) (was.named_are priority)
      ∙ either (nat_eq (asked_priority request) priority) (is_asked priority (drop before requests))
      ∙ sym (ap (is_asked priority) split);
}
  where
    split : drop place requests ≡ request ∷ drop before requests
    split =
        let inside = was.within in
        let within : place < length requests = omega arith in
        drop_more requests place request within ∙ ap₂ (λ (first : Request) (n : ℕ). first ∷ drop n requests) read (sym next)

    either : (names later : Bool) → cond names true later ≡ (names || later)
    either true later = refl
    either false later = refl
