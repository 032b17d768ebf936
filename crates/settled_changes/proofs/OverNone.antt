-- What requests make of no rules, and how many commands lead a set there.
use Rattle.std.proofs.Common.{◌≡◌, ℕ, ◌+◌, ◌*◌, ◌≤◌, Bool, true, false, List, [], ◌∷◌, ◌++◌, Option, Some, None, length, map, filter, not, take, slice_get, nat_eq, nat_lt, if◌then◌else◌, refl, ap, ◌∙◌, sym, subst, arith}
use Rattle.std.proofs.lemmas.List.{length-append, length-map, map-append}
use Rattle.std.proofs.lemmas.List.Filters.{length-filter_both}
use Rattle.slot_order.specs.Order.{most_slots}
use Rattle.rule_model.specs.declared.Rule.{Rule}
use Rattle.rule_model.specs.RuleSet.{has_priority, rule_at}
use Rattle.rule_store.specs.declared.Command.{Command}
use Rattle.rule_store.specs.declared.Command.TheVariants.{Add, Set, Del}
use Rattle.rule_store.specs.Batch.{most_commands, with_rule}
use Rattle.rule_store.specs.Store.{answered, without_rule}
use Rattle.rule_store.proofs.Sums.{take-read}
use Rattle.settled_changes.specs.declared.Request.{Request}
use Rattle.settled_changes.specs.declared.Request.TheVariants.{Strict, Put, Drop}
use Rattle.settled_changes.specs.Requests.{asked_set, is_asked, set_behind}
use Rattle.settled_changes.specs.Settled.{drop_change, drops_of, put_change, puts_of, request_change, settled, whole_requests}
use Rattle.settled_changes.proofs.Many.{last_most, put_two}

-- a command more as a request
pub strict_next : (batch : List Command) (place : ℕ) (command : Command) (old new : List Request) → slice_get batch place ≡ Some command
    → old ≡ map Strict (take place batch) → new ≡ old ++ Strict command ∷ [] → new ≡ map Strict (take (place + 1) batch)
strict_next batch place command old new read was pushed =
    pushed ∙ ap (λ some. some ++ Strict command ∷ []) was
    ∙ sym (ap (map Strict) (take-read batch place command read) ∙ map-append Strict (take place batch) (command ∷ []))

-- ---- the set

kept-few : (p : Rule → Bool) (rules : List Rule) → length (filter p rules) ≤ length rules
kept-few p rules = let both = length-filter_both p (λ rule. not (p rule)) (λ rule. refl) rules in omega arith

with-one : (rules : List Rule) (new : Rule) → length (with_rule rules new) ≡ length rules + 1
with-one [] new = refl
with-one (rule ∷ rules) new = by (nat_lt rule.priority new.priority) (with-one rules new)
  where
    by : (above : Bool) → length (with_rule rules new) ≡ length rules + 1 → length (if above then new ∷ rule ∷ rules else rule ∷ with_rule rules new) ≡ length (rule ∷ rules) + 1
    by true more = omega arith
    by false more = omega arith

without-few : (rules : List Rule) (priority : ℕ) → length (without_rule rules priority) ≤ length rules
without-few rules priority = kept-few (λ rule. not (nat_eq rule.priority priority)) rules

standing-few : (rules : List Rule) (rule : Rule) → length (with_rule (without_rule rules rule.priority) rule) ≤ length rules + 1
standing-few rules rule =
    let less = without-few rules rule.priority in
    let one = with-one (without_rule rules rule.priority) rule in
    omega arith

-- a request makes one rule more at most
behind-few : (rules : List Rule) (request : Request) → length (set_behind rules request) ≤ length rules + 1
behind-few rules (Strict (Add rule)) = standing-few rules rule
behind-few rules (Strict (Set priority answer)) = let same = length-map rules (answered priority answer) in omega arith
behind-few rules (Strict (Del priority)) = let less = without-few rules priority in omega arith
behind-few rules (Put rule) = standing-few rules rule
behind-few rules (Drop priority) = let less = without-few rules priority in omega arith

asked-few : (rules : List Rule) (requests : List Request) → length (asked_set rules requests) ≤ length rules + length requests
asked-few rules [] = omega arith
asked-few rules (request ∷ requests) =
    let one = behind-few rules request in
    let more = asked-few (set_behind rules request) requests in
    omega arith

-- ---- the commands

-- how many commands a request comes to at most
weight : Request → ℕ
weight (Strict command) = 1
weight (Put rule) = 2
weight (Drop priority) = 1

weigh : List Request → ℕ
weigh [] = 0
weigh (request ∷ requests) = weight request + weigh requests

drop-one : (rules : List Rule) (priority : ℕ) → length (drop_change (rule_at rules priority) priority) ≤ 1
drop-one rules priority = by (rule_at rules priority)
  where
    by : (old : Option Rule) → length (drop_change old priority) ≤ 1
    by None = omega arith
    by (Some old) = omega arith

one-weighs : (rules : List Rule) (request : Request) (later : List Request) → length (request_change rules request later) ≤ weight request
unfolding weight
one-weighs rules (Strict command) later = omega arith
one-weighs rules (Put rule) later = last_most 2 (is_asked rule.priority later) (put_change (rule_at rules rule.priority) rule) (put_two (rule_at rules rule.priority) rule)
one-weighs rules (Drop priority) later = last_most 1 (is_asked priority later) (drop_change (rule_at rules priority) priority) (drop-one rules priority)

settled-weighs : (rules : List Rule) (requests : List Request) → length (settled rules requests) ≤ weigh requests
unfolding weigh
settled-weighs rules [] = omega arith
settled-weighs rules (request ∷ later) =
    let both = length-append (request_change rules request later) (settled rules later) in
    let first = one-weighs rules request later in
    let rest = settled-weighs rules later in
    omega arith

weigh-append : (a b : List Request) → weigh (a ++ b) ≡ weigh a + weigh b
unfolding weigh
weigh-append [] b = omega arith
weigh-append (request ∷ a) b = let more = weigh-append a b in omega arith

puts-weigh : (whole : List Rule) → weigh (puts_of whole) ≡ 2 * length whole
unfolding weigh weight
puts-weigh [] = refl
puts-weigh (rule ∷ whole) = let more = puts-weigh whole in omega arith

drops-weigh : (gone : List Rule) → weigh (map (λ (old : Rule). Drop old.priority) gone) ≡ length gone
unfolding weigh weight
drops-weigh [] = refl
drops-weigh (rule ∷ gone) = let more = drops-weigh gone in omega arith

-- what makes a set the one that requests make of none is two commands for each of them at most, and one for each old rule
pub whole_few : (rules : List Rule) (requests : List Request) (whole : List Rule) → whole ≡ asked_set [] requests
    → length (settled rules (whole_requests rules whole)) ≤ 2 * length requests + length rules
whole_few rules requests whole made =
    let bound = asked-few [] requests in
    let short_set : length (asked_set [] requests) ≤ length requests = omega arith in
    let new : length whole ≤ length requests = subst (λ some. length some ≤ length requests) (sym made) short_set in
    let gone = filter (λ (old : Rule). not (has_priority whole old.priority)) rules in
    let less = kept-few (λ (old : Rule). not (has_priority whole old.priority)) rules in
    let all = settled-weighs rules (whole_requests rules whole) in
    let parts = weigh-append (puts_of whole) (drops_of rules whole) in
    let puts = puts-weigh whole in
    let drops = drops-weigh gone in
    omega arith

-- so it fits a batch
pub whole_fits : (rules : List Rule) (requests : List Request) (whole : List Rule) → whole ≡ asked_set [] requests → length rules ≤ most_slots → length requests ≤ most_slots
    → length (settled rules (whole_requests rules whole)) ≤ most_commands
whole_fits rules requests whole made few short = let all = whole_few rules requests whole made in omega arith
