-- How many commands requests come to.
use Rattle.std.proofs.Common.{ℕ, ◌*◌, ◌≤◌, Bool, true, false, not, nat_eq, Option, Some, None, List, [], ◌∷◌, length, if◌then◌else◌, arith}
use Rattle.std.proofs.lemmas.List.{length-append}
use Rattle.rule_model.specs.declared.Rule.{Rule}
use Rattle.rule_model.specs.RuleSet.{rule_at}
use Rattle.rule_store.specs.declared.Command.{Command}
use Rattle.rule_store.specs.declared.Command.TheVariants.{Add, Set, Del}
use Rattle.settled_changes.specs.declared.Request.{Request}
use Rattle.settled_changes.specs.declared.Request.TheVariants.{Strict, Put, Drop}
use Rattle.settled_changes.specs.Requests.{is_asked}
use Rattle.settled_changes.specs.Settled.{drop_change, put_change, request_change, same_conditions, settled}

put_by : (rule : Rule) (same equal : Bool) → length (if not same then Del rule.priority ∷ Add rule ∷ [] else (if equal then [] else Set rule.priority rule.result ∷ [])) ≤ 2
put_by rule false equal = omega arith
put_by rule true true = omega arith
put_by rule true false = omega arith

-- a put comes to two at most,
pub put_two : (old : Option Rule) (rule : Rule) → length (put_change old rule) ≤ 2
put_two None rule = omega arith
put_two (Some old) rule = put_by rule (same_conditions old rule) (nat_eq old.result rule.result)

-- and a drop to one
drop_two : (old : Option Rule) (priority : ℕ) → length (drop_change old priority) ≤ 2
drop_two None priority = omega arith
drop_two (Some old) priority = omega arith

pub last_most : (most : ℕ) (later : Bool) (commands : List Command) → length commands ≤ most → length (if later then [] else commands) ≤ most
last_most most true commands few = omega arith
last_most most false commands few = few

one_two : (rules : List Rule) (request : Request) (later : List Request) → length (request_change rules request later) ≤ 2
one_two rules (Strict command) later = omega arith
one_two rules (Put rule) later = last_most 2 (is_asked rule.priority later) (put_change (rule_at rules rule.priority) rule) (put_two (rule_at rules rule.priority) rule)
one_two rules (Drop priority) later = last_most 2 (is_asked priority later) (drop_change (rule_at rules priority) priority) (drop_two (rule_at rules priority) priority)

-- requests come to twice as many commands at most
pub twice_as_many : (rules : List Rule) (requests : List Request) → length (settled rules requests) ≤ 2 * length requests
twice_as_many rules [] = omega arith
twice_as_many rules (request ∷ later) =
    let both = length-append (request_change rules request later) (settled rules later) in
    let first = one_two rules request later in
    let rest = twice_as_many rules later in
    omega arith
