-- What is asked for comes to commands of a trace where what asks for it does, and the set's rules are those of one.
use Rattle.std.proofs.Common.{ℕ, ◌^◌, ◌<◌, Bool, true, false, List, [], ◌∷◌, ◌++◌, Option, None, Some, map, filter, not, nat_eq, if◌then◌else◌, sym, subst}
use Rattle.std.proofs.lemmas.Bool.{cond_both}
use Rattle.std.specs.List.{AllByRecursion}
use Rattle.slot_order.proofs.Lists.{all_append}
use Rattle.rule_model.specs.declared.IpVersion.{IpVersion}
use Rattle.rule_model.specs.declared.IpVersion.TheVariants.{V4, V6}
use Rattle.rule_model.specs.declared.Rule.{Rule}
use Rattle.rule_model.specs.RuleSet.{has_priority, rule_at}
use Rattle.rule_store.specs.declared.Command.{Command as Change}
use Rattle.rule_store.specs.declared.Command.TheVariants.{Add, Set, Del}
use Rattle.settled_changes.specs.declared.Request.{Request}
use Rattle.settled_changes.specs.declared.Request.TheVariants.{Strict, Put, Drop}
use Rattle.settled_changes.specs.Requests.{AreTaken, asked_set, is_asked}
use Rattle.settled_changes.specs.Settled.{drop_change, drops_of, put_change, puts_of, request_change, same_conditions, settled, whole_requests}
use Rattle.settled_changes.proofs.Leads.{leads}
use Rattle.settled_changes.proofs.AskedFor.{forms-append, forms-strict}
use Rattle.trace_file.specs.Forms.{IsTraceRank, IsTraceRule}
use Rattle.settled_changes.specs.declared.requested.Requested.{Requested}
use Rattle.settled_changes.specs.declared.requested.Requested.TheVariants.{Nothing, Changes, Whole}
use Rattle.settled_changes.specs.Requested.{TakesAsked, asked_behind, asked_with, batch_behind, batch_with, settled_batch, strict_form}
use Rattle.json_traces.proofs.TraceRules.{IsTraceChange, set_told}

-- what is asked for, as strict commands
abbrev pub forms_of : Requested → List Change
forms_of Nothing = []
forms_of (Changes requests) = map strict_form requests
forms_of (Whole requests) = map strict_form requests

-- a rule's priority and result
pub rank_told : (version : IpVersion) (rule : Rule) → IsTraceRule version rule → IsTraceRank version rule.priority
rank_told V4 rule is = is.priority
rank_told V6 rule is = is.priority

result_told : (version : IpVersion) (rule : Rule) → IsTraceRule version rule → rule.result < 2 ^ 32
result_told V4 rule is = is.result
result_told V6 rule is = is.result

put_by : (version : IpVersion) (rule : Rule) (same equal : Bool) → IsTraceRule version rule
    → AllByRecursion (IsTraceChange version) (if not same then Del rule.priority ∷ Add rule ∷ [] else (if equal then [] else Set rule.priority rule.result ∷ []))
put_by version rule false equal is = (rank_told version rule is, (is, tt))
put_by version rule true true is = tt
put_by version rule true false is = ((rank_told version rule is, result_told version rule is), tt)

put_told : (version : IpVersion) (old : Option Rule) (rule : Rule) → IsTraceRule version rule → AllByRecursion (IsTraceChange version) (put_change old rule)
put_told version None rule is = (is, tt)
put_told version (Some old) rule is = put_by version rule (same_conditions old rule) (nat_eq old.result rule.result) is

drop_told : (version : IpVersion) (old : Option Rule) (priority : ℕ) → IsTraceRank version priority → AllByRecursion (IsTraceChange version) (drop_change old priority)
drop_told version None priority is = tt
drop_told version (Some old) priority is = (is, tt)

last_told : (version : IpVersion) (later : Bool) (commands : List Change) → AllByRecursion (IsTraceChange version) commands → AllByRecursion (IsTraceChange version) (if later then [] else commands)
last_told version true commands is = tt
last_told version false commands is = is

one_told : (version : IpVersion) (rules : List Rule) (request : Request) (later : List Request) → IsTraceChange version (strict_form request) → AllByRecursion (IsTraceChange version) (request_change rules request later)
one_told version rules (Strict command) later is = (is, tt)
one_told version rules (Put rule) later is = last_told version (is_asked rule.priority later) (put_change (rule_at rules rule.priority) rule) (put_told version (rule_at rules rule.priority) rule is)
one_told version rules (Drop priority) later is = last_told version (is_asked priority later) (drop_change (rule_at rules priority) priority) (drop_told version (rule_at rules priority) priority is)

pub settled_told : (version : IpVersion) (rules : List Rule) (requests : List Request) → AllByRecursion (IsTraceChange version) (map strict_form requests) → AllByRecursion (IsTraceChange version) (settled rules requests)
settled_told version rules [] is = tt
settled_told version rules (request ∷ later) is =
    all_append (IsTraceChange version) (request_change rules request later) (settled rules later) (one_told version rules request later is.0) (settled_told version rules later is.1)

-- a whole new set of rules of a trace, over rules of one
puts_told : (version : IpVersion) (whole : List Rule) → AllByRecursion (IsTraceRule version) whole → AllByRecursion (IsTraceChange version) (map strict_form (puts_of whole))
puts_told version [] is = tt
puts_told version (rule ∷ whole) is = (is.0, puts_told version whole is.1)

-- the rules that go are some of the set
drops_by : (version : IpVersion) (rules : List Rule) (stays : Rule → Bool) → AllByRecursion (IsTraceRule version) rules
    → AllByRecursion (IsTraceChange version) (map strict_form (map (λ (old : Rule). Drop old.priority) (filter (λ (old : Rule). not (stays old)) rules)))
drops_by version [] stays is = tt
drops_by version (rule ∷ rules) stays is =
    cond_both (not (stays rule)) (rule ∷ filter (λ (old : Rule). not (stays old)) rules) (filter (λ (old : Rule). not (stays old)) rules)
    (λ gone. AllByRecursion (IsTraceChange version) (map strict_form (map (λ (old : Rule). Drop old.priority) gone)))
    (λ goes. (rank_told version rule is.0, drops_by version rules stays is.1))
    (λ kept. drops_by version rules stays is.1)

whole_told : (version : IpVersion) (rules whole : List Rule) → AllByRecursion (IsTraceRule version) rules → AllByRecursion (IsTraceRule version) whole → AllByRecursion (IsTraceChange version) (settled rules (whole_requests rules whole))
whole_told version rules whole are new =
    settled_told version rules (whole_requests rules whole)
    (subst (AllByRecursion (IsTraceChange version)) (sym (forms-append (puts_of whole) (drops_of rules whole)))
    (all_append (IsTraceChange version) (map strict_form (puts_of whole)) (map strict_form (drops_of rules whole)) (puts_told version whole new)
    (drops_by version rules (λ old. has_priority whole old.priority) are)))

-- the set that requests make of none
asked_told : (version : IpVersion) (requests : List Request) → AreTaken [] requests → AllByRecursion (IsTraceChange version) (map strict_form requests) → AllByRecursion (IsTraceRule version) (asked_set [] requests)
asked_told version requests taken is =
    subst (AllByRecursion (IsTraceRule version)) (leads [] requests tt taken).1 (set_told version [] (settled [] requests) tt (settled_told version [] requests is))

-- so what is pending comes to commands of a trace
pub batch_told : (version : IpVersion) (rules : List Rule) (batch : List Change) (asked : Requested) → AllByRecursion (IsTraceRule version) rules → AllByRecursion (IsTraceChange version) batch
    → AllByRecursion (IsTraceChange version) (forms_of asked) → TakesAsked rules asked → AllByRecursion (IsTraceChange version) (settled_batch rules batch asked)
batch_told version rules batch Nothing are told asks taken = told
batch_told version rules batch (Changes requests) are told asks taken = settled_told version rules requests asks
batch_told version rules batch (Whole requests) are told asks taken = whole_told version rules (asked_set [] requests) are (asked_told version requests taken asks)

-- one request more
pub forms_more : (version : IpVersion) (requests : List Request) (request : Request) → AllByRecursion (IsTraceChange version) (map strict_form requests) → IsTraceChange version (strict_form request)
    → AllByRecursion (IsTraceChange version) (map strict_form (requests ++ request ∷ []))
forms_more version requests request is one =
    subst (AllByRecursion (IsTraceChange version)) (sym (forms-append requests (request ∷ []))) (all_append (IsTraceChange version) (map strict_form requests) (strict_form request ∷ []) is (one, tt))

-- a strict command more is told too,
pub with_told : (version : IpVersion) (batch : List Change) (asked : Requested) (change : Change) → AllByRecursion (IsTraceChange version) batch → AllByRecursion (IsTraceChange version) (forms_of asked)
    → IsTraceChange version change
    → AllByRecursion (IsTraceChange version) (batch_with batch asked change) × AllByRecursion (IsTraceChange version) (forms_of (asked_with asked change))
with_told version batch Nothing change told asks one = (all_append (IsTraceChange version) batch (change ∷ []) told (one, tt), tt)
with_told version batch (Changes requests) change told asks one = (told, forms_more version requests (Strict change) asks one)
with_told version batch (Whole requests) change told asks one = (told, forms_more version requests (Strict change) asks one)

-- and one that doesn't ask what is there
pub behind_told : (version : IpVersion) (batch : List Change) (asked : Requested) (request : Request) → AllByRecursion (IsTraceChange version) batch → AllByRecursion (IsTraceChange version) (forms_of asked)
    → IsTraceChange version (strict_form request)
    → AllByRecursion (IsTraceChange version) (batch_behind batch asked) × AllByRecursion (IsTraceChange version) (forms_of (asked_behind batch asked request))
behind_told version batch Nothing request told asks one =
    (tt, forms_more version (map Strict batch) request (subst (AllByRecursion (IsTraceChange version)) (sym (forms-strict batch)) told) one)
behind_told version batch (Changes requests) request told asks one = (told, forms_more version requests request asks one)
behind_told version batch (Whole requests) request told asks one = (told, forms_more version requests request asks one)
