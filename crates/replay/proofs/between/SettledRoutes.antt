-- What changes of routes come to over a set are changes of routes, and so is a whole new set of them.
use Rattle.std.proofs.Common.{◌≡◌, ℕ, Bool, true, false, List, [], ◌∷◌, ◌++◌, Option, None, Some, map, filter, sym, subst, if◌then◌else◌, not, nat_eq}
use Rattle.std.specs.List.{AllByRecursion}
use Rattle.slot_order.proofs.Lists.{all_append}
use Rattle.rule_model.specs.declared.IpVersion.{IpVersion}
use Rattle.rule_model.specs.declared.IpVersion.TheVariants.{V4, V6}
use Rattle.rule_model.specs.declared.Rule.{Rule}
use Rattle.rule_model.specs.RuleSet.{has_priority, rule_at}
use Rattle.rule_store.specs.declared.Command.{Command}
use Rattle.rule_store.specs.declared.Command.TheVariants.{Add, Set, Del}
use Rattle.rule_store.specs.Batch.{additions}
use Rattle.rule_store.proofs.Sound.{additions-append}
use Rattle.settled_changes.specs.declared.Request.{Request}
use Rattle.settled_changes.specs.declared.Request.TheVariants.{Strict, Put, Drop}
use Rattle.settled_changes.specs.Requests.{AreTaken, asked_set, is_asked}
use Rattle.settled_changes.specs.Settled.{drop_change, drops_of, put_change, puts_of, request_change, same_conditions, settled, whole_requests}
use Rattle.settled_changes.proofs.Leads.{leads}
use Rattle.settled_changes.proofs.AskedFor.{forms-append, forms-strict}
use Rattle.commit_writes.specs.Routes.{IsRoute}
use Rattle.batch_order.specs.Managed.{OnlyChangesRoutes}
use Rattle.report_lines.specs.declared.Family.{Family}
use Rattle.settled_changes.specs.declared.requested.Requested.{Requested}
use Rattle.settled_changes.specs.declared.requested.Requested.TheVariants.{Nothing, Changes, Whole}
use Rattle.settled_changes.specs.Requested.{TakesAsked, asked_behind, asked_with, batch_behind, batch_with, settled_batch, strict_form}
use Rattle.replay.specs.AskedRoutes.{OnlyAsksRoutes}
use Rattle.replay.specs.Running.{IsChangeOf, routes_of}
use Rattle.replay.proofs.between.RouteSets.{routes_after}

-- two lists of changes
pub routes-append : (version : IpVersion) (a b : List Command) → OnlyChangesRoutes version a → OnlyChangesRoutes version b → OnlyChangesRoutes version (a ++ b)
routes-append version a b first second =
    subst (AllByRecursion (IsRoute version)) (sym (additions-append a b)) (all_append (IsRoute version) (additions a) (additions b) first second)

-- ---- what one request comes to

put-by : (version : IpVersion) (rule : Rule) (same equal : Bool) → OnlyChangesRoutes version (Add rule ∷ [])
    → OnlyChangesRoutes version (if not same then Del rule.priority ∷ Add rule ∷ [] else (if equal then [] else Set rule.priority rule.result ∷ []))
put-by version rule false equal is = is
put-by version rule true true is = tt
put-by version rule true false is = tt

put-routes : (version : IpVersion) (old : Option Rule) (rule : Rule) → OnlyChangesRoutes version (Add rule ∷ []) → OnlyChangesRoutes version (put_change old rule)
put-routes version None rule is = is
put-routes version (Some old) rule is = put-by version rule (same_conditions old rule) (nat_eq old.result rule.result) is

drop-routes : (version : IpVersion) (old : Option Rule) (priority : ℕ) → OnlyChangesRoutes version (drop_change old priority)
drop-routes version None priority = tt
drop-routes version (Some old) priority = tt

last-routes : (version : IpVersion) (later : Bool) (commands : List Command) → OnlyChangesRoutes version commands → OnlyChangesRoutes version (if later then [] else commands)
last-routes version true commands is = tt
last-routes version false commands is = is

one-routes : (version : IpVersion) (rules : List Rule) (request : Request) (later : List Request) → OnlyChangesRoutes version (strict_form request ∷ []) → OnlyChangesRoutes version (request_change rules request later)
one-routes version rules (Strict command) later is = is
one-routes version rules (Put rule) later is = last-routes version (is_asked rule.priority later) (put_change (rule_at rules rule.priority) rule) (put-routes version (rule_at rules rule.priority) rule is)
one-routes version rules (Drop priority) later is = last-routes version (is_asked priority later) (drop_change (rule_at rules priority) priority) (drop-routes version (rule_at rules priority) priority)

-- the first change, and the others
first-routes : (version : IpVersion) (command : Command) (commands : List Command) → OnlyChangesRoutes version (command ∷ commands) → OnlyChangesRoutes version (command ∷ []) × OnlyChangesRoutes version commands
first-routes version (Add rule) commands is = ((is.0, tt), is.1)
first-routes version (Set priority answer) commands is = (tt, is)
first-routes version (Del priority) commands is = (tt, is)

-- ---- and what all of them do

pub settled-routes : (version : IpVersion) (rules : List Rule) (requests : List Request) → OnlyChangesRoutes version (map strict_form requests) → OnlyChangesRoutes version (settled rules requests)
settled-routes version rules [] is = tt
settled-routes version rules (request ∷ later) is =
    let parts = first-routes version (strict_form request) (map strict_form later) is in
    routes-append version (request_change rules request later) (settled rules later) (one-routes version rules request later parts.0) (settled-routes version rules later parts.1)

-- a whole new set of routes
puts-routes : (version : IpVersion) (whole : List Rule) → AllByRecursion (IsRoute version) whole → OnlyChangesRoutes version (map strict_form (puts_of whole))
puts-routes version [] is = tt
puts-routes version (rule ∷ whole) is = (is.0, puts-routes version whole is.1)

drops-routes : (version : IpVersion) (gone : List Rule) → OnlyChangesRoutes version (map strict_form (map (λ (old : Rule). Drop old.priority) gone))
drops-routes version [] = tt
drops-routes version (rule ∷ gone) = drops-routes version gone

pub whole-routes : (version : IpVersion) (rules whole : List Rule) → AllByRecursion (IsRoute version) whole → OnlyChangesRoutes version (settled rules (whole_requests rules whole))
whole-routes version rules whole is =
    settled-routes version rules (whole_requests rules whole)
    (subst (OnlyChangesRoutes version) (sym (forms-append (puts_of whole) (drops_of rules whole)))
    (routes-append version (map strict_form (puts_of whole)) (map strict_form (drops_of rules whole)) (puts-routes version whole is)
    (drops-routes version (filter (λ (old : Rule). not (has_priority whole old.priority)) rules))))

-- ---- what is asked for

-- the set that requests make of none
set-routes : (version : IpVersion) (requests : List Request) → AreTaken [] requests → OnlyChangesRoutes version (map strict_form requests) → AllByRecursion (IsRoute version) (asked_set [] requests)
set-routes version requests taken is =
    subst (AllByRecursion (IsRoute version)) (leads [] requests tt taken).1 (routes_after version [] (settled [] requests) tt (settled-routes version [] requests is))

pub batch-routes : (version : IpVersion) (rules : List Rule) (batch : List Command) (asked : Requested) → OnlyChangesRoutes version batch → OnlyAsksRoutes version asked → TakesAsked rules asked
    → OnlyChangesRoutes version (settled_batch rules batch asked)
batch-routes version rules batch Nothing is asks taken = is
batch-routes version rules batch (Changes requests) is asks taken = settled-routes version rules requests asks
batch-routes version rules batch (Whole requests) is asks taken = whole-routes version rules (asked_set [] requests) (set-routes version requests taken asks)

-- one request more
forms-more : (version : IpVersion) (requests : List Request) (request : Request) → OnlyChangesRoutes version (map strict_form requests) → OnlyChangesRoutes version (strict_form request ∷ [])
    → OnlyChangesRoutes version (map strict_form (requests ++ request ∷ []))
forms-more version requests request is one =
    subst (OnlyChangesRoutes version) (sym (forms-append requests (request ∷ []))) (routes-append version (map strict_form requests) (strict_form request ∷ []) is one)

-- a change of a script of routes is one of its version
pub change-routes : (version : IpVersion) (family : Family) (command : Command) → family ≡ routes_of version → IsChangeOf family command → OnlyChangesRoutes version (command ∷ [])
change-routes version family command route is = go version (subst (λ f. IsChangeOf f command) route is)
  where
    go : (one : IpVersion) → IsChangeOf (routes_of one) command → OnlyChangesRoutes one (command ∷ [])
    go V4 same = same
    go V6 same = same

-- a strict command more
pub with-routes : (version : IpVersion) (batch : List Command) (asked : Requested) (command : Command) → OnlyChangesRoutes version batch → OnlyAsksRoutes version asked → OnlyChangesRoutes version (command ∷ [])
    → OnlyChangesRoutes version (batch_with batch asked command) × OnlyAsksRoutes version (asked_with asked command)
with-routes version batch Nothing command is asks one = (routes-append version batch (command ∷ []) is one, tt)
with-routes version batch (Changes requests) command is asks one = (is, forms-more version requests (Strict command) asks one)
with-routes version batch (Whole requests) command is asks one = (is, forms-more version requests (Strict command) asks one)

-- a forgiving change more
pub behind-routes : (version : IpVersion) (batch : List Command) (asked : Requested) (request : Request) → OnlyChangesRoutes version batch → OnlyAsksRoutes version asked → OnlyChangesRoutes version (strict_form request ∷ [])
    → OnlyChangesRoutes version (batch_behind batch asked) × OnlyAsksRoutes version (asked_behind batch asked request)
behind-routes version batch Nothing request is asks one = (tt, forms-more version (map Strict batch) request (subst (OnlyChangesRoutes version) (sym (forms-strict batch)) is) one)
behind-routes version batch (Changes requests) request is asks one = (is, forms-more version requests request asks one)
behind-routes version batch (Whole requests) request is asks one = (is, forms-more version requests request asks one)
