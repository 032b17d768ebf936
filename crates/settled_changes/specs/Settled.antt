-- The batch of strict commands that requests come to over a set.
use Rattle.std.specs.Prelude.{◌≡◌, ℕ, Bool, not, Option, Some, None, List, [], ◌∷◌, ◌++◌, map, filter, if◌then◌else◌, nat_eq}
use Rattle.rule_model.specs.declared.Rule.{Rule}
use Rattle.rule_model.specs.RuleSet.{rule_at, has_priority}
use Rattle.rule_model.specs.Piece.{same_piece, whole_piece}
use Rattle.rule_store.specs.declared.Command.{Command}
use Rattle.rule_store.specs.declared.Command.TheVariants.{Add, Set, Del}
use Rattle.rule_store.specs.declared.Mode.{Mode}
use Rattle.rule_store.specs.Verdict.{Verdict, room_verdict, verdict_by}
use Rattle.settled_changes.specs.declared.Request.{Request}
use Rattle.settled_changes.specs.declared.Request.TheVariants.{Strict, Put, Drop}
use Rattle.settled_changes.specs.declared.SettleFault.{SettleFault}
use Rattle.settled_changes.specs.declared.SettleFault.TheVariants.{Unsound, Memory}
use Rattle.settled_changes.specs.Requests.{is_asked, requests_fault}

-- two rules have the same conditions
abbrev pub same_conditions : Rule → Rule → Bool
same_conditions a b = same_piece (whole_piece a) (whole_piece b)

-- the least change that makes a rule stand where another one stands, or none does: nothing where it is so already, its result
-- where the conditions stand, a replacement else
abbrev pub put_change : Option Rule → Rule → List Command
put_change None new = Add new ∷ []
put_change (Some old) new =
    if not (same_conditions old new) then Del new.priority ∷ Add new ∷ []
    else (if nat_eq old.result new.result then [] else Set new.priority new.result ∷ [])

-- and the one that lets none stand
abbrev pub drop_change : Option Rule → ℕ → List Command
drop_change None priority = []
drop_change (Some old) priority = Del priority ∷ []

-- what a request comes to over a set, before the later ones: a forgiving one that a later one takes back comes to nothing
abbrev pub request_change : List Rule → Request → List Request → List Command
request_change rules (Strict command) later = command ∷ []
request_change rules (Put rule) later =
    if is_asked rule.priority later then [] else put_change (rule_at rules rule.priority) rule
request_change rules (Drop priority) later =
    if is_asked priority later then [] else drop_change (rule_at rules priority) priority

-- The batch that requests come to over a set: each change at the place of the last request for its rule.
abbrev pub settled : List Rule → List Request → List Command
settled rules [] = []
settled rules (request ∷ later) = request_change rules request later ++ settled rules later

-- the verdict on requests: their own fault, or the room of the batch that they come to
abbrev pub requests_verdict : ℕ → Mode → List Rule → List Request → Verdict
requests_verdict slots mode rules requests =
    verdict_by (requests_fault rules requests) (room_verdict slots mode rules (settled rules requests))

-- the puts of the rules of a set
abbrev pub puts_of : List Rule → List Request
puts_of whole = map Put whole

-- the drops of the rules whose priority another set lacks
abbrev pub drops_of : List Rule → List Rule → List Request
drops_of rules whole =
    map (λ (old : Rule). Drop old.priority) (filter (λ (old : Rule). not (has_priority whole old.priority)) rules)

-- The requests of a whole new set: each of its rules is put, and each rule of the old set whose priority it lacks is dropped.
abbrev pub whole_requests : List Rule → List Rule → List Request
whole_requests rules whole = puts_of whole ++ drops_of rules whole

-- what a request comes to where it is the last one for its rule, and where it isn't
abbrev pub change_where : List Rule → Request → Bool → List Command
change_where rules (Strict command) is_last = command ∷ []
change_where rules (Put rule) is_last = if is_last then put_change (rule_at rules rule.priority) rule else []
change_where rules (Drop priority) is_last = if is_last then drop_change (rule_at rules priority) priority else []

-- why requests come to no batch: the fault of one, or want of memory; a batch has room for all that they come to
abbrev pub IsWhyUnsettled : List Rule → List Request → SettleFault → Type 0
IsWhyUnsettled rules requests (Unsound fault) = requests_fault rules requests ≡ Some fault
IsWhyUnsettled rules requests Memory = Unit {0}

-- why requests make no set of no rules at all: one of them fails over none, or want of memory
abbrev pub IsWhyNoSet : List Request → SettleFault → Type 0
IsWhyNoSet requests fault = IsWhyUnsettled [] requests fault
