-- The attributes of a message.
use Rattle.std.specs.Prelude.{suc, zero, ℕ, ◌%◌, Bool, ◌==◌, ◌||◌, nat_lt, is_some, Result, Ok, Err, Option, Some, None, List, length, if◌then◌else◌}
use Rattle.fpm_routes.specs.declared.why.Why.{Why}
use Rattle.fpm_routes.specs.declared.why.Why.TheVariants as why
use Rattle.fpm_routes.specs.declared.why.Unsaid.{Unsaid}
use Rattle.fpm_routes.specs.declared.attributes.Place.{Place}
use Rattle.fpm_routes.specs.declared.attributes.Place.TheVariants as place
use Rattle.fpm_routes.specs.Bytes.{Part, is_done, part_of, two_at}

-- its kind, its value, and what stands behind it
pub record Attribute : Type 0 where
  pub kind : ℕ
  pub value : List ℕ
  pub rest : List ℕ

abbrev pub attribute_by : List ℕ → Option Part → Option Attribute
attribute_by bytes None = None
attribute_by bytes (Some part) = Some (record { kind = two_at 2 bytes % 32768; value = part.inside; rest = part.rest })

-- the first one
abbrev pub attribute_of : List ℕ → Option Attribute
attribute_of bytes = attribute_by bytes (part_of 4 (two_at 0 bytes) bytes)

-- the value of the first one of a kind, among so many at most; there are fewer than bytes
abbrev pub found_in : (List ℕ → Option (List ℕ)) → ℕ → Option Attribute → Option (List ℕ)
found_in behind kind None = None
found_in behind kind (Some attribute) = if attribute.kind == kind then Some attribute.value else behind attribute.rest

abbrev pub find_by : ℕ → ℕ → List ℕ → Option (List ℕ)
find_by zero kind bytes = None
find_by (suc left) kind bytes = found_in (find_by left kind) kind (attribute_of bytes)

abbrev pub find : ℕ → List ℕ → Option (List ℕ)
find kind bytes = find_by (length bytes) kind bytes

abbrev pub unsaid : Why → ℕ → Result (Unit {0}) Unsaid
unsaid reason number = Err (record { why = reason; number = number })

-- an attribute that has no part in the answer: a priority, the sender's address, metrics of the way, and how long it holds
abbrev pub is_passed : ℕ → Bool
is_passed kind = (kind == 6) || (kind == 7) || (kind == 8) || (kind == 12) || (kind == 20) || (kind == 23)

-- a length that an attribute may have
abbrev pub of_length : Bool → ℕ → Result (Unit {0}) Unsaid
of_length holds kind = if holds then Ok tt else unsaid why.Length kind

-- what says by which address packets go, in a route or a member of a set of next hops; an address may be of either version of IP
abbrev pub way_attribute : ℕ → ℕ → Result (Unit {0}) Unsaid
way_attribute kind size =
    if kind == 5 then of_length ((size == 4) || (size == 16)) kind
    else if kind == 18 then of_length ((size == 6) || (size == 18)) kind
    else if (kind == 21) || (kind == 22) then unsaid why.Encapsulation kind
    else unsaid why.Attribute kind

-- what the attributes of a route may be: a device, a table, a number of a next hop's object, a prefix, a set of next hops, those above
abbrev pub route_attribute : ℕ → ℕ → Result (Unit {0}) Unsaid
route_attribute kind size =
    if is_passed kind || (kind == 9) then Ok tt
    else if (kind == 4) || (kind == 15) || (kind == 30) then of_length (size == 4) kind
    else if kind == 1 then of_length ((size == 4) || (size == 16)) kind
    else if kind == 2 then unsaid why.Sender 2
    else way_attribute kind size

-- and those of a next hop's object: its number, a group, a blackhole, a device, an address
abbrev pub object_attribute : ℕ → ℕ → Result (Unit {0}) Unsaid
object_attribute kind size =
    if (kind == 2) || (kind == 3) || (kind == 4) then Ok tt
    else if (kind == 1) || (kind == 5) then of_length (size == 4) kind
    else if kind == 6 then of_length ((size == 4) || (size == 16)) kind
    else if (kind == 7) || (kind == 8) then unsaid why.Encapsulation kind
    else unsaid why.Attribute kind

abbrev pub attribute_at : Place → ℕ → ℕ → Result (Unit {0}) Unsaid
attribute_at place.Route kind size = route_attribute kind size
attribute_at place.Member kind size = way_attribute kind size
attribute_at place.Object kind size = object_attribute kind size

-- no kind comes twice
abbrev pub only_once : Place → Attribute → Result (Unit {0}) Unsaid
only_once at attribute =
    if is_some (find attribute.kind attribute.rest)
    then unsaid why.Twice attribute.kind
    else attribute_at at attribute.kind (length attribute.value)

-- the attributes of a place, among so many at most
abbrev pub before_rest : Result (Unit {0}) Unsaid → Result (Unit {0}) Unsaid → Result (Unit {0}) Unsaid
before_rest (Ok done) rest = rest
before_rest (Err reason) rest = Err reason

abbrev pub check_first : (List ℕ → Result (Unit {0}) Unsaid) → Place → ℕ → Option Attribute → Result (Unit {0}) Unsaid
check_first behind at size None = unsaid why.Cut size
check_first behind at size (Some attribute) = before_rest (only_once at attribute) (behind attribute.rest)

abbrev pub check_by : ℕ → Place → List ℕ → Result (Unit {0}) Unsaid
check_by zero at bytes = Ok tt
check_by (suc left) at bytes = if is_done bytes then Ok tt else check_first (check_by left at) at (two_at 0 bytes) (attribute_of bytes)

abbrev pub check : Place → List ℕ → Result (Unit {0}) Unsaid
check at bytes = check_by (length bytes) at bytes
