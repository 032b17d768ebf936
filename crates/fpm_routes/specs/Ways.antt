-- Where packets go, in words, by what a message says of it.
use Rattle.std.specs.Prelude.{suc, zero, ◌≡◌, ℕ, ◌+◌, ◌==◌, nat_lt, Result, Ok, Err, Option, Some, None, List, [], ◌∷◌, ◌++◌, codes, decimal, drop, length, slice_index, if◌then◌else◌}
use Rattle.packet_keys.specs.Frame.{number_at}
use Rattle.line_words.specs.Shown.{ipv6_text}
use Rattle.fpm_routes.specs.declared.why.Why.TheVariants as why
use Rattle.fpm_routes.specs.declared.why.Unsaid.{Unsaid}
use Rattle.fpm_routes.specs.declared.attributes.Place.TheVariants as place
use Rattle.fpm_routes.specs.Bytes.{Part, four_at, is_done, is_short, part_of, two_at}
use Rattle.fpm_routes.specs.Attributes.{check, find}

-- words, each behind those before it
abbrev pub dotted_text : List ℕ → List ℕ
dotted_text bytes =
    decimal (slice_index bytes 0) ++ (codes "." ++ (decimal (slice_index bytes 1) ++ (codes "." ++ (decimal (slice_index bytes 2) ++ (codes "." ++ decimal (slice_index bytes 3))))))

-- an address of 16 bytes, or of 4
abbrev pub address_text : List ℕ → List ℕ
address_text bytes = if is_short bytes 16 then dotted_text bytes else ipv6_text (number_at bytes 0 16)

-- an address of a family that is named may be of another version than the route's
abbrev pub family_text : List ℕ → List ℕ
family_text bytes = if is_short bytes 16 then codes "inet " else codes "inet6 "

abbrev pub named_address : List ℕ → List ℕ
named_address address = codes "via " ++ (family_text address ++ (address_text address ++ codes " "))

abbrev pub named_text : Option (List ℕ) → List ℕ
named_text None = []
named_text (Some value) = named_address (drop 2 value)

abbrev pub via_by : List ℕ → Option (List ℕ) → List ℕ
via_by attributes None = named_text (find 18 attributes)
via_by attributes (Some value) = codes "via " ++ (address_text value ++ codes " ")

abbrev pub via_text : List ℕ → List ℕ
via_text attributes = via_by attributes (find 5 attributes)

-- a device, by its number
abbrev pub device_text : ℕ → List ℕ
device_text device = codes "dev if" ++ decimal device

abbrev pub device_by : Option (List ℕ) → List ℕ
device_by None = []
device_by (Some value) = device_text (four_at 0 value)

abbrev pub hop_text : List ℕ → List ℕ
hop_text attributes = via_text attributes ++ device_by (find 4 attributes)

-- ---- a set of next hops: a member has its length, flags, its weight less one, the number of its device, and attributes

-- behind those before, or the first reason
abbrev pub before : {A : Type 0} → List A → Result (List A) Unsaid → Result (List A) Unsaid
before front (Ok more) = Ok (front ++ more)
before front (Err reason) = Err reason

-- what a call puts behind what was there, or why it puts nothing that matters
abbrev pub IsMade : (A : Type 0) → Result (Unit {0}) Unsaid → List A → List A → Result (List A) Unsaid → Type 0
IsMade A (Ok done) old new made = (more : List A) × (made ≡ Ok more) × (new ≡ old ++ more)
IsMade A (Err reason) old new made = made ≡ Err reason

abbrev pub made_of : Result (Unit {0}) Unsaid → List ℕ → Result (List ℕ) Unsaid
made_of (Ok done) words = Ok words
made_of (Err reason) words = Err reason

abbrev pub member_words : List ℕ → ℕ → ℕ → List ℕ
member_words attributes device weight =
    codes "nexthop " ++ (via_text attributes ++ (device_text device ++ (codes " weight " ++ (decimal weight ++ codes " "))))

abbrev pub member_text : List ℕ → List ℕ → List ℕ
member_text bytes attributes = member_words attributes (four_at 4 bytes) (slice_index bytes 3 + 1)

abbrev pub member_by : Result (Unit {0}) Unsaid → List ℕ → Result (List ℕ) Unsaid → Result (List ℕ) Unsaid
member_by (Ok done) text rest = before text rest
member_by (Err reason) text rest = Err reason

abbrev pub members_at : (List ℕ → Result (List ℕ) Unsaid) → List ℕ → Option Part → Result (List ℕ) Unsaid
members_at behind bytes None = Err (record { why = why.Cut; number = two_at 0 bytes })
members_at behind bytes (Some part) = member_by (check place.Member part.inside) (member_text bytes part.inside) (behind part.rest)

abbrev pub members_by : ℕ → List ℕ → Result (List ℕ) Unsaid
members_by zero bytes = Ok []
members_by (suc left) bytes = if is_done bytes then Ok [] else members_at (members_by left) bytes (part_of 8 (two_at 0 bytes) bytes)

abbrev pub members_text : List ℕ → Result (List ℕ) Unsaid
members_text bytes = members_by (length bytes) bytes

-- ---- where the packets of a route go

abbrev pub object_name : ℕ → List ℕ
object_name number = codes "nhid " ++ decimal number

-- a set, or one next hop
abbrev pub set_or_hop : List ℕ → Option (List ℕ) → Result (List ℕ) Unsaid
set_or_hop attributes None = Ok (hop_text attributes)
set_or_hop attributes (Some value) = members_text value

abbrev pub unicast_by : List ℕ → Option (List ℕ) → Result (List ℕ) Unsaid
unicast_by attributes None = set_or_hop attributes (find 9 attributes)
unicast_by attributes (Some value) = Ok (object_name (four_at 0 value))

abbrev pub unicast_text : List ℕ → Result (List ℕ) Unsaid
unicast_text attributes = unicast_by attributes (find 30 attributes)

abbrev pub way_text : ℕ → List ℕ → Result (List ℕ) Unsaid
way_text kind attributes =
    if kind == 1 then unicast_text attributes
    else if kind == 6 then Ok (codes "blackhole")
    else if kind == 7 then Ok (codes "unreachable")
    else if kind == 8 then Ok (codes "prohibit")
    else Err (record { why = why.Kind; number = kind })

-- of a route: some words, and no more than a comment has
abbrev pub fitting_words : ℕ → List ℕ → Result (List ℕ) Unsaid
fitting_words kind words =
    if length words == 0 then Err (record { why = why.Hop; number = kind })
    else if nat_lt 400 (length words) then Err (record { why = why.LongHop; number = 400 })
    else Ok words

abbrev pub fitting : ℕ → Result (List ℕ) Unsaid → Result (List ℕ) Unsaid
fitting kind (Ok words) = fitting_words kind words
fitting kind (Err reason) = Err reason

-- ---- a next hop's object: what its number stands for

-- a member of a group has its number and its weight less one, in eight bytes
abbrev pub group_words : ℕ → ℕ → List ℕ
group_words number weight = codes " " ++ (decimal number ++ (codes " weight " ++ decimal weight))

abbrev pub group_member : List ℕ → List ℕ
group_member bytes = group_words (four_at 0 bytes) (slice_index bytes 4 + 1)

abbrev pub group_by : ℕ → List ℕ → List ℕ
group_by zero bytes = []
group_by (suc left) bytes = if is_short bytes 8 then [] else group_member bytes ++ group_by left (drop 8 bytes)

abbrev pub group_text : List ℕ → List ℕ
group_text bytes = codes "group" ++ group_by (length bytes) bytes

abbrev pub gateway_text : Option (List ℕ) → List ℕ
gateway_text None = []
gateway_text (Some value) = codes "via " ++ (address_text value ++ codes " ")

abbrev pub single_text : List ℕ → Option (List ℕ) → List ℕ
single_text attributes None = gateway_text (find 6 attributes) ++ device_by (find 5 attributes)
single_text attributes (Some value) = codes "blackhole"

abbrev pub object_by : List ℕ → Option (List ℕ) → List ℕ
object_by attributes None = single_text attributes (find 4 attributes)
object_by attributes (Some value) = group_text value

abbrev pub object_text : List ℕ → List ℕ
object_text attributes = object_by attributes (find 2 attributes)
