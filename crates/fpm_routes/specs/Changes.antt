-- What the messages of a frame change.
use Rattle.std.specs.Prelude.{suc, zero, ℕ, ◌-◌, ◌%◌, ◌^◌, Bool, not, ◌==◌, ◌&&◌, ◌||◌, nat_le, true, false, Result, Ok, Err, Option, Some, None, List, [], ◌∷◌, ◌++◌, codes, decimal, drop, length, slice_index, if◌then◌else◌}
use Rattle.rule_model.specs.declared.IpVersion.{IpVersion}
use Rattle.rule_model.specs.declared.IpVersion.TheVariants.{V4, V6}
use Rattle.rule_model.specs.AddressBlock.{AddressBlock, any_address, ipv4_block}
use Rattle.packet_keys.specs.Frame.{number_at}
use Rattle.fpm_routes.specs.declared.why.Why.TheVariants as why
use Rattle.fpm_routes.specs.declared.why.Unsaid.{Unsaid}
use Rattle.fpm_routes.specs.declared.attributes.Place.TheVariants as place
use Rattle.fpm_routes.specs.declared.changes.Deed.{Deed}
use Rattle.fpm_routes.specs.declared.changes.Deed.TheVariants as deed
use Rattle.fpm_routes.specs.Bytes.{Part, four_at, is_done, is_short, part_of, two_at}
use Rattle.fpm_routes.specs.Attributes.{check, find}
use Rattle.fpm_routes.specs.Ways.{before, fitting, object_name, object_text, way_text}

-- a prefix is given a way or dropped, or a comment is made of these words
pub record Changing : Type 0 where
  pub deed : Deed
  pub block : AddressBlock
  pub words : List ℕ

abbrev pub note : List ℕ → Changing
note words = record { deed = deed.Note; block = any_address; words = words }

-- ---- the prefix of a route: its length stands in the message, its address is an attribute, which that of every address may lack

abbrev pub v4_prefix : ℕ → ℕ → Result AddressBlock Unsaid
v4_prefix number len =
    if nat_le len 32 && (number % 2 ^ (32 - len) == 0) then Ok (ipv4_block number len) else Err (record { why = why.Prefix; number = len })

abbrev pub v6_prefix : ℕ → ℕ → Result AddressBlock Unsaid
v6_prefix number len =
    if nat_le len 128 && (number % 2 ^ (128 - len) == 0) then Ok (record { addr = number; len = len }) else Err (record { why = why.Prefix; number = len })

abbrev pub addressed : IpVersion → ℕ → List ℕ → Result AddressBlock Unsaid
addressed V4 len value = if length value == 4 then v4_prefix (number_at value 0 4) len else Err (record { why = why.Length; number = 1 })
addressed V6 len value = if length value == 16 then v6_prefix (number_at value 0 16) len else Err (record { why = why.Length; number = 1 })

abbrev pub prefix_by : IpVersion → ℕ → Option (List ℕ) → Result AddressBlock Unsaid
prefix_by version len None = if len == 0 then Ok any_address else Err (record { why = why.Prefix; number = len })
prefix_by version len (Some value) = addressed version len value

-- ---- a route: twelve bytes, which begin with its family, the lengths of its prefix and of a sender's, its type of service and its table,
-- and have its kind as the eighth; and attributes

abbrev pub attributes_of : List ℕ → List ℕ
attributes_of body = drop 12 body

abbrev pub table_by : List ℕ → Option (List ℕ) → ℕ
table_by body None = slice_index body 4
table_by body (Some value) = four_at 0 value

abbrev pub route_table : List ℕ → ℕ
route_table body = table_by body (find 15 (attributes_of body))

-- the table that a script is of: the main one, also where none is named
abbrev pub is_main : ℕ → Bool
is_main table = (table == 254) || (table == 0)

-- the number of the family of a version of IP
abbrev pub family_number : IpVersion → ℕ
family_number V4 = 2
family_number V6 = 10

abbrev pub put_by : AddressBlock → Result (List ℕ) Unsaid → Result Changing Unsaid
put_by block (Ok words) = Ok (record { deed = deed.Put; block = block; words = words })
put_by block (Err reason) = Err reason

abbrev pub route_way : List ℕ → Result (List ℕ) Unsaid
route_way body = fitting (slice_index body 7) (way_text (slice_index body 7) (attributes_of body))

abbrev pub change_by : Bool → List ℕ → Result AddressBlock Unsaid → Result Changing Unsaid
change_by gone body (Ok block) = if gone then Ok (record { deed = deed.Drop; block = block; words = [] }) else put_by block (route_way body)
change_by gone body (Err reason) = Err reason

abbrev pub by_fields : IpVersion → Bool → List ℕ → Result Changing Unsaid
by_fields version gone body =
    if not (slice_index body 2 == 0) then Err (record { why = why.Sender; number = slice_index body 2 })
    else if not (slice_index body 3 == 0) then Err (record { why = why.Service; number = slice_index body 3 })
    else change_by gone body (prefix_by version (slice_index body 1) (find 1 (attributes_of body)))

-- a route of another table or version changes nothing
abbrev pub by_table : IpVersion → Bool → List ℕ → Result Changing Unsaid
by_table version gone body =
    if not (is_main (route_table body)) then Ok (note (codes "another table: " ++ decimal (route_table body)))
    else if not (slice_index body 0 == family_number version) then Ok (note (codes "another version"))
    else by_fields version gone body

abbrev pub checked : Result (Unit {0}) Unsaid → Result Changing Unsaid → Result Changing Unsaid
checked (Ok done) change = change
checked (Err reason) change = Err reason

abbrev pub route_change : IpVersion → Bool → List ℕ → Result Changing Unsaid
route_change version gone body =
    if is_short body 12 then Err (record { why = why.Length; number = 24 })
    else if (slice_index body 0 == 2) || (slice_index body 0 == 10)
    then checked (check place.Route (attributes_of body)) (by_table version gone body)
    else Err (record { why = why.Family; number = slice_index body 0 })

-- ---- a next hop's object: eight bytes, and attributes, of which one is its number

abbrev pub object_words : Bool → List ℕ → ℕ → List ℕ
object_words gone attributes number =
    object_name number ++ (if gone then codes " gone" else codes " = " ++ object_text attributes)

abbrev pub noted : Result (List ℕ) Unsaid → Result Changing Unsaid
noted (Ok words) = Ok (note words)
noted (Err reason) = Err reason

abbrev pub object_by_number : Bool → List ℕ → Option (List ℕ) → Result Changing Unsaid
object_by_number gone attributes None = Err (record { why = why.Length; number = 104 })
object_by_number gone attributes (Some value) = noted (fitting 0 (Ok (object_words gone attributes (four_at 0 value))))

abbrev pub object_change : Bool → List ℕ → Result Changing Unsaid
object_change gone body =
    if is_short body 8 then Err (record { why = why.Length; number = 104 })
    else checked (check place.Object (drop 8 body)) (object_by_number gone (drop 8 body) (find 1 (drop 8 body)))

-- ---- messages: a head of 16 bytes, which begins with how many the message has and with its kind

abbrev pub message_change : IpVersion → ℕ → List ℕ → Result Changing Unsaid
message_change version kind body =
    if kind == 24 then route_change version false body
    else if kind == 25 then route_change version true body
    else if kind == 104 then object_change false body
    else if kind == 105 then object_change true body
    else Err (record { why = why.Message; number = kind })

abbrev pub onto_changes : Result Changing Unsaid → Result (List Changing) Unsaid → Result (List Changing) Unsaid
onto_changes (Ok change) rest = before (change ∷ []) rest
onto_changes (Err reason) rest = Err reason

abbrev pub changes_at : (List ℕ → Result (List Changing) Unsaid) → IpVersion → List ℕ → Option Part → Result (List Changing) Unsaid
changes_at behind version bytes None = Err (record { why = why.Cut; number = four_at 0 bytes })
changes_at behind version bytes (Some part) = onto_changes (message_change version (two_at 4 bytes) part.inside) (behind part.rest)

-- so many of them at most; there are fewer than bytes
abbrev pub changes_by : ℕ → IpVersion → List ℕ → Result (List Changing) Unsaid
changes_by zero version bytes = Ok []
changes_by (suc left) version bytes = if is_done bytes then Ok [] else changes_at (changes_by left version) version bytes (part_of 16 (four_at 0 bytes) bytes)

-- What the messages of a frame change, or why the first of them isn't said.
abbrev pub frame_changes : IpVersion → List ℕ → Result (List Changing) Unsaid
frame_changes version bytes = changes_by (length bytes) version bytes
