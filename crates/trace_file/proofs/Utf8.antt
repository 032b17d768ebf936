-- What is written for a line is UTF-8, where the text of its fault is.
use Rattle.std.proofs.Common.{◌≡◌, ℕ, ◌+◌, ◌%◌, ◌^◌, ◌<◌, Bool, true, false, List, [], ◌∷◌, ◌++◌, IsUtf8, refl, arith, cond}
use Rattle.std.specs.Prelude.{⊤, codes, decimal}
use Rattle.std.proofs.lemmas.Fmt.{decimal_by_steps}
use Rattle.std.proofs.lemmas.Str.{IsUtf8-append, IsUtf8-nil, IsUtf8-from_ascii}
use Rattle.std.proofs.lemmas.Str.Ascii.{IsAscii-nil, IsAscii-cons}
use Rattle.json.specs.Print.{quoted}
use Rattle.json.proofs.Printed.Utf8.{are_ascii, IsUtf8-are_ascii, IsUtf8-quoted, IsUtf8-boolean}
use Rattle.serde_json.specs.Data.{Data, null, boolean, number, string, array, object, unsigned, negative, float, Items, no_items, item, Members, no_members, member}
use Rattle.serde_json.specs.Written.{compact_text, comma_if, items_text, members_text}
use Rattle.rule_model.specs.declared.IpVersion.{IpVersion}
use Rattle.rule_model.specs.declared.IpVersion.TheVariants.{V4, V6}
use Rattle.rule_model.specs.declared.Field.{Field}
use Rattle.rule_model.specs.declared.Field.TheVariants.{Src, Dst}
use Rattle.trace_file.specs.declared.TraceLine.{TraceLine}
use Rattle.trace_file.specs.declared.TraceLine.TheVariants.{Head, Commit, Add, Set, Del, Put, Erase, Table, Drain, Done, Refused, End, Fault}
use Rattle.trace_file.specs.Forms.{numeral, field_form, family_name, rank_number, rank_form, items_form, rule_form, entry_form, removed_form, form_of, IsTraceRank, IsTraceLineOf}
use Rattle.trace_file.proofs.Written.{IsNumeral, AreNumerals}
use Rattle.trace_file.proofs.TraceText.{numerals_append, rank_small, removed_small, rule_small, entry_small}

-- the text of a value is UTF-8
record IsWritten (value : Data) : Type 0 where
  utf8 : IsUtf8 (compact_text value)

digit-utf8 : (k : ℕ) → k < 10 → IsUtf8 ((48 + k) ∷ [])
digit-utf8 k small = IsUtf8-from_ascii _ (IsAscii-cons (48 + k) [] (omega arith) IsAscii-nil)

decimal-utf8 : (n : ℕ) → n < 2 ^ 64 → IsUtf8 (decimal n)
decimal-utf8 = decimal_by_steps (λ n digits. IsUtf8 digits) digit-utf8
    (λ n digits more before. IsUtf8-append digits _ before (digit-utf8 (n % 10) (omega arith)))

number-utf8 : (n : ℕ) → n < 2 ^ 64 → IsWritten (numeral n)
number-utf8 n small = record { utf8 = decimal-utf8 n small }

string-utf8 : (s : List ℕ) → IsUtf8 s → IsWritten (string s)
string-utf8 s is = record { utf8 = IsUtf8-quoted s is }

-- one of two words
choice-utf8 : (second : Bool) (a b : List ℕ) → IsUtf8 a → IsUtf8 b → IsWritten (string (cond second a b))
choice-utf8 true a b first other = string-utf8 a first
choice-utf8 false a b first other = string-utf8 b other

-- the name of a family
family-utf8 : (version : IpVersion) (acl : Bool) → IsWritten (string (family_name version acl))
family-utf8 V4 acl = choice-utf8 acl (codes "acl") (codes "route") (IsUtf8-are_ascii (codes "acl") refl) (IsUtf8-are_ascii (codes "route") refl)
family-utf8 V6 acl = choice-utf8 acl (codes "acl6") (codes "route6") (IsUtf8-are_ascii (codes "acl6") refl) (IsUtf8-are_ascii (codes "route6") refl)

field-utf8 : (field : Field) → IsWritten (field_form field)
field-utf8 Src = string-utf8 (codes "src") (IsUtf8-are_ascii (codes "src") refl)
field-utf8 Dst = string-utf8 (codes "dst") (IsUtf8-are_ascii (codes "dst") refl)

numeral-utf8 : (d : Data) → IsNumeral d → IsUtf8 (compact_text d)
numeral-utf8 null is = IsUtf8-are_ascii _ refl
numeral-utf8 (number (unsigned n)) is = decimal-utf8 n (omega arith)
numeral-utf8 (number (negative z)) is = absurd is
numeral-utf8 (number (float x)) is = absurd is
numeral-utf8 (boolean b) is = absurd is
numeral-utf8 (string s) is = absurd is
numeral-utf8 (array ds) is = absurd is
numeral-utf8 (object ms) is = absurd is

comma-utf8 : (later : Bool) → IsUtf8 (comma_if later)
comma-utf8 true = IsUtf8-are_ascii (44 ∷ []) refl
comma-utf8 false = IsUtf8-nil

items-utf8 : (later : Bool) (ds : Items) → AreNumerals ds → IsUtf8 (items_text later ds)
items-utf8 later no_items are = IsUtf8-are_ascii (93 ∷ []) refl
items-utf8 later (item d ds) are =
    IsUtf8-append (comma_if later) _ (comma-utf8 later) (IsUtf8-append (compact_text d) _ (numeral-utf8 d are.0) (items-utf8 true ds are.1))

array-utf8 : (ds : Items) → AreNumerals ds → IsWritten (array ds)
array-utf8 ds are = record { utf8 = IsUtf8-append (91 ∷ []) _ (IsUtf8-are_ascii (91 ∷ []) refl) (items-utf8 false ds are) }

-- the priority of a rule that is removed
removed-utf8 : (version : IpVersion) (priority : ℕ) → IsTraceRank version priority → IsWritten (removed_form version priority)
removed-utf8 V4 priority is = number-utf8 (rank_number priority) (removed_small V4 priority is)
removed-utf8 V6 priority is = array-utf8 (items_form (rank_form V6 priority)) (removed_small V6 priority is)

-- names and values are
abbrev AreWritten : Members → Type 0
AreWritten no_members = ⊤
AreWritten (member key value ms) = IsUtf8 key × (IsWritten value × AreWritten ms)

members-utf8 : (later : Bool) (ms : Members) → AreWritten ms → IsUtf8 (members_text later ms)
members-utf8 later no_members are = IsUtf8-are_ascii (125 ∷ []) refl
members-utf8 later (member key value ms) are =
    IsUtf8-append (comma_if later) _ (comma-utf8 later)
    (IsUtf8-append (quoted key) _ (IsUtf8-quoted key are.0)
    (IsUtf8-append (58 ∷ []) _ (IsUtf8-are_ascii (58 ∷ []) refl)
    (IsUtf8-append (compact_text value) _ are.1.0.utf8 (members-utf8 true ms are.1.1))))

object-utf8 : (ms : Members) → AreWritten ms → IsWritten (object ms)
object-utf8 ms are = record { utf8 = IsUtf8-append (123 ∷ []) _ (IsUtf8-are_ascii (123 ∷ []) refl) (members-utf8 false ms are) }

-- a name of ASCII
abbrev IsName : List ℕ → Type 0
IsName key = are_ascii key ≡ true

one-utf8 : (key : List ℕ) (value : Data) → IsName key → IsWritten value → IsWritten (object (member key value no_members))
one-utf8 key value named is = object-utf8 (member key value no_members) (IsUtf8-are_ascii key named, (is, tt))

two-utf8 : (first : List ℕ) (value : Data) (second : List ℕ) (other : Data) → IsName first → IsWritten value → IsName second → IsWritten other
    → IsWritten (object (member first value (member second other no_members)))
two-utf8 first value second other named is named' is' =
    object-utf8 (member first value (member second other no_members)) (IsUtf8-are_ascii first named, (is, (IsUtf8-are_ascii second named', (is', tt))))

three-utf8 : (first : List ℕ) (value : Data) (second : List ℕ) (other : Data) (third : List ℕ) (last : Data)
    → IsName first → IsWritten value → IsName second → IsWritten other → IsName third → IsWritten last
    → IsWritten (object (member first value (member second other (member third last no_members))))
three-utf8 first value second other third last named is named' is' named'' is'' =
    object-utf8 (member first value (member second other (member third last no_members)))
    (IsUtf8-are_ascii first named, (is, (IsUtf8-are_ascii second named', (is', (IsUtf8-are_ascii third named'', (is'', tt))))))

form-written : (version : IpVersion) (text : List ℕ) (line : TraceLine) → IsUtf8 text → IsTraceLineOf version line → IsWritten (form_of version text line)
form-written version text (Head family acl bits slots) utf8 is =
    let few : slots < 2 ^ 64 = (let most = is.1 in omega arith) in
    let mode = choice-utf8 bits (codes "bits") (codes "cover") (IsUtf8-are_ascii (codes "bits") refl) (IsUtf8-are_ascii (codes "cover") refl) in
    three-utf8 (codes "family") _ (codes "mode") _ (codes "slots") _ refl (family-utf8 family acl) refl mode refl (number-utf8 slots few)
form-written version text (Commit n) utf8 is = one-utf8 (codes "commit") _ refl (number-utf8 n (omega arith))
form-written version text (Add rule) utf8 is = one-utf8 (codes "add") _ refl (array-utf8 (items_form (rule_form version rule)) (rule_small version rule is))
form-written version text (Set priority answer) utf8 is =
    let fits : answer < 2 ^ 40 = (let small = is.1 in omega arith) in
    one-utf8 (codes "set") _ refl (array-utf8 (items_form (rank_form version priority ++ numeral answer ∷ []))
    (numerals_append (rank_form version priority) (numeral answer ∷ []) (rank_small version priority is.0) (fits, tt)))
form-written version text (Del priority) utf8 is = one-utf8 (codes "del") _ refl (removed-utf8 version priority is)
form-written version text (Put slot entry) utf8 is =
    let fits : slot < 2 ^ 64 = (let small = is.0 in omega arith) in
    two-utf8 (codes "put") _ (codes "slot") _ refl (array-utf8 (items_form (entry_form version entry)) (entry_small version entry is.1)) refl (number-utf8 slot fits)
form-written version text (Erase slot) utf8 is = one-utf8 (codes "erase") _ refl (number-utf8 slot (omega arith))
form-written version text (Table field port word) utf8 is =
    let at : port < 2 ^ 64 = (let small = is.0 in omega arith) in
    let fits : word < 2 ^ 64 = (let small = is.1 in omega arith) in
    three-utf8 (codes "port") _ (codes "table") _ (codes "word") _ refl (number-utf8 port at) refl (field-utf8 field) refl (number-utf8 word fits)
form-written version text Drain utf8 is = one-utf8 (codes "drain") (boolean true) refl (record { utf8 = IsUtf8-boolean true })
form-written version text (Done n) utf8 is = one-utf8 (codes "done") _ refl (number-utf8 n (omega arith))
form-written version text (Refused n) utf8 is = one-utf8 (codes "refused") _ refl (number-utf8 n (omega arith))
form-written version text (End writes) utf8 is = one-utf8 (codes "end") _ refl (number-utf8 writes is)
form-written version text (Fault line) utf8 is =
    let fits : line < 2 ^ 64 = omega arith in
    two-utf8 (codes "fault") _ (codes "line") _ refl (string-utf8 text utf8) refl (number-utf8 line fits)

-- the text of a line's value
pub line-utf8 : (version : IpVersion) (text : List ℕ) (line : TraceLine) → IsUtf8 text → IsTraceLineOf version line → IsUtf8 (compact_text (form_of version text line))
line-utf8 version text line utf8 is = (form-written version text line utf8 is).utf8
